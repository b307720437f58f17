-- What other names keep of axioms and queries, and the names of certain answers.
use Rattle.std.proofs.Common.{◌≡◌, ℕ, ◌<◌, List, ◌++◌, map, get_or, flat_map, filter_map, Option, Some, None, IfSome, All, Contains, refl, sym, ap, subst, ◌∙◌, inl, inr, arith}
use Rattle.std.proofs.lemmas.List.Elements.{All-nil, All-map, All-weaker, All-contains, Contains-get_or, Contains-append_left, Contains-append_right, Contains-append_cases}
use Rattle.dl_terms.specs.Auxiliaries.{HasNoAuxiliary}
use Rattle.dl_terms.specs.NormalForm.{axiom_rows, as_negative, axiom_negatives, nothing_negative, negatives}
use Rattle.dl_terms.specs.Occurring.{axiom_names, fact_names}
use Rattle.dl_terms.specs.Order.{axiom_cmp}
use Rattle.dl_terms.specs.Queries.{term_variables, atom_variables, body_variables, IsWellFormed}
use Rattle.dl_terms.specs.Renamed.{renamed_axiom}
use Rattle.dl_terms.specs.Sets.{IsSetOf}
use Rattle.dl_terms.specs.Structure.{Element, individual, child, IsElement, HoldsAtName, HoldsAt, Joins}
use Rattle.dl_terms.specs.Structure.HoldsAtName.{by_class, by_source, by_target}
use Rattle.dl_terms.specs.Structure.Joins.{by_fact, by_fact_turned, to_child, from_child}
use Rattle.dl_terms.specs.Answers.{value_of, IsMatch, IsCertain}
use Rattle.dl_terms.specs.Reply.{IsReply, found, inconsistent}
use Rattle.dl_terms.specs.Reply.IsReply.{is_found, is_inconsistent}
use Rattle.dl_terms.specs.declared.role.Role.{Role}
use Rattle.dl_terms.specs.declared.role.Basic.{Basic}
use Rattle.dl_terms.specs.declared.role.Basic.TheVariants.{Class}
use Rattle.dl_terms.specs.declared.role.Negative.{Negative}
use Rattle.dl_terms.specs.declared.role.Negative.TheVariants.{Basics}
use Rattle.dl_terms.specs.declared.axiom.Axiom.{Axiom}
use Rattle.dl_terms.specs.declared.axiom.Fact.{Fact}
use Rattle.dl_terms.specs.declared.axiom.Fact.TheVariants as fact
use Rattle.dl_terms.specs.declared.query.Term.{Term}
use Rattle.dl_terms.specs.declared.query.Term.TheVariants.{Var, Name}
use Rattle.dl_terms.specs.declared.query.Atom.{Atom}
use Rattle.dl_terms.specs.declared.query.Atom.TheVariants as atom
use Rattle.dl_terms.specs.declared.query.Query.{Query}
use Rattle.dl_terms.proofs.AuxiliaryLemmas.{renamed_axiom-named}
use Rattle.dl_terms.proofs.MemberLemmas.{Contains-one, Contains-nil, Contains-middle}
use Rattle.dl_terms.proofs.StructureLemmas.{individual-child}
use Rattle.dl_hier.proofs.MemberLemmas.{All-flat_map, Contains-map, Contains-map_of, Contains-flat_map, Contains-flat_map_of}
use Rattle.dl_answer.proofs.NameLemmas.{at_individual}
use Rattle.dl_event.specs.Answers.{reply_of}
use Rattle.dl_event.specs.declared.answer.Answer.{Answer}
use Rattle.dl_event.specs.declared.answer.Answer.TheVariants.{Found, Inconsistent}
use Rattle.dl_text.specs.AnswerText.{broken_names}
use Rattle.dl_text.specs.NameText.{AreBelow}
use Rattle.dl_run.specs.Output.{answer_names}

-- ---- other names

module _ (to : ℕ → ℕ) where
  -- a set of axioms without auxiliary roles stays one
  pub plain_renamed : (items set : List Axiom) → All HasNoAuxiliary items → IsSetOf axiom_cmp set (map (renamed_axiom to) items) → All HasNoAuxiliary set
  plain_renamed items set all of k d h =
      let renamed =
      All-map HasNoAuxiliary (renamed_axiom to) items
      (All-weaker HasNoAuxiliary (λ a. HasNoAuxiliary (renamed_axiom to a)) (renamed_axiom-named to) items all)
      in
      All-contains HasNoAuxiliary (map (renamed_axiom to) items) (get_or set k d) renamed ((of.members (get_or set k d)).0 (Contains-get_or set k d h))

-- ---- names of certain answers

module _ (axioms : List Axiom) (facts : List Fact) (n : ℕ) (all : All (λ f. All (λ name. name < n) (fact_names f)) facts) where
  in_fact : (f : Fact) (a : ℕ) → Contains facts f → Contains (fact_names f) a → a < n
  in_fact f a h c =
      All-contains (λ (name : ℕ). name < n) (fact_names f) a (All-contains (λ f. All (λ name. name < n) (fact_names f)) facts f all h) c

  holds_named : {b : Basic} (a : ℕ) → HoldsAtName axioms facts b a → a < n
  holds_named a (by_class {c} h below) = in_fact (fact.Is c a) a h (1, omega arith, refl)
  holds_named a (by_source {p} {o} h below) = in_fact (fact.Link p a o) a h (1, omega arith, refl)
  holds_named a (by_target {p} {o} h below) = in_fact (fact.Link p o a) a h (2, omega arith, refl)

  -- an individual with an unnamed neighbour is a name of the facts
  child_named : (a : ℕ) (r : Role) (x y : Element) → x ≡ individual a → y ≡ child x r → IsElement axioms facts y → a < n
  child_named a r x y is under element =
      let there : IsElement axioms facts (child (individual a) r) =
      subst (λ z. IsElement axioms facts (child z r)) is (subst (IsElement axioms facts) under element) in
      holds_named a there.0

  first_named : {s : Role} (x y : Element) (a : ℕ) → x ≡ individual a → IsElement axioms facts y → Joins axioms facts s x y → a < n
  first_named x y a is element (by_fact {p} ex ey h below) =
      subst (λ (z : Element). z.name < n) is (in_fact (fact.Link p x.name y.name) x.name h (1, omega arith, refl))
  first_named x y a is element (by_fact_turned {p} ex ey h below) =
      subst (λ (z : Element). z.name < n) is (in_fact (fact.Link p y.name x.name) x.name h (2, omega arith, refl))
  first_named x y a is element (to_child {r} under below) = child_named a r x y is under element
  first_named x y a is element (from_child {r} under below) = absurd (individual-child a y r (sym is ∙ under))

  second_named : {s : Role} (x y : Element) (a : ℕ) → y ≡ individual a → IsElement axioms facts x → Joins axioms facts s x y → a < n
  second_named x y a is element (by_fact {p} ex ey h below) =
      subst (λ (z : Element). z.name < n) is (in_fact (fact.Link p x.name y.name) y.name h (2, omega arith, refl))
  second_named x y a is element (by_fact_turned {p} ex ey h below) =
      subst (λ (z : Element). z.name < n) is (in_fact (fact.Link p y.name x.name) y.name h (1, omega arith, refl))
  second_named x y a is element (to_child {r} under below) = absurd (individual-child a x r (sym is ∙ under))
  second_named x y a is element (from_child {r} under below) = child_named a r y x is under element

  module _ (q : Query) (formed : IsWellFormed q) (m : ℕ → Element) (match : IsMatch axioms facts q m) where
    value_is : (t : Term) (v : ℕ) → Contains (term_variables t) v → value_of m t ≡ m v
    value_is (Var w) v c = ap m (Contains-one w v c)
    value_is (Name b) v c = absurd (Contains-nil v c)

    value_element : (t : Term) → ((v : ℕ) → Contains (term_variables t) v → Contains (body_variables q) v) → IsElement axioms facts (value_of m t)
    value_element (Var w) inside =
        match.elements w (All-contains (λ v. v < q.vars) (body_variables q) w formed.variables (inside w (0, omega arith, refl)))
    value_element (Name b) inside = tt

    atom_named : (v a : ℕ) → m v ≡ individual a → (at : Atom) → Contains q.atoms at → Contains (atom_variables at) v → a < n
    atom_named v a is (atom.Is c t) listed here =
        holds_named a (at_individual a (subst (HoldsAt axioms facts (Class c)) (value_is t v here ∙ is) (match.atoms (atom.Is c t) listed)))
    atom_named v a is (atom.Link p t u) listed here =
        let inside = λ (w : ℕ) (there : Contains (term_variables t ++ term_variables u) w).
        Contains-flat_map_of atom_variables q.atoms (atom.Link p t u) w listed there in
        elim (Contains-append_cases (term_variables t) (term_variables u) v here) [
          | inl left ↦
              first_named (value_of m t) (value_of m u) a (value_is t v left ∙ is)
              (value_element u (λ w there. inside w (Contains-append_right (term_variables t) (term_variables u) w there)))
              (match.atoms (atom.Link p t u) listed)
          | inr right ↦
              second_named (value_of m t) (value_of m u) a (value_is u v right ∙ is)
              (value_element t (λ w there. inside w (Contains-append_left (term_variables t) (term_variables u) w there)))
              (match.atoms (atom.Link p t u) listed)
        ]

  certain_named : (q : Query) → IsWellFormed q → (tuple : List ℕ) → IsCertain axioms facts q tuple → All (λ a. a < n) tuple
  certain_named q formed tuple certain k d h =
      let a = get_or tuple k d in
      let there = Contains-map_of individual tuple a (Contains-get_or tuple k d h) in
      let w = Contains-map certain.elements q.head (individual a) (subst (λ l. Contains l (individual a)) (sym certain.is_head) there) in
      let bound = All-contains (Contains (body_variables q)) q.head w.0 formed.head_in_body w.1 in
      let at = Contains-flat_map atom_variables q.atoms w.0 bound in
      atom_named q formed certain.elements certain.is_match w.0 a w.2 at.0 at.1 at.2

  -- the names of the answers of a reply are below the count of names, where those of the facts are
  pub reply_named : {nothing : Option ℕ} {limit : ℕ} (q : Query) → IsWellFormed q → (tuples : List (List ℕ))
      → IsReply axioms facts nothing q limit (found tuples) → All (λ tuple. All (λ a. a < n) tuple) tuples
  reply_named q formed tuples (is_found broken certain few) k d h =
      certain_named q formed (get_or tuples k d) ((certain.exact (get_or tuples k d)).0 (Contains-get_or tuples k d h))

-- ---- names of a broken axiom

module _ (axioms : List Axiom) (n : ℕ) (all : All (λ a. All (λ name. name < n) (axiom_names a)) axioms) where
  abbrev HasNames : Option Axiom → Type 0
  HasNames broken = IfSome broken (λ a. All (λ name. name < n) (axiom_names a))

  -- the axiom beside a negative is one of them
  beside_named : (nothing : Option ℕ) (broken : Option Axiom) (r : Negative) → Contains (negatives axioms nothing) (broken, r) → HasNames broken
  beside_named nothing broken r c =
      elim (Contains-append_cases (flat_map axiom_negatives axioms) (nothing_negative nothing) (broken, r) c) [
        | inl of_axiom ↦ by_axiom (Contains-flat_map axiom_negatives axioms (broken, r) of_axiom)
        | inr of_nothing ↦ by_nothing nothing of_nothing
      ]
    where
      by_axiom : (a : Axiom) × Contains axioms a × Contains (axiom_negatives a) (broken, r) → HasNames broken
      by_axiom (a, there, beside) =
          let m = Contains-map (λ k. (Some a, k)) (filter_map as_negative (axiom_rows a)) (broken, r) beside in
          subst HasNames (ap (λ p. p.0) m.2)
          (All-contains (λ (x : Axiom). All (λ name. name < n) (axiom_names x)) axioms a all there)

      by_nothing : (nothing : Option ℕ) → Contains (nothing_negative nothing) (broken, r) → HasNames broken
      by_nothing None c = absurd (Contains-nil (broken, r) c)
      by_nothing (Some k) c = subst HasNames (ap (λ p. p.0) (Contains-one (None, Basics (Class k) (Class k)) (broken, r) c)) tt

  pub broken_named : (facts : List Fact) (nothing : Option ℕ) (q : Query) (limit : ℕ) (broken : Option Axiom)
      → IsReply axioms facts nothing q limit (inconsistent broken) → HasNames broken
  broken_named facts nothing q limit broken (is_inconsistent first) =
      beside_named nothing broken first.negative
      (subst (λ l. Contains l (broken, first.negative)) (sym first.is_there)
      (Contains-middle first.before first.after (broken, first.negative)))

-- the names in an answer that is the reply are below the count of names, where those of axioms and facts are
pub answer_named : (axioms : List Axiom) (facts : List Fact) (n : ℕ) → All (λ a. All (λ name. name < n) (axiom_names a)) axioms
    → All (λ f. All (λ name. name < n) (fact_names f)) facts → (nothing : Option ℕ) (limit : ℕ) (q : Query) → IsWellFormed q
    → (answer : Answer) → IsReply axioms facts nothing q limit (reply_of answer) → AreBelow n (answer_names answer)
answer_named axioms facts n stated all nothing limit q formed (Found version tuples) reply =
    All-flat_map (λ name. name < n) (AreBelow n) (λ tuple. tuple) (λ tuple named. named) tuples.tuples
    (reply_named axioms facts n all q formed tuples.tuples reply)
answer_named axioms facts n stated all nothing limit q formed (Inconsistent version broken) reply =
    by broken (broken_named axioms n stated facts nothing q limit broken reply)
  where
    by : (broken : Option Axiom) → HasNames axioms n stated broken → AreBelow n (broken_names broken)
    by (Some a) named = named
    by None named = All-nil (λ name. name < n)
