-- Homomorphisms from the canonical structure to a structure: what a match in the canonical structure says there, and the negatives that
-- are not met.
use Rattle.std.proofs.Common.{◌≡◌, ℕ, ◌+◌, ◌<◌, ◌⊎◌, Bool, true, false, List, [], ◌∷◌, ◌++◌, Some, map, length, refl, sym, ap, subst, ◌∙◌, ⊎_elim, arith}
use Rattle.std.specs.List.{All, Contains, filter_map}
use Rattle.std.specs.Option.{MatchOption}
use Rattle.std.proofs.lemmas.List.Elements.{All-nil, All-cons, All-head, All-tail, All-append, All-map, All-weaker, All-contains, All-contains_itself}
use Rattle.dl_terms.specs.Roles.{named, inverse_of, auxiliary_of}
use Rattle.dl_terms.specs.Structure.{HoldsAtName, by_class, by_source, by_target, Element, individual, child, IsWordAt, IsElement, HoldsAt, at_name, at_end, Joins, by_fact, by_fact_turned, to_child, from_child}
use Rattle.dl_terms.specs.Answers.{value_of, AtomHolds as HoldsOfElements, IsCertain}
use Rattle.dl_terms.specs.Queries.{term_variables, atom_variables, body_variables, IsWellFormed}
use Rattle.dl_terms.specs.NormalForm.{Row, role_in, concept_in, never, axiom_rows, as_negative, axiom_negatives}
use Rattle.dl_terms.specs.Broken.{turned_atom, role_name, role_atom, basic_atom, neighbours, IsMet}
use Rattle.dl_terms.specs.Auxiliaries.{IsNamed, BasicHasNoAuxiliary, HasNoAuxiliary, NegativeHasNoAuxiliary, RowHasNoAuxiliary, IsFilled}
use Rattle.dl_terms.specs.declared.role.Base.{Base}
use Rattle.dl_terms.specs.declared.role.Base.TheVariants.{Named, Auxiliary}
use Rattle.dl_terms.specs.declared.role.Role.{Role}
use Rattle.dl_terms.specs.declared.role.Basic.{Basic}
use Rattle.dl_terms.specs.declared.role.Basic.TheVariants.{Class, SomeOf}
use Rattle.dl_terms.specs.declared.role.Negative.{Negative}
use Rattle.dl_terms.specs.declared.role.Negative.TheVariants.{Basics, Roles, NoLoop}
use Rattle.dl_terms.specs.declared.axiom.Axiom.{Axiom}
use Rattle.dl_terms.specs.declared.axiom.Fact.{Fact}
use Rattle.dl_terms.specs.declared.axiom.Fact.TheVariants as fact
use Rattle.dl_terms.specs.declared.query.Term.{Term}
use Rattle.dl_terms.specs.declared.query.Term.TheVariants.{Var, Name}
use Rattle.dl_terms.specs.declared.query.Atom.{Atom}
use Rattle.dl_terms.specs.declared.query.Atom.TheVariants as atom
use Rattle.dl_terms.specs.declared.query.Query.{Query}
use Rattle.dl_terms.proofs.MemberLemmas.{Contains-first, Contains-later}
use Rattle.dl_terms.proofs.AuxiliaryLemmas.{row_allowed}
use Rattle.dl_models.specs.Meaning.{Structure, turned, BaseLinks, IsInBasic, StandsFor, AtomHolds, GivesHead, FactHolds, HasElement, QueryHolds, Accepts}
use Rattle.dl_models.proofs.ListLemmas.{Contains-flat_map, All-flat_map, All-filter_map, All-split}
use Rattle.dl_models.proofs.RowLemmas.{NegativeHolds, RowHolds, rows_hold}

-- a map of the canonical structure that keeps elements, classes, object properties, and what names denote
pub record IsHomomorphism (i : Structure) (axioms : List Axiom) (facts : List Fact) (image : Element → i.Value) : Type 0 where
  pub elements : (z : Element) → IsElement axioms facts z → i.IsElement (image z)
  pub classes : (c : ℕ) (z : Element) → IsElement axioms facts z → HoldsAt axioms facts (Class c) z → i.IsIn c (image z)
  pub roles : (p : ℕ) (z w : Element) → IsElement axioms facts z → IsElement axioms facts w → Joins axioms facts (named p) z w
      → i.Links p (image z) (image w)
  pub names : (a : ℕ) (x : i.Value) → i.Denotes a x → i.Denotes a (image (individual a))

-- no negative is among the rows that say "some r in C"
never-filled : (n : Negative) → IsFilled (never n) → ⊥
never-filled n f =
    let No : Row → Type 0 = λ row. MatchOption (as_negative row) (Unit {0}) (λ _. ⊥) in
    let u = auxiliary_of f.role f.class in
    let one = concept_in f.basic (SomeOf u) in
    let two = role_in u f.role in
    let three = concept_in (SomeOf (inverse_of u)) (Class f.class) in
    All-contains No (one ∷ two ∷ three ∷ []) (never n)
    (All-cons No one (two ∷ three ∷ []) tt (All-cons No two (three ∷ []) tt (All-cons No three [] tt (All-nil No)))) f.is_row

-- ---- names that facts have

module _ (i : Structure) (axioms : List Axiom) (facts : List Fact) (held : All (FactHolds i) facts) where
  abbrev Known : ℕ → Type 0
  Known = HasElement i

  linked : (p a b : ℕ) → Contains facts (fact.Link p a b) → Known a × Known b
  linked p a b c =
      let h = All-contains (FactHolds i) facts (fact.Link p a b) held c in
      ((h.0, h.2), (h.1, h.3))

  at_name-known : (b : Basic) (a : ℕ) → HoldsAtName axioms facts b a → Known a
  at_name-known b a (by_class {c = c} h d) =
      let k = All-contains (FactHolds i) facts (fact.Is c a) held h in
      (k.0, k.1)
  at_name-known b a (by_source {p = p} {o = o} h d) = (linked p a o h).0
  at_name-known b a (by_target {p = p} {o = o} h d) = (linked p o a h).1

  -- the name of a longer word is known, since something holds at it
  word-known : (a : ℕ) (word : List Role) → IsWordAt axioms facts a word → (word ≡ [] → Known a) → Known a
  word-known a [] h known = known refl
  word-known a (r ∷ word) h known = at_name-known (SomeOf r) a h.0

  child-known : (z w : Element) (r : Role) → IsElement axioms facts z → z ≡ child w r → Known z.name
  child-known z w r element e =
      word-known z.name z.word element (λ none. absurd (longer w.word (sym (ap (λ z. z.word) e) ∙ none)))
    where
      longer : (word : List Role) → word ++ r ∷ [] ≡ [] → ⊥
      longer [] e = let l = ap length e in absurd (omega arith)
      longer (t ∷ word) e = let l = ap length e in absurd (omega arith)

  holds-known : (b : Basic) (z : Element) → IsElement axioms facts z → HoldsAt axioms facts b z → Known z.name
  holds-known b z element (at_name e h) = at_name-known b z.name h
  holds-known b z element (at_end y r e d) = child-known z y r element e

  joins-known : (s : Role) (z w : Element) → IsElement axioms facts z → IsElement axioms facts w → Joins axioms facts s z w → Known z.name × Known w.name
  joins-known s z w ez ew (by_fact {p = p} e f h d) = linked p z.name w.name h
  joins-known s z w ez ew (by_fact_turned {p = p} e f h d) = let both = linked p w.name z.name h in (both.1, both.0)
  joins-known s z w ez ew (to_child {r = r} e d) =
      let known = child-known w z r ew e in
      (subst Known (ap (λ y. y.name) e) known, known)
  joins-known s z w ez ew (from_child {r = r} e d) =
      let known = child-known z w r ez e in
      (known, subst Known (ap (λ y. y.name) e) known)

  -- ---- atoms of a match

  module _ (m : ℕ → Element) where
    term-element : (t : Term) → All (λ v. IsElement axioms facts (m v)) (term_variables t) → IsElement axioms facts (value_of m t)
    term-element (Var v) each = All-head (λ v. IsElement axioms facts (m v)) v [] each
    term-element (Name a) each = tt

    abbrev Here : ℕ → Type 0
    Here v = IsElement axioms facts (m v)

    abbrev KnownAt : ℕ → Type 0
    KnownAt v = Known (m v).name

    term-known : (t : Term) → Known (value_of m t).name → All KnownAt (term_variables t)
    term-known (Var v) known = All-cons KnownAt v [] known (All-nil KnownAt)
    term-known (Name a) known = All-nil KnownAt

    left : {A : Type 0} (P : A → Type 0) (xs ys : List A) → All P (xs ++ ys) → All P xs
    left P xs ys all = (All-split P xs ys all).0

    right : {A : Type 0} (P : A → Type 0) (xs ys : List A) → All P (xs ++ ys) → All P ys
    right P xs ys all = (All-split P xs ys all).1

    -- the names below the variables of an atom that holds
    atom-known : (a : Atom) → All Here (atom_variables a) → HoldsOfElements axioms facts m a → All KnownAt (atom_variables a)
    atom-known (atom.Is c t) each h = term-known t (holds-known (Class c) (value_of m t) (term-element t each) h)
    atom-known (atom.Link p t u) each h =
        let both =
        joins-known (named p) (value_of m t) (value_of m u) (term-element t (left Here (term_variables t) (term_variables u) each))
        (term-element u (right Here (term_variables t) (term_variables u) each)) h in
        All-append KnownAt (term_variables t) (term_variables u) (term-known t both.0) (term-known u both.1)

  -- the variables of an atom of a match are elements
  variables-here : (q : Query) → IsWellFormed q → (m : ℕ → Element) → ((v : ℕ) → v < q.vars → IsElement axioms facts (m v))
      → (a : Atom) → Contains q.atoms a → All (λ v. IsElement axioms facts (m v)) (atom_variables a)
  variables-here q well m elements a c =
      All-weaker (Contains (atom_variables a)) (λ v. IsElement axioms facts (m v))
      (λ v k. elements v (All-contains (λ v. v < q.vars) (body_variables q) v well.variables (Contains-flat_map atom_variables q.atoms a v c k)))
      (atom_variables a) (All-contains_itself (atom_variables a))

  variables-known : (q : Query) → IsWellFormed q → (m : ℕ → Element) → ((v : ℕ) → v < q.vars → IsElement axioms facts (m v))
      → ((a : Atom) → Contains q.atoms a → HoldsOfElements axioms facts m a) → All (λ v. Known (m v).name) (body_variables q)
  variables-known q well m elements atoms =
      let KnownOf : Atom → Type 0 = λ a. All (λ v. Known (m v).name) (atom_variables a) in
      All-flat_map (λ v. Known (m v).name) atom_variables q.atoms
      (All-weaker (Contains q.atoms) KnownOf (λ a c. atom-known m a (variables-here q well m elements a c) (atoms a c)) q.atoms
      (All-contains_itself q.atoms))

  -- ---- what a match says in the structure

  module _ (image : Element → i.Value) (is : IsHomomorphism i axioms facts image) where
    module _ (m : ℕ → Element) where
      abbrev images : ℕ → i.Value
      images v = image (m v)

      term-stands : (t : Term) → Known (value_of m t).name → StandsFor i images t (image (value_of m t))
      term-stands (Var v) known = refl
      term-stands (Name a) known = is.names a known.0 known.1

      atom-holds : (a : Atom) → All (λ v. IsElement axioms facts (m v)) (atom_variables a) → HoldsOfElements axioms facts m a → AtomHolds i images a
      atom-holds (atom.Is c t) each h =
          let element = term-element m t each in
          (image (value_of m t), term-stands t (holds-known (Class c) (value_of m t) element h), is.classes c (value_of m t) element h)
      atom-holds (atom.Link p t u) each h =
          let one = term-element m t (left m (Here m) (term_variables t) (term_variables u) each) in
          let two = term-element m u (right m (Here m) (term_variables t) (term_variables u) each) in
          let known = joins-known (named p) (value_of m t) (value_of m u) one two h in (
            image (value_of m t),
            image (value_of m u),
            term-stands t known.0,
            term-stands u known.1,
            is.roles p (value_of m t) (value_of m u) one two h,
          )

      head-given : (head tuple : List ℕ) → All (λ v. Known (m v).name) head → map m head ≡ map individual tuple → GivesHead i images head tuple
      head-given [] [] known e = tt
      head-given [] (a ∷ tuple) known e = let l = ap length e in absurd (omega arith)
      head-given (v ∷ head) [] known e = let l = ap length e in absurd (omega arith)
      head-given (v ∷ head) (a ∷ tuple) known e =
          let h = All-head (λ v. Known (m v).name) v head known in
          let first : m v ≡ individual a = cc in
          let rest : map m head ≡ map individual tuple = cc in
          let a_known : Known a = subst (λ z. Known z.name) first h in (
            subst (λ z. i.Denotes a (image z)) (sym first) (is.names a a_known.0 a_known.1),
            head-given head tuple (All-tail (λ v. Known (m v).name) v head known) rest,
          )

    pub certain-holds : (q : Query) (tuple : List ℕ) → IsWellFormed q → IsCertain axioms facts q tuple → QueryHolds i q tuple
    certain-holds q tuple well h =
        let known = variables-known q well h.elements h.is_match.elements h.is_match.atoms in
        record {
          values = λ v. image (h.elements v);
          elements = λ v lt. is.elements (h.elements v) (h.is_match.elements v lt);
          atoms = λ a c. atom-holds h.elements a (variables-here q well h.elements h.is_match.elements a c) (h.is_match.atoms a c);
          head = head-given h.elements q.head tuple
              (All-weaker (Contains (body_variables q)) (λ v. Known (h.elements v).name)
              (λ v c. All-contains (λ v. Known (h.elements v).name) (body_variables q) v known c) q.head well.head_in_body) h.is_head;
        }

    -- ---- negatives

    role-met : (m : ℕ → Element) (b : Base) (t : Bool) → IsNamed b → (u v : ℕ) → IsElement axioms facts (m u) → IsElement axioms facts (m v)
        → HoldsOfElements axioms facts m (turned_atom t (role_name b) (Var u) (Var v)) → turned t (BaseLinks i b) (image (m u)) (image (m v))
    role-met m (Named p) false h u v eu ev k = is.roles p (m u) (m v) eu ev k
    role-met m (Named p) true h u v eu ev k = is.roles p (m v) (m u) ev eu k
    role-met m (Auxiliary p j c) t h u v eu ev k = absurd h

    basic-met : (m : ℕ → Element) (b : Basic) (v : ℕ) → BasicHasNoAuxiliary b → IsElement axioms facts (m 0)
        → (neighbours b ≡ 1 → IsElement axioms facts (m v)) → HoldsOfElements axioms facts m (basic_atom b v) → IsInBasic i b (image (m 0))
    basic-met m (Class c) v h e n k = is.classes c (m 0) e k
    basic-met m (SomeOf r) v h e n k = (image (m v), is.elements (m v) (n refl), role-met m r.base r.inverse h 0 v e (n refl) k)

    pub not-met : (n : Negative) → NegativeHasNoAuxiliary n → NegativeHolds i n → ¬ IsMet axioms facts n
    not-met (Basics b c) h holds (m, is_match) =
        let e : IsElement axioms facts (m 0) = is_match.elements 0 (omega arith) in
        holds (image (m 0)) (is.elements (m 0) e)
        (basic-met m b 1 h.0 e (λ one. is_match.elements 1 (omega (arith, one))) (is_match.atoms (basic_atom b 1) (Contains-first (basic_atom b 1) (basic_atom c (1 + neighbours b) ∷ []))))
        (basic-met m c (1 + neighbours b) h.1 e (λ one. is_match.elements (1 + neighbours b) (omega (arith, one)))
        (is_match.atoms (basic_atom c (1 + neighbours b)) (Contains-later (basic_atom b 1) (basic_atom c (1 + neighbours b)) (basic_atom c (1 + neighbours b) ∷ [])
        (Contains-first (basic_atom c (1 + neighbours b)) []))))
    not-met (Roles r s) h holds (m, is_match) =
        let e = is_match.elements 0 (omega arith) in
        let f = is_match.elements 1 (omega arith) in
        let one = role_atom r (Var 0) (Var 1) in
        let two = role_atom s (Var 0) (Var 1) in
        holds (image (m 0)) (image (m 1)) (is.elements (m 0) e) (is.elements (m 1) f)
        (role-met m r.base r.inverse h.0 0 1 e f (is_match.atoms one (Contains-first one (two ∷ []))))
        (role-met m s.base s.inverse h.1 0 1 e f (is_match.atoms two (Contains-later one two (two ∷ []) (Contains-first two []))))
    not-met (NoLoop r) h holds (m, is_match) =
        let e = is_match.elements 0 (omega arith) in
        holds (image (m 0)) (is.elements (m 0) e)
        (role-met m r.base r.inverse h 0 0 e e (is_match.atoms (role_atom r (Var 0) (Var 0)) (Contains-first (role_atom r (Var 0) (Var 0)) [])))

    row-not-met : (row : Row) → RowHasNoAuxiliary row ⊎ IsFilled row → RowHolds i row
        → MatchOption (as_negative row) (Unit {0}) (λ n. ¬ IsMet axioms facts n)
    row-not-met (role_in r s) allowed h = tt
    row-not-met (concept_in b c) allowed h = tt
    row-not-met (never n) allowed h =
        ⊎_elim (λ (k : NegativeHasNoAuxiliary n). not-met n k h) (λ (k : IsFilled (never n)). absurd (never-filled n k)) allowed

    -- no negative of an axiom is met that the structure accepts
    pub accepted-not-met : (a : Axiom) → HasNoAuxiliary a → Accepts i a → All (λ n. ¬ IsMet axioms facts n.1) (axiom_negatives a)
    accepted-not-met a h accepted =
        All-map (λ n. ¬ IsMet axioms facts n.1) (λ n. (Some a, n)) (filter_map as_negative (axiom_rows a))
        (All-filter_map (λ n. ¬ IsMet axioms facts n) as_negative (axiom_rows a)
        (λ k d within. row-not-met _ (row_allowed a _ h (All-contains_itself (axiom_rows a) k d within)) (rows_hold i a h accepted k d within)))
