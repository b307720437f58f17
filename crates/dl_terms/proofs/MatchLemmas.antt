-- Matches by elements written out, and what a match over class facts alone can be.
use Rattle.std.proofs.Common.{◌≡◌, ℕ, ◌<◌, ◌⊎◌, Bool, true, false, List, [], ◌∷◌, ◌++◌, map, length, slice_index_or, refl, sym, ap, subst, ◌∙◌, inl, inr, true≢false, arith}
use Rattle.std.specs.List.{Contains, AllByRecursion, list_all, list_any}
use Rattle.std.specs.Ordering.{is_eq}
use Rattle.std.proofs.lemmas.List.Elements.{All-from_recursion}
use Rattle.dl_terms.specs.Roles.{inverse_of}
use Rattle.dl_terms.specs.Below.{RoleBelow, ConceptBelow}
use Rattle.dl_terms.specs.Structure.{HoldsAtName, by_class, by_source, by_target, Element, individual, child, IsWordAt, IsElement, HoldsAt, at_name, at_end, Joins, by_fact, by_fact_turned, to_child, from_child}
use Rattle.dl_terms.specs.Answers.{AtomHolds, IsMatch, IsCertain}
use Rattle.dl_terms.specs.Broken.{query_of, IsMet}
use Rattle.dl_terms.specs.Order.{basic_cmp, role_cmp}
use Rattle.dl_terms.specs.declared.role.Role.{Role}
use Rattle.dl_terms.specs.declared.role.Basic.{Basic}
use Rattle.dl_terms.specs.declared.role.Basic.TheVariants.{Class, SomeOf}
use Rattle.dl_terms.specs.declared.role.Negative.{Negative}
use Rattle.dl_terms.specs.declared.axiom.Axiom.{Axiom}
use Rattle.dl_terms.specs.declared.axiom.Fact.{Fact}
use Rattle.dl_terms.specs.declared.axiom.Fact.TheVariants.{Is, Link}
use Rattle.dl_terms.specs.declared.query.Query.{Query}
use Rattle.dl_terms.proofs.MemberLemmas.{All-Contains, list_all-Contains, Contains-nil}
use Rattle.dl_terms.proofs.StructureLemmas.{individual-child}

-- ---- names in a head

pub head_none : (tuple : List ℕ) → [] ≡ map individual tuple → tuple ≡ []
head_none [] e = refl
head_none (x ∷ tuple) e = let l = ap length e in absurd (omega arith)

first_element : List Element → Element
first_element [] = individual 0
first_element (x ∷ xs) = x

rest_elements : List Element → List Element
rest_elements [] = []
rest_elements (x ∷ xs) = xs

-- two elements in a head are individuals, and the tuple has their names
pub head_two : (u v : Element) (tuple : List ℕ) → u ∷ v ∷ [] ≡ map individual tuple
    → (x : ℕ) × (y : ℕ) × (tuple ≡ x ∷ y ∷ []) × (u ≡ individual x) × (v ≡ individual y)
unfolding first_element rest_elements
head_two u v [] e = let l = ap length e in absurd (omega arith)
head_two u v (x ∷ []) e = let l = ap length e in absurd (omega arith)
head_two u v (x ∷ y ∷ []) e = (x, y, refl, ap first_element e, ap (λ z. first_element (rest_elements z)) e)
head_two u v (x ∷ y ∷ z ∷ tuple) e = let l = ap length e in absurd (omega arith)

-- ---- matches written out

-- the variables stand for the elements of a list, by index
abbrev pub by_index : List Element → ℕ → Element
by_index elements v = slice_index_or elements v (individual 0)

pub IsMatch-by_index : (axioms : List Axiom) (facts : List Fact) (q : Query) (elements : List Element) → q.vars ≡ length elements
    → AllByRecursion (IsElement axioms facts) elements → AllByRecursion (AtomHolds axioms facts (by_index elements)) q.atoms
    → IsMatch axioms facts q (by_index elements)
IsMatch-by_index axioms facts q elements count each atoms = record {
  elements = λ v h. All-from_recursion (IsElement axioms facts) elements each v (individual 0) (subst (λ n. v < n) count h);
  atoms = λ a c. All-Contains (AtomHolds axioms facts (by_index elements)) q.atoms a
      (All-from_recursion (AtomHolds axioms facts (by_index elements)) q.atoms atoms) c;
}

pub IsCertain-by_index : (axioms : List Axiom) (facts : List Fact) (q : Query) (tuple : List ℕ) (elements : List Element)
    → q.vars ≡ length elements → AllByRecursion (IsElement axioms facts) elements
    → AllByRecursion (AtomHolds axioms facts (by_index elements)) q.atoms → map (by_index elements) q.head ≡ map individual tuple
    → IsCertain axioms facts q tuple
IsCertain-by_index axioms facts q tuple elements count each atoms head =
    record { elements = by_index elements; is_match = IsMatch-by_index axioms facts q elements count each atoms; is_head = head }

pub IsMet-by_index : (axioms : List Axiom) (facts : List Fact) (n : Negative) (elements : List Element) → (query_of n).vars ≡ length elements
    → AllByRecursion (IsElement axioms facts) elements → AllByRecursion (AtomHolds axioms facts (by_index elements)) (query_of n).atoms
    → IsMet axioms facts n
IsMet-by_index axioms facts n elements count each atoms = (by_index elements, IsMatch-by_index axioms facts (query_of n) elements count each atoms)

-- ---- over class facts alone

abbrev pub is_class_fact : Fact → Bool
is_class_fact (Is c a) = true
is_class_fact (Link p a b) = false

module _ (axioms : List Axiom) (facts : List Fact) (classes : list_all is_class_fact facts ≡ true) where
  no_link : (p a b : ℕ) → Contains facts (Link p a b) → ⊥
  no_link p a b c = true≢false (sym (list_all-Contains is_class_fact facts (Link p a b) classes c))

  -- what holds at a name is above one of its classes
  pub HoldsAtName-class : (b : Basic) (a : ℕ) → HoldsAtName axioms facts b a
      → (c : ℕ) × Contains facts (Is c a) × ConceptBelow axioms (Class c) b
  HoldsAtName-class b a (by_class {c = c} h d) = (c, h, d)
  HoldsAtName-class b a (by_source {p = p} {o = o} h d) = absurd (no_link p a o h)
  HoldsAtName-class b a (by_target {p = p} {o = o} h d) = absurd (no_link p o a h)

  -- of two elements that a role joins, one is a child of the other
  pub Joins-child : (s : Role) (x y : Element) → Joins axioms facts s x y
      → ((r : Role) × (y ≡ child x r) × RoleBelow axioms r s) ⊎ ((r : Role) × (x ≡ child y r) × RoleBelow axioms r (inverse_of s))
  Joins-child s x y (by_fact {p = p} e f h d) = absurd (no_link p x.name y.name h)
  Joins-child s x y (by_fact_turned {p = p} e f h d) = absurd (no_link p y.name x.name h)
  Joins-child s x y (to_child {r = r} e d) = inl (r, e, d)
  Joins-child s x y (from_child {r = r} e d) = inr (r, e, d)

  -- no role joins two individuals
  pub Joins-individuals : (s : Role) (x y : Element) (a b : ℕ) → x ≡ individual a → y ≡ individual b → Joins axioms facts s x y → ⊥
  Joins-individuals s x y a b e f j = by (Joins-child s x y j)
    where
      by : ((r : Role) × (y ≡ child x r) × RoleBelow axioms r s) ⊎ ((r : Role) × (x ≡ child y r) × RoleBelow axioms r (inverse_of s)) → ⊥
      by (inl h) = individual-child b x h.0 (sym f ∙ h.1)
      by (inr h) = individual-child a y h.0 (sym e ∙ h.1)

-- ---- over no fact at all

pub HoldsAtName-no_fact : (axioms : List Axiom) (b : Basic) (a : ℕ) → HoldsAtName axioms [] b a → ⊥
HoldsAtName-no_fact axioms b a (by_class {c = c} h d) = Contains-nil (Is c a) h
HoldsAtName-no_fact axioms b a (by_source {p = p} {o = o} h d) = Contains-nil (Link p a o) h
HoldsAtName-no_fact axioms b a (by_target {p = p} {o = o} h d) = Contains-nil (Link p o a) h

no_word : (axioms : List Axiom) (a : ℕ) (w : List Role) (r : Role) → IsWordAt axioms [] a (w ++ r ∷ []) → ⊥
no_word axioms a [] r h = HoldsAtName-no_fact axioms (SomeOf r) a h.0
no_word axioms a (t ∷ w) r h = HoldsAtName-no_fact axioms (SomeOf t) a h.0

-- nothing holds at any element
pub HoldsAt-no_fact : (axioms : List Axiom) (b : Basic) (x : Element) → IsElement axioms [] x → HoldsAt axioms [] b x → ⊥
HoldsAt-no_fact axioms b x element (at_name e h) = HoldsAtName-no_fact axioms b x.name h
HoldsAt-no_fact axioms b x element (at_end y r e d) = no_word axioms y.name y.word r (subst (IsElement axioms []) e element)

-- ---- tests whether a term is one of some

abbrev pub is_one_of : List Basic → Basic → Bool
is_one_of bs b = list_any (λ c. is_eq (basic_cmp c b)) bs

abbrev pub is_role_of : List Role → Role → Bool
is_role_of rs r = list_any (λ s. is_eq (role_cmp s r)) rs
