-- The auxiliary roles of a normal form are those of the pairs of role and class in the axioms, so that they are as few.
use Rattle.std.proofs.Common.{◌≡◌, ◌≢◌, ◌↔◌, ℕ, ◌+◌, ◌≤◌, Bool, IsTrue, List, [], ◌∷◌, ◌++◌, map, flat_map, filter_map, length, get_or, AllPairs, refl, sym, ap, subst, ◌∙◌, inl, inr, arith}
use Rattle.std.specs.List.{All, Contains, enumerate_from}
use Rattle.std.proofs.lemmas.List.Elements.{All-nil, All-cons, All-head, All-tail, All-append, All-map, All-weaker, All-contains, All-contains_itself, Contains-append_left, Contains-append_right, Contains-get_or}
use Rattle.std.proofs.lemmas.List.Sums.{sum_by-cons}
use Rattle.std.proofs.lemmas.List.{get_or-map, length-map}
use Rattle.dl_terms.specs.Roles.{auxiliary_of}
use Rattle.dl_terms.specs.Auxiliaries.{HasNoAuxiliary}
use Rattle.dl_terms.specs.NormalForm.{Row, role_in, concept_in, never, axiom_rows, rows_of, as_role_in, as_concept_in, as_negative}
use Rattle.dl_terms.specs.declared.role.Base.{Base}
use Rattle.dl_terms.specs.declared.role.Base.TheVariants.{Named, Auxiliary}
use Rattle.dl_terms.specs.declared.role.Role.{Role}
use Rattle.dl_terms.specs.declared.role.Basic.{Basic}
use Rattle.dl_terms.specs.declared.role.Basic.TheVariants as basic
use Rattle.dl_terms.specs.declared.role.Negative.{Negative}
use Rattle.dl_terms.specs.declared.role.Negative.TheVariants.{Basics, Roles, NoLoop}
use Rattle.dl_terms.specs.declared.role.Normal.{Normal}
use Rattle.dl_terms.specs.declared.axiom.Axiom.{Axiom}
use Rattle.dl_terms.specs.declared.axiom.Signature.{Signature}
use Rattle.dl_normal.specs.Filled.{filled_pairs, basic_bases, negative_bases, row_bases, IsOfAxioms, HasDistinct}
use Rattle.dl_normal.specs.Indexed.{IsNormalForm, indexed_negatives}
use Rattle.dl_normal.specs.Weight.{axiom_weight, total_weight}
use Rattle.dl_normal.proofs.FilledLemmas.{of_axioms}
use Rattle.dl_intervals.proofs.Lists.{pigeonhole}
use Rattle.dl_hier.specs.Predicates.{max_predicates}
use Rattle.dl_hier.specs.Rows.{base_auxiliaries, role_auxiliaries, basic_auxiliaries, negative_auxiliaries, normal_auxiliaries, AreFew}
use Rattle.dl_epoch.specs.Known.{ArePredicatesFew}
use Rattle.dl_epoch.proofs.KnownLemmas.{All-flat_map}

abbrev auxiliary_name : Role × ℕ → Base
auxiliary_name p = (auxiliary_of p.0 p.1).base

-- what a list has, its image has
map_has : {A B : Type 0} (f : A → B) (xs ys : List A) → ((x : A) → Contains xs x → Contains ys x) → (y : B) → Contains (map f xs) y → Contains (map f ys) y
map_has {A} {B} f xs ys more y c =
    All-contains (Contains (map f ys)) (map f xs) y
    (All-map (Contains (map f ys)) f xs (All-weaker (Contains ys) (λ x. Contains (map f ys) (f x)) (λ x h. image ys x h) xs (All-weaker (Contains xs) (Contains ys) more xs (All-contains_itself xs)))) c
  where
    image : (zs : List A) (x : A) → Contains zs x → Contains (map f zs) (f x)
    image zs x h = (h.0, (let n = length-map zs f in omega (arith, n, h.1)), get_or-map f zs h.0 x (f x) h.1 ∙ ap f h.2)

module _ (axioms : List Axiom) (names : List Base) (has : (b : Base) → Contains (map auxiliary_name (filled_pairs axioms)) b → Contains names b) where
  base_in : (b : Base) → IsOfAxioms axioms b → All (Contains names) (base_auxiliaries b)
  base_in (Named p) h = All-nil (Contains names)
  base_in (Auxiliary p i c) (inl none) = absurd none
  base_in (Auxiliary p i c) (inr there) = All-cons (Contains names) (Auxiliary p i c) [] (has (Auxiliary p i c) there) (All-nil (Contains names))

  -- the role names of a row are of the axioms
  abbrev IsOfThem : Row → Type 0
  IsOfThem row = All (IsOfAxioms axioms) (row_bases row)

  concept : (b : Basic) → All (IsOfAxioms axioms) (basic_bases b) → All (Contains names) (basic_auxiliaries b)
  concept (basic.Class c) h = All-nil (Contains names)
  concept (basic.SomeOf r) h = base_in r.base (All-head (IsOfAxioms axioms) r.base [] h)

  abbrev left : (xs ys : List Base) → All (IsOfAxioms axioms) (xs ++ ys) → All (IsOfAxioms axioms) xs
  left xs ys all = All-weaker (Contains xs) (IsOfAxioms axioms) (λ b c. All-contains (IsOfAxioms axioms) (xs ++ ys) b all (Contains-append_left xs ys b c)) xs (All-contains_itself xs)

  abbrev right : (xs ys : List Base) → All (IsOfAxioms axioms) (xs ++ ys) → All (IsOfAxioms axioms) ys
  right xs ys all = All-weaker (Contains ys) (IsOfAxioms axioms) (λ b c. All-contains (IsOfAxioms axioms) (xs ++ ys) b all (Contains-append_right xs ys b c)) ys (All-contains_itself ys)

  both : (r q : Role) → All (IsOfAxioms axioms) (r.base ∷ q.base ∷ []) → All (Contains names) (role_auxiliaries r ++ role_auxiliaries q)
  both r q h =
      All-append (Contains names) (role_auxiliaries r) (role_auxiliaries q) (base_in r.base (All-head (IsOfAxioms axioms) r.base (q.base ∷ []) h))
      (base_in q.base (All-head (IsOfAxioms axioms) q.base [] (All-tail (IsOfAxioms axioms) r.base (q.base ∷ []) h)))

  concepts : (b c : Basic) → All (IsOfAxioms axioms) (basic_bases b ++ basic_bases c) → All (Contains names) (basic_auxiliaries b ++ basic_auxiliaries c)
  concepts b c h =
      All-append (Contains names) (basic_auxiliaries b) (basic_auxiliaries c) (concept b (left (basic_bases b) (basic_bases c) h)) (concept c (right (basic_bases b) (basic_bases c) h))

  negative : (n : Negative) → All (IsOfAxioms axioms) (negative_bases n) → All (Contains names) (negative_auxiliaries n)
  negative (Basics b c) h = concepts b c h
  negative (Roles r q) h = both r q h
  negative (NoLoop r) h = base_in r.base (All-head (IsOfAxioms axioms) r.base [] h)

  in_roles : (rows : List Row) → All IsOfThem rows → All (Contains names) (flat_map (λ p. role_auxiliaries p.0 ++ role_auxiliaries p.1) (filter_map as_role_in rows))
  in_roles [] all = All-nil (Contains names)
  in_roles (role_in r q ∷ rows) all =
      All-append (Contains names) (role_auxiliaries r ++ role_auxiliaries q) (flat_map (λ p. role_auxiliaries p.0 ++ role_auxiliaries p.1) (filter_map as_role_in rows))
      (both r q (All-head IsOfThem (role_in r q) rows all)) (in_roles rows (All-tail IsOfThem (role_in r q) rows all))
  in_roles (concept_in b c ∷ rows) all = in_roles rows (All-tail IsOfThem (concept_in b c) rows all)
  in_roles (never n ∷ rows) all = in_roles rows (All-tail IsOfThem (never n) rows all)

  in_concepts : (rows : List Row) → All IsOfThem rows → All (Contains names) (flat_map (λ p. basic_auxiliaries p.0 ++ basic_auxiliaries p.1) (filter_map as_concept_in rows))
  in_concepts [] all = All-nil (Contains names)
  in_concepts (role_in r q ∷ rows) all = in_concepts rows (All-tail IsOfThem (role_in r q) rows all)
  in_concepts (concept_in b c ∷ rows) all =
      All-append (Contains names) (basic_auxiliaries b ++ basic_auxiliaries c) (flat_map (λ p. basic_auxiliaries p.0 ++ basic_auxiliaries p.1) (filter_map as_concept_in rows))
      (concepts b c (All-head IsOfThem (concept_in b c) rows all)) (in_concepts rows (All-tail IsOfThem (concept_in b c) rows all))
  in_concepts (never n ∷ rows) all = in_concepts rows (All-tail IsOfThem (never n) rows all)

  of_axiom : (k : ℕ) (rows : List Row) → All IsOfThem rows → All {X = ℕ × Negative} (λ p. All (Contains names) (negative_auxiliaries p.1)) (map (λ n. (k, n)) (filter_map as_negative rows))
  of_axiom k [] all = All-nil (λ p. All (Contains names) (negative_auxiliaries p.1))
  of_axiom k (role_in r q ∷ rows) all = of_axiom k rows (All-tail IsOfThem (role_in r q) rows all)
  of_axiom k (concept_in b c ∷ rows) all = of_axiom k rows (All-tail IsOfThem (concept_in b c) rows all)
  of_axiom k (never n ∷ rows) all =
      All-cons (λ p. All (Contains names) (negative_auxiliaries p.1)) (k, n) (map (λ m. (k, m)) (filter_map as_negative rows))
      (negative n (All-head IsOfThem (never n) rows all)) (of_axiom k rows (All-tail IsOfThem (never n) rows all))

  in_negatives : (k : ℕ) (some : List Axiom) → ((row : Row) → Contains (rows_of some) row → IsOfThem row)
      → All {X = ℕ × Negative} (λ p. All (Contains names) (negative_auxiliaries p.1)) (flat_map indexed_negatives (enumerate_from k some))
  in_negatives k [] each = All-nil (λ p. All (Contains names) (negative_auxiliaries p.1))
  in_negatives k (a ∷ some) each =
      All-append (λ p. All (Contains names) (negative_auxiliaries p.1)) (indexed_negatives (k, a)) (flat_map indexed_negatives (enumerate_from (k + 1) some))
      (of_axiom k (axiom_rows a) (All-weaker (Contains (axiom_rows a)) IsOfThem (λ row c. each row (Contains-append_left (axiom_rows a) (rows_of some) row c)) (axiom_rows a) (All-contains_itself (axiom_rows a))))
      (in_negatives (k + 1) some (λ row c. each row (Contains-append_right (axiom_rows a) (rows_of some) row c)))

  pub all_in : All HasNoAuxiliary axioms → (normal : Normal) → IsNormalForm axioms normal → All (Contains names) (normal_auxiliaries normal)
  all_in plain normal is =
      let each = of_axioms axioms plain in
      let rows = All-weaker (Contains (rows_of axioms)) IsOfThem each (rows_of axioms) (All-contains_itself (rows_of axioms)) in
      let roles = flat_map (λ p. role_auxiliaries p.0 ++ role_auxiliaries p.1) normal.roles in
      let basics = flat_map (λ p. basic_auxiliaries p.0 ++ basic_auxiliaries p.1) normal.concepts in
      let r = subst (λ xs. All (Contains names) (flat_map (λ p. role_auxiliaries p.0 ++ role_auxiliaries p.1) xs)) (sym is.roles) (in_roles (rows_of axioms) rows) in
      let b = subst (λ xs. All (Contains names) (flat_map (λ p. basic_auxiliaries p.0 ++ basic_auxiliaries p.1) xs)) (sym is.concepts) (in_concepts (rows_of axioms) rows) in
      let n = subst (λ xs. All {X = ℕ × Negative} (λ p. All (Contains names) (negative_auxiliaries p.1)) xs) (sym is.negatives) (in_negatives 0 axioms each) in
      All-append (Contains names) (roles ++ basics) (flat_map (λ p. negative_auxiliaries p.1) normal.negatives)
      (All-append (Contains names) roles basics r b)
      (All-flat_map (Contains names) (λ p. All (Contains names) (negative_auxiliaries p.1)) (λ p. negative_auxiliaries p.1) (λ p h. h) normal.negatives n)

pub are_few : (s : Signature) (axioms : List Axiom) (normal : Normal) → All HasNoAuxiliary axioms → ArePredicatesFew s axioms → IsNormalForm axioms normal → AreFew s normal
are_few s axioms normal plain few is =
    let set = few.distinct.set in record {
      auxiliaries = map auxiliary_name set;
      each = all_in axioms (map auxiliary_name set) (map_has auxiliary_name (filled_pairs axioms) set (λ p c. (few.distinct.members p).1 c)) plain normal is;
      few = (let n = length-map set auxiliary_name in let m = few.distinct.as_many in let f = few.few in omega (arith, n, m, f));
    }

-- different items that all are in a list are no more than it has
no_more : {A : Type 0} (xs ys : List A) → AllPairs (λ x y. x ≢ y) xs → ((x : A) → Contains xs x → Contains ys x)
    → length xs ≤ length ys
no_more xs ys apart inside =
    pigeonhole (λ x y. x ≡ y) xs ys
    (λ k d h.
    let there = inside (get_or xs k d) (Contains-get_or xs k d h) in (there.0, get_or xs k d, there.1, there.2, refl))
    (λ i j d lt h y same also. apart i j d lt h (same ∙ sym also))

-- the different items of a list have one count
pub one_count : {A : Type 0} (items : List A) (n m : ℕ) → HasDistinct items n → HasDistinct items m → n ≡ m
one_count items n m one two =
    let few = no_more one.set two.set one.each_once (λ x c. (two.members x).1 ((one.members x).0 c)) in
    let also = no_more two.set one.set two.each_once (λ x c. (one.members x).1 ((two.members x).0 c)) in
    omega (arith, few, also, one.as_many, two.as_many)

-- few, where the count of the auxiliary roles makes it so
pub few_told : (s : Signature) (axioms : List Axiom) (auxiliaries : ℕ) → HasDistinct (filled_pairs axioms) auxiliaries
    → (answer : Bool) → IsTrue answer ↔ (length s.classes + length s.roles + auxiliaries ≤ max_predicates)
    → IsTrue answer ↔ ArePredicatesFew s axioms
few_told s axioms auxiliaries distinct answer says = (
  λ h. record { auxiliaries = auxiliaries; distinct = distinct; few = says.0 h },
  λ h.
      let same = one_count (filled_pairs axioms) auxiliaries h.auxiliaries distinct h.distinct in
      let few = h.few in
      says.1 (omega (arith, same, few)),
)

-- axioms are no more than they weigh
pub length_weight : (axioms : List Axiom) → length axioms ≤ total_weight axioms
length_weight [] = omega arith
length_weight (a ∷ axioms) =
    let ih = length_weight axioms in
    let s = sum_by-cons axiom_weight a axioms in
    omega (arith, ih, s)
