-- The pairs of the parts "some role in class": how many different ones there are, and the auxiliary roles in the rows.
use Rattle.std.proofs.Common.{◌≡◌, ◌≢◌, ℕ, ◌+◌, ◌<◌, List, [], ◌∷◌, ◌++◌, map, zip, flat_map, filter_map, length, take, get_or, Option, Some, None, option_to_list, All, AllPairs, Contains, refl, sym, ap, subst, ◌∙◌, inl, inr, ⊎_elim, true≢false, arith, append_assoc}
use Rattle.std.specs.declared.cmp.Ordering.{Ordering}
use Rattle.std.specs.declared.cmp.Ordering.TheVariants.{Less, Equal}
use Rattle.std.specs.Ordering.{is_lt, ordering_then, nat_cmp}
use Rattle.std.proofs.Math.Path.{fun_ext}
use Rattle.std.specs.Cmp.{IsTotalOrder, tied_itself}
use Rattle.std.specs.List.Sorted.{IsStrictlySortedBy}
use Rattle.std.proofs.lemmas.List.Elements.{All-from_recursion, All-nil, All-cons, All-head, All-tail, All-push, All-append, All-map, All-weaker, All-contains, Contains-append_left, Contains-append_right, Contains-append_cases, filter_map-append}
use Rattle.std.proofs.lemmas.List.{take_more}
use Rattle.std.specs.List.{cons_option}
use Rattle.std.proofs.lemmas.List.Kept.{AllPairs-cons}
use Rattle.dl_terms.specs.Sets.{IsSetOf}
use Rattle.dl_terms.specs.Order.{role_cmp}
use Rattle.dl_terms.specs.contracts.role.RoleOrd.TheImpl as role_impl
use Rattle.dl_terms.proofs.DerivedLemmas as derived
use Rattle.dl_terms.proofs.OrderLemmas.{pair_cmp, numbers_linear, roles_linear, pairs_linear}
use Rattle.dl_terms.specs.Roles.{inverse_of, auxiliary_of}
use Rattle.dl_terms.specs.NormalForm.{Row, role_in, concept_in, never, ring, pairs, part_rows, axiom_rows, rows_of}
use Rattle.dl_terms.specs.Auxiliaries.{RoleHasNoAuxiliary, BasicHasNoAuxiliary, PartHasNoAuxiliary, HasNoAuxiliary}
use Rattle.dl_terms.specs.declared.role.Base.{Base}
use Rattle.dl_terms.specs.declared.role.Role.{Role}
use Rattle.dl_terms.specs.declared.role.Basic.{Basic}
use Rattle.dl_terms.specs.declared.role.Basic.TheVariants as basic
use Rattle.dl_terms.specs.declared.role.Negative.TheVariants.{Basics, Roles, NoLoop}
use Rattle.dl_terms.specs.declared.axiom.Part.{Part}
use Rattle.dl_terms.specs.declared.axiom.Part.TheVariants as part
use Rattle.dl_terms.specs.declared.axiom.Axiom.{Axiom}
use Rattle.dl_terms.specs.declared.axiom.Axiom.TheVariants.{SubClass, EquivalentClasses, DisjointClasses, SubRole, EquivalentRoles, DisjointRoles, InverseRoles, Domain, Range, Symmetric, Asymmetric, Irreflexive}
use Rattle.dl_terms.proofs.MemberLemmas.{Contains-first, Contains-later, Contains-cons, Contains-nil}
use Rattle.dl_normal.proofs.RowLemmas.{flat_map-more}
use Rattle.dl_normal.specs.Filled.{HasDistinct, parts_of, filled, filled_pairs, basic_bases, row_bases, IsOfAxioms}

module _ {A : Type 0} {R : A → A → Ordering} (total : IsTotalOrder R) where
  apart : (x y : A) → R x y ≡ Less → x ≢ y
  apart x y less same = true≢false (ap is_lt (sym less ∙ ap (R x) (sym same) ∙ tied_itself total x))

  each_once : (xs : List A) → IsStrictlySortedBy R xs → AllPairs (λ x y. x ≢ y) xs
  unfolding IsStrictlySortedBy
  each_once [] up = λ i j d lt within. absurd (omega (arith, within))
  each_once (x ∷ xs) up =
      AllPairs-cons (λ x y. x ≢ y) x xs
      (All-weaker (λ y. R x y ≡ Less) (λ y. x ≢ y) (apart x) xs (All-from_recursion (λ y. R x y ≡ Less) xs up.0)) (each_once xs up.1)

  -- the set of a list is as long as the list has different items
  pub HasDistinct-set : (set items : List A) → IsSetOf R set items → HasDistinct items (length set)
  HasDistinct-set set items is = record { set = set; each_once = each_once set is.ascending; members = is.members; as_many = refl }

-- the derived order of pairs of a role and a class is that of the definitions
pub pair_order : (λ (x y : Role × ℕ). ordering_then ((role_impl.cmp-value).it x.0 y.0) (nat_cmp x.1 y.1)) ≡ pair_cmp role_cmp nat_cmp
pair_order = fun_ext (λ x. fun_ext (λ y. ap (λ o. ordering_then o (nat_cmp x.1 y.1)) (derived.roles x.0 y.0)))

pub pair_equal : (x y : Role × ℕ) → ordering_then ((role_impl.cmp-value).it x.0 y.0) (nat_cmp x.1 y.1) ≡ Equal → x ≡ y
pair_equal x y e =
    (pairs_linear roles_linear numbers_linear).equal x y (ap (λ o. ordering_then o (nat_cmp x.1 y.1)) (sym (derived.roles x.0 y.0)) ∙ e)

-- the pairs of one more axiom
pub filled_pairs-more : (axioms : List Axiom) (i : ℕ) (a : Axiom) → i < length axioms → a ≡ get_or axioms i a
    → filled_pairs (take (i + 1) axioms) ≡ filled_pairs (take i axioms) ++ filter_map filled (parts_of a)
filled_pairs-more axioms i a within at =
    ap (filter_map filled) (flat_map-more parts_of axioms i a within ∙ ap (λ x. flat_map parts_of (take i axioms) ++ parts_of x) (sym at))
    ∙ filter_map-append filled (flat_map parts_of (take i axioms)) (parts_of a)

-- the pair of one more part, where it has one
pub filter_map-more : {A B : Type 0} (f : A → Option B) (xs : List A) (i : ℕ) (d : A) → i < length xs
    → filter_map f (take (i + 1) xs) ≡ filter_map f (take i xs) ++ option_to_list (f (get_or xs i d))
filter_map-more {A} f xs i d within =
    ap (filter_map f) (take_more xs i d within) ∙ filter_map-append f (take i xs) (get_or xs i d ∷ [])
    ∙ ap (λ l. filter_map f (take i xs) ++ l) (of_one (get_or xs i d))
  where
    of_one : (x : A) → filter_map f (x ∷ []) ≡ option_to_list (f x)
    of_one x = elim (f x) as (λ o. cons_option o [] ≡ option_to_list o) [ None ↦ refl | Some y ↦ refl ]

pub pushed-more : {A B : Type 0} (f : A → Option B) (start old new : List B) (xs : List A) (i : ℕ) (d : A) → i < length xs
    → old ≡ start ++ filter_map f (take i xs) → new ≡ old ++ option_to_list (f (get_or xs i d)) → new ≡ start ++ filter_map f (take (i + 1) xs)
pushed-more f start old new xs i d within so_far pushed =
    pushed ∙ ap (λ l. l ++ option_to_list (f (get_or xs i d))) so_far
    ∙ append_assoc start (filter_map f (take i xs)) (option_to_list (f (get_or xs i d))) ∙ ap (λ l. start ++ l) (sym (filter_map-more f xs i d within))

-- how many there are
pub HasDistinct-pairs : (set items : List (Role × ℕ)) → IsSetOf (λ x y. ordering_then ((role_impl.cmp-value).it x.0 y.0) (nat_cmp x.1 y.1)) set items
    → HasDistinct items (length set)
HasDistinct-pairs set items is =
    HasDistinct-set (pairs_linear roles_linear numbers_linear).total set items (subst (λ R. IsSetOf R set items) pair_order is)

-- ---- which auxiliary roles are in the rows

abbrev Both : {A : Type 0} → (A → Type 0) → A × A → Type 0
Both Q p = Q p.0 × Q p.1

All-zip : {A : Type 0} (Q : A → Type 0) (xs ys : List A) → All Q xs → All Q ys → All (Both Q) (zip xs ys)
All-zip Q [] ys all also = All-nil (Both Q)
All-zip Q (x ∷ xs) [] all also = All-nil (Both Q)
All-zip Q (x ∷ xs) (y ∷ ys) all also =
    All-cons (Both Q) (x, y) (zip xs ys) (All-head Q x xs all, All-head Q y ys also) (All-zip Q xs ys (All-tail Q x xs all) (All-tail Q y ys also))

All-ring : {A : Type 0} (Q : A → Type 0) (xs : List A) → All Q xs → All (Both Q) (ring xs)
All-ring Q [] all = All-nil (Both Q)
All-ring Q (x ∷ xs) all = All-zip Q (x ∷ xs) (xs ++ x ∷ []) all (All-push Q xs x (All-tail Q x xs all) (All-head Q x xs all))

All-pairs : {A : Type 0} (Q : A → Type 0) (xs : List A) → All Q xs → All (Both Q) (pairs xs)
All-pairs Q [] all = All-nil (Both Q)
All-pairs Q (x ∷ xs) all =
    let later = All-tail Q x xs all in
    All-append (Both Q) (map (λ y. (x, y)) xs) (pairs xs)
    (All-map (Both Q) (λ y. (x, y)) xs (All-weaker Q (λ y. Both Q (x, y)) (λ y q. (All-head Q x xs all, q)) xs later)) (All-pairs Q xs later)

-- what is in a flattened list is in the part of one of its items, and the other way round
Contains-flat_map : {A B : Type 0} (f : A → List B) (xs : List A) (y : B) → Contains (flat_map f xs) y → (x : A) × Contains xs x × Contains (f x) y
Contains-flat_map f [] y c = absurd (Contains-nil y c)
Contains-flat_map f (x ∷ xs) y c =
    ⊎_elim (λ (here : Contains (f x) y). (x, Contains-first x xs, here))
    (λ (later : Contains (flat_map f xs) y). let w = Contains-flat_map f xs y later in (w.0, Contains-later x w.0 xs w.1, w.2))
    (Contains-append_cases (f x) (flat_map f xs) y c)

Contains-flat_map_of : {A B : Type 0} (f : A → List B) (xs : List A) (x : A) (y : B) → Contains xs x → Contains (f x) y → Contains (flat_map f xs) y
Contains-flat_map_of f [] x y c h = absurd (Contains-nil x c)
Contains-flat_map_of f (z ∷ zs) x y c h =
    ⊎_elim (λ (same : z ≡ x). Contains-append_left (f z) (flat_map f zs) y (subst (λ w. Contains (f w) y) (sym same) h))
    (λ (later : Contains zs x). Contains-append_right (f z) (flat_map f zs) y (Contains-flat_map_of f zs x y later h)) (Contains-cons z x zs c)

Contains-map_of : {A B : Type 0} (f : A → B) (xs : List A) (x : A) → Contains xs x → Contains (map f xs) (f x)
Contains-map_of f [] x c = absurd (Contains-nil x c)
Contains-map_of f (y ∷ ys) x c =
    ⊎_elim (λ (same : y ≡ x). subst (λ z. Contains (f y ∷ map f ys) (f z)) same (Contains-first (f y) (map f ys)))
    (λ (later : Contains ys x). Contains-later (f y) (f x) (map f ys) (Contains-map_of f ys x later)) (Contains-cons y x ys c)

filled-listed : (ps : List Part) (r : Role) (c : ℕ) → Contains ps (part.Fill r c) → Contains (filter_map filled ps) (r, c)
filled-listed [] r c h = absurd (Contains-nil (part.Fill r c) h)
filled-listed (q ∷ qs) r c h =
    ⊎_elim (λ (same : q ≡ part.Fill r c). subst (λ z. Contains (filter_map filled (z ∷ qs)) (r, c)) (sym same) (Contains-first (r, c) (filter_map filled qs)))
    (λ (later : Contains qs (part.Fill r c)). add q (filled-listed qs r c later)) (Contains-cons q (part.Fill r c) qs h)
  where
    add : (p : Part) → Contains (filter_map filled qs) (r, c) → Contains (filter_map filled (p ∷ qs)) (r, c)
    add part.Thing k = k
    add (part.Class d) k = k
    add (part.Any s) k = k
    add (part.Fill s d) k = Contains-later (s, d) (r, c) (filter_map filled qs) k
    add (part.Not b) k = k

abbrev auxiliary_name : Role × ℕ → Base
auxiliary_name p = (auxiliary_of p.0 p.1).base

module _ (axioms : List Axiom) where
  abbrev Is : Base → Type 0
  Is = IsOfAxioms axioms

  one : (b : Base) → Is b → All Is (b ∷ [])
  one b h = All-cons Is b [] h (All-nil Is)

  two : (a b : Base) → Is a → Is b → All Is (a ∷ b ∷ [])
  two a b h k = All-cons Is a (b ∷ []) h (one b k)

  of_basic : (b : Basic) → BasicHasNoAuxiliary b → All Is (basic_bases b)
  of_basic (basic.Class c) h = All-nil Is
  of_basic (basic.SomeOf r) h = one r.base (inl h)

  of_concepts : (b c : Basic) → All Is (basic_bases b) → All Is (basic_bases c) → All Is (row_bases (concept_in b c))
  of_concepts b c h k = All-append Is (basic_bases b) (basic_bases c) h k

  abbrev RowIs : Row → Type 0
  RowIs row = All Is (row_bases row)

  one_row : (row : Row) → RowIs row → All RowIs (row ∷ [])
  one_row row h = All-cons RowIs row [] h (All-nil RowIs)

  of_part : (b : Basic) → BasicHasNoAuxiliary b → (q : Part) → PartHasNoAuxiliary q
      → ((r : Role) (c : ℕ) → q ≡ part.Fill r c → Contains (filled_pairs axioms) (r, c)) → All RowIs (part_rows b q)
  of_part b h part.Thing k listed = All-nil RowIs
  of_part b h (part.Class c) k listed = one_row (concept_in b (basic.Class c)) (of_concepts b (basic.Class c) (of_basic b h) (All-nil Is))
  of_part b h (part.Any r) k listed = one_row (concept_in b (basic.SomeOf r)) (of_concepts b (basic.SomeOf r) (of_basic b h) (one r.base (inl k)))
  of_part b h (part.Fill r c) k listed =
      let u = auxiliary_of r c in
      let is : Is u.base = inr (Contains-map_of auxiliary_name (filled_pairs axioms) (r, c) (listed r c refl)) in
      All-cons RowIs (concept_in b (basic.SomeOf u)) (role_in u r ∷ concept_in (basic.SomeOf (inverse_of u)) (basic.Class c) ∷ [])
      (of_concepts b (basic.SomeOf u) (of_basic b h) (one u.base is))
      (All-cons RowIs (role_in u r) (concept_in (basic.SomeOf (inverse_of u)) (basic.Class c) ∷ []) (two u.base r.base is (inl k))
      (one_row (concept_in (basic.SomeOf (inverse_of u)) (basic.Class c))
      (of_concepts (basic.SomeOf (inverse_of u)) (basic.Class c) (one u.base is) (All-nil Is))))
  of_part b h (part.Not d) k listed = one_row (never (Basics b d)) (All-append Is (basic_bases b) (basic_bases d) (of_basic b h) (of_basic d k))

  -- the rows of parts that are in the axioms
  of_parts : (b : Basic) → BasicHasNoAuxiliary b → (qs : List Part) → All PartHasNoAuxiliary qs
      → ((r : Role) (c : ℕ) → Contains qs (part.Fill r c) → Contains (filled_pairs axioms) (r, c)) → All RowIs (flat_map (part_rows b) qs)
  of_parts b h [] k listed = All-nil RowIs
  of_parts b h (q ∷ qs) k listed =
      All-append RowIs (part_rows b q) (flat_map (part_rows b) qs)
      (of_part b h q (All-head PartHasNoAuxiliary q qs k) (λ r c same. listed r c (subst (Contains (q ∷ qs)) same (Contains-first q qs))))
      (of_parts b h qs (All-tail PartHasNoAuxiliary q qs k) (λ r c m. listed r c (Contains-later q (part.Fill r c) qs m)))

  of_roles : (ps : List (Role × Role)) → All (Both RoleHasNoAuxiliary) ps → All RowIs (map (λ p. role_in p.0 p.1) ps)
  of_roles ps all =
      All-map RowIs (λ p. role_in p.0 p.1) ps
      (All-weaker (Both RoleHasNoAuxiliary) (λ p. RowIs (role_in p.0 p.1)) (λ p h. two p.0.base p.1.base (inl h.0) (inl h.1)) ps all)

  listed : (a : Axiom) → Contains axioms a → (r : Role) (c : ℕ) → Contains (parts_of a) (part.Fill r c) → Contains (filled_pairs axioms) (r, c)
  listed a m r c k = filled-listed (flat_map parts_of axioms) r c (Contains-flat_map_of parts_of axioms a (part.Fill r c) m k)

  of_axiom : (a : Axiom) → HasNoAuxiliary a → Contains axioms a → All RowIs (axiom_rows a)
  of_axiom (SubClass b ps) h m = of_parts b h.0 ps h.1 (λ r c k. listed (SubClass b ps) m r c k)
  of_axiom (EquivalentClasses bs) h m =
      All-map RowIs (λ p. concept_in p.0 p.1) (ring bs)
      (All-weaker (Both BasicHasNoAuxiliary) (λ p. RowIs (concept_in p.0 p.1))
      (λ p k. of_concepts p.0 p.1 (of_basic p.0 k.0) (of_basic p.1 k.1)) (ring bs) (All-ring BasicHasNoAuxiliary bs h))
  of_axiom (DisjointClasses bs) h m =
      All-map RowIs (λ p. never (Basics p.0 p.1)) (pairs bs)
      (All-weaker (Both BasicHasNoAuxiliary) (λ p. RowIs (never (Basics p.0 p.1)))
      (λ p k. All-append Is (basic_bases p.0) (basic_bases p.1) (of_basic p.0 k.0) (of_basic p.1 k.1)) (pairs bs) (All-pairs BasicHasNoAuxiliary bs h))
  of_axiom (SubRole r s) h m = one_row (role_in r s) (two r.base s.base (inl h.0) (inl h.1))
  of_axiom (EquivalentRoles rs) h m = of_roles (ring rs) (All-ring RoleHasNoAuxiliary rs h)
  of_axiom (DisjointRoles rs) h m =
      All-map RowIs (λ p. never (Roles p.0 p.1)) (pairs rs)
      (All-weaker (Both RoleHasNoAuxiliary) (λ p. RowIs (never (Roles p.0 p.1))) (λ p k. two p.0.base p.1.base (inl k.0) (inl k.1)) (pairs rs)
      (All-pairs RoleHasNoAuxiliary rs h))
  of_axiom (InverseRoles r s) h m =
      All-cons RowIs (role_in r (inverse_of s)) (role_in (inverse_of s) r ∷ []) (two r.base s.base (inl h.0) (inl h.1))
      (one_row (role_in (inverse_of s) r) (two s.base r.base (inl h.1) (inl h.0)))
  of_axiom (Domain r ps) h m = of_parts (basic.SomeOf r) h.0 ps h.1 (λ s c k. listed (Domain r ps) m s c k)
  of_axiom (Range r ps) h m = of_parts (basic.SomeOf (inverse_of r)) h.0 ps h.1 (λ s c k. listed (Range r ps) m s c k)
  of_axiom (Symmetric r) h m = one_row (role_in r (inverse_of r)) (two r.base r.base (inl h) (inl h))
  of_axiom (Asymmetric r) h m = one_row (never (Roles r (inverse_of r))) (two r.base r.base (inl h) (inl h))
  of_axiom (Irreflexive r) h m = one_row (never (NoLoop r)) (one r.base (inl h))

  pub of_axioms : All HasNoAuxiliary axioms → (row : Row) → Contains (rows_of axioms) row → All Is (row_bases row)
  of_axioms all row c =
      let w = Contains-flat_map axiom_rows axioms row c in
      All-contains RowIs (axiom_rows w.0) row (of_axiom w.0 (All-contains HasNoAuxiliary axioms w.0 all w.1) w.1) w.2
