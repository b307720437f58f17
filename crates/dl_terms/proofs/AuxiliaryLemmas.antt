-- Which rows of the normal form have auxiliary roles, and what an auxiliary role stands for.
use Rattle.std.proofs.Common.{◌≡◌, ℕ, ◌⊎◌, Bool, List, [], ◌∷◌, ◌++◌, map, ap, inl, inr}
use Rattle.std.specs.List.{All, Contains, flat_map, zip}
use Rattle.std.proofs.lemmas.List.Elements.{All-nil, All-cons, All-head, All-tail, All-append, All-push, All-map, All-weaker, All-contains, All-contains_itself}
use Rattle.dl_terms.specs.Roles.{inverse_of, auxiliary_base, auxiliary_of}
use Rattle.dl_terms.specs.NormalForm.{Row, role_in, concept_in, never, ring, pairs, part_rows, axiom_rows}
use Rattle.dl_terms.specs.Auxiliaries.{IsNamed, RoleHasNoAuxiliary, BasicHasNoAuxiliary, PartHasNoAuxiliary, HasNoAuxiliary, RowHasNoAuxiliary, IsFilled}
use Rattle.dl_terms.specs.Renamed.{renamed_base, renamed_role, renamed_basic, renamed_part, renamed_axiom}
use Rattle.dl_terms.specs.declared.role.Base.{Base}
use Rattle.dl_terms.specs.declared.role.Base.TheVariants.{Named, Auxiliary}
use Rattle.dl_terms.specs.declared.role.Role.{Role}
use Rattle.dl_terms.specs.declared.role.Basic.{Basic}
use Rattle.dl_terms.specs.declared.role.Basic.TheVariants as basic
use Rattle.dl_terms.specs.declared.role.Negative.TheVariants.{Basics, Roles, NoLoop}
use Rattle.dl_terms.specs.declared.axiom.Part.{Part}
use Rattle.dl_terms.specs.declared.axiom.Part.TheVariants as part
use Rattle.dl_terms.specs.declared.axiom.Axiom.{Axiom}
use Rattle.dl_terms.specs.declared.axiom.Axiom.TheVariants.{SubClass, EquivalentClasses, DisjointClasses, SubRole, EquivalentRoles, DisjointRoles, InverseRoles, Domain, Range, Symmetric, Asymmetric, Irreflexive}

-- ---- lists of pairs

All-flat_map : {A B : Type 0} (P : B → Type 0) (Q : A → Type 0) (f : A → List B) → ((x : A) → Q x → All P (f x)) → (xs : List A) → All Q xs
    → All P (flat_map f xs)
All-flat_map P Q f each [] all = All-nil P
All-flat_map P Q f each (x ∷ xs) all =
    All-append P (f x) (flat_map f xs) (each x (All-head Q x xs all)) (All-flat_map P Q f each xs (All-tail Q x xs all))

-- both parts of a pair have a property
abbrev Both : {A : Type 0} → (A → Type 0) → A × A → Type 0
Both Q p = Q p.0 × Q p.1

All-zip : {A : Type 0} (Q : A → Type 0) (xs ys : List A) → All Q xs → All Q ys → All (Both Q) (zip xs ys)
All-zip Q [] ys all also = All-nil (Both Q)
All-zip Q (x ∷ xs) [] all also = All-nil (Both Q)
All-zip Q (x ∷ xs) (y ∷ ys) all also =
    All-cons (Both Q) (x, y) (zip xs ys) (All-head Q x xs all, All-head Q y ys also) (All-zip Q xs ys (All-tail Q x xs all) (All-tail Q y ys also))

All-ring : {A : Type 0} (Q : A → Type 0) (xs : List A) → All Q xs → All (Both Q) (ring xs)
All-ring Q [] all = All-nil (Both Q)
All-ring Q (x ∷ xs) all = All-zip Q (x ∷ xs) (xs ++ x ∷ []) all (All-push Q xs x (All-tail Q x xs all) (All-head Q x xs all))

All-pairs : {A : Type 0} (Q : A → Type 0) (xs : List A) → All Q xs → All (Both Q) (pairs xs)
All-pairs Q [] all = All-nil (Both Q)
All-pairs Q (x ∷ xs) all =
    let later = All-tail Q x xs all in
    All-append (Both Q) (map (λ y. (x, y)) xs) (pairs xs)
    (All-map (Both Q) (λ y. (x, y)) xs (All-weaker Q (λ y. Both Q (x, y)) (λ y q. (All-head Q x xs all, q)) xs later)) (All-pairs Q xs later)

-- ---- rows

-- a row has no auxiliary role, or says "some r in C"
abbrev IsAllowed : Row → Type 0
IsAllowed row = RowHasNoAuxiliary row ⊎ IsFilled row

one_row : (row : Row) → RowHasNoAuxiliary row → All IsAllowed (row ∷ [])
one_row row h = All-cons IsAllowed row [] (inl h) (All-nil IsAllowed)

part_rows-allowed : (b : Basic) → BasicHasNoAuxiliary b → (p : Part) → PartHasNoAuxiliary p → All IsAllowed (part_rows b p)
part_rows-allowed b h part.Thing k = All-nil IsAllowed
part_rows-allowed b h (part.Class c) k = one_row (concept_in b (basic.Class c)) (h, tt)
part_rows-allowed b h (part.Any r) k = one_row (concept_in b (basic.SomeOf r)) (h, k)
part_rows-allowed b h (part.Fill r c) k =
    let rows = part_rows b (part.Fill r c) in
    All-weaker (Contains rows) IsAllowed
    (λ row here. inr (record { basic = b; role = r; class = c; basic_named = h; role_named = k; is_row = here })) rows (All-contains_itself rows)
part_rows-allowed b h (part.Not d) k = one_row (never (Basics b d)) (h, k)

each_allowed : {A : Type 0} (Q : A → Type 0) (row : A × A → Row) → ((p : A × A) → Both Q p → RowHasNoAuxiliary (row p)) → (ps : List (A × A))
    → All (Both Q) ps → All IsAllowed (map row ps)
each_allowed Q row each ps all =
    All-map IsAllowed row ps (All-weaker (Both Q) (λ p. IsAllowed (row p)) (λ p q. inl (each p q)) ps all)

parts_allowed : (b : Basic) → BasicHasNoAuxiliary b → (ps : List Part) → All PartHasNoAuxiliary ps → All IsAllowed (flat_map (part_rows b) ps)
parts_allowed b h = All-flat_map IsAllowed PartHasNoAuxiliary (part_rows b) (part_rows-allowed b h)

axiom_rows-allowed : (a : Axiom) → HasNoAuxiliary a → All IsAllowed (axiom_rows a)
axiom_rows-allowed (SubClass b ps) h = parts_allowed b h.0 ps h.1
axiom_rows-allowed (EquivalentClasses bs) h =
    each_allowed BasicHasNoAuxiliary (λ p. concept_in p.0 p.1) (λ p q. q) (ring bs) (All-ring BasicHasNoAuxiliary bs h)
axiom_rows-allowed (DisjointClasses bs) h =
    each_allowed BasicHasNoAuxiliary (λ p. never (Basics p.0 p.1)) (λ p q. q) (pairs bs) (All-pairs BasicHasNoAuxiliary bs h)
axiom_rows-allowed (SubRole r s) h = one_row (role_in r s) h
axiom_rows-allowed (EquivalentRoles rs) h =
    each_allowed RoleHasNoAuxiliary (λ p. role_in p.0 p.1) (λ p q. q) (ring rs) (All-ring RoleHasNoAuxiliary rs h)
axiom_rows-allowed (DisjointRoles rs) h =
    each_allowed RoleHasNoAuxiliary (λ p. never (Roles p.0 p.1)) (λ p q. q) (pairs rs) (All-pairs RoleHasNoAuxiliary rs h)
axiom_rows-allowed (InverseRoles r s) h =
    All-cons IsAllowed (role_in r (inverse_of s)) (role_in (inverse_of s) r ∷ []) (inl h) (one_row (role_in (inverse_of s) r) (h.1, h.0))
axiom_rows-allowed (Domain r ps) h = parts_allowed (basic.SomeOf r) h.0 ps h.1
axiom_rows-allowed (Range r ps) h = parts_allowed (basic.SomeOf (inverse_of r)) h.0 ps h.1
axiom_rows-allowed (Symmetric r) h = one_row (role_in r (inverse_of r)) (h, h)
axiom_rows-allowed (Asymmetric r) h = one_row (never (Roles r (inverse_of r))) (h, h)
axiom_rows-allowed (Irreflexive r) h = one_row (never (NoLoop r)) h

pub row_allowed : (a : Axiom) (row : Row) → HasNoAuxiliary a → Contains (axiom_rows a) row → RowHasNoAuxiliary row ⊎ IsFilled row
row_allowed a row h c = All-contains IsAllowed (axiom_rows a) row (axiom_rows-allowed a h) c

-- ---- one auxiliary role for each role and class

auxiliary_base-injective : (a b : Base) (i j : Bool) (c d : ℕ) → IsNamed a → IsNamed b → auxiliary_base a i c ≡ auxiliary_base b j d
    → (a ≡ b) × (i ≡ j) × (c ≡ d)
auxiliary_base-injective (Named p) (Named q) i j c d h k e = (cc, cc, cc)
auxiliary_base-injective (Named p) (Auxiliary q j' d') i j c d h k e = absurd k
auxiliary_base-injective (Auxiliary p i' c') b i j c d h k e = absurd h

pub auxiliary_of-injective : (r s : Role) (c d : ℕ) → RoleHasNoAuxiliary r → RoleHasNoAuxiliary s → auxiliary_of r c ≡ auxiliary_of s d → (r ≡ s) × (c ≡ d)
auxiliary_of-injective r s c d h k e =
    let same = auxiliary_base-injective r.base s.base r.inverse s.inverse c d h k (ap (λ t. t.base) e) in
    (λ i. record { base = same.0 i; inverse = same.1 i }, same.2)

-- ---- other names

module _ (to : ℕ → ℕ) where
  renamed_base-named : (b : Base) → IsNamed b → IsNamed (renamed_base to b)
  renamed_base-named (Named p) h = tt
  renamed_base-named (Auxiliary p i c) h = absurd h

  renamed_role-named : (r : Role) → RoleHasNoAuxiliary r → RoleHasNoAuxiliary (renamed_role to r)
  renamed_role-named r h = renamed_base-named r.base h

  renamed_basic-named : (b : Basic) → BasicHasNoAuxiliary b → BasicHasNoAuxiliary (renamed_basic to b)
  renamed_basic-named (basic.Class c) h = tt
  renamed_basic-named (basic.SomeOf r) h = renamed_role-named r h

  renamed_part-named : (p : Part) → PartHasNoAuxiliary p → PartHasNoAuxiliary (renamed_part to p)
  renamed_part-named part.Thing h = tt
  renamed_part-named (part.Class c) h = tt
  renamed_part-named (part.Any r) h = renamed_role-named r h
  renamed_part-named (part.Fill r c) h = renamed_role-named r h
  renamed_part-named (part.Not b) h = renamed_basic-named b h

  each_named : {A : Type 0} (Q : A → Type 0) (renamed : A → A) → ((x : A) → Q x → Q (renamed x)) → (xs : List A) → All Q xs → All Q (map renamed xs)
  each_named Q renamed each xs all = All-map Q renamed xs (All-weaker Q (λ x. Q (renamed x)) each xs all)

  pub renamed_axiom-named : (a : Axiom) → HasNoAuxiliary a → HasNoAuxiliary (renamed_axiom to a)
  renamed_axiom-named (SubClass b ps) h =
      (renamed_basic-named b h.0, each_named PartHasNoAuxiliary (renamed_part to) renamed_part-named ps h.1)
  renamed_axiom-named (EquivalentClasses bs) h = each_named BasicHasNoAuxiliary (renamed_basic to) renamed_basic-named bs h
  renamed_axiom-named (DisjointClasses bs) h = each_named BasicHasNoAuxiliary (renamed_basic to) renamed_basic-named bs h
  renamed_axiom-named (SubRole r s) h = (renamed_role-named r h.0, renamed_role-named s h.1)
  renamed_axiom-named (EquivalentRoles rs) h = each_named RoleHasNoAuxiliary (renamed_role to) renamed_role-named rs h
  renamed_axiom-named (DisjointRoles rs) h = each_named RoleHasNoAuxiliary (renamed_role to) renamed_role-named rs h
  renamed_axiom-named (InverseRoles r s) h = (renamed_role-named r h.0, renamed_role-named s h.1)
  renamed_axiom-named (Domain r ps) h =
      (renamed_role-named r h.0, each_named PartHasNoAuxiliary (renamed_part to) renamed_part-named ps h.1)
  renamed_axiom-named (Range r ps) h =
      (renamed_role-named r h.0, each_named PartHasNoAuxiliary (renamed_part to) renamed_part-named ps h.1)
  renamed_axiom-named (Symmetric r) h = renamed_role-named r h
  renamed_axiom-named (Asymmetric r) h = renamed_role-named r h
  renamed_axiom-named (Irreflexive r) h = renamed_role-named r h
