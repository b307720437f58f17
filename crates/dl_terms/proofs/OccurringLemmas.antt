-- The names of a renamed term are its names, renamed.
use Rattle.std.proofs.Common.{◌≡◌, ℕ, List, [], ◌∷◌, ◌++◌, map, refl, sym, ap, ap₂, ◌∙◌}
use Rattle.std.specs.List.{flat_map}
use Rattle.std.proofs.lemmas.List.{map-append}
use Rattle.dl_terms.specs.Renamed.{renamed_base, renamed_role, renamed_basic, renamed_part, renamed_axiom, renamed_fact, renamed_term, renamed_atom, renamed_query}
use Rattle.dl_terms.specs.Occurring.{base_names, role_names, basic_names, part_names, axiom_names, fact_names, term_names, atom_names, query_names}
use Rattle.dl_terms.specs.declared.role.Base.{Base}
use Rattle.dl_terms.specs.declared.role.Base.TheVariants.{Named, Auxiliary}
use Rattle.dl_terms.specs.declared.role.Role.{Role}
use Rattle.dl_terms.specs.declared.role.Basic.{Basic}
use Rattle.dl_terms.specs.declared.role.Basic.TheVariants as basic
use Rattle.dl_terms.specs.declared.axiom.Part.{Part}
use Rattle.dl_terms.specs.declared.axiom.Part.TheVariants as part
use Rattle.dl_terms.specs.declared.axiom.Axiom.{Axiom}
use Rattle.dl_terms.specs.declared.axiom.Axiom.TheVariants.{SubClass, EquivalentClasses, DisjointClasses, SubRole, EquivalentRoles, DisjointRoles, InverseRoles, Domain, Range, Symmetric, Asymmetric, Irreflexive}
use Rattle.dl_terms.specs.declared.axiom.Fact.{Fact}
use Rattle.dl_terms.specs.declared.axiom.Fact.TheVariants as fact
use Rattle.dl_terms.specs.declared.query.Term.{Term}
use Rattle.dl_terms.specs.declared.query.Term.TheVariants.{Var, Name}
use Rattle.dl_terms.specs.declared.query.Atom.{Atom}
use Rattle.dl_terms.specs.declared.query.Atom.TheVariants as atom
use Rattle.dl_terms.specs.declared.query.Query.{Query}

module _ (to : ℕ → ℕ) where
  -- of two lists after one another, and of all items of a list
  two : (xs ys : List ℕ) {xs' ys' : List ℕ} → xs' ≡ map to xs → ys' ≡ map to ys → xs' ++ ys' ≡ map to (xs ++ ys)
  two xs ys e f = ap₂ (λ l m. l ++ m) e f ∙ sym (map-append to xs ys)

  each : {A : Type 0} (names : A → List ℕ) (renamed : A → A) → ((x : A) → names (renamed x) ≡ map to (names x)) → (xs : List A)
      → flat_map names (map renamed xs) ≡ map to (flat_map names xs)
  each names renamed one [] = refl
  each names renamed one (x ∷ xs) = two (names x) (flat_map names xs) (one x) (each names renamed one xs)

  bases : (b : Base) → base_names (renamed_base to b) ≡ map to (base_names b)
  bases (Named p) = refl
  bases (Auxiliary p i c) = refl

  roles : (r : Role) → role_names (renamed_role to r) ≡ map to (role_names r)
  roles r = bases r.base

  basics : (b : Basic) → basic_names (renamed_basic to b) ≡ map to (basic_names b)
  basics (basic.Class c) = refl
  basics (basic.SomeOf r) = roles r

  parts : (p : Part) → part_names (renamed_part to p) ≡ map to (part_names p)
  parts part.Thing = refl
  parts (part.Class c) = refl
  parts (part.Any r) = roles r
  parts (part.Fill r c) = two (role_names r) (c ∷ []) (roles r) refl
  parts (part.Not b) = basics b

  all_roles : (rs : List Role) → flat_map role_names (map (renamed_role to) rs) ≡ map to (flat_map role_names rs)
  all_roles = each role_names (renamed_role to) roles

  all_basics : (bs : List Basic) → flat_map basic_names (map (renamed_basic to) bs) ≡ map to (flat_map basic_names bs)
  all_basics = each basic_names (renamed_basic to) basics

  all_parts : (ps : List Part) → flat_map part_names (map (renamed_part to) ps) ≡ map to (flat_map part_names ps)
  all_parts = each part_names (renamed_part to) parts

  pub axiom_names-renamed : (a : Axiom) → axiom_names (renamed_axiom to a) ≡ map to (axiom_names a)
  axiom_names-renamed (SubClass b ps) = two (basic_names b) (flat_map part_names ps) (basics b) (all_parts ps)
  axiom_names-renamed (EquivalentClasses bs) = all_basics bs
  axiom_names-renamed (DisjointClasses bs) = all_basics bs
  axiom_names-renamed (SubRole r s) = two (role_names r) (role_names s) (roles r) (roles s)
  axiom_names-renamed (EquivalentRoles rs) = all_roles rs
  axiom_names-renamed (DisjointRoles rs) = all_roles rs
  axiom_names-renamed (InverseRoles r s) = two (role_names r) (role_names s) (roles r) (roles s)
  axiom_names-renamed (Domain r ps) = two (role_names r) (flat_map part_names ps) (roles r) (all_parts ps)
  axiom_names-renamed (Range r ps) = two (role_names r) (flat_map part_names ps) (roles r) (all_parts ps)
  axiom_names-renamed (Symmetric r) = roles r
  axiom_names-renamed (Asymmetric r) = roles r
  axiom_names-renamed (Irreflexive r) = roles r

  pub fact_names-renamed : (f : Fact) → fact_names (renamed_fact to f) ≡ map to (fact_names f)
  fact_names-renamed (fact.Is c a) = refl
  fact_names-renamed (fact.Link p a b) = refl

  terms : (t : Term) → term_names (renamed_term to t) ≡ map to (term_names t)
  terms (Var v) = refl
  terms (Name a) = refl

  atoms : (a : Atom) → atom_names (renamed_atom to a) ≡ map to (atom_names a)
  atoms (atom.Is c t) = ap (λ l. to c ∷ l) (terms t)
  atoms (atom.Link p t u) = ap (λ l. to p ∷ l) (two (term_names t) (term_names u) (terms t) (terms u))

  pub query_names-renamed : (q : Query) → query_names (renamed_query to q) ≡ map to (query_names q)
  query_names-renamed q = each atom_names (renamed_atom to) atoms q.atoms
