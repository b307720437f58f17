-- Each role of a word is one of the hierarchy's.
use Rattle.std.proofs.Common.{ℕ, List, map, sym, subst}
use Rattle.std.specs.List.{Contains}
use Rattle.dl_terms.specs.Roles.{named, inverse_of}
use Rattle.dl_terms.specs.NormalForm.{concept_inclusions}
use Rattle.dl_terms.specs.Below.{RoleStep, RoleBelow, ConceptStep, ConceptBelow}
use Rattle.dl_terms.specs.Structure.{HoldsAtName, by_class, by_source, by_target}
use Rattle.dl_terms.specs.declared.role.Role.{Role}
use Rattle.dl_terms.specs.declared.role.Basic.{Basic}
use Rattle.dl_terms.specs.declared.role.Basic.TheVariants.{Class, SomeOf}
use Rattle.dl_terms.specs.declared.axiom.Axiom.{Axiom}
use Rattle.dl_terms.specs.declared.axiom.Fact.{Fact}
use Rattle.dl_terms.specs.declared.axiom.Fact.TheVariants.{Link}
use Rattle.dl_terms.specs.declared.axiom.Signature.{Signature}
use Rattle.dl_terms.specs.declared.role.Base.TheVariants.{Named}
use Rattle.dl_terms.specs.declared.role.Normal.{Normal}
use Rattle.std.proofs.lemmas.List.Elements.{Contains-append_left}
use Rattle.dl_terms.proofs.MemberLemmas.{All-Contains}
use Rattle.dl_hier.specs.Predicates as hierarchy
use Rattle.dl_hier.specs.Predicates.{Predicates, basics}
use Rattle.dl_hier.specs.Rows.{HasInclusions, HasNames, ArePredicatesOf}
use Rattle.dl_hier.proofs.MemberLemmas.{Contains-map_of}
use Rattle.dl_hier.proofs.PredicateLemmas.{base-role, role-base, some-known}
use Rattle.dl_hier.proofs.NameLemmas.{role_rows_known, concept_rows_known}
use Rattle.dl_terms.proofs.BelowLemmas.{Chain-keeps, inverse_of-inverse_of}
use Rattle.dl_tree.specs.Below.{MayFollow}
use Rattle.dl_rewrite.specs.Known.{HasRolesOf, LinksAreKnown}

module _ (axioms : List Axiom) (roles : List Role) (h : HasRolesOf axioms roles) where
  KnownBasic : Basic → Type 0
  KnownBasic (Class c) = Unit {0}
  KnownBasic (SomeOf r) = Contains roles r

  role_step : (r s : Role) → RoleStep axioms r s → Contains roles r → Contains roles s
  role_step r s (RoleStep.inclusion c) k = h.of_roles r s c
  role_step r s (RoleStep.inverted c) k =
      subst (Contains roles) (inverse_of-inverse_of s) (h.inverses (inverse_of s) (h.of_roles (inverse_of r) (inverse_of s) c))

  known_above : {r s : Role} → RoleBelow axioms r s → Contains roles r → Contains roles s
  known_above c k = Chain-keeps (Contains roles) role_step c k

  included : (b c : Basic) → Contains (concept_inclusions axioms) (b, c) → KnownBasic c
  unfolding KnownBasic
  included b (Class c) k = tt
  included b (SomeOf s) k = h.of_concepts b s k

  concept_step : (b c : Basic) → ConceptStep axioms b c → KnownBasic b → KnownBasic c
  unfolding KnownBasic
  concept_step b c (ConceptStep.inclusion k) known = included b c k
  concept_step b c (ConceptStep.some_of k) known = known_above k known

  basic_above : {b c : Basic} → ConceptBelow axioms b c → KnownBasic b → KnownBasic c
  basic_above d known = Chain-keeps KnownBasic concept_step d known

  -- what may follow a role of the hierarchy is one
  pub follower_known : (t u : Role) → MayFollow axioms t u → Contains roles t → Contains roles u
  unfolding KnownBasic
  follower_known t u d k = basic_above d (h.inverses t k)

  -- a role by which a name has a neighbour is one
  pub role_known : (facts : List Fact) → LinksAreKnown facts roles → (t : Role) (a : ℕ) → HoldsAtName axioms facts (SomeOf t) a → Contains roles t
  unfolding KnownBasic
  role_known facts links t a (by_class c d) = basic_above d tt
  role_known facts links t a (by_source {p = p} {o = o} c d) = basic_above d (links p a o c)
  role_known facts links t a (by_target {p = p} {o = o} c d) = basic_above d (h.inverses (named p) (links p o a c))

-- ---- the hierarchy of a normal form

module _ (axioms : List Axiom) (signature : Signature) (normal : Normal) (p : Predicates) (has : HasInclusions axioms normal)
    (names : HasNames signature normal) (are : ArePredicatesOf signature normal p) where
  -- it has the roles of the axioms
  pub roles_had : HasRolesOf axioms (hierarchy.roles p)
  roles_had = record {
    inverses = λ r c. base-role p (inverse_of r) (role-base p r c);
    of_roles = λ r s c.
        (All-Contains (λ q. Contains (hierarchy.roles p) q.0 × Contains (hierarchy.roles p) q.1) normal.roles (r, s)
        (role_rows_known signature normal p are names) (subst (λ l. Contains {X = Role × Role} l (r, s)) (sym has.roles) c)).1;
    of_concepts = λ b s c.
        some-known p s
        (All-Contains (λ q. Contains (basics p) q.0 × Contains (basics p) q.1) normal.concepts (b, SomeOf s)
        (concept_rows_known signature normal p are names) (subst (λ l. Contains {X = Basic × Basic} l (b, SomeOf s)) (sym has.concepts) c)).1;
  }

  -- and those of the signature
  pub links_known : (facts : List Fact) → ((q a b : ℕ) → Contains facts (Link q a b) → Contains signature.roles q)
      → LinksAreKnown facts (hierarchy.roles p)
  links_known facts known q a b c =
      base-role p (named q) (Contains-append_left (map Named p.properties) p.auxiliaries (Named q)
      (Contains-map_of Named p.properties q ((are.properties.members q).1 (known q a b c))))
