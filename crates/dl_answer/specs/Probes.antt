-- What is below a probe, and the lists of pairs of probes, for private functions.
use Rattle.std.specs.Prelude.{◌≡◌, ◌↔◌, ℕ, List, []}
use Rattle.std.specs.List.{All, Contains}
use Rattle.std.specs.List.Sorted.{IsSorted}
use Rattle.dl_terms.specs.declared.role.Basic.{Basic}
use Rattle.dl_terms.specs.Roles.{named, inverse_of}
use Rattle.dl_terms.specs.Below.{RoleBelow}
use Rattle.dl_terms.specs.declared.role.Basic.TheVariants.{Class, SomeOf}
use Rattle.dl_terms.specs.declared.axiom.Axiom.{Axiom}
use Rattle.dl_terms.specs.declared.axiom.Fact.{Fact}
use Rattle.dl_terms.specs.declared.query.Probe.{Probe}
use Rattle.dl_terms.specs.declared.query.Probe.TheVariants.{AnyOf, Joined}
use Rattle.dl_hier.specs.Predicates.{Predicates, roles}
use Rattle.dl_hier.specs.Hierarchy.{Hierarchy, IsHierarchyOf}
use Rattle.dl_hier.specs.Below.{IsBelowOneOf, AreThose}
use Rattle.dl_hier.specs.declared.below.Below.{Below}
use Rattle.dl_terms.specs.Order.{pair_cmp}
use Rattle.dl_rewrite.specs.Known.{HasRolesOf}
use Rattle.dl_scan.specs.Pairs.{IsPairBelow}
use Rattle.dl_answer.specs.Facts.{HasPredicate}
use Rattle.dl_answer.specs.OverNames.{HoldsAlike}

-- the predicates below the basic concepts or the role of a probe
abbrev pub AreBelowProbe : List Axiom → Predicates → Probe → Below → Type 0
AreBelowProbe axioms p (AnyOf basics t) below =
    AreThose p.classes (λ c. IsBelowOneOf axioms basics (Class c)) below.classes
    × AreThose p.properties (λ r. IsBelowOneOf axioms basics (SomeOf (named r))) below.forward
    × AreThose p.properties (λ r. IsBelowOneOf axioms basics (SomeOf (inverse_of (named r)))) below.backward
AreBelowProbe axioms p (Joined role t u) below =
    (below.classes ≡ []) × AreThose p.properties (λ r. RoleBelow axioms (named r) (named role)) below.forward
    × AreThose p.properties (λ r. RoleBelow axioms (inverse_of (named r)) (named role)) below.backward

-- exactly the pairs of the facts below what is asked
abbrev pub ArePairsBelow : List Fact → Below → List (ℕ × ℕ) → Type 0
ArePairsBelow facts below pairs = (p : ℕ × ℕ) → Contains pairs p ↔ IsPairBelow facts below p

-- a hierarchy is that of the axioms, with their roles, and has the predicates of the facts
pub record AreBehind (h : Hierarchy) (axioms : List Axiom) (facts : List Fact) : Type 0 where
  pub hierarchy : IsHierarchyOf h axioms
  pub has_roles : HasRolesOf axioms (roles h.predicates)
  pub known : All (HasPredicate h.predicates.classes h.predicates.properties) facts

-- a probe asks for one of these basic concepts, or for this role
abbrev pub AsksOneOf : List Basic → Probe → Type 0
AsksOneOf basics (AnyOf others t) = basics ≡ others
AsksOneOf basics (Joined role t u) = ⊥

abbrev pub AsksRole : ℕ → Probe → Type 0
AsksRole role (AnyOf basics t) = ⊥
AsksRole role (Joined other t u) = role ≡ other

-- probes that ask the same, of whatever terms
abbrev pub AskAlike : Probe → Probe → Type 0
AskAlike (AnyOf basics t) other = AsksOneOf basics other
AskAlike (Joined role t u) other = AsksRole role other

-- each probe that asks the same holds over pairs exactly where it holds over axioms and facts
abbrev pub HoldAlike : List Axiom → List Fact → Probe → List (ℕ × ℕ) → Type 0
HoldAlike axioms facts probe pairs = (q : Probe) → AskAlike probe q → HoldsAlike axioms facts q pairs

-- a sorted list over which a probe holds as over whatever axioms and facts are behind it
pub record IsListOf (Behind : List Axiom → List Fact → Type 0) (probe : Probe) (pairs : List (ℕ × ℕ))
    : Type 0 where
  pub sorted : IsSorted pair_cmp pairs
  pub alike : (axioms : List Axiom) (facts : List Fact) → Behind axioms facts → HoldAlike axioms facts probe pairs
