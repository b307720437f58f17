-- Disjuncts over names: what a query, or a rewriting of one, is evaluated to. Their two kinds of probe are this
-- project's own.
use Rattle.std.specs.Prelude.{◌≡◌, ℕ, List, map}
use Rattle.std.specs.List.{Contains}
use Rattle.dl_terms.specs.Roles.{named}
use Rattle.dl_terms.specs.Structure.{HoldsAtName, Joins, individual}
use Rattle.dl_terms.specs.declared.role.Basic.{Basic}
use Rattle.dl_terms.specs.declared.axiom.Axiom.{Axiom}
use Rattle.dl_terms.specs.declared.axiom.Fact.{Fact}
use Rattle.dl_terms.specs.declared.query.Probe.{Probe}
use Rattle.dl_terms.specs.declared.query.Probe.TheVariants.{AnyOf, Joined}
use Rattle.dl_terms.specs.declared.query.Disjunct.{Disjunct}
use Rattle.dl_join.specs.Disjuncts.{name_of}

-- one of some basic concepts holds at a name
pub record HoldsOneOf (axioms : List Axiom) (facts : List Fact) (basics : List Basic) (a : ℕ) : Type 0 where
  pub basic : Basic
  pub is_one : Contains basics basic
  pub holds : HoldsAtName axioms facts basic a

-- a probe holds of names: one of its concepts holds, or its role joins the two, which facts alone can make it do
abbrev pub ProbeHolds : List Axiom → List Fact → (ℕ → ℕ) → Probe → Type 0
ProbeHolds axioms facts names (AnyOf basics t) = HoldsOneOf axioms facts basics (name_of names t)
ProbeHolds axioms facts names (Joined p t u) =
    Joins axioms facts (named p) (individual (name_of names t)) (individual (name_of names u))

-- a disjunct has a tuple: names for its variables give the tuple to its head, and each probe holds
pub record HasOverNames (axioms : List Axiom) (facts : List Fact) (d : Disjunct) (tuple : List ℕ) : Type 0 where
  pub names : ℕ → ℕ
  pub is_head : map (name_of names) d.head ≡ tuple
  pub probes : (p : Probe) → Contains d.probes p → ProbeHolds axioms facts names p

-- some disjunct has the tuple
pub record SomeHasOverNames (axioms : List Axiom) (facts : List Fact) (disjuncts : List Disjunct) (tuple : List ℕ)
    : Type 0 where
  pub disjunct : Disjunct
  pub is_one : Contains disjuncts disjunct
  pub has : HasOverNames axioms facts disjunct tuple
