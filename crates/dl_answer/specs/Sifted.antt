-- Lists of two probes of one term, of which one has only what is needed beside the other.
use Rattle.std.specs.Prelude.{◌≡◌, ◌↔◌, ℕ, ◌<◌, ◌%◌, Bool, true, List, [], ◌∷◌, length}
use Rattle.std.specs.List.{Contains}
use Rattle.std.specs.List.Sorted.{IsSorted}
use Rattle.dl_terms.specs.declared.role.Basic.{Basic}
use Rattle.dl_terms.specs.declared.axiom.Axiom.{Axiom}
use Rattle.dl_terms.specs.declared.axiom.Fact.{Fact}
use Rattle.dl_terms.specs.declared.query.Term.{Term}
use Rattle.dl_terms.specs.declared.query.Probe.{Probe}
use Rattle.dl_terms.specs.declared.query.Probe.TheVariants.{AnyOf, Joined}
use Rattle.dl_hier.specs.declared.below.Below.{Below}
use Rattle.dl_join.specs.Disjuncts as join
use Rattle.dl_join.specs.Disjuncts.{name_of, AllHold, AreSorted}
use Rattle.dl_terms.specs.Order.{pair_cmp}
use Rattle.dl_scan.specs.Pairs.{IsPairBelow}
use Rattle.dl_scan.specs.Sieves.{passes_first}
use Rattle.dl_core.specs.Changes.{first_end}
use Rattle.dl_rewrite.specs.OverNames.{ProbeHolds}

-- a probe asks for basic concepts at a term
pub record IsAt (t : Term) (probe : Probe) : Type 0 where
  pub basics : List Basic
  pub is : probe ≡ AnyOf basics t

-- two probes that ask for basic concepts at one term
pub record AreOfOneTerm (probes : List Probe) : Type 0 where
  pub ones : List Basic
  pub others : List Basic
  pub term : Term
  pub are : probes ≡ AnyOf ones term ∷ AnyOf others term ∷ []

-- exactly the pairs of the facts below what is asked whose first name passes a sieve
abbrev pub ArePairsSifted : List Fact → Below → List Bool → List (ℕ × ℕ) → Type 0
ArePairsSifted facts below marks pairs =
    (p : ℕ × ℕ) → Contains pairs p ↔ (IsPairBelow facts below p × (passes_first marks p ≡ true))

-- such pairs of those facts whose first ends are those of the first of some shards
pub record ArePairsTaken (shards count : ℕ) (facts : List Fact) (below : Below) (marks : List Bool)
    (pairs : List (ℕ × ℕ)) : Type 0 where
  pub taken : List Fact
  pub are : (f : Fact) → Contains taken f ↔ (Contains facts f × (first_end f % shards < count))
  pub exact : ArePairsSifted taken below marks pairs

-- a name is first in a pair
abbrev pub IsFirst : List (ℕ × ℕ) → ℕ → Type 0
IsFirst pairs name = (second : ℕ) × Contains pairs (name, second)

-- the term of which the first names of a probe's pairs are
abbrev pub first_term : Probe → Term
first_term (AnyOf basics t) = t
first_term (Joined role t u) = t

-- a probe holds over pairs only where it holds over axioms and facts, and there where its first name is first in one of
-- some other pairs
pub record HoldsAmong (axioms : List Axiom) (facts : List Fact) (probe : Probe) (others pairs : List (ℕ × ℕ))
    : Type 0 where
  pub sound : (names : ℕ → ℕ) → join.ProbeHolds names pairs probe → ProbeHolds axioms facts names probe
  pub complete : (names : ℕ → ℕ) → IsFirst others (name_of names (first_term probe))
      → ProbeHolds axioms facts names probe → join.ProbeHolds names pairs probe

-- a sorted list over which a probe does, by whatever axioms and facts are behind it
pub record IsListAmong (Behind : List Axiom → List Fact → Type 0) (probe : Probe) (others pairs : List (ℕ × ℕ))
    : Type 0 where
  pub sorted : IsSorted pair_cmp pairs
  pub among : (axioms : List Axiom) (facts : List Fact) → Behind axioms facts
      → HoldsAmong axioms facts probe others pairs

-- all probes hold together over lists exactly where all hold over axioms and facts
abbrev pub HoldTogether : List Axiom → List Fact → List Probe → List (List (ℕ × ℕ)) → Type 0
HoldTogether axioms facts probes lists =
    (names : ℕ → ℕ) → AllHold names probes lists ↔ ((p : Probe) → Contains probes p → ProbeHolds axioms facts names p)

-- one sorted list for each probe, over which all do, by whatever axioms and facts are behind them
pub record AreTogether (Behind : List Axiom → List Fact → Type 0) (probes : List Probe)
    (lists : List (List (ℕ × ℕ))) : Type 0 where
  pub count : length lists ≡ length probes
  pub sorted : AreSorted lists
  pub together : (axioms : List Axiom) (facts : List Fact) → Behind axioms facts
      → HoldTogether axioms facts probes lists
