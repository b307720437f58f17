-- Probes over lists of pairs, beside the same probes over axioms and facts.
use Rattle.std.specs.Prelude.{ℕ, ◌<◌, ◌↔◌, List}
use Rattle.std.specs.List.{Contains}
use Rattle.dl_terms.specs.declared.axiom.Axiom.{Axiom}
use Rattle.dl_terms.specs.declared.axiom.Fact.{Fact}
use Rattle.dl_terms.specs.declared.query.Probe.{Probe}
use Rattle.dl_join.specs.Disjuncts as join
use Rattle.dl_join.specs.Disjuncts.{HasVariable}
use Rattle.dl_rewrite.specs.OverNames.{ProbeHolds}

-- a probe holds over pairs exactly where it holds over the axioms and facts
abbrev pub HoldsAlike : List Axiom → List Fact → Probe → List (ℕ × ℕ) → Type 0
HoldsAlike axioms facts probe pairs =
    (names : ℕ → ℕ) → join.ProbeHolds names pairs probe ↔ ProbeHolds axioms facts names probe

-- the variables of the probes are below a bound
abbrev pub AreBelow : ℕ → List Probe → Type 0
AreBelow n probes = (v : ℕ) (p : Probe) → Contains probes p → HasVariable v p → v < n
