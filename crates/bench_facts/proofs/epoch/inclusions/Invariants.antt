use Rattle.std.specs.List.{All}
use Rattle.dl_terms.specs.Auxiliaries.{HasNoAuxiliary}
use Rattle.dl_epoch.specs.Known.{IsAxiomIn}
use Rattle.bench_facts.proofs.epoch.inclusions.Given as goal

abbrev pub invariant-loop-i : goal.invariant-loop-i
invariant-loop-i l = record { no_auxiliary : All HasNoAuxiliary l.axioms; known : All (IsAxiomIn l.signature) l.axioms }
