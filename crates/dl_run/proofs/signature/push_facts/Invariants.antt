use Rattle.std.proofs.Common.{◌≡◌, ◌++◌, take}
use Rattle.std.specs.List.{flat_map}
use Rattle.dl_epoch.specs.Predicates.{fact_classes, fact_properties}
use Rattle.dl_run.proofs.signature.push_facts.Given as goal

abbrev pub invariant-loop-fact : goal.invariant-loop-fact
invariant-loop-fact l =
    (l.signature.classes ≡ l.fn.signature.classes ++ flat_map fact_classes (take l.fact-index l.facts))
    × (l.signature.roles ≡ l.fn.signature.roles ++ flat_map fact_properties (take l.fact-index l.facts))
