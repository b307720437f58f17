use Rattle.std.proofs.Common.{◌≡◌, ◌++◌, take}
use Rattle.std.specs.List.{flat_map}
use Rattle.dl_epoch.specs.Predicates.{axiom_classes, axiom_properties}
use Rattle.dl_run.proofs.signature.push_axioms.Given as goal

abbrev pub invariant-loop-stated : goal.invariant-loop-stated
invariant-loop-stated l =
    (l.signature.classes ≡ l.fn.signature.classes ++ flat_map axiom_classes (take l.stated-index l.axioms))
    × (l.signature.roles ≡ l.fn.signature.roles ++ flat_map axiom_properties (take l.stated-index l.axioms))
