use Rattle.std.proofs.Common.{◌≡◌, ◌++◌, take}
use Rattle.std.specs.List.{flat_map}
use Rattle.dl_epoch.specs.Predicates.{basic_classes, basic_properties}
use Rattle.dl_epoch.proofs.predicates.push_basics.Given as goal

abbrev pub invariant-loop-basic : goal.invariant-loop-basic
invariant-loop-basic l =
    (l.signature.classes ≡ l.fn.signature.classes ++ flat_map basic_classes (take l.basic-index l.basics))
    × (l.signature.roles ≡ l.fn.signature.roles ++ flat_map basic_properties (take l.basic-index l.basics))
