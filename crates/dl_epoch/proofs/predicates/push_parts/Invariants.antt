use Rattle.std.proofs.Common.{◌≡◌, ◌++◌, take}
use Rattle.std.specs.List.{flat_map}
use Rattle.dl_epoch.specs.Predicates.{part_classes, part_properties}
use Rattle.dl_epoch.proofs.predicates.push_parts.Given as goal

abbrev pub invariant-loop-part : goal.invariant-loop-part
invariant-loop-part l =
    (l.signature.classes ≡ l.fn.signature.classes ++ flat_map part_classes (take l.part-index l.parts))
    × (l.signature.roles ≡ l.fn.signature.roles ++ flat_map part_properties (take l.part-index l.parts))
