use Rattle.std.proofs.Common.{◌≡◌, ◌++◌, take}
use Rattle.std.specs.List.{flat_map}
use Rattle.dl_edits.specs.Names.{added_classes, added_properties}
use Rattle.dl_edits.proofs.signature_edits.push_edits.Given as goal

abbrev pub invariant-loop-edit : goal.invariant-loop-edit
invariant-loop-edit l =
    (l.names.classes ≡ l.fn.names.classes ++ flat_map added_classes (take l.edit-index l.edits))
    × (l.names.roles ≡ l.fn.names.roles ++ flat_map added_properties (take l.edit-index l.edits))
