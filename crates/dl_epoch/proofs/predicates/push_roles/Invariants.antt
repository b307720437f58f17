use Rattle.std.proofs.Common.{◌≡◌, ◌++◌, take}
use Rattle.std.specs.List.{flat_map}
use Rattle.dl_epoch.specs.Predicates.{role_properties}
use Rattle.dl_epoch.proofs.predicates.push_roles.Given as goal

abbrev pub invariant-loop-role : goal.invariant-loop-role
invariant-loop-role l =
    (l.signature.classes ≡ l.fn.signature.classes)
    × (l.signature.roles ≡ l.fn.signature.roles ++ flat_map role_properties (take l.role-index l.roles))
