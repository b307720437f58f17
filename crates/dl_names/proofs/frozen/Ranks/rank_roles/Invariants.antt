use Rattle.std.proofs.Common.{◌≡◌, ◌++◌, map, take, drop, slice_index}
use Rattle.dl_terms.specs.Renamed.{renamed_role}
use Rattle.dl_names.proofs.frozen.Ranks.rank_roles.Given as goal

abbrev pub invariant-loop-role : goal.invariant-loop-role
invariant-loop-role l = l.roles ≡ map (renamed_role (slice_index l.self)) (take l.role-index l.fn.roles) ++ drop l.role-index l.fn.roles
