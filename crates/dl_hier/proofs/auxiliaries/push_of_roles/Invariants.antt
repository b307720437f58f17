use Rattle.std.proofs.Common.{◌≡◌, ◌++◌, take, flat_map}
use Rattle.dl_hier.specs.Rows.{role_auxiliaries}
use Rattle.dl_hier.proofs.auxiliaries.push_of_roles.Given as goal

abbrev pub invariant-loop-sub : goal.invariant-loop-sub
invariant-loop-sub l = l.auxiliaries ≡ l.initial.auxiliaries ++ flat_map (λ p. role_auxiliaries p.0 ++ role_auxiliaries p.1) (take l.sub-index l.rows)
