use Rattle.std.proofs.Common.{◌≡◌, ◌++◌, take, flat_map}
use Rattle.dl_hier.specs.Rows.{basic_auxiliaries}
use Rattle.dl_hier.proofs.auxiliaries.push_of_concepts.Given as goal

abbrev pub invariant-loop-sub : goal.invariant-loop-sub
invariant-loop-sub l = l.auxiliaries ≡ l.initial.auxiliaries ++ flat_map (λ p. basic_auxiliaries p.0 ++ basic_auxiliaries p.1) (take l.sub-index l.rows)
