use Rattle.std.proofs.Common.{◌≡◌, ◌++◌, map, take, flat_map}
use Rattle.dl_terms.specs.declared.role.Base.TheVariants.{Named}
use Rattle.dl_hier.specs.Predicates.{both_ways}
use Rattle.dl_hier.proofs.nodes.push_properties.Given as goal

abbrev pub invariant-loop-property : goal.invariant-loop-property
invariant-loop-property l = l.roles ≡ l.initial.roles ++ flat_map both_ways (map Named (take l.property-index l.properties))
