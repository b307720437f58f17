use Rattle.std.proofs.Common.{length, arith}
use Rattle.dl_terms.specs.Occurring.{part_names}
use Rattle.dl_text.proofs.TextLemmas.{below_each}
use Rattle.dl_text.proofs.axioms.put_parts.Goals as goal

pub put-requires : goal.put-requires
put-requires g c = below_each (length c.args.names.now) part_names c.args.parts.now c.requires 0 _ (omega (arith, c.if-parts-eq1.true))
