use Rattle.std.proofs.Common.{subst}
use Rattle.dl_models.specs.Parts.{AreParts}
use Rattle.dl_models.proofs.PartLemmas.{parts-fit}
use Rattle.dl_models.proofs.interp.Interp.new.Goals as goal

pub invariant_of-result : goal.invariant_of-result
invariant_of-result c = record {
  valid =
      parts-fit c.args.size c.args.names c.args.classes c.args.links
      (subst (λ l. AreParts c.args.size c.args.names c.args.classes l) c.as_slice-3.ensures
      (subst (λ l. AreParts c.args.size c.args.names l c.as_slice-3.result.now) c.as_slice-2.ensures
      (subst (λ l. AreParts c.args.size l c.as_slice-2.result.now c.as_slice-3.result.now) c.as_slice.ensures
      (c.are_parts-is_one.ensures.0 c.if-not-is_one.false))));
}
