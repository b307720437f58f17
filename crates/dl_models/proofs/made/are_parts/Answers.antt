use Rattle.std.proofs.Common.{arith}
use Rattle.dl_models.proofs.LoopLemmas.{fails}
use Rattle.dl_models.proofs.PartLemmas.{parts-not}
use Rattle.dl_models.proofs.made.are_parts.Goals as goal

pub returns-then-size-eq0 : goal.returns-then-size-eq0
returns-then-size-eq0 c =
    parts-not c.args.size c.args.names.now c.args.classes.now c.args.links.now
    (λ h. let some = h.some_element in let none = c.if-size-eq0.true in omega (arith, some, none))

pub returns-then-not-ascend : goal.returns-then-not-ascend
returns-then-not-ascend c =
    parts-not c.args.size c.args.names.now c.args.classes.now c.args.links.now
    (λ h. fails c.ascend.result c.ascend.ensures c.if-not-ascend.true h.ascending)

pub returns : goal.returns
returns c =
    let size = c.if-size-eq0.false in (
      λ e. record {
        some_element = omega (arith, size);
        ascending = c.ascend.ensures.0 c.if-not-ascend.false;
        of_names = c.seconds_are_below.ensures.0 c.if-not-seconds_are_below.false;
        of_classes = c.seconds_are_below-2.ensures.0 c.if-not-seconds_are_below-2.false;
        of_links = c.ends_are_below.ensures.0 e;
      },
      λ h. c.ends_are_below.ensures.1 h.of_links,
    )
