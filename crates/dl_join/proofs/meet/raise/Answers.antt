use Rattle.std.proofs.Common.{◌≡◌, ◌<◌, ◌∙◌, length, get_or, sym, subst, arith}
use Rattle.std.proofs.lemmas.List.{get_or_default}
use Rattle.dl_join.specs.declared.need.Need.{Need}
use Rattle.dl_join.specs.Needs.{IsMoved}
use Rattle.dl_join.proofs.NeedLemmas.{Raised-none, Raised-more, next_ascends}
use Rattle.dl_join.proofs.meet.raise.Goals as goal

pub loop-need-init : goal.loop-need-init
loop-need-init c = record { small = λ lt. absurd (omega arith); raised = Raised-none c.args.from c.args.needs.now }

pub moved-requires : goal.moved-requires
moved-requires c = next_ascends c.args.needs.now c.loop-need.needs c.args.from c.loop-need.bound c.loop-need.need-index _ c.loop-need.invariant.raised (omega arith) c.requires

pub loop-need-preserved : goal.loop-need-preserved
loop-need-preserved c =
    let olds = c.args.needs.now in
    let news = c.loop-need.needs in
    let k = c.loop-need.need-index in
    let item = c.in-Some.ensures.item in
    let reached = c.from-bound.ensures ∙ c.name_in.ensures in
    let size : length news ≡ length olds = omega arith in
    let inside : k < length news = omega arith in
    let is_moved : (d : Need) → IsMoved c.loop-need.bound (get_or news k d) c.moved.result =
    λ d. subst (λ n. IsMoved c.loop-need.bound n c.moved.result) (get_or_default news k _ d inside) c.moved.ensures.moved in
    record {
      small = λ lt. omega arith;
      raised = rw reached (Raised-more c.args.from c.loop-need.bound k olds news c.moved.result c.in-Some.pair.now c.loop-need.invariant.raised size (omega arith) is_moved c.moved.ensures.ascending c.moved.ensures.floor item.3.0 (sym item.1));
    }
