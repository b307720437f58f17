use Rattle.std.proofs.Common.{sym, subst}
use Rattle.dl_triples.specs.Parts.{IsFirstLine}
use Rattle.dl_triples.specs.Progress.{AreCut, cut_none}
use Rattle.dl_triples.proofs.TextLemmas.{AreCut-push}
use Rattle.dl_triples.proofs.ahead.Ahead.cut.Goals as goal

pub loop-init : goal.loop-init
loop-init c = subst (λ l. AreCut c.args.bytes.now l c.args.bytes.now) (sym c.clear.ensures.items) cut_none

pub loop-preserved : goal.loop-preserved
loop-preserved c =
    let first = subst (IsFirstLine c.loop.rest.now c.first_line.result.0.now) c.in-Some.is c.first_line.ensures in
    subst (λ l. AreCut c.args.bytes.now l c.in-Some.behind.now) (sym c.in_ok-add.ensures)
    (AreCut-push c.form_of.result c.loop.invariant first.is_line first.ends c.form_of.ensures)
