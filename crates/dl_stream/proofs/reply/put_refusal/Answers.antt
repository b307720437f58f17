use Rattle.std.proofs.Common.{ap, sym}
use Rattle.dl_stream.specs.Outcomes.{placed_line, refusal_words}
use Rattle.dl_io.proofs.PrintLemmas.{prints_as}
use Rattle.dl_stream.proofs.reply.put_refusal.Goals as goal

pub returns-in-Full : goal.returns-in-Full
returns-in-Full g c = prints_as (ap (λ refusal. placed_line c.args.place (refusal_words refusal)) (sym c.in-Full.is)) c.put_two.ensures

pub returns-in-PinOpen : goal.returns-in-PinOpen
returns-in-PinOpen g c =
    prints_as (ap (λ refusal. placed_line c.args.place (refusal_words refusal)) (sym c.in-PinOpen.is)) c.put_one-in-PinOpen.ensures
