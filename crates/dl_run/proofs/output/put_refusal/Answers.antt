use Rattle.dl_io.proofs.PrintLemmas.{prints_as}
use Rattle.dl_run.proofs.OutputLemmas.{refusal_pieces}
use Rattle.dl_run.proofs.output.put_refusal.Goals as goal

pub returns : goal.returns
returns g c =
    prints_as
    (refusal_pieces c.words_of-words.result c.digits_of-number.result.now c.digits_of-second.result.now c.digits_of-third.result.now c.args.refusal c.digits_of-number.ensures c.digits_of-second.ensures c.digits_of-third.ensures c.words_of-words.ensures)
    c.put_texts.ensures
