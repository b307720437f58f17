use Rattle.std.proofs.Common.{ap, sym}
use Rattle.dl_text.specs.AnswerText.{broken_text}
use Rattle.dl_io.proofs.PrintLemmas.{prints_as}
use Rattle.dl_text.proofs.answers.put_broken.Goals as goal

pub returns-in-None : goal.returns-in-None
returns-in-None g c = prints_as (ap (broken_text c.args.names.now) (sym c.in-None.is)) c.print_pieces.ensures
