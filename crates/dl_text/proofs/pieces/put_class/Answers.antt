use Rattle.std.proofs.Common.{sym}
use Rattle.dl_text.proofs.TextLemmas.{class_text-nothing}
use Rattle.dl_io.proofs.PrintLemmas.{prints_as}
use Rattle.dl_text.proofs.pieces.put_class.Goals as goal

pub returns-then-eq : goal.returns-then-eq
returns-then-eq g c =
    prints_as (sym (class_text-nothing c.args.names.now c.args.class c.text.result.now c.text.ensures (sym c.if-eq.ensures))) c.write.ensures
