use Rattle.std.proofs.Common.{◌∙◌, ◌∷◌, [], ap, sym}
use Rattle.std.specs.Option.{option_copied}
use Rattle.dl_stream.specs.FileLines.{lines_of}
use Rattle.dl_stream.specs.Parts.{without_return}
use Rattle.dl_stream.proofs.CutLemmas.{one_line, line_then, behind_shorter}
use Rattle.dl_stream.proofs.cut.first_line.Goals as goal

pub returns-in-Some : goal.returns-in-Some
returns-in-Some c =
    let behind = sym c.cut.ensures.behind ∙ ap option_copied c.in-Some.is in
    record {
      lines =
          line_then c.args.bytes.now c.in-Some.rest.now behind
          ∙ ap (λ l. l ∷ lines_of c.in-Some.rest.now) (ap without_return (sym c.cut.ensures.before) ∙ sym c.without_return.ensures);
      shorter = behind_shorter 10 c.args.bytes.now c.in-Some.rest.now behind;
    }

pub returns-in-None : goal.returns-in-None
returns-in-None c =
    one_line c.args.bytes.now (sym c.cut.ensures.behind ∙ ap option_copied c.in-None.is) ∙ ap (λ l. l ∷ []) (sym c.cut.ensures.before)
