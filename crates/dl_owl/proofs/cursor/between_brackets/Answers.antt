use Rattle.std.proofs.Common.{sym, ◌∙◌}
use Rattle.std.proofs.Math.Logic.{∥∥₁_elim}
use Rattle.dl_owl.proofs.SpanLemmas.{cut_in_cut}
use Rattle.dl_owl.proofs.cursor.between_brackets.Goals as goal

pub unreachable-requires : goal.unreachable-requires
unreachable-requires c = ∥∥₁_elim c.requires.utf8 (λ x y. absurd x) (λ utf8. c.in-Err.ensures.cases.0 utf8)

pub returns : goal.returns
returns c = c.in-Ok.ensures.cases.0 ∙ sym (cut_in_cut c.args.bytes.now c.args.start c.args.end c.requires.spans c.requires.within)
