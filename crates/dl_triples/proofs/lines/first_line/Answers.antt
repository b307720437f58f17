use Rattle.std.proofs.Common.{◌∷◌, ◌++◌, [], Some, None, ap, ◌∙◌}
use Rattle.std.proofs.lemmas.Slice.Eq.{strip_prefix_is}
use Rattle.std.proofs.lemmas.Bool.Decides.{Decides-eqb}
use Rattle.dl_triples.specs.Lines.{cr_lf}
use Rattle.dl_triples.proofs.LineCut.{line_ends}
use Rattle.dl_triples.proofs.lines.first_line.Goals as goal

pub returns-in-Some : goal.returns-in-Some
returns-in-Some c =
    let stripped = strip_prefix_is Decides-eqb c.split.result.1.now (13 ∷ 10 ∷ []) (Some c.in-Some.rest) c.in-Some.ensures.cases in
    record {
      is_line = c.split.ensures.passes;
      ends = record { end = 13 ∷ 10 ∷ []; is = cr_lf; stands = c.split.ensures.parts ∙ ap (λ l. c.split.result.0.now ++ l) stripped };
    }

pub returns-in-Some-split_first : goal.returns-in-Some-split_first
returns-in-Some-split_first c =
    let no_pair = strip_prefix_is Decides-eqb c.split.result.1.now (13 ∷ 10 ∷ []) None c.in_default.ensures.cases in
    record {
      is_line = c.split.ensures.passes;
      ends = line_ends c.args.bytes.now c.split.result.0.now c.split.result.1.now c.split.ensures c.in-Some-split_first.field-0-0.now c.in-Some-split_first.rest.now c.in-Some-split_first.ensures.cases.0 no_pair;
    }
