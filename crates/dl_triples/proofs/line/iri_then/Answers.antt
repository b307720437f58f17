use Rattle.std.proofs.Common.{◌∷◌, [], Some}
use Rattle.std.proofs.lemmas.Slice.Eq.{strip_prefix_is}
use Rattle.std.proofs.lemmas.Bool.Decides.{Decides-eqb}
use Rattle.dl_triples.proofs.TermLemmas.{iri_found}
use Rattle.dl_triples.proofs.line.iri_then.Goals as goal

pub returns : goal.returns
returns c =
    let opens = strip_prefix_is Decides-eqb c.args.bytes.now (60 ∷ []) (Some c.in_ok-rest.rest) c.in_ok-rest.ensures.cases in
    iri_found c.args.bytes.now c.in_ok-rest.rest.now c.in_ok-text.rest.now (record { text = c.in_ok-text.text; plain = c.in_ok-text.plain }) opens c.in_ok-text.ensures
