use Rattle.dl_triples.specs.Parts.{SuffixThen, LiteralThen}
use Rattle.dl_triples.proofs.DotLemmas.{literal_suffix, suffix_literal, found_by}
use Rattle.dl_triples.proofs.line.literal_then.Goals as goal

pub returns : goal.returns
returns c =
    let found = c.in_ok-rest.ensures in
    found_by (SuffixThen c.in_ok-rest.rest.now) (LiteralThen c.args.bytes.now)
    (suffix_literal c.args.bytes.now c.in_ok-rest.field-0-0.now c.in_ok-rest.rest.now c.in_ok-rest.field-0-1 found)
    (literal_suffix c.args.bytes.now c.in_ok-rest.field-0-0.now c.in_ok-rest.rest.now c.in_ok-rest.field-0-1 found)
    c.suffix_then.result c.suffix_then.ensures
