use Rattle.dl_triples.specs.Parts.{SubtagsThen, TagThen}
use Rattle.dl_triples.proofs.RunLemmas.{some_bytes, no_bytes}
use Rattle.dl_triples.proofs.DotLemmas.{tag_behind, tag_before, found_by}
use Rattle.dl_triples.proofs.line.tag_then.Goals as goal

pub returns-then-is_empty : goal.returns-then-is_empty
returns-then-is_empty c = λ rest then.
    (tag_behind c.args.bytes.now c.split.result.0.now c.split.result.1.now c.split.ensures rest then).0
    (no_bytes c.split.result.0.now c.is_empty.result c.is_empty.ensures c.if-is_empty.true)

pub returns : goal.returns
returns c =
    let some = some_bytes c.split.result.0.now c.is_empty.result c.is_empty.ensures c.if-is_empty.false in
    found_by (SubtagsThen c.split.result.1.now) (TagThen c.args.bytes.now)
    (λ rest then. tag_before c.args.bytes.now c.split.result.0.now c.split.result.1.now c.split.ensures rest some then)
    (λ rest then. (tag_behind c.args.bytes.now c.split.result.0.now c.split.result.1.now c.split.ensures rest then).1)
    c.subtags_then.result c.subtags_then.ensures
