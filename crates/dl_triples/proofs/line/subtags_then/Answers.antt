use Rattle.std.proofs.Common.{◌∷◌, [], Some, None}
use Rattle.std.proofs.lemmas.Slice.Eq.{strip_prefix_is}
use Rattle.std.proofs.lemmas.Bool.Decides.{Decides-eqb}
use Rattle.dl_triples.specs.Parts.{SubtagsThen}
use Rattle.dl_triples.proofs.RunLemmas.{some_bytes, no_bytes}
use Rattle.dl_triples.proofs.DotLemmas.{subtags_behind, subtags_before, subtags_end, found_by}
use Rattle.dl_triples.proofs.line.subtags_then.Goals as goal

pub returns-then-is_empty : goal.returns-then-is_empty
returns-then-is_empty c = λ rest then.
    let opens = strip_prefix_is Decides-eqb c.loop-next.rest.now (45 ∷ []) (Some c.in-Some.next) c.in-Some.ensures.cases in
    (subtags_behind c.loop-next.rest.now c.in-Some.next.now c.split.result.0.now c.split.result.1.now opens c.split.ensures rest (c.loop-next.invariant.to_here rest then)).0
    (no_bytes c.split.result.0.now c.is_empty.result c.is_empty.ensures c.if-is_empty.true)

pub loop-next-preserved : goal.loop-next-preserved
loop-next-preserved c =
    let opens = strip_prefix_is Decides-eqb c.loop-next.rest.now (45 ∷ []) (Some c.in-Some.next) c.in-Some.ensures.cases in
    let some = some_bytes c.split.result.0.now c.is_empty.result c.is_empty.ensures c.if-is_empty.false in
    record {
      to_here = λ rest then. (subtags_behind c.loop-next.rest.now c.in-Some.next.now c.split.result.0.now c.split.result.1.now opens c.split.ensures rest (c.loop-next.invariant.to_here rest then)).1;
      from_here = λ rest then. c.loop-next.invariant.from_here rest (subtags_before c.loop-next.rest.now c.in-Some.next.now c.split.result.0.now c.split.result.1.now opens c.split.ensures rest some then);
    }

pub returns : goal.returns
returns c =
    let no_hyphen = strip_prefix_is Decides-eqb c.loop-next.rest.now (45 ∷ []) None c.in_default.ensures.cases in
    found_by (SubtagsThen c.loop-next.rest.now) (SubtagsThen c.args.bytes.now) c.loop-next.invariant.from_here c.loop-next.invariant.to_here c.dot_then.result
    (subtags_end c.loop-next.rest.now no_hyphen c.dot_then.result c.dot_then.ensures)
