use Rattle.std.proofs.Common.{refl, ◌++◌}
use Rattle.std.proofs.lemmas.Bool.{false≢true}
use Rattle.std.specs.Char.{encode_utf8}
use Rattle.dl_triples.proofs.SpelledLemmas.{Passed-first, Passed-next, Passed-ends, escape_shorter}
use Rattle.dl_triples.proofs.spelling.spelled.Goals as goal

pub loop-next-init : goal.loop-next-init
loop-next-init c =
    (c.split.result.0.now, Passed-first c.args.quoting c.args.bytes.now c.split.result.0.now c.split.result.1.now c.split.ensures, λ _. refl)

pub loop-next-preserved : goal.loop-next-preserved
loop-next-preserved c =
    let before = c.loop-next.invariant in
    let run = c.split-in-Some.result.0.now in (
      (before.0 ++ encode_utf8 c.in-Some.field-0-0) ++ run,
      Passed-next c.args.quoting c.args.bytes.now c.loop-next.rest.now before.0 c.in-Some.field-0-0 c.in-Some.next.now run c.split-in-Some.result.1.now before.1 c.in-Some.ensures c.split-in-Some.ensures,
      λ plain. absurd (false≢true plain),
    )

pub loop-next-smaller : goal.loop-next-smaller
loop-next-smaller c =
    escape_shorter c.args.quoting c.loop-next.rest.now c.in-Some.field-0-0 c.in-Some.next.now c.split-in-Some.result.0.now c.split-in-Some.result.1.now c.in-Some.ensures c.split-in-Some.ensures

pub returns : goal.returns
returns c =
    let passed = c.loop-next.invariant.1 in
    record {
      text = passed.text;
      value = c.loop-next.invariant.0;
      stands = passed.stands;
      spells = passed.spells;
      same = c.loop-next.invariant.2;
      only = λ other tail then. (Passed-ends c.args.quoting c.args.bytes.now c.loop-next.rest.now c.loop-next.invariant.0 passed c.in_default.ensures other tail then).1;
    }
