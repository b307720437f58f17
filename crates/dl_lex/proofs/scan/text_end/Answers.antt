use Rattle.std.proofs.Common.{refl}
use Rattle.std.proofs.lemmas.Bool.{false≢true}
use Rattle.dl_lex.proofs.Quoted.{GoesOnAt-run, GoesOnAt-escape, no_rest, rest_closes}
use Rattle.dl_lex.proofs.scan.text_end.Goals as goal

pub loop-next-init : goal.loop-next-init
loop-next-init c = record { in_range = c.run_end-at.ensures.run.stand.in_range; goes_on = GoesOnAt-run c.args.bytes.now c.args.from c.run_end-at.result c.run_end-at.ensures }

pub loop-next-preserved : goal.loop-next-preserved
loop-next-preserved c = record {
  in_range = c.run_end-at-in-Some.ensures.run.stand.in_range;
  goes_on = GoesOnAt-escape c.args.bytes.now c.args.from c.loop-next.at c.in-Some.next c.run_end-at-in-Some.result c.loop-next.invariant.goes_on c.in-Some.ensures c.run_end-at-in-Some.ensures;
}

pub returns-then-not-has_byte : goal.returns-then-not-has_byte
returns-then-not-has_byte c = λ j r.
    let goes_on = c.loop-next.invariant.goes_on in
    no_rest c.args.bytes.now c.loop-next.at goes_on.no_plain c.in_default.ensures (λ h. false≢true (c.if-not-has_byte.ensures.1 h)) j (goes_on.to_there j r)

pub returns : goal.returns
returns c =
    let quote = c.if-not-has_byte.ensures.0 refl in
    c.loop-next.invariant.goes_on.from_there _ (rest_closes c.args.bytes.now c.loop-next.at quote.0 quote.1)
