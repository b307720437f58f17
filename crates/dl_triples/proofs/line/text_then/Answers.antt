use Rattle.std.proofs.Common.{ap, sym, subst, length, arith}
use Rattle.std.specs.Str.{IsUtf8}
use Rattle.dl_triples.proofs.TermLemmas.{closed_at, closed_text}
use Rattle.dl_triples.proofs.line.text_then.Goals as goal

pub returns-in_err-first : goal.returns-in_err-first
returns-in_err-first c =
    rw c.from_residual.ensures (λ text value rest then.
    let at = closed_at c.args.quoting c.args.bytes.now c.spelled-plain.result.0.now c.spelled-plain.result.1 c.spelled-plain.ensures text value rest then in
    omega (arith, ap length at, c.in_err-first.ensures.cases))

pub returns-then-first-close : goal.returns-then-first-close
returns-then-first-close c = λ text value rest then.
    let at = closed_at c.args.quoting c.args.bytes.now c.spelled-plain.result.0.now c.spelled-plain.result.1 c.spelled-plain.ensures text value rest then in
    let here = c.in_ok-first.ensures.cases.0 in
    c.if-first-close.true (cc (at, here, c.requires))

pub returns-in-Err : goal.returns-in-Err
returns-in-Err c = λ text value rest then.
    let is = closed_text c.args.quoting c.args.bytes.now c.spelled-plain.result.0.now c.spelled-plain.result.1 c.spelled-plain.ensures text value rest then in
    c.in-Err.ensures.cases.0 (subst IsUtf8 (sym is) then.utf8)
