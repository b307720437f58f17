use Rattle.std.proofs.Common.{sym, subst, length, arith}
use Rattle.dl_row.specs.Searching.{Divides}
use Rattle.dl_row.proofs.FindLemmas.{None-past, found_open, found_none}
use Rattle.dl_row.proofs.shard.first_open.Goals as goal

pub returns-then-not-is_like : goal.returns-then-not-is_like
returns-then-not-is_like c =
    let q = c.args.like.now in
    let rows = c.args.rows.now in
    found_none q.epoch q.kind q.number q.s q.o rows (length rows) (omega arith)
    (None-past q.epoch q.kind q.number q.s q.o rows c.args.from c.loop-i.i c.requires.up (subst (λ r. Divides r rows c.args.from) c.requires.least c.requires.divides)
    c.loop-i.auto.i c.loop-i-test.true (sym c.if-not-is_like.ensures) c.loop-i.invariant)

pub returns-then-rows-i : goal.returns-then-rows-i
returns-then-rows-i c =
    let q = c.args.like.now in
    found_open q.epoch q.kind q.number q.s q.o c.args.rows.now c.loop-i.i c.loop-i-test.true (sym c.if-not-is_like.ensures) c.if-rows-i.true c.loop-i.invariant

pub returns : goal.returns
returns c =
    let q = c.args.like.now in
    found_none q.epoch q.kind q.number q.s q.o c.args.rows.now c.loop-i.i c.loop-i-test.false c.loop-i.invariant
