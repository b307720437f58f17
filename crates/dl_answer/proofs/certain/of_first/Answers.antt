use Rattle.std.proofs.Common.{◌≡◌, ◌∙◌, ◌<◌, length, arith}
use Rattle.dl_rewrite.specs.OverNames.{SomeHasOverNames}
use Rattle.dl_answer.specs.Searches.{AreRead}
use Rattle.dl_answer.proofs.ReaderLemmas.{goes_nowhere}
use Rattle.dl_answer.proofs.UnionLemmas.{none_given, finds_one, shaped_at}
use Rattle.dl_answer.proofs.SearchLemmas.{finds_none}
use Rattle.dl_answer.proofs.certain.of_first.Goals as goal

pub returns-then-disjuncts-eq0-clause-found : goal.returns-then-disjuncts-eq0-clause-found
returns-then-disjuncts-eq0-clause-found g c =
    let ds = c.args.disjuncts.now in
    let nothing : length ds ≡ 0 = omega (arith, c.if-disjuncts-eq0.true) in
    finds_none (AreRead (g.R.Reads.stands c.args.reads.now) c.args.version c.args.hier.now c.args.kept.now)
    (λ axioms known. SomeHasOverNames axioms known ds)
    (length c.args.query.now.head) c.args.limit c.new.result c.new.ensures.none (c.new.ensures.width ∙ c.len.ensures)
    (λ axioms known read. none_given axioms known ds c.args.limit c.new.result nothing c.new.ensures.none)

pub tuples_of-requires-clause-safe : goal.tuples_of-requires-clause-safe
tuples_of-requires-clause-safe g c =
    let some : 0 < length c.args.disjuncts.now = omega (arith, c.if-disjuncts-eq0.false) in
    (shaped_at c.args.query.now c.args.disjuncts.now c.requires.shaped 0 c.index-disjuncts-0.result some
    c.index-disjuncts-0.is).safe

pub returns-clause-found : goal.returns-clause-found
returns-clause-found g c =
    let single : length c.args.disjuncts.now ≡ 1 = omega (arith, c.if-disjuncts-eq0.false, c.requires.one) in
    finds_one (AreRead (g.R.Reads.stands c.args.reads.now) c.args.version c.args.hier.now c.args.kept.now)
    c.args.query.now c.args.disjuncts.now c.index-disjuncts-0.result
    c.args.limit c.tuples_of.result c.requires.shaped single c.index-disjuncts-0.is c.tuples_of.ensures.found

pub returns-then-disjuncts-eq0-clause-goes : goal.returns-then-disjuncts-eq0-clause-goes
returns-then-disjuncts-eq0-clause-goes g c = goes_nowhere _ _ _ _ _
