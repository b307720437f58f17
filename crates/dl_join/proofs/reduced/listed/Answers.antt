use Rattle.dl_join.specs.Searching.{IsGiven}
use Rattle.dl_join.proofs.NarrowLemmas.{no_need}
use Rattle.dl_join.proofs.DirectLemmas.{head_few, rows_given, given_rows}
use Rattle.dl_join.proofs.LeafLemmas.{ok_alike, over_alike}
use Rattle.dl_join.proofs.reduced.listed.Goals as goal

pub add_rows-requires-clause-range : goal.add_rows-requires-clause-range
add_rows-requires-clause-range c = head_few c.args.needs.now c.args.head.now c.requires.direct

pub returns-clause-ok : goal.returns-clause-ok
returns-clause-ok c =
    ok_alike _ (IsGiven c.args.needs.now c.args.head.now) c.args.gathered.now c.add_rows.new.self c.add_rows.result
    (rows_given c.args.needs.now c.args.head.now no_need c.requires.direct c.requires.needs)
    (given_rows c.args.needs.now c.args.head.now no_need c.requires.direct c.requires.needs) c.add_rows.ensures.ok

pub returns-clause-many : goal.returns-clause-many
returns-clause-many c = λ e.
    over_alike _ (IsGiven c.args.needs.now c.args.head.now) c.args.gathered.now c.args.gathered.now.limit
    (rows_given c.args.needs.now c.args.head.now no_need c.requires.direct c.requires.needs) (c.add_rows.ensures.many e)
