use Rattle.std.proofs.Common.{length}
use Rattle.dl_query.proofs.BodyLemmas.{BodyReads}
use Rattle.dl_query.proofs.body.read_body.Given as goal

abbrev pub invariant-atoms : goal.invariant-atoms
invariant-atoms l = BodyReads l.fn.tokens l.fn.variables l.fn.names l.tokens l.variables l.names l.body

abbrev pub decreases-atoms : goal.decreases-atoms
decreases-atoms l = length l.tokens.rest.now
