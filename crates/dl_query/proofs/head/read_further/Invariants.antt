use Rattle.std.proofs.Common.{length}
use Rattle.dl_query.proofs.HeadLemmas.{FurtherReads}
use Rattle.dl_query.proofs.head.read_further.Given as goal

abbrev pub invariant-more : goal.invariant-more
invariant-more l = FurtherReads l.fn.head.items l.fn.variables l.fn.tokens l.head.items l.variables l.tokens

abbrev pub decreases-more : goal.decreases-more
decreases-more l = length l.tokens.rest.now
