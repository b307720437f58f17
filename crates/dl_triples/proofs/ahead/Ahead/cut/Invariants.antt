use Rattle.dl_triples.specs.Progress.{AreCut}
use Rattle.dl_triples.proofs.ahead.Ahead.cut.Given as goal

abbrev pub invariant-loop : goal.invariant-loop
invariant-loop l = AreCut l.fn.bytes l.self.forms.items l.rest
