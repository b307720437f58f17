use Rattle.std.proofs.lemmas.Result.{IfOk-weaker}
use Rattle.dl_answer.specs.Probes.{ArePairsBelow}
use Rattle.dl_answer.specs.Sifted.{ArePairsSifted}
use Rattle.dl_answer.proofs.SiftedLemmas.{every_pair}
use Rattle.dl_answer.proofs.pairs.pairs_below.Goals as goal

pub returns-clause-pairs : goal.returns-clause-pairs
returns-clause-pairs g c = λ facts has.
    let below = c.args.below in
    let marks = c.all-sieve.result in
    IfOk-weaker c.pairs_sifted.result (ArePairsSifted facts below marks) (ArePairsBelow facts below)
    (λ pairs are. every_pair facts below marks pairs c.all-sieve.ensures are) (c.pairs_sifted.ensures.pairs facts has)
