use Rattle.dl_triples.proofs.LineCut.{one_cut}
use Rattle.dl_triples.proofs.TextLemmas.{lines_of}
use Rattle.dl_triples.proofs.laws.lines_are_determined.Goals as goal

pub returns : goal.returns
returns c = record { some = lines_of; one = λ bytes lines other. one_cut }
