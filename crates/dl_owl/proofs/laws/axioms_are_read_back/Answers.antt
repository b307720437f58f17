use Rattle.dl_owl.proofs.ReadBack.{read_back}
use Rattle.dl_owl.proofs.laws.axioms_are_read_back.Goals as goal

pub returns : goal.returns
returns c =
    λ bytes e before names held document stated number start h has distinct held_fit same.
    read_back bytes e before names held document stated number start h has distinct held_fit same
