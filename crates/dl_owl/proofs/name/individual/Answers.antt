use Rattle.std.proofs.Common.{refl}
use Rattle.dl_names.specs.Iris.{is_free}
use Rattle.dl_owl.specs.Expected.{individual_then, refuses}
use Rattle.dl_owl.specs.Steps.{named_next, refused_individual}
use Rattle.dl_owl.specs.Walk.{here, symbol_at}
use Rattle.dl_owl.proofs.TakenLemmas.{reads_follows}
use Rattle.dl_owl.proofs.name.individual.Goals as goal

pub returns : goal.returns
returns c =
    reads_follows individual_then
    (λ k. named_next c.args.prefixes.now is_free k (refuses (refused_individual (symbol_at c.args.at.now))) (symbol_at c.args.at.now))
    (here c.args.at.now c.args.prefixes.now c.args.names.now) (here c.named.new.at c.args.prefixes.now c.named.new.names)
    c.named.result (λ k. refl) (c.named.ensures (refused_individual (symbol_at c.args.at.now)) c.no_individual-other.ensures)
