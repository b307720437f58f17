use Rattle.std.proofs.Common.{Some, None, refl}
use Rattle.dl_lex.specs.declared.keyword.Keyword.TheVariants.{ClassAssertion}
use Rattle.dl_owl.specs.Steps.{refused_class, class_or_thing}
use Rattle.dl_owl.specs.Expected.{class_then, goes, refuses}
use Rattle.dl_owl.specs.Walk.{here, symbol_at}
use Rattle.dl_owl.proofs.TakenLemmas.{reads_follows}
use Rattle.dl_owl.proofs.class.asserted_class.Goals as goal

pub returns : goal.returns
returns c =
    reads_follows class_then
    (λ k.
    class_or_thing c.args.prefixes.now (goes (k None)) (λ n. k (Some n)) (refuses (refused_class ClassAssertion (symbol_at c.args.at.now))) (symbol_at c.args.at.now))
    (here c.args.at.now c.args.prefixes.now c.args.names.now)
    (here c.class_or_thing.new.at c.args.prefixes.now c.class_or_thing.new.names) c.class_or_thing.result (λ k. refl)
    (c.class_or_thing.ensures (refused_class ClassAssertion (symbol_at c.args.at.now)) c.no_class-other.ensures)
