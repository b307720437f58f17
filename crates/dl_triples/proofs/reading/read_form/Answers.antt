use Rattle.std.proofs.Common.{subst}
use Rattle.std.proofs.lemmas.Result.{on_err_weaker, IfErr-weaker}
use Rattle.dl_triples.specs.Parts.{HasForm}
use Rattle.dl_triples.specs.Reading.{neither, blank, none}
use Rattle.dl_triples.proofs.TripleLemmas.{line_nothing, line_triple, line_fault, line_first}
use Rattle.dl_triples.proofs.reading.read_form.Goals as goal

pub returns-in-Nothing-clause-ok : goal.returns-in-Nothing-clause-ok
returns-in-Nothing-clause-ok c = λ line has. line_nothing line c.args.names.now c.args.triples.now (subst (HasForm line) c.in-Nothing.is has)

pub returns-in-Triple-clause-ok : goal.returns-in-Triple-clause-ok
returns-in-Triple-clause-ok c = λ line has.
    let keeps = subst (HasForm line) c.in-Triple.is has in
    line_triple line keeps.subject keeps.predicate keeps.object c.args.names.now c.read_triple.new.names c.args.triples.now c.read_triple.new.triples c.read_triple.result keeps.is
    (c.read_triple.ensures.ok keeps.subject keeps.predicate keeps.object keeps.kept) c.read_triple.ensures.fits

pub returns-in-Triple-clause-fault : goal.returns-in-Triple-clause-fault
returns-in-Triple-clause-fault c = λ line has.
    let keeps = subst (HasForm line) c.in-Triple.is has in
    IfErr-weaker c.read_triple.result _ _ (λ fault told other. line_fault line keeps.subject keeps.predicate keeps.object c.args.names.now c.args.n fault keeps.is (told other))
    (c.read_triple.ensures.fault keeps.subject keeps.predicate keeps.object keeps.kept)

pub returns-in-Triple-clause-first : goal.returns-in-Triple-clause-first
returns-in-Triple-clause-first c = λ line has.
    let keeps = subst (HasForm line) c.in-Triple.is has in
    on_err_weaker c.read_triple.result (line_first line keeps.subject keeps.predicate keeps.object c.args.names.now c.read_triple.new.names keeps.is)
    (c.read_triple.ensures.first keeps.subject keeps.predicate keeps.object keeps.kept)

pub returns-in-Node-clause-fault : goal.returns-in-Node-clause-fault
returns-in-Node-clause-fault c = λ line has _. blank (subst (HasForm line) c.in-Node.is has)

pub returns-in-Node-clause-first : goal.returns-in-Node-clause-first
returns-in-Node-clause-first c = λ _ _. none

pub returns-in-Other-clause-fault : goal.returns-in-Other-clause-fault
returns-in-Other-clause-fault c = λ line has _. let form = subst (HasForm line) c.in-Other.is has in neither form.no_nothing form.no_triple form.no_node

pub returns-in-Other-clause-first : goal.returns-in-Other-clause-first
returns-in-Other-clause-first c = λ _ _. none
