use Rattle.dl_triples.proofs.reading.read_line.Goals as goal

pub returns-clause-ok : goal.returns-clause-ok
returns-clause-ok c = c.read_form.ensures.ok c.args.line.now c.form_of.ensures

pub returns-clause-fault : goal.returns-clause-fault
returns-clause-fault c = c.read_form.ensures.fault c.args.line.now c.form_of.ensures

pub returns-clause-first : goal.returns-clause-first
returns-clause-first c = c.read_form.ensures.first c.args.line.now c.form_of.ensures
