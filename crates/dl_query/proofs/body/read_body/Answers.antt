use Rattle.std.proofs.Common.{◌<◌, [], sym, refl, length, arith, subst}
use Rattle.std.proofs.lemmas.Result.{err_from_is_err_and}
use Rattle.dl_names.proofs.NameListLemmas.{Extends-trans}
use Rattle.dl_query.specs.Grammar.{met, with_atom}
use Rattle.dl_query.specs.Steps.{predicate, body_more, syntax}
use Rattle.dl_query.specs.Parts.{next_symbol, atom_of, Keeps, AreBelow}
use Rattle.dl_query.proofs.StepLemmas.{Leads-then, Leads-stops, Stops-here, no-fault, other-body_more}
use Rattle.dl_query.proofs.HeadLemmas.{Passes-no-longer}
use Rattle.dl_query.proofs.BodyLemmas.{BodyReads-none, BodyReads-more, BodyReads-all, added-keeps}
use Rattle.dl_query.proofs.body.read_body.Goals as goal

pub returns-in_err-body-clause-stops : goal.returns-in_err-body-clause-stops
returns-in_err-body-clause-stops c =
    let p = err_from_is_err_and c.from_residual.result c.from_residual.ensures.1 in
    rw (p.1, p.2) (λ head. no-fault predicate (met c.args.variables.now c.args.names.now head []) c.args.tokens.now c.in_err-body.ensures.err)

pub returns-in_err-statement-clause-stops : goal.returns-in_err-statement-clause-stops
returns-in_err-statement-clause-stops c =
    let p = err_from_is_err_and c.from_residual-in_err-statement.result c.from_residual-in_err-statement.ensures.1 in
    rw (p.1, p.2) (λ head.
    Leads-stops (c.atoms.invariant.leads head) c.in_err-statement.field-0.0 c.read_statement.new.names (c.in_err-statement.ensures.stops head c.atoms.invariant.atoms))

pub returns-in_err-add-clause-stops : goal.returns-in_err-add-clause-stops
returns-in_err-add-clause-stops c =
    let p = err_from_is_err_and c.from_residual-in_err-add.result c.from_residual-in_err-add.ensures.1 in
    rw (p.1, p.2) (λ head. no-fault predicate (met c.args.variables.now c.args.names.now head []) c.args.tokens.now c.in_err-add.ensures.err)

pub returns-in_err-comma_or-clause-stops : goal.returns-in_err-comma_or-clause-stops
returns-in_err-comma_or-clause-stops c =
    let p = err_from_is_err_and c.from_residual-in_err-comma_or.result c.from_residual-in_err-comma_or.ensures.1 in
    rw (p.1, p.2) (λ head.
    let m = with_atom (met c.read_statement.new.variables c.read_statement.new.names head c.atoms.invariant.atoms) (atom_of c.in_ok-statement.statement) in
    Leads-stops (Leads-then (c.atoms.invariant.leads head) (c.in_ok-statement.ensures.ok head c.atoms.invariant.atoms)) c.in_err-comma_or.field-0.0 c.read_statement.new.names
    (Stops-here body_more m c.read_statement.new.tokens {cause = syntax}
    (other-body_more m (next_symbol c.read_statement.new.tokens) c.in_err-comma_or.ensures.other.0 c.in_err-comma_or.ensures.other.1) c.in_err-comma_or.ensures.fault refl))

pub returns-in_err-statement-clause-grows : goal.returns-in_err-statement-clause-grows
returns-in_err-statement-clause-grows c =
    Extends-trans c.args.names.now c.atoms.names c.read_statement.new.names c.atoms.invariant.grows c.in_err-statement.ensures.grows

pub returns-in_err-add-clause-grows : goal.returns-in_err-add-clause-grows
returns-in_err-add-clause-grows c =
    Extends-trans c.args.names.now c.atoms.names c.read_statement.new.names c.atoms.invariant.grows c.in_ok-statement.ensures.grows

pub returns-in_err-comma_or-clause-grows : goal.returns-in_err-comma_or-clause-grows
returns-in_err-comma_or-clause-grows c =
    Extends-trans c.args.names.now c.atoms.names c.read_statement.new.names c.atoms.invariant.grows c.in_ok-statement.ensures.grows

pub atoms-init : goal.atoms-init
atoms-init c =
    BodyReads-none c.args.tokens.now c.args.variables.now c.args.names.now c.in_ok-body.body
    (subst (λ n. Keeps c.in_ok-body.body [] n n) c.len.ensures c.in_ok-body.ensures.ok)

pub add-requires-clause-room : goal.add-requires-clause-room
add-requires-clause-room c =
    omega (arith, c.atoms.invariant.room, c.in_ok-statement.ensures.shorter, c.args.tokens.now.within, c.args.tokens.now.small)

pub add-requires-clause-below : goal.add-requires-clause-below
add-requires-clause-below c =
    subst (λ n. AreBelow n c.in_ok-statement.statement) (sym c.len-in-atoms.ensures) c.in_ok-statement.ensures.below

pub returns-in-None-clause-ok : goal.returns-in-None-clause-ok
returns-in-None-clause-ok c =
    BodyReads-all c.atoms.invariant c.in_ok-statement.ensures.ok
    (added-keeps c.read_statement.new.variables c.atoms.invariant c.len-in-atoms.result c.in_ok-statement.ensures.more c.len-in-atoms.ensures c.in_ok-add.ensures.ok)
    (rw c.in-None.is at c.in_ok-comma_or.ensures.ok)

pub returns-in-None-clause-grows : goal.returns-in-None-clause-grows
returns-in-None-clause-grows c =
    Extends-trans c.args.names.now c.atoms.names c.read_statement.new.names c.atoms.invariant.grows c.in_ok-statement.ensures.grows

pub returns-in-None-clause-more : goal.returns-in-None-clause-more
returns-in-None-clause-more c = omega (arith, c.atoms.invariant.more, c.in_ok-statement.ensures.more)

pub atoms-smaller : goal.atoms-smaller
atoms-smaller c =
    let comma = Passes-no-longer c.read_statement.new.tokens c.comma_or.new.self c.in_ok-comma_or.ensures.passes in
    let shorter : length c.comma_or.new.self.rest.now < length c.atoms.tokens.rest.now = omega (arith, comma, c.in_ok-statement.ensures.shorter) in
    shorter

pub atoms-preserved : goal.atoms-preserved
atoms-preserved c =
    BodyReads-more c.atoms.invariant c.in_ok-statement.ensures.ok c.in_ok-statement.ensures.shorter c.in_ok-statement.ensures.grows c.in_ok-statement.ensures.more
    (added-keeps c.read_statement.new.variables c.atoms.invariant c.len-in-atoms.result c.in_ok-statement.ensures.more c.len-in-atoms.ensures c.in_ok-add.ensures.ok)
    (rw c.in-Some.is at c.in_ok-comma_or.ensures.ok).0 c.in_ok-comma_or.ensures.passes

pub returns-in-None-clause-fits : goal.returns-in-None-clause-fits
returns-in-None-clause-fits c = c.in_ok-statement.ensures.fits
