use Rattle.std.proofs.Common.{◌≤◌, length, sym, subst}
use Rattle.dl_names.specs.NameList.{max_names}
use Rattle.dl_owl.specs.declared.fault.OwlFault.TheVariants as fault
use Rattle.dl_owl.specs.Expected.{takes_name}
use Rattle.dl_owl.specs.Walk.{here, Faults}
use Rattle.dl_owl.proofs.TakenLemmas.{exit_follows, no_room, room, took, took_full, took_faults}
use Rattle.dl_names.specs.NameList.{Extends}
use Rattle.dl_names.proofs.NameListLemmas.{Extends-same}
use Rattle.dl_owl.proofs.WalkLemmas.{no_memory}
use Rattle.dl_owl.proofs.name.take_name.Goals as goal

pub returns-in-Err-Full : goal.returns-in-Err-Full
returns-in-Err-Full c =
    λ p iri e k is.
    let full = c.add.ensures.full.0 cc in
    subst (λ n. Faults e (here c.args.at.now p c.args.names.now) c.add.new.self (fault.TooManyNames n)) (sym c.start-start.ensures)
    (took_full c.args.at.now p c.args.names.now c.args.text.now iri e k is (no_room c.args.names.now c.args.text.now full.0 full.1)
    c.add.new.self c.in-Err-Full.ensures.err)

pub returns-in_err-advance : goal.returns-in_err-advance
returns-in_err-advance c =
    λ p iri.
    exit_follows (takes_name c.args.text.now) (here c.args.at.now p c.args.names.now) (here c.advance.new.self p c.add.new.self)
    c.from_residual.result c.in_err-advance.field-0.0 c.from_residual.ensures.1
    (λ e k is.
    took_faults c.args.at.now p c.args.names.now c.args.text.now iri e k is
    (room c.args.names.now c.args.text.now (subst (λ l. length l ≤ max_names) c.in-Ok.ensures.named c.in-Ok.ensures.fits))
    c.in_err-advance.field-0.0 c.in_err-advance.ensures c.add.new.self c.in-Ok.ensures.named)

pub returns : goal.returns
returns c =
    λ p iri e k is.
    took c.args.at.now p c.args.names.now c.args.text.now iri e k is
    (room c.args.names.now c.args.text.now (subst (λ l. length l ≤ max_names) c.in-Ok.ensures.named c.in-Ok.ensures.fits))
    c.advance.new.self c.in_ok-advance.ensures c.add.new.self c.in-Ok.place c.in-Ok.ensures.named c.in-Ok.ensures.place

pub returns-in-Err-NoMemory : goal.returns-in-Err-NoMemory
returns-in-Err-NoMemory c =
    λ p iri e k is.
    no_memory e (here c.args.at.now p c.args.names.now) c.add.new.self
    (subst (Extends c.args.names.now) (sym c.in-Err-NoMemory.ensures.err) (Extends-same c.args.names.now))
