use Rattle.std.proofs.Common.{string_bytes, sym, ap, ◌∙◌, subst}
use Rattle.dl_owl.specs.declared.fault.OwlFault.TheVariants as fault
use Rattle.dl_owl.specs.Walk.{here, symbol_at, Faults, Expects, found_move}
use Rattle.dl_owl.proofs.TakenLemmas.{found_iri, found_unknown, found_other}
use Rattle.dl_names.proofs.NameListLemmas.{Extends-same}
use Rattle.dl_owl.proofs.WalkLemmas.{no_memory}
use Rattle.dl_owl.proofs.SeriesLemmas.{exit_by}
use Rattle.dl_owl.proofs.name.expect_iri.Goals as goal

pub returns-in-Iri : goal.returns-in-Iri
returns-in-Iri c =
    found_iri c.args.prefixes.now (symbol_at c.args.at.now) (string_bytes c.find_iri.new.text)
    (λ k other. c.in_ok-found.ensures k other ∙ ap (λ f. found_move f (string_bytes c.find_iri.new.text) k other) c.in-Iri.is)

pub returns-in-Unknown : goal.returns-in-Unknown
returns-in-Unknown c =
    λ names e k cause same is.
    subst (λ n. Faults e (here c.args.at.now c.args.prefixes.now names) names (fault.PrefixUnknown n)) (sym c.start-start.ensures)
    (found_unknown c.args.at.now c.args.prefixes.now names e k cause is
    (λ l other. c.in_ok-found.ensures l other ∙ ap (λ f. found_move f (string_bytes c.find_iri.new.text) l other) c.in-Unknown.is))

pub returns-in-Other : goal.returns-in-Other
returns-in-Other c =
    λ names e k cause same is.
    found_other c.args.at.now c.args.prefixes.now names e k cause is c.args.other same
    (λ l other. c.in_ok-found.ensures l other ∙ ap (λ f. found_move f (string_bytes c.find_iri.new.text) l other) c.in-Other.is)

pub returns-in_err-found : goal.returns-in_err-found
returns-in_err-found c =
    exit_by (Expects c.args.at.now c.args.prefixes.now (string_bytes c.find_iri.new.text) c.args.other)
    c.from_residual.result fault.NoMemory c.from_residual.ensures.1
    (λ names e k cause is same.
    no_memory e (here c.args.at.now c.args.prefixes.now names) names (Extends-same names))
