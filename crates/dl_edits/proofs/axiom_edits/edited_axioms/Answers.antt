use Rattle.std.proofs.Common.{◌≡◌, false, sym, subst, All, IfOk, rules}
use Rattle.std.specs.List.{list_any}
use Rattle.dl_terms.specs.Auxiliaries.{HasNoAuxiliary}
use Rattle.dl_edits.specs.Decided.{is_axiom}
use Rattle.dl_edits.specs.Edits.{edited_axioms}
use Rattle.dl_edits.proofs.AxiomEditLemmas.{edited_none}
use Rattle.dl_edits.proofs.KnownLemmas.{edited_axioms-plain}
use Rattle.dl_edits.proofs.axiom_edits.edited_axioms.Goals as goal

pub returns-then-not-has_axiom-clause-edited : goal.returns-then-not-has_axiom-clause-edited
returns-then-not-has_axiom-clause-edited c =
    let none : list_any (λ e. is_axiom e.item) c.args.edits.now ≡ false = search rules in
    subst (λ axioms. IfOk c.copied_axioms.result (λ after. after ≡ axioms)) (sym (edited_none c.args.edits.now c.args.axioms.now none))
    c.copied_axioms.ensures

pub returns-clause-no_auxiliary : goal.returns-clause-no_auxiliary
returns-clause-no_auxiliary c all none =
    let is : c.of.result ≡ edited_axioms c.args.edits.now c.args.axioms.now = search rules in
    subst (All HasNoAuxiliary) (sym is) (edited_axioms-plain c.args.edits.now c.args.axioms.now none all)
