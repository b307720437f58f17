use Rattle.std.proofs.Common.{sym, ap₂, ◌∙◌}
use Rattle.std.specs.List.{flat_map}
use Rattle.std.proofs.lemmas.Result.{IfOk-weaker}
use Rattle.dl_hier.specs.Predicates.{roles}
use Rattle.dl_tree.specs.Masks.{atom_links}
use Rattle.dl_tree.proofs.VariableLemmas.{link_masks}
use Rattle.dl_rewrite.proofs.KnownLemmas.{role_known}
use Rattle.dl_rewrite.proofs.RewritingLemmas.{Certain-Rewriting}
use Rattle.dl_rewrite.proofs.rewriting.rewrite.Goals as goal

pub disjuncts-requires-clause-masks : goal.disjuncts-requires-clause-masks
disjuncts-requires-clause-masks c =
    link_masks c.args.query.now c.deref-2.result.now c.deref-3.result.now
    (c.deref-3.ensures.value ∙ c.in_ok-links.ensures
    ∙ ap₂ (λ e a. flat_map (atom_links e) a) (c.deref.ensures.value ∙ sym c.deref-2.ensures.value) c.as_slice.ensures)

pub returns-clause-exact : goal.returns-clause-exact
returns-clause-exact c =
    let rs = roles c.args.hier.now.predicates in
    IfOk-weaker c.disjuncts.result _ _ (λ ds is axioms of has facts links tuple.
    Certain-Rewriting axioms rs c.args.query.now ds (is axioms rs (c.in_ok-table.ensures.exact axioms of)) c.requires facts
    (role_known axioms rs has facts links) tuple) c.disjuncts.ensures.rewriting
