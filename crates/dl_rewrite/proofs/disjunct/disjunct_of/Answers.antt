use Rattle.std.proofs.Common.{◌≡◌, ◌==◌, ◌≤◌, not, false, [], length, map, slice_index_or, MatchOption, refl, sym, ap, ap₂, subst, ◌∙◌}
use Rattle.std.specs.List.{list_all}
use Rattle.dl_tree.specs.TestsOf.{IsNumbering}
use Rattle.dl_tree.proofs.NumberingLemmas.{numbering}
use Rattle.dl_rewrite.specs.Steps.{pairs_of, probes_of, term_at, AreMostGeneralUnifier, HaveNoUnifier, AreTermsBelow}
use Rattle.dl_rewrite.proofs.CutLemmas.{some_fails, is_empty, none_folds}
use Rattle.dl_rewrite.proofs.StepLemmas.{disjunct_for}
use Rattle.dl_rewrite.proofs.ShapeLemmas.{pairs_below, is_shaped, none_merges}
use Rattle.dl_rewrite.proofs.disjunct.disjunct_of.Goals as goal

pub parts_of-requires-clause-numbering : goal.parts_of-requires-clause-numbering
parts_of-requires-clause-numbering c = subst IsNumbering (sym c.requires.variables) (numbering c.args.query.now)

pub returns-then-not-all_fold : goal.returns-then-not-all_fold
returns-then-not-all_fold c = λ axioms roles table.
    let q = c.args.query.now in
    let ex = c.args.variables.now in
    let rows = c.args.table.now in
    let parts = c.in_ok-parts.parts.items in
    let few : length ex ≤ 8 = subst (λ l. length l ≤ 8) (sym c.requires.variables) c.requires.query.existential in
    let all : list_all (λ m. not (length (slice_index_or rows m []) == 0)) parts ≡ false =
    ap (list_all (λ m. not (length (slice_index_or rows m []) == 0))) (sym c.deref.ensures.value) ∙ sym c.all_fold.ensures
    ∙ c.if-not-all_fold.true in
    let f = some_fails (λ m. not (length (slice_index_or rows m []) == 0)) parts all in
    none_folds axioms roles q ex rows c.requires.variables few table c.args.set parts c.in_ok-parts.ensures f.0 f.1 (is_empty (slice_index_or rows f.0 []) f.2)

pub unifier-requires : goal.unifier-requires
unifier-requires c =
    let q = c.args.query.now in
    let ex = c.args.variables.now in
    let is : c.deref-3.result.now ≡ pairs_of ex q.atoms c.in_ok-parts.parts.items =
    c.deref-3.ensures.value ∙ c.in_ok-pairs.ensures ∙ ap₂ (λ a p. pairs_of ex a p) c.as_slice.ensures c.deref-2.ensures.value in
    subst (AreTermsBelow q.vars) (sym is) (pairs_below q c.requires.query ex c.requires.variables c.args.set c.in_ok-parts.parts.items c.in_ok-parts.ensures)

pub returns-in-Some : goal.returns-in-Some
returns-in-Some c =
    let q = c.args.query.now in
    let ex = c.args.variables.now in
    let rows = c.args.table.now in
    let parts = c.in_ok-parts.parts.items in
    let to = c.in-Some.to.items in
    let are = c.in_ok-parts.ensures in
    let few : length ex ≤ 8 = subst (λ l. length l ≤ 8) (sym c.requires.variables) c.requires.query.existential in
    let is : c.deref-3.result.now ≡ pairs_of ex q.atoms parts =
    c.deref-3.ensures.value ∙ c.in_ok-pairs.ensures ∙ ap₂ (λ a p. pairs_of ex a p) c.as_slice.ensures c.deref-2.ensures.value in
    let made : AreMostGeneralUnifier q.vars c.deref-3.result.now to =
    subst (λ o. MatchOption o (HaveNoUnifier c.deref-3.result.now) (λ t. AreMostGeneralUnifier q.vars c.deref-3.result.now t.items)) c.in-Some.is c.in_ok-to.ensures in
    let make : AreMostGeneralUnifier q.vars (pairs_of ex q.atoms parts) to = subst (λ ps. AreMostGeneralUnifier q.vars ps to) is made in
    let head : c.of.result ≡ map (term_at to) q.head =
    c.of.ensures ∙ c.in_ok-head-in-Some.ensures ∙ ap₂ (λ t h. map (term_at t) h) c.deref-in-Some.ensures.value c.as_slice-in-Some.ensures in
    let probes : c.in_ok-probes-in-Some.probes ≡ probes_of ex rows q.atoms c.args.set parts to =
    c.in_ok-probes-in-Some.ensures ∙ ap (λ a. probes_of ex rows a c.args.set c.deref-in-Some-2.result.now c.deref-in-Some-3.result.now) c.as_slice-in-Some-2.ensures
    ∙ ap₂ (λ p t. probes_of ex rows q.atoms c.args.set p t) c.deref-in-Some-2.ensures.value c.deref-in-Some-3.ensures.value in (
      is_shaped q c.requires.query ex c.requires.variables c.args.set parts are rows to _ head probes refl make,
      λ axioms roles table. disjunct_for q ex rows c.args.set parts to _ head probes axioms roles c.requires.variables few table are make,
    )

pub returns : goal.returns
returns c = λ axioms roles table.
    let q = c.args.query.now in
    let ex = c.args.variables.now in
    let parts = c.in_ok-parts.parts.items in
    let is : c.deref-3.result.now ≡ pairs_of ex q.atoms parts =
    c.deref-3.ensures.value ∙ c.in_ok-pairs.ensures ∙ ap₂ (λ a p. pairs_of ex a p) c.as_slice.ensures c.deref-2.ensures.value in
    let apart : HaveNoUnifier c.deref-3.result.now =
    subst (λ o. MatchOption o (HaveNoUnifier c.deref-3.result.now) (λ t. AreMostGeneralUnifier q.vars c.deref-3.result.now t.items)) c.in-None.is c.in_ok-to.ensures in
    none_merges axioms roles q ex c.requires.variables c.args.set parts c.in_ok-parts.ensures (subst HaveNoUnifier is apart)
