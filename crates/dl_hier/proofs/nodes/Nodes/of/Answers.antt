use Rattle.std.proofs.Common.{◌≡◌, ◌∙◌, Result, Ok, Err, IfOk, sym, subst}
use Rattle.dl_hier.specs.Predicates.{Predicates, AreInOrder}
use Rattle.dl_hier.specs.Rows.{ArePredicatesOf}
use Rattle.dl_hier.proofs.NameLemmas.{ArePredicatesOf-sets, AreInOrder-sets}
use Rattle.dl_hier.proofs.nodes.Nodes.of.Goals as goal

IfOk-at : {A E : Type 0} (P : A → Type 0) (a : A) (r : Result A E) → IfOk r (λ x. x ≡ a) → P a → IfOk r P
IfOk-at P a (Ok x) is p = subst P (sym is) p
IfOk-at P a (Err e) is p = tt

pub guessed-requires : goal.guessed-requires
guessed-requires c =
    AreInOrder-sets c.args.signature.now c.args.normal.now _ c.requires
    (ArePredicatesOf-sets c.args.signature.now c.args.normal.now _ _ _ c.set_of.result c.set_of-2.result c.set_of-3.result
    (c.of-classes.ensures ∙ c.in_ok-from_slice.ensures.items ∙ c.as_slice.ensures)
    (c.of-properties.ensures ∙ c.in_ok-from_slice-2.ensures.items ∙ c.as_slice-2.ensures) c.in_ok-auxiliaries.ensures c.set_of.ensures c.set_of-2.ensures
    c.set_of-3.ensures)

pub returns-clause-predicates : goal.returns-clause-predicates
returns-clause-predicates c =
    let p : Predicates = record { classes = c.set_of.result; properties = c.set_of-2.result; auxiliaries = c.set_of-3.result } in
    IfOk-at (ArePredicatesOf c.args.signature.now c.args.normal.now) p c.guessed.result c.guessed.ensures
    (ArePredicatesOf-sets c.args.signature.now c.args.normal.now _ _ _ c.set_of.result c.set_of-2.result c.set_of-3.result
    (c.of-classes.ensures ∙ c.in_ok-from_slice.ensures.items ∙ c.as_slice.ensures)
    (c.of-properties.ensures ∙ c.in_ok-from_slice-2.ensures.items ∙ c.as_slice-2.ensures) c.in_ok-auxiliaries.ensures c.set_of.ensures c.set_of-2.ensures
    c.set_of-3.ensures)

pub returns-clause-order : goal.returns-clause-order
returns-clause-order c =
    let p : Predicates = record { classes = c.set_of.result; properties = c.set_of-2.result; auxiliaries = c.set_of-3.result } in
    IfOk-at AreInOrder p c.guessed.result c.guessed.ensures
    (AreInOrder-sets c.args.signature.now c.args.normal.now _ c.requires
    (ArePredicatesOf-sets c.args.signature.now c.args.normal.now _ _ _ c.set_of.result c.set_of-2.result c.set_of-3.result
    (c.of-classes.ensures ∙ c.in_ok-from_slice.ensures.items ∙ c.as_slice.ensures)
    (c.of-properties.ensures ∙ c.in_ok-from_slice-2.ensures.items ∙ c.as_slice-2.ensures) c.in_ok-auxiliaries.ensures c.set_of.ensures c.set_of-2.ensures
    c.set_of-3.ensures))
