use Rattle.std.proofs.Common.{length, sym, subst, ◌∙◌}
use Rattle.std.proofs.lemmas.Result.{IfOk-weaker}
use Rattle.dl_hier.specs.Predicates.{roles}
use Rattle.dl_tree.specs.Tests.{AreTops, SomeSplit, tests_at, column}
use Rattle.dl_tree.specs.Rows.{TellsRow, ChainLeadsTo}
use Rattle.dl_tree.proofs.TableLemmas.{near, alone}
use Rattle.dl_tree.proofs.folds.connected_row.Goals as goal

pub returns-then-has_neighbour : goal.returns-then-has_neighbour
returns-then-has_neighbour c = λ axioms q next connected. record {
  connected = connected;
  tells = near c.args.hier.now axioms q c.args.links.now c.args.atoms.now c.args.below.now c.args.s next c.deref.result.now c.in_ok-row.row (subst (AreTops c.args.links.now c.args.s) (sym c.deref.ensures.value) c.in_ok-tops.ensures)
      (subst (λ z. TellsRow (length z) (λ i. SomeSplit (tests_at c.args.atoms.now i) (column c.args.below.now i) c.deref.result.now c.args.s) c.in_ok-row.row) c.roles.ensures.roles c.in_ok-row.ensures)
      (sym c.has_neighbour.ensures ∙ c.if-has_neighbour.true);
}

pub returns : goal.returns
returns c =
    let rs = roles c.args.hier.now.predicates in
    IfOk-weaker c.led.result _ _ (λ found told axioms q next connected. record {
      connected = connected;
      tells = alone c.args.hier.now axioms q c.args.links.now c.args.atoms.now c.args.below.now c.args.s next connected c.deref.result.now c.in_ok-row.row found (subst (AreTops c.args.links.now c.args.s) (sym c.deref.ensures.value) c.in_ok-tops.ensures)
          (subst (λ z. TellsRow (length z) (λ i. SomeSplit (tests_at c.args.atoms.now i) (column c.args.below.now i) c.deref.result.now c.args.s) c.in_ok-row.row) c.roles.ensures.roles c.in_ok-row.ensures) (sym c.has_neighbour.ensures ∙ c.if-has_neighbour.false)
          (subst (λ z. TellsRow (length rs) (ChainLeadsTo axioms rs z) found) c.as_slice.ensures (told axioms next.plan.hierarchy));
    }) c.led.ensures
