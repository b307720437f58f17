use Rattle.std.proofs.Common.{◌∙◌, refl, sym, true≢false}
use Rattle.dl_terms.specs.declared.query.Term.TheVariants.{Var}
use Rattle.dl_join.proofs.leaf.hangs.Goals as goal

pub returns : goal.returns
returns c = λ e. record {
  free = λ w. true≢false (sym (c.names.ensures.1 (w.0, Var c.args.var, w.1, w.2, refl)) ∙ c.if-names.false);
  alone = c.all_keep_to.ensures e;
}
