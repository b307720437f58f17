use Rattle.std.proofs.Common.{◌≡◌}
use Rattle.dl_terms.specs.declared.query.Term.TheVariants.{Var, Name}
use Rattle.dl_tree.specs.Each.{IsEach}
use Rattle.dl_rewrite.proofs.unify.unchanged.Given as goal

abbrev pub invariant-loop-v : goal.invariant-loop-v
invariant-loop-v l = IsEach (Name 0) l.v (λ v t. t ≡ Var v) l.to.items
