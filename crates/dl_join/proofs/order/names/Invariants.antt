use Rattle.std.proofs.Common.{◌≡◌, take}
use Rattle.std.specs.List.{Any}
use Rattle.dl_terms.specs.declared.query.Term.{Term}
use Rattle.dl_terms.specs.declared.query.Term.TheVariants.{Var}
use Rattle.dl_join.proofs.order.names.Given as goal

abbrev pub invariant-loop-term : goal.invariant-loop-term
invariant-loop-term l = Any (λ (t : Term). t ≡ Var l.var) (take l.term-index l.head) → ⊥
