use Rattle.std.proofs.Common.{ℕ, take}
use Rattle.std.specs.List.{Any, Contains}
use Rattle.dl_terms.specs.declared.query.Term.TheVariants.{Var}
use Rattle.dl_join.specs.Disjuncts.{HasVariable}
use Rattle.dl_join.proofs.safe.is_safe.Given as goal

abbrev pub invariant-loop-term : goal.invariant-loop-term
invariant-loop-term l = (v : ℕ) → Contains (take l.term-index l.term-items) (Var v) → Any (HasVariable v) l.disjunct.probes
