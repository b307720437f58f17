use Rattle.std.proofs.Math.Logic.{∥∥₁_elim}
use Rattle.dl_owl.proofs.cursor.Cursor.text.Goals as goal

pub unreachable-requires : goal.unreachable-requires
unreachable-requires c = ∥∥₁_elim c.self.invariant.5 (λ x y. absurd x) (λ utf8. c.in-Err.ensures.cases.0 utf8)
