use Rattle.std.proofs.Common.{arith}
use Rattle.dl_terms.specs.declared.axiom.Fact.TheVariants.{Is}
use Rattle.dl_laws.specs.Examples.{class_a, name_a}
use Rattle.dl_laws.proofs.worked_examples.root_examples.Goals as goal

pub returns : goal.returns
returns c = λ l history s. let h = s.rows_are.once 1 (omega arith) (Is class_a name_a) in omega (arith, h)
