-- No negative so far is met.
use Rattle.std.proofs.Common.{List as Items, take}
use Rattle.std.specs.List.{All}
use Rattle.dl_terms.specs.Broken.{IsMet}
use Rattle.dl_terms.specs.declared.axiom.Axiom.{Axiom}
use Rattle.dl_terms.specs.declared.axiom.Fact.{Fact}
use Rattle.dl_answer.specs.Searches.{AreRead, GoesOn}
use Rattle.dl_answer.proofs.broken.first_met.Given as goal

abbrev pub invariant-loop-index : goal.invariant-loop-index
invariant-loop-index g l = record {
  none : (axioms : Items Axiom) (known : Items Fact)
      → AreRead (g.R.Reads.stands l.initial.reads) l.version l.hier l.initial.kept axioms known
      → All (λ n. ¬ IsMet axioms known n.1) (take l.index-index l.negatives);
  goes : GoesOn l.version l.hier (g.R.Reads.stands l.initial.reads) (g.R.Reads.reader l.initial.reads) l.initial.kept
      (g.R.Reads.stands l.reads) (g.R.Reads.reader l.reads) l.kept;
}
