use Rattle.std.proofs.Common.{◌≡◌, take, flat_map}
use Rattle.dl_terms.specs.NormalForm.{axiom_negatives}
use Rattle.dl_deny.specs.Denied.{denials_of}
use Rattle.dl_deny.proofs.denial.denials.Given as goal

abbrev pub invariant-loop-axiom : goal.invariant-loop-axiom
invariant-loop-axiom l = l.found ≡ denials_of (flat_map axiom_negatives (take l.axiom-index l.axioms))
