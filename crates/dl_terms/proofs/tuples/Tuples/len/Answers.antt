use Rattle.std.proofs.Common.{sym}
use Rattle.dl_terms.proofs.TableLemmas.{length-cut}
use Rattle.dl_terms.proofs.tuples.Tuples.len.Goals as goal

pub returns : goal.returns
returns c = rw (← c.self.view_is) (sym (length-cut _ _ _))
