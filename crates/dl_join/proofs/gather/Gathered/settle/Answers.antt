use Rattle.std.proofs.Common.{refl}
use Rattle.std.proofs.lemmas.Result.{err_from_is_err_and}
use Rattle.dl_join.proofs.GatherLemmas.{gathers_settled, over_settled}
use Rattle.dl_join.proofs.gather.Gathered.settle.Goals as goal

pub returns-in_err-self-clause-many : goal.returns-in_err-self-clause-many
returns-in_err-self-clause-many c = λ e.
    let p = err_from_is_err_and c.from_residual-in_err-self.result c.from_residual-in_err-self.ensures.1 in
    over_settled c.args.self.now c.in_ok-batch.batch.tuples (rw c.replace-fresh.ensures.value at c.in_ok-batch.ensures.set) (c.in_err-self.ensures.many (cc (p.1, p.2, e)))

pub returns-clause-ok : goal.returns-clause-ok
returns-clause-ok c =
    gathers_settled c.args.self.now _ c.in_ok-batch.batch.tuples c.requires (rw c.replace-fresh.ensures.value at c.in_ok-batch.ensures.set) refl c.in_ok-self.ensures.width
    (rw c.new.ensures at c.replace-fresh.ensures.after) c.in_ok-self.ensures.tuples c.in_ok-self.ensures.within
