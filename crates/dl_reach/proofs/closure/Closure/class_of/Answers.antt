use Rattle.std.proofs.Common.{◌<◌, ◌≤◌, ⊎_elim, arith}
use Rattle.std.proofs.lemmas.Bool.{cases_lt}
use Rattle.dl_reach.specs.Chain.{empty}
use Rattle.dl_reach.proofs.closure.Closure.class_of.Goals as goal

pub least_connected-requires-clause-own : goal.least_connected-requires-clause-own
least_connected-requires-clause-own c =
    let chains = rw c.self.view_is at c.self.invariant.chains in
    rw c.deref.ensures.value ((chains c.args.node c.args.node c.requires).1 empty)

pub returns-clause-least : goal.returns-clause-least
returns-clause-least c =
    let chains = rw c.self.view_is at c.self.invariant.chains in
    let none_less = rw c.deref.ensures.value at c.least_connected.ensures.least in
    λ other w.
    ⊎_elim
    (λ (h : other < c.least_connected.result). absurd (none_less other h ((chains c.args.node other c.requires).1 w.0) ((chains other c.args.node (let i = c.least_connected.ensures.within in let n = c.requires in omega arith)).1 w.1)))
    (λ (h : c.least_connected.result ≤ other). h)
    (cases_lt other c.least_connected.result)
