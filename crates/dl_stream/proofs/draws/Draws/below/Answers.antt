use Rattle.std.proofs.Common.{◌*◌, ◌+◌, ◌%◌, ◌/◌, ap, ◌∙◌}
use Rattle.dl_stream.proofs.DrawLemmas.{next_state-wraps, drawn-number}
use Rattle.dl_stream.proofs.draws.Draws.below.Goals as goal

pub returns-clause-state : goal.returns-clause-state
returns-clause-state c = next_state-wraps c.args.self.now.state

pub returns-clause-number : goal.returns-clause-number
returns-clause-number c =
    let x = (c.args.self.now.state * 6364136223846793005 % 18446744073709551616 + 1442695040888963407) % 18446744073709551616 in
    ap (λ k. x / 8589934592 % k) c.from.ensures ∙ drawn-number c.args.k x
