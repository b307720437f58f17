use Rattle.std.proofs.Common.{◌≡◌, ◌+◌, ◌*◌, ◌/◌, ◌-◌, ◌^◌, min, ap, ◌∙◌, arith}
use Rattle.dl_normal.proofs.OperandLemmas.{half_even, half_odd}
use Rattle.dl_normal.proofs.size.count_of_pairs.Goals as goal

pub returns-then-operands-eq0 : goal.returns-then-operands-eq0
returns-then-operands-eq0 c =
    let n = c.args.operands in
    let even : n ≡ 2 * (n / 2) = omega arith in
    c.saturating_mul.ensures ∙ ap (λ k. min (n / 2 * k) (2 ^ 64 - 1)) c.saturating_sub.ensures ∙ ap (λ k. min k (2 ^ 64 - 1)) (half_even n (n / 2) even)

pub returns-else-operands-eq0 : goal.returns-else-operands-eq0
returns-else-operands-eq0 c =
    let n = c.args.operands in
    let odd : n ≡ 2 * (n / 2) + 1 = omega arith in
    c.saturating_mul-else-operands-eq0.ensures ∙ ap (λ k. min k (2 ^ 64 - 1)) (half_odd n (n / 2) odd)
