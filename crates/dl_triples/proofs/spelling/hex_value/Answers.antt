use Rattle.std.proofs.Common.{◌≡◌, ℕ, zero, suc, ◌<◌, ◌≤◌, ◌*◌, ◌+◌, ◌-◌, ◌^◌, arith, sym, subst, ap, ◌∙◌}
use Rattle.std.proofs.Math.Nat.{pow-suc, add-suc, add-zero}
use Rattle.dl_triples.proofs.spelling.hex_value.Goals as goal

grows : (i k : ℕ) → 16 ^ i ≤ 16 ^ (i + k)
grows i zero = subst (λ n. 16 ^ i ≤ 16 ^ n) (sym (add-zero i)) (omega arith)
grows i (suc k) =
    let more = grows i k in
    let step : 16 ^ (i + suc k) ≡ 16 ^ (i + k) * 16 = ap (λ n. 16 ^ n) (add-suc i k) ∙ pow-suc 16 (i + k) in
    omega (arith, more, step)

-- a number of up to seven digits, and one digit more
fits : (value digit i : ℕ) → value < 16 ^ i → i < 8 → digit < 16 → value * 16 + digit < 2 ^ 32
fits value digit i small few is =
    let seven : i + (7 - i) ≡ 7 = omega arith in
    let most : 16 ^ i ≤ 16 ^ 7 = subst (λ n. 16 ^ i ≤ 16 ^ n) seven (grows i (7 - i)) in
    omega (arith, most, small, is)

pub overflow_mul-value : goal.overflow_mul-value
overflow_mul-value c =
    let few : c.loop-digit.digit-index < 8 = omega (arith, c.requires) in
    omega (arith, fits c.loop-digit.value 0 c.loop-digit.digit-index c.loop-digit.invariant.fits few (omega arith))

pub overflow_add-value : goal.overflow_add-value
overflow_add-value c =
    let few : c.loop-digit.digit-index < 8 = omega (arith, c.requires) in
    let is = c.in_ok-value.ensures.value in
    let small : c.in_ok-value.field-0 < 16 = omega (arith, is.0, is.1) in
    omega (arith, fits c.loop-digit.value c.in_ok-value.field-0 c.loop-digit.digit-index c.loop-digit.invariant.fits few small)
