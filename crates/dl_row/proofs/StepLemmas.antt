-- How many rows a search and a scan look at.
use Rattle.std.proofs.Common.{◌≡◌, ℕ, zero, suc, ◌+◌, ◌*◌, ◌/◌, ◌^◌, ◌<◌, ◌≤◌, refl, subst, ◌∙◌, arith}
use Rattle.std.proofs.lemmas.Grind.{pow_more}

-- ---- what is left of a search that halves a gap

-- since a count of steps stood at a number, no more were taken than digits are gone, and the gap has the digits left
pub record Halves (old now gap digits : ℕ) : Type 0 where
  pub left : ℕ
  pub small : gap < 2 ^ left
  pub few : now + left ≤ old + digits

pub Halves-start : (old gap count digits : ℕ) → gap ≤ count → count < 2 ^ digits → Halves old old gap digits
Halves-start old gap count digits h small = record { left = digits; small = omega (arith, h, small); few = omega arith }

halved : (gap part left : ℕ) → part ≤ gap / 2 → gap < 2 ^ (left + 1) → part < 2 ^ left
halved gap part left h small = let e : 2 ^ (left + 1) ≡ 2 ^ left * 2 = pow_more 2 left in omega (arith, h, small, e)

pub Halves-next : (old now new gap part digits : ℕ) → 0 < gap → part ≤ gap / 2 → new ≡ now + 1 → Halves old now gap digits → Halves old new part digits
Halves-next old now new gap part digits some h step halves = by halves.left refl
  where
    by : (left : ℕ) → halves.left ≡ left → Halves old new part digits
    by zero e =
        let small : gap < 2 ^ 0 = subst (λ n. gap < 2 ^ n) e halves.small in
        absurd (omega (arith, some, small))
    by (suc left) e =
        let next : suc left ≡ left + 1 = omega arith in
        let small : gap < 2 ^ (left + 1) = subst (λ n. gap < 2 ^ n) (e ∙ next) halves.small in
        let few = halves.few in
        record { left = left; small = halved gap part left h small; few = omega (arith, step, few, e) }

pub Halves-done : (old now gap digits : ℕ) → Halves old now gap digits → now ≤ old + digits
Halves-done old now gap digits halves = let f = halves.few in omega (arith, f)
