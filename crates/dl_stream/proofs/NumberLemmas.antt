-- The number that decimal digits spell, digit by digit.
use Rattle.std.proofs.Common.{◌≡◌, ℕ, ◌+◌, ◌-◌, ◌*◌, ◌^◌, ◌<◌, ◌≤◌, true, false, ◌&&◌, nat_lt, nat_le, suc, List, ◌∷◌, length, drop, get_or, refl, sym, ap, ◌∙◌, arith, add-one, drop-cons, pow-suc}
use Rattle.std.specs.List.{list_all}
use Rattle.std.specs.Char.{is_ascii_digit, digit_value}
use Rattle.std.specs.Str.Parse.{digits_value, digits_value_after}
use Rattle.std.proofs.lemmas.Bool.{and_parts}

-- the value so far and the digits that are left
pub record Reads (word : List ℕ) (value i : ℕ) : Type 0 where
  pub value_is : digits_value_after 10 value (drop i word) ≡ digits_value 10 word
  pub digits : list_all is_ascii_digit (drop i word) ≡ true
  pub small : value < 10 ^ i

pub Reads-first : (word : List ℕ) → list_all is_ascii_digit word ≡ true → Reads word 0 0
Reads-first word all = record { value_is = refl; digits = all; small = omega arith }

module _ (b : ℕ) (h : is_ascii_digit b ≡ true) where
  parts : (nat_le 48 b ≡ true) × (nat_le b 57 ≡ true)
  parts = and_parts (nat_le 48 b) (nat_le b 57) h

  pub from : 48 ≤ b
  from = let e = parts.0 in grind arith

  pub to : b ≤ 57
  to = let e = parts.1 in grind arith

  digit_is : digit_value b ≡ b - 48
  digit_is =
      let low : nat_lt b 48 ≡ false = grind (arith, from) in
      let high : nat_lt b 58 ≡ true = grind (arith, to) in
      rw (low, high) refl

pub Reads-next : (word : List ℕ) (value i b : ℕ) → i < length word → get_or word i 0 ≡ b → Reads word value i → (48 ≤ b) × (b ≤ 57) × Reads word (value * 10 + (b - 48)) (i + 1)
Reads-next word value i b within at reads =
    let here : drop i word ≡ b ∷ drop (i + 1) word = rw (add-one, drop-cons word i 0) (ap (λ c. c ∷ drop (suc i) word) at) in
    let digits : (is_ascii_digit b && list_all is_ascii_digit (drop (i + 1) word)) ≡ true = ap (list_all is_ascii_digit) (sym here) ∙ reads.digits in
    let split = and_parts (is_ascii_digit b) (list_all is_ascii_digit (drop (i + 1) word)) digits in
    let low = from b split.0 in
    let high = to b split.0 in (
      low,
      high,
      record {
        value_is =
            ap (λ (d : ℕ). digits_value_after 10 (value * 10 + d) (drop (i + 1) word)) (sym (digit_is b split.0))
            ∙ ap (digits_value_after 10 value) (sym here) ∙ reads.value_is;
        digits = split.1;
        small = let grows : 10 ^ (i + 1) ≡ 10 ^ i * 10 = rw (add-one, pow-suc) refl in omega (arith, reads.small, grows, low, high);
      },
    )
