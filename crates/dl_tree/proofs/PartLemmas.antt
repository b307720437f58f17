-- A part of a set by one of its bits, and when it is the whole set.
use Rattle.std.proofs.Common.{◌≡◌, ℕ, ◌*◌, ◌<◌, ◌≤◌, ◌^◌, ◌⊎◌, Bool, true, false, cond, List, [], length, get_or, nat_eq, bit_and, sym, ap, ◌∙◌, inl, inr, arith}
use Rattle.std.specs.Int.{bit_at}
use Rattle.std.specs.List.{list_any}
use Rattle.std.proofs.lemmas.Nat.{and_comm, and_le_l, pow_pos}
use Rattle.std.proofs.lemmas.Nat.Bits.{bit_at_above, bit_at-lt, bit_at-zero, and_pow, same_from_bits_below}
use Rattle.std.proofs.Math.Nat.{zero-mul, one-mul}
use Rattle.std.proofs.Math.Pow.{pow_mono}
use Rattle.dl_terms.specs.Chain.{Chain, empty, step}
use Rattle.dl_terms.specs.Roles.{named}
use Rattle.dl_terms.specs.declared.query.Term.TheVariants.{Var}
use Rattle.dl_terms.specs.declared.query.Query.{Query}
use Rattle.dl_tree.specs.Sets.{AreLinked, forward, backward, IsStepWithin, IsConnected}
use Rattle.dl_tree.specs.Below.{IsClosedIn}
use Rattle.dl_tree.specs.Masks.{place, set_of, bit_of}
use Rattle.dl_tree.specs.TestsOf.{IsNumbering}
use Rattle.dl_tree.proofs.FoldLemmas.{true_or_false}
use Rattle.dl_tree.proofs.MaskLemmas.{place-none, one_true}
use Rattle.dl_tree.proofs.SplitLemmas.{is_within}

-- ---- a bit

pub bit_small : (bit i : ℕ) → bit ≡ 2 ^ i → i < 8 → bit ≤ 128
bit_small bit i e l =
    let h : i ≤ 7 = omega (arith, l) in
    let m : 2 ^ i ≤ 2 ^ 7 = pow_mono h in
    omega (arith, e, m)

zero_or_one : (n : ℕ) → n < 2 → (n ≡ 0) ⊎ (n ≡ 1)
zero_or_one n h = grind arith

-- a bit that a number has
has_one : (s i : ℕ) → (bit_and (2 ^ i) s ≡ 0 → ⊥) → bit_at s i ≡ 1
has_one s i some = by (zero_or_one (bit_at s i) (bit_at-lt s i))
  where
    by : (bit_at s i ≡ 0) ⊎ (bit_at s i ≡ 1) → bit_at s i ≡ 1
    by (inl z) = absurd (some (and_comm (2 ^ i) s ∙ and_pow s i ∙ ap (λ k. k * 2 ^ i) z ∙ zero-mul (2 ^ i)))
    by (inr o) = o

has_none : (s i : ℕ) → bit_and (2 ^ i) s ≡ 0 → bit_at s i ≡ 0
has_none s i none = by (zero_or_one (bit_at s i) (bit_at-lt s i))
  where
    by : (bit_at s i ≡ 0) ⊎ (bit_at s i ≡ 1) → bit_at s i ≡ 0
    by (inl z) = z
    by (inr o) =
        let e : bit_and (2 ^ i) s ≡ 2 ^ i = and_comm (2 ^ i) s ∙ and_pow s i ∙ ap (λ k. k * 2 ^ i) o ∙ one-mul (2 ^ i) in
        let p : 1 ≤ 2 ^ i = pow_pos i in
        absurd (omega (arith, e, p, none))

pub no_bits : (s : ℕ) → s < 2 ^ 8 → ((i : ℕ) → i < 8 → bit_and (2 ^ i) s ≡ 0) → s ≡ 0
no_bits s fits none = same_from_bits_below 8 s 0 fits (pow_pos 8) (λ i l. has_none s i (none i l) ∙ sym (bit_at-zero i))

-- the variable of a bit
pub bit_member : (ex : List ℕ) (s i : ℕ) → IsNumbering ex → s < 2 ^ length ex → (bit_and (2 ^ i) s ≡ 0 → ⊥)
    → (v : ℕ) × (bit_of ex (Var v) ≡ 2 ^ i) × (set_of ex s v ≡ true)
bit_member ex s i numbering fits some = (v, ap (λ b. cond b (2 ^ place ex v) 0) known ∙ ap (λ k. 2 ^ k) at, one_true (bit_at s (place ex v)) (ap (bit_at s) at ∙ one))
  where
    one : bit_at s i ≡ 1
    one = has_one s i some

    within : i < length ex
    within = by (cases i (length ex))
      where
        cases : (i n : ℕ) → (i < n) ⊎ (n ≤ i)
        cases i n = grind arith

        by : (i < length ex) ⊎ (length ex ≤ i) → i < length ex
        by (inl h) = h
        by (inr h) = let z = bit_at_above s (length ex) i fits h in absurd (omega (arith, z, one))

    v : ℕ
    v = get_or ex i 0

    at : place ex v ≡ i
    at = numbering i within

    known : list_any (nat_eq v) ex ≡ true
    known = by (true_or_false (list_any (nat_eq v) ex))
      where
        by : (list_any (nat_eq v) ex ≡ true) ⊎ (list_any (nat_eq v) ex ≡ false) → list_any (nat_eq v) ex ≡ true
        by (inl h) = h
        by (inr h) = let n = place-none ex v h in absurd (omega (arith, n, at, within))

-- ---- a part that is the whole

module _ (q : Query) (part s : ℕ → Bool) (closed : IsClosedIn q part s) where
  stays : {v w : ℕ} → Chain (IsStepWithin q s) v w → part v ≡ true → part w ≡ true
  stays empty h = h
  stays (step {a = v} {b = u} k c) h = stays c (by k.linked)
    where
      by : AreLinked q (Var v) (Var u) → part u ≡ true
      by (forward {p = p} l) = closed.forward p (Var v) (Var u) l h k.to
      by (backward {p = p} l) = closed.backward p (Var u) (Var v) l h k.to

  -- a closed part of a connected set has all its members
  pub whole : IsConnected q part → IsConnected q s → (v : ℕ) → s v ≡ true → part v ≡ true
  whole connected all v h = stays (all.chains connected.member v (closed.within connected.member connected.is_member) h) connected.is_member

module _ (q : Query) (ex : List ℕ) (numbering : IsNumbering ex) (part s : ℕ) (fp : part < 2 ^ length ex) (fs : s < 2 ^ length ex)
    (closed : IsClosedIn q (set_of ex part) (set_of ex s)) where
  pub part_within : bit_and part s ≡ part
  part_within = is_within [] q ex (named 0) s part numbering fs fp closed.within

  pub part_le : part ≤ s
  part_le = let l = and_le_l s part in let e = part_within in let k = and_comm part s in omega (arith, l, e, k)

  -- the number of a closed part of a connected set is that of the set
  pub part_is_whole : IsConnected q (set_of ex part) → IsConnected q (set_of ex s) → part ≡ s
  part_is_whole connected all =
      let e : bit_and s part ≡ s = is_within [] q ex (named 0) part s numbering fp fs (whole q (set_of ex part) (set_of ex s) closed connected all) in
      sym part_within ∙ and_comm part s ∙ e
