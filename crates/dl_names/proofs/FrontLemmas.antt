-- The number of a text's first bytes grows with the text.
use Rattle.std.proofs.Common.{◌≡◌, ℕ, suc, zero, ◌+◌, ◌*◌, ◌^◌, ◌<◌, ◌≤◌, List, [], ◌∷◌, refl, sym, ap, ◌∙◌, arith, get_or, rules, take, drop}
use Rattle.std.specs.declared.cmp.Ordering.{Ordering}
use Rattle.std.specs.declared.cmp.Ordering.TheVariants.{Less, Equal, Greater}
use Rattle.std.specs.Cmp.Lexicographic.{slice_cmp}
use Rattle.std.specs.Ordering.{nat_cmp, ordering_then}
use Rattle.std.proofs.lemmas.Cmp.{nat_cmp_total, tied_itself}
use Rattle.std.proofs.lemmas.List.{take-take}
use Rattle.std.proofs.Math.Nat.{mul-le-mul_left}
use native.Mathlib.Numerals.{unary_clauses}
use Rattle.dl_names.specs.Arrange.{front}

-- the first n bytes as a number
abbrev digits : ℕ → List ℕ → ℕ
digits zero text = 0
digits (suc n) [] = 0
digits (suc n) (b ∷ text) = 256 ^ n * b + digits n text

front-digits : (text : List ℕ) → front text ≡ digits 8 text
front-digits [] = refl
front-digits (a ∷ []) = omega arith
front-digits (a ∷ b ∷ []) = omega arith
front-digits (a ∷ b ∷ c ∷ []) = omega arith
front-digits (a ∷ b ∷ c ∷ d ∷ []) = omega arith
front-digits (a ∷ b ∷ c ∷ d ∷ e ∷ []) = omega arith
front-digits (a ∷ b ∷ c ∷ d ∷ e ∷ f ∷ []) = omega arith
front-digits (a ∷ b ∷ c ∷ d ∷ e ∷ f ∷ g ∷ []) = omega arith
front-digits (a ∷ b ∷ c ∷ d ∷ e ∷ f ∷ g ∷ h ∷ rest) = omega arith

pow_suc : (n : ℕ) → 256 ^ suc n ≡ 256 ^ n * 256
pow_suc n = simp unary_clauses (refl)

pow_pos : (n : ℕ) → 0 < 256 ^ n
pow_pos zero = omega arith
pow_pos (suc n) = let before = pow_pos n in omega (arith, before, pow_suc n)

digits-lt : (n : ℕ) (text : List ℕ) → ((i : ℕ) → get_or text i 0 < 256) → digits n text < 256 ^ n
digits-lt zero text fits = omega arith
digits-lt (suc n) [] fits = pow_pos (suc n)
digits-lt (suc n) (b ∷ text) fits =
    let rest = digits-lt n text (λ i. fits (suc i)) in
    let most = mul-le-mul_left {m = b + 1} {n = 256} (256 ^ n) (omega (arith, fits 0)) in
    omega (arith, rest, most, pow_suc n)

-- of two texts in byte order the first has no greater number
digits-before : (n : ℕ) (x y : List ℕ) → ((i : ℕ) → get_or x i 0 < 256) → slice_cmp nat_cmp x y ≡ Less → digits n x ≤ digits n y
digits-before zero x y fits before = omega arith
digits-before (suc n) [] y fits before = omega arith
digits-before (suc n) (a ∷ x) [] fits before = absurd (let no = before in cc)
digits-before (suc n) (a ∷ x) (b ∷ y) fits before = by (nat_cmp a b) refl (digits-before n x y (λ i. fits (suc i)))
  where
    by : (o : Ordering) → nat_cmp a b ≡ o → (slice_cmp nat_cmp x y ≡ Less → digits n x ≤ digits n y) → digits (suc n) (a ∷ x) ≤ digits (suc n) (b ∷ y)
    by Less e rest =
        let less : a < b = search (rules, e) in
        let more = mul-le-mul_left {m = a + 1} {n = b} (256 ^ n) (omega (arith, less)) in
        omega (arith, more, digits-lt n x (λ i. fits (suc i)))
    by Equal e rest =
        let same : a ≡ b = search (rules, e) in
        let below = rest (ap (λ o. ordering_then o (slice_cmp nat_cmp x y)) (sym e) ∙ before) in
        omega (arith, ap (λ t. 256 ^ n * t) same, below)
    by Greater e rest = absurd (let no = ap (λ o. ordering_then o (slice_cmp nat_cmp x y)) (sym e) ∙ before in cc)

-- and so the number of its front
pub front-before : (x y : List ℕ) → ((i : ℕ) → get_or x i 0 < 256) → slice_cmp nat_cmp x y ≡ Less → front x ≤ front y
front-before x y fits before = let lower = digits-before 8 x y fits before in omega (arith, lower, front-digits x, front-digits y)

-- texts that begin alike compare as what is behind does
pub cmp-behind : (n : ℕ) (x y : List ℕ) → take n x ≡ take n y → slice_cmp nat_cmp x y ≡ slice_cmp nat_cmp (drop n x) (drop n y)
cmp-behind zero x y alike = refl
cmp-behind (suc n) [] [] alike = refl
cmp-behind (suc n) [] (b ∷ y) alike = absurd (let no = alike in cc)
cmp-behind (suc n) (a ∷ x) [] alike = absurd (let no = alike in cc)
cmp-behind (suc n) (a ∷ x) (b ∷ y) alike =
    let same : a ≡ b = ap (λ l. get_or l 0 a) alike in
    let rest : take n x ≡ take n y = ap (drop 1) alike in
    (λ i. ordering_then (nat_cmp a (sym same i)) (slice_cmp nat_cmp x y)) ∙ ap (λ o. ordering_then o (slice_cmp nat_cmp x y)) (tied_itself nat_cmp_total a) ∙ cmp-behind n x y rest

-- fewer bytes are alike too
pub take-fewer : (m n : ℕ) (x y : List ℕ) → m ≤ n → take n x ≡ take n y → take m x ≡ take m y
take-fewer m n x y less alike = sym (take-take m n x less) ∙ ap (take m) alike ∙ take-take m n y less
