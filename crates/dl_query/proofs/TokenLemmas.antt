-- How long a run of bytes is.
use Rattle.std.proofs.Common.{◌≡◌, ℕ, ◌+◌, ◌≤◌, Bool, true, false, cond, not, ◌&&◌, ◌==◌, List, [], ◌∷◌, length, position, Some, None, unwrap_or, nat_lt, refl, sym, ap, ◌∙◌, arith}
use Rattle.std.specs.List.{position_or_len}
use Rattle.std.specs.Str.{IsUtf8, is_utf8}
use Rattle.std.proofs.lemmas.Bool.{ltb-false, eq-eqb}
use Rattle.std.proofs.lemmas.List.{length-append}
use Rattle.std.proofs.lemmas.Str.{IsUtf8-from_is_utf8, is_utf8-from_IsUtf8}
use Rattle.dl_query.specs.Symbols.{iri, no_token, front, no_front, iri_of, front_of}
use Rattle.dl_query.proofs.SeenLemmas.{found-token}

module _ (p : ℕ → Bool) where
  pub position_or_len-le : (xs : List ℕ) → position_or_len p xs ≤ length xs
  position_or_len-le [] = omega arith
  position_or_len-le (x ∷ xs) = by (not (p x)) (position_or_len-le xs)
    where
      by : (b : Bool) → position_or_len p xs ≤ length xs → cond b (1 + position_or_len p xs) 0 ≤ length (x ∷ xs)
      by true h = omega (arith, h)
      by false h = omega arith

  -- the first that passes, or the length
  pub position-or_len : (xs : List ℕ) → unwrap_or (position p xs) (length xs) ≡ position_or_len p xs
  position-or_len xs = by (nat_lt (position_or_len p xs) (length xs)) refl
    where
      by : (b : Bool) → nat_lt (position_or_len p xs) (length xs) ≡ b
          → unwrap_or (position p xs) (length xs) ≡ position_or_len p xs
      by true e = ap (λ b. unwrap_or (cond b (Some (position_or_len p xs)) None) (length xs)) e
      by false e =
          let least = ltb-false _ _ e in
          ap (λ b. unwrap_or (cond b (Some (position_or_len p xs)) None) (length xs)) e ∙ omega (arith, least, position_or_len-le xs)

-- ---- IRIs

iri-tests : (text rest : List ℕ) (b : ℕ) (behind : List ℕ) → behind ≡ b ∷ rest → (t u : Bool) → (b == 62) ≡ t → is_utf8 text ≡ u
    → iri_of text behind ≡ cond (t && u) (front (iri text) rest) (no_front rest)
iri-tests text rest b behind is t u e f = ap (iri_of text) is ∙ (λ i. cond (e i && f i) (front (iri text) rest) (no_front rest))

pub iri-found : (text found rest : List ℕ) (b : ℕ) (behind : List ℕ) → behind ≡ b ∷ rest → b ≡ 62 → found ≡ text → IsUtf8 text
    → front (iri found) rest ≡ iri_of text behind
iri-found text found rest b behind is closes same utf8 =
    ap (λ x. front (iri x) rest) same ∙ sym (iri-tests text rest b behind is true true (eq-eqb b 62 closes) (is_utf8-from_IsUtf8 text utf8))

pub iri-none : (text rest : List ℕ) (b : ℕ) (behind : List ℕ) → behind ≡ b ∷ rest → (IsUtf8 text → ⊥)
    → front no_token rest ≡ iri_of text behind
iri-none text rest b behind is none = by (is_utf8 text) refl
  where
    and-false : (a : Bool) → (a && false) ≡ false
    and-false true = refl
    and-false false = refl

    by : (u : Bool) → is_utf8 text ≡ u → front no_token rest ≡ iri_of text behind
    by true e = absurd (none (IsUtf8-from_is_utf8 text e))
    by false e =
        sym (iri-tests text rest b behind is (b == 62) false refl e ∙ ap (λ x. cond x (front (iri text) rest) (no_front rest)) (and-false (b == 62)))

-- ---- what stands behind a token

pub rest-le : (bytes : List ℕ) → length (front_of bytes).rest ≤ length bytes
rest-le [] = omega arith
rest-le (b ∷ xs) =
    let f = found-token b xs in
    omega (arith, ap (λ x. length x.rest) f.found, ap length f.is, length-append f.c f.r)
