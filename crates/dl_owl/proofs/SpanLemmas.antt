-- The parts of a token's text.
use Rattle.std.proofs.Common.{◌≡◌, ℕ, ◌+◌, ◌-◌, ◌≤◌, true, ◌==◌, List, length, take, drop, slice_range, refl, ap, ◌∙◌, subst, arith, IsUtf8}
use Rattle.std.proofs.lemmas.Grind.{common_steps}
use Rattle.std.proofs.lemmas.List.{drop-take, drop-drop, take-take}
use Rattle.std.proofs.Math.Logic.{∥∥₁_elim, ∥∥₁_map}
use Rattle.std.proofs.Math.Bridge.{le_prop}
use Rattle.dl_lex.specs.declared.token.TokenKind.{TokenKind}
use Rattle.dl_lex.specs.declared.token.TokenKind.TheVariants.{Iri, Short}
use Rattle.std.specs.List.{position_or_len}
use Rattle.dl_lex.specs.Grammar as grammar
use Rattle.dl_lex.specs.Grammar.{IsIri, IsTokenAt, IsRunText, has_colon}
use Rattle.dl_names.proofs.NameListLemmas.{position_or_len-lt}
use Rattle.dl_lex.proofs.Ranges.{iri_text}

-- an IRI has its two brackets
pub iri_spans : (bytes : List ℕ) (i j : ℕ) → IsIri bytes i j → (i + 1 ≤ j - 1) × (j - 1 ≤ length bytes)
iri_spans bytes i j h =
    let opens = h.opens.ends in
    let inner = h.inner.stand.ends in
    let closes = h.closes.ends in
    let in_range = h.closes.in_range in
    (omega (arith, inner, closes), omega (arith, in_range))

-- what is cut out of a part stands in the whole
cut_len : (bytes : List ℕ) (i j : ℕ) → i ≤ j → j ≤ length bytes → length (slice_range bytes i j) ≡ j - i
cut_len bytes i j spans within = grind (arith, common_steps)

cut_once : (n i : ℕ) (bytes : List ℕ) → take n (drop 1 (take (1 + (n + 1)) (drop i bytes))) ≡ take n (drop (i + 1) bytes)
cut_once n i bytes =
    ap (take n) (drop-take 1 (n + 1) (drop i bytes) ∙ ap (take (n + 1)) (drop-drop 1 i bytes))
    ∙ take-take n (n + 1) (drop (i + 1) bytes) (omega arith)

pub cut_in_cut : (bytes : List ℕ) (i j : ℕ) → i + 1 ≤ j - 1 → j ≤ length bytes
    → slice_range (slice_range bytes i j) 1 (length (slice_range bytes i j) - 1) ≡ slice_range bytes (i + 1) (j - 1)
cut_in_cut bytes i j spans within =
    let len = cut_len bytes i j (omega (arith, spans)) within in
    let n : ℕ = (j - 1) - (i + 1) in
    let inner : (length (slice_range bytes i j) - 1) - 1 ≡ n = omega (arith, len, spans) in
    let outer : j - i ≡ 1 + (n + 1) = omega (arith, spans) in
    (λ at. take (inner at) (drop 1 (take (outer at) (drop i bytes)))) ∙ cut_once n i bytes

-- a token that is an IRI
pub token_iri : (bytes : List ℕ) (kind : TokenKind) (i j : ℕ) → ∥ IsTokenAt bytes kind i j ∥₁ → kind ≡ Iri → ∥ IsIri bytes i j ∥₁
token_iri bytes kind i j h is = subst (λ k. ∥ IsTokenAt bytes k i j ∥₁) is h

pub iri_room : (bytes : List ℕ) (i j : ℕ) → ∥ IsIri bytes i j ∥₁ → i + 1 ≤ j - 1
iri_room bytes i j h = ∥∥₁_elim h le_prop (λ iri. (iri_spans bytes i j iri).0)

pub iri_utf8 : (bytes : List ℕ) (i j : ℕ) → ∥ IsIri bytes i j ∥₁ → ∥ IsUtf8 (slice_range bytes (i + 1) (j - 1)) ∥₁
iri_utf8 bytes i j h = ∥∥₁_map h (λ iri. (iri_text bytes i j iri).1)

-- ---- a token that is a short IRI has a colon

short_has_colon : (text : List ℕ) (kind : TokenKind) → kind ≡ Short → IsRunText text kind → has_colon text ≡ true
short_has_colon text kind is (grammar.IsRunText.node node) = cc
short_has_colon text kind is (grammar.IsRunText.short node colon) = colon
short_has_colon text kind is (grammar.IsRunText.number node colon number) = cc
short_has_colon text kind is (grammar.IsRunText.word k node colon number same) = cc

pub short_colon : (bytes : List ℕ) (kind : TokenKind) (i j : ℕ) → ∥ IsTokenAt bytes kind i j ∥₁ → kind ≡ Short
    → position_or_len (λ c. c == 58) (slice_range bytes i j) ≡ length (slice_range bytes i j) → ⊥
short_colon bytes kind i j h is none =
    let run = subst (λ k. ∥ IsTokenAt bytes k i j ∥₁) is h in
    ∥∥₁_elim run (λ x y. absurd x)
    (λ r.
    let before = position_or_len-lt (λ c. c == 58) (slice_range bytes i j) (short_has_colon (slice_range bytes i j) Short refl r.is) in
    absurd (omega (arith, before, none)))
