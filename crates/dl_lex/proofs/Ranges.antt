-- The offsets of tokens are in order, and the text of a token is UTF-8.
use Rattle.std.proofs.Common.{◌≡◌, ℕ, ◌+◌, ◌-◌, ◌<◌, ◌≤◌, Bool, true, List, [], ◌∷◌, ◌++◌, length, drop, refl, sym, subst, arith}
use Rattle.std.proofs.Math.Utf8.{encodes, scalar, scalars, low_scalar}
use Rattle.std.proofs.Math.Seq.{take-append_seam}
use Rattle.std.specs.List.{All, slice_range}
use Rattle.std.specs.Char.{IsScalar}
use Rattle.std.specs.Str.{IsUtf8}
use Rattle.std.proofs.lemmas.Bool.{and_from}
use Rattle.std.proofs.lemmas.List.Elements.{All-head, All-tail}
use Rattle.std.proofs.lemmas.Str.{encode_ascii, IsUtf8-encode, IsUtf8-append, IsUtf8-nil}
use Rattle.dl_lex.specs.declared.token.TokenKind.{TokenKind}
use Rattle.dl_lex.specs.declared.token.TokenKind.TheVariants.{Open, Close, Equals, Caret, Iri, Text, Lang, Node, Short, Number, Word, End}
use Rattle.dl_lex.specs.Characters.{StandsAt, AreCharacters}
use Rattle.dl_lex.specs.Grammar.{Skips, nothing, white_space, comment, IsIri, IsQuoted, empty, plain, escaped, IsRun, IsTokenAt}
use Rattle.dl_lex.proofs.Standing.{StandsAt-append}
use Rattle.dl_lex.proofs.Quoted.{escaped_low}

-- white space and comments end no earlier than they begin, and within the bytes
pub skips_forward : (bytes : List ℕ) (i j : ℕ) → Skips bytes i j → (i ≤ j) × (j ≤ length bytes)
skips_forward bytes _ _ (nothing i h f) = (omega arith, h)
skips_forward bytes _ _ (white_space i j c at white s) = let later = skips_forward bytes (i + 1) j s in (omega arith, omega arith)
skips_forward bytes _ _ (comment i j k at run s) =
    let later = skips_forward bytes j k s in
    let ends = run.run.stand.ends in
    (omega arith, omega arith)

scalars_of_all : (cs : List ℕ) → All IsScalar cs → scalars cs ≡ true
scalars_of_all [] all = refl
scalars_of_all (c ∷ cs) all = and_from (scalar c) (scalars cs) (All-head IsScalar c cs all) (scalars_of_all cs (All-tail IsScalar c cs all))

scalars_of_quoted : (cs : List ℕ) → IsQuoted cs → scalars cs ≡ true
scalars_of_quoted _ empty = refl
scalars_of_quoted _ (plain c cs s no_quote no_slash q) = and_from (scalar c) (scalars cs) s (scalars_of_quoted cs q)
scalars_of_quoted _ (escaped c cs is q) = and_from (scalar c) (scalars cs) (let low = escaped_low c is in low_scalar c (omega arith)) (scalars_of_quoted cs q)

utf8_byte : (b : ℕ) → b < 128 → IsUtf8 (b ∷ [])
utf8_byte b low = subst IsUtf8 (encode_ascii b low) (IsUtf8-encode b (low_scalar b (omega arith)))

-- the text that stands at an offset, cut out
pub slice_of : (bytes : List ℕ) (i j : ℕ) (text : List ℕ) → StandsAt bytes i text j → slice_range bytes i j ≡ text
slice_of bytes i j text s =
    let size : j - i ≡ length text = (let e = s.ends in omega arith) in
    rw (size, s.is) (take-append_seam text (drop j bytes))

utf8_at : (bytes : List ℕ) (i j : ℕ) (text : List ℕ) → StandsAt bytes i text j → IsUtf8 text → IsUtf8 (slice_range bytes i j)
utf8_at bytes i j text s u = subst IsUtf8 (sym (slice_of bytes i j text s)) u

characters_utf8 : (class : ℕ → Bool) (bytes : List ℕ) (i j : ℕ) → (a : AreCharacters class bytes i j) → IsUtf8 (encodes a.characters)
characters_utf8 class bytes i j a = (a.characters, (scalars_of_all a.characters a.scalars, refl))

-- what a token says of its offsets and its text
pub record IsInRange (bytes : List ℕ) (i j : ℕ) : Type 0 where
  pub forward : i ≤ j
  pub in_range : j ≤ length bytes
  pub utf8 : IsUtf8 (slice_range bytes i j)

stands_in_range : (bytes : List ℕ) (i j : ℕ) (text : List ℕ) → StandsAt bytes i text j → IsUtf8 text → IsInRange bytes i j
stands_in_range bytes i j text s u = record { forward = (let e = s.ends in omega arith); in_range = s.in_range; utf8 = utf8_at bytes i j text s u }

run_in_range : (bytes : List ℕ) (kind : TokenKind) (i j : ℕ) → IsRun bytes kind i j → IsInRange bytes i j
run_in_range bytes kind i j r = stands_in_range bytes i j (encodes r.run.run.characters) r.run.run.stand (characters_utf8 _ bytes i j r.run.run)

pub token_in_range : (bytes : List ℕ) (kind : TokenKind) (i j : ℕ) → IsTokenAt bytes kind i j → IsInRange bytes i j
token_in_range bytes Open i j t = stands_in_range bytes i j (40 ∷ []) t (utf8_byte 40 (omega arith))
token_in_range bytes Close i j t = stands_in_range bytes i j (41 ∷ []) t (utf8_byte 41 (omega arith))
token_in_range bytes Equals i j t = stands_in_range bytes i j (61 ∷ []) t (utf8_byte 61 (omega arith))
token_in_range bytes Caret i j t = stands_in_range bytes i j (94 ∷ 94 ∷ []) t (IsUtf8-append (94 ∷ []) (94 ∷ []) (utf8_byte 94 (omega arith)) (utf8_byte 94 (omega arith)))
token_in_range bytes Iri i j t =
    let text = StandsAt-append bytes i t.inner_end j ((60 ∷ []) ++ encodes t.inner.characters) (62 ∷ []) (StandsAt-append bytes i (i + 1) t.inner_end (60 ∷ []) (encodes t.inner.characters) t.opens t.inner.stand) t.closes in
    stands_in_range bytes i j (((60 ∷ []) ++ encodes t.inner.characters) ++ 62 ∷ []) text
    (IsUtf8-append ((60 ∷ []) ++ encodes t.inner.characters) (62 ∷ []) (IsUtf8-append (60 ∷ []) (encodes t.inner.characters) (utf8_byte 60 (omega arith)) (characters_utf8 _ bytes (i + 1) t.inner_end t.inner)) (utf8_byte 62 (omega arith)))
token_in_range bytes Text i j t =
    let text = StandsAt-append bytes i t.inner_end j ((34 ∷ []) ++ encodes t.characters) (34 ∷ []) (StandsAt-append bytes i (i + 1) t.inner_end (34 ∷ []) (encodes t.characters) t.opens t.inner) t.closes in
    stands_in_range bytes i j (((34 ∷ []) ++ encodes t.characters) ++ 34 ∷ []) text
    (IsUtf8-append ((34 ∷ []) ++ encodes t.characters) (34 ∷ []) (IsUtf8-append (34 ∷ []) (encodes t.characters) (utf8_byte 34 (omega arith)) (t.characters, (scalars_of_quoted t.characters t.quoted, refl))) (utf8_byte 34 (omega arith)))
token_in_range bytes Lang i j t =
    stands_in_range bytes i j ((64 ∷ []) ++ encodes t.tag.run.characters) (StandsAt-append bytes i (i + 1) j (64 ∷ []) (encodes t.tag.run.characters) t.opens t.tag.run.stand)
    (IsUtf8-append (64 ∷ []) (encodes t.tag.run.characters) (utf8_byte 64 (omega arith)) (characters_utf8 _ bytes (i + 1) j t.tag.run))
token_in_range bytes Node i j t = run_in_range bytes Node i j t
token_in_range bytes Short i j t = run_in_range bytes Short i j t
token_in_range bytes Number i j t = run_in_range bytes Number i j t
token_in_range bytes (Word keyword) i j t = run_in_range bytes (Word keyword) i j t
token_in_range bytes End i j t =
    let here = t.0 in
    let ends = t.1 in
    let size : j - i ≡ 0 = omega arith in
    record { forward = omega arith; in_range = omega arith; utf8 = rw size IsUtf8-nil }

-- what stands between the brackets of an IRI is text
pub iri_text : (bytes : List ℕ) (i j : ℕ) → (t : IsIri bytes i j) → (slice_range bytes (i + 1) (j - 1) ≡ encodes t.inner.characters) × IsUtf8 (slice_range bytes (i + 1) (j - 1))
iri_text bytes i j t =
    let last : j - 1 ≡ t.inner_end = (let e = t.closes.ends in omega arith) in
    let cut = slice_of bytes (i + 1) t.inner_end (encodes t.inner.characters) t.inner.stand in
    rw last (cut, utf8_at bytes (i + 1) t.inner_end (encodes t.inner.characters) t.inner.stand (characters_utf8 _ bytes (i + 1) t.inner_end t.inner))
