-- Where a token of each form ends.
use Rattle.std.proofs.Common.{◌≡◌, ℕ, ◌+◌, ◌<◌, List, [], length, get_or, refl, subst, arith}
use Rattle.std.specs.List.{slice_range}
use Rattle.dl_lex.specs.declared.token.TokenKind.{TokenKind}
use Rattle.dl_lex.specs.Characters.{IsLongestRun, is_iri_character, is_lang_character, is_run_character}
use Rattle.dl_lex.specs.Grammar.{IsIri, IsLang, IsRunText, IsRun}
use Rattle.dl_lex.proofs.Runs.{none_at_ascii, one_run}
use Rattle.dl_lex.proofs.Standing.{byte_stands}
use Rattle.dl_lex.proofs.Tokens.{stands_byte}

-- the > of an IRI stands at the end of the longest run of characters of an IRI
pub iri_ends : (bytes : List ℕ) (i j : ℕ) → (t : IsIri bytes i j) → IsLongestRun is_iri_character bytes (i + 1) t.inner_end
iri_ends bytes i j t =
    let byte = stands_byte bytes t.inner_end j 62 [] t.closes in
    let ends = t.closes.ends in
    let inside = t.closes.in_range in
    record { run = t.inner; longest = none_at_ascii is_iri_character bytes t.inner_end (omega arith) (omega arith) (rw byte refl) }

-- an IRI of characters up to a >
pub iri_at : (bytes : List ℕ) (i e : ℕ) → IsLongestRun is_iri_character bytes (i + 1) e → i < length bytes → get_or bytes i 0 ≡ 60
    → (e < length bytes) × (get_or bytes e 0 ≡ 62) → IsIri bytes i (e + 1)
iri_at bytes i e l inside opens closes =
    record { inner_end = e; opens = byte_stands bytes i 60 inside opens; inner = l.run; closes = byte_stands bytes e 62 closes.0 closes.1 }

pub no_iri_at : (bytes : List ℕ) (i e : ℕ) → IsLongestRun is_iri_character bytes (i + 1) e → ((e < length bytes) × (get_or bytes e 0 ≡ 62) → ⊥) → (j : ℕ) → IsIri bytes i j → ⊥
no_iri_at bytes i e l none j t =
    let same : t.inner_end ≡ e = one_run is_iri_character bytes (i + 1) t.inner_end e (iri_ends bytes i j t) l in
    let byte = stands_byte bytes t.inner_end j 62 [] t.closes in
    let ends = t.closes.ends in
    let inside = t.closes.in_range in
    none (omega arith, subst (λ k. get_or bytes k 0 ≡ 62) same byte)

pub no_lang_at : (bytes : List ℕ) (i : ℕ) → IsLongestRun is_lang_character bytes (i + 1) (i + 1) → (j : ℕ) → IsLang bytes i j → ⊥
no_lang_at bytes i l j t =
    let same = one_run is_lang_character bytes (i + 1) (i + 1) j l t.tag in
    let some = t.some in
    omega arith

pub no_run_at : (bytes : List ℕ) (i e : ℕ) → IsLongestRun is_run_character bytes i e → ((kind : TokenKind) → i < e → IsRunText (slice_range bytes i e) kind → ⊥) → (kind : TokenKind) (j : ℕ) → IsRun bytes kind i j → ⊥
no_run_at bytes i e l none kind j t =
    let same : j ≡ e = one_run is_run_character bytes i j e t.run l in
    none kind (let some = t.some in omega arith) (subst (λ k. IsRunText (slice_range bytes i k) kind) same t.is)
