-- The terms of a line: what stands at the front is determined, and what the readers find is what the grammar has.
use Rattle.std.proofs.Common.{◌≡◌, ℕ, ◌-◌, Bool, List, [], ◌∷◌, ◌++◌, length, take, refl, sym, ap, ◌∙◌, subst, append_assoc, append-nil, arith, length-append}
use Rattle.std.specs.Str.{IsUtf8}
use Rattle.std.proofs.lemmas.List.{take_at}
use Rattle.dl_triples.specs.declared.spelling.Quoting.{Quoting}
use Rattle.dl_triples.specs.declared.spelling.Quoting.TheVariants as quotings
use Rattle.dl_triples.specs.declared.line.Iri.{Iri}
use Rattle.dl_triples.specs.Terms.{trimmed, IriThen, IsNothing, empty, comment}
use Rattle.dl_triples.specs.Parts.{closing, SpelledThen, TextThen, FindsText, IsSpelled, FindsIri}
use Rattle.dl_triples.proofs.SpellingLemmas.{behind_spelled, ends_spelled}
use Rattle.dl_triples.proofs.SpelledLemmas.{SpelledThen-closed, closing_no_plain, closing_no_escape}

-- ---- texts up to what closes them

-- what is cut off before the rest
pub cut_off : (bytes text rest : List ℕ) → bytes ≡ text ++ rest → take (length bytes - length rest) bytes ≡ text
cut_off bytes text rest stands =
    let n : length text ≡ length bytes - length rest = omega (arith, ap length stands, length-append text rest) in
    ap (take (length bytes - length rest)) stands ∙ take_at text rest (length bytes - length rest) n

module _ (quoting : Quoting) (bytes rest : List ℕ) (plain : Bool) (spelled : IsSpelled quoting bytes rest plain) (text value more : List ℕ) (then : TextThen quoting bytes text value more) where
  -- a text that is closed is the one that was spelled
  pub closed_at : rest ≡ closing quoting ∷ more
  closed_at = spelled.only value (closing quoting ∷ more) (SpelledThen-closed quoting bytes text value more then)

  pub closed_text : take (length bytes - length rest) bytes ≡ text
  closed_text = cut_off bytes text rest (then.stands ∙ ap (λ l. text ++ l) (sym closed_at))

-- ---- IRIREFs

pub iriref : (bytes text value more : List ℕ) → TextThen quotings.Iri bytes text value more → IriThen (60 ∷ bytes) value more
iriref bytes text value more then = record {
  part = 60 ∷ text ++ 62 ∷ [];
  is = record { text = text; is = refl; utf8 = then.utf8; spells = then.spells };
  stands = ap (λ l. 60 ∷ l) (then.stands ∙ sym (append_assoc text (62 ∷ []) more));
}

pub iri_found : (bytes behind rest : List ℕ) (iri : Iri) → bytes ≡ 60 ∷ behind → FindsText quotings.Iri behind iri.text.now iri.plain rest → FindsIri bytes iri rest
iri_found bytes behind rest iri opens found = record {
  value = found.value;
  then = subst (λ l. IriThen l found.value rest) (sym opens) (iriref behind iri.text.now found.value rest found.then);
  kept = record { spells = found.then.spells; plain = found.same };
}

-- behind the opening bracket
pub iri_opened : (bytes iri rest : List ℕ) → IriThen bytes iri rest → (text behind : List ℕ) × (bytes ≡ 60 ∷ behind) × TextThen quotings.Iri behind text iri rest
iri_opened bytes iri rest then =
    let text = then.is.text in (
      text,
      text ++ 62 ∷ rest,
      then.stands ∙ ap (λ l. l ++ rest) then.is.is ∙ ap (λ l. 60 ∷ l) (append_assoc text (62 ∷ []) rest),
      record { stands = refl; utf8 = then.is.utf8; spells = then.is.spells },
    )

-- a text that is closed is determined
pub one_text : (quoting : Quoting) (bytes text value rest text' value' rest' : List ℕ) → TextThen quoting bytes text value rest → TextThen quoting bytes text' value' rest'
    → (value ≡ value') × (rest ≡ rest')
one_text quoting bytes text value rest text' value' rest' then then' =
    let whole = SpelledThen-closed quoting bytes text' value' rest' then' in
    let there = behind_spelled then.spells (closing quoting ∷ rest) value' (closing quoting ∷ rest') (subst (λ l. SpelledThen quoting l value' (closing quoting ∷ rest')) then.stands whole) in
    let ends = ends_spelled (closing quoting ∷ rest) there.0 (closing quoting ∷ rest') (closing_no_plain quoting) (closing_no_escape quoting rest) there.2 in
    let same : closing quoting ∷ rest ≡ closing quoting ∷ rest' = ends.1 in
    (sym (there.1 ∙ ap (λ l. value ++ l) ends.0 ∙ append-nil value), cc)

-- nothing but a comment
pub comment_text : (bytes text : List ℕ) (first : ℕ) → trimmed bytes ≡ first ∷ text → first ≡ 35 → IsNothing bytes → IsUtf8 text
comment_text bytes text first at is (empty none) = absurd (cc)
comment_text bytes text first at is (comment {text = text'} there utf8) = let same : text' ≡ text = cc in subst IsUtf8 same utf8

pub is_comment : (bytes text : List ℕ) (first : ℕ) → trimmed bytes ≡ first ∷ text → first ≡ 35 → IsUtf8 text → IsNothing bytes
is_comment bytes text first at is utf8 = comment {text = text} (at ∙ ap (λ b. b ∷ text) is) utf8

-- an IRIREF at the front is determined
pub one_iri : (bytes iri rest iri' rest' : List ℕ) → IriThen bytes iri rest → IriThen bytes iri' rest' → (iri ≡ iri') × (rest ≡ rest')
one_iri bytes iri rest iri' rest' then then' =
    let one = iri_opened bytes iri rest then in
    let two = iri_opened bytes iri' rest' then' in
    let opens : 60 ∷ one.1 ≡ 60 ∷ two.1 = sym one.2 ∙ two.2 in
    let same : one.1 ≡ two.1 = cc in
    one_text quotings.Iri two.1 one.0 iri rest two.0 iri' rest' (subst (λ l. TextThen quotings.Iri l one.0 iri rest) same one.3) two.3
