-- Objects and the dot behind them: what stands at the front is determined, and what the readers find is what the grammar has.
use Rattle.std.proofs.Common.{◌≡◌, ℕ, Bool, true, false, ◌||◌, ◌⊎◌, inl, inr, List, [], ◌∷◌, ◌++◌, Option, Some, None, MatchOption, Bor, refl, sym, ap, ◌∙◌, subst, append_assoc, true≢false, nat_eq, arith}
use borrow.Author.Tests.{eqb-true}
use Rattle.std.specs.Char.{is_ascii_alphabetic, is_ascii_alphanumeric}
use Rattle.dl_names.specs.NameList.{Text}
use Rattle.dl_triples.specs.declared.spelling.Quoting.TheVariants as quotings
use Rattle.dl_triples.specs.declared.line.Iri.{Iri}
use Rattle.dl_triples.specs.Runs.{begins, IsSplit}
use Rattle.dl_triples.specs.Terms.{is_blank, trimmed, AreSubtags, none, more, IsSuffix, nothing, datatype, language, IsObject, iri, literal, IriThen, ObjectThen}
use Rattle.dl_triples.specs.Parts as parts
use Rattle.dl_triples.specs.Parts.{TextThen, FindsText, SubtagsThen, TagThen, SuffixThen, LiteralThen, FindsIri, FindsObject, IsKeptObject}
use Rattle.dl_triples.proofs.RunLemmas.{one_run}
use Rattle.dl_triples.proofs.SpelledLemmas.{first_same, rest_same}
use Rattle.dl_triples.proofs.TermLemmas.{iri_opened, one_iri, one_text}

-- ---- the dot

blank_by : (b : ℕ) (s t : Bool) → nat_eq b 32 ≡ s → nat_eq b 9 ≡ t → (s || t) ≡ true → (b ≡ 32) ⊎ (b ≡ 9)
blank_by b true t es et h = inl (eqb-true b 32 es)
blank_by b false true es et h = inr (eqb-true b 9 et)
blank_by b false false es et h = absurd (true≢false (sym h))

-- a test that no space, no tab and no dot passes fails in front of the dot
module _ (p : ℕ → Bool) (space : p 32 ≡ false) (tab : p 9 ≡ false) (dot : p 46 ≡ false) where
  blank_fails : (b : ℕ) → is_blank b ≡ true → p b ≡ false
  blank_fails b h = by (blank_by b (nat_eq b 32) (nat_eq b 9) refl refl h)
    where
      by : (b ≡ 32) ⊎ (b ≡ 9) → p b ≡ false
      by (inl e) = ap p e ∙ space
      by (inr e) = ap p e ∙ tab

  pub dot_begins : (behind rest : List ℕ) → trimmed behind ≡ 46 ∷ rest → begins p behind ≡ false
  dot_begins [] rest h = refl
  dot_begins (b ∷ behind) rest h = by (is_blank b) refl
    where
      by : (blank : Bool) → is_blank b ≡ blank → begins p (b ∷ behind) ≡ false
      by true e = blank_fails b e
      by false e =
          let here : b ∷ behind ≡ 46 ∷ rest = sym (rw e refl) ∙ h in
          ap p (first_same b 46 behind rest here) ∙ dot

  -- and in front of further parts of a tag before the dot, if - fails
  pub subtags_begin : {part : List ℕ} (behind rest : List ℕ) → p 45 ≡ false → AreSubtags part → trimmed behind ≡ 46 ∷ rest → begins p (part ++ behind) ≡ false
  subtags_begin behind rest hyphen none at = dot_begins behind rest at
  subtags_begin behind rest hyphen (more {part = part} {rest = further} _ _ is _) at = ap (λ l. begins p (l ++ behind)) is ∙ hyphen

-- no dot stands behind these bytes
no_dot : (b : ℕ) (bytes rest : List ℕ) → is_blank b ≡ false → (b ≡ 46 → ⊥) → trimmed (b ∷ bytes) ≡ 46 ∷ rest → ⊥
no_dot b bytes rest e other at =
    let here : b ∷ bytes ≡ 46 ∷ rest = sym (rw e refl) ∙ at in
    other (first_same b 46 bytes rest here)

pub one_dot : (behind rest rest' : List ℕ) → trimmed behind ≡ 46 ∷ rest → trimmed behind ≡ 46 ∷ rest' → rest ≡ rest'
one_dot behind rest rest' h h' = rest_same 46 46 rest rest' (sym h ∙ h')

-- what one finding says of another
pub found_by : (P Q : List ℕ → Type 0) → ((rest : List ℕ) → P rest → Q rest) → ((rest : List ℕ) → Q rest → P rest)
    → (r : Option (Bor (List ℕ))) → MatchOption r ((rest : List ℕ) → P rest → ⊥) (λ x. P x.now) → MatchOption r ((rest : List ℕ) → Q rest → ⊥) (λ x. Q x.now)
found_by P Q to back None h = λ rest q. h rest (back rest q)
found_by P Q to back (Some x) h = to x.now h

-- ---- the parts of a tag

-- behind - and a run of letters and digits
module _ (bytes next run here : List ℕ) (opens : bytes ≡ 45 ∷ next) (split : IsSplit is_ascii_alphanumeric next run here) where
  behind_by : {part : List ℕ} (behind rest : List ℕ) → AreSubtags part → bytes ≡ part ++ behind → trimmed behind ≡ 46 ∷ rest → (run ≡ [] → ⊥) × SubtagsThen here rest
  behind_by behind rest none stands at =
      absurd (no_dot 45 next rest refl (λ e. omega (arith, e)) (ap trimmed (sym opens ∙ stands) ∙ at))
  behind_by behind rest (more {part = part} {rest = further} some all is subtags) stands at =
      let tail : next ≡ part ++ (further ++ behind) = rest_same 45 45 next _ (sym opens ∙ stands ∙ ap (λ l. l ++ behind) is ∙ ap (λ l. 45 ∷ l) (append_assoc part further behind)) in
      let one = one_run is_ascii_alphanumeric run here part (further ++ behind) split.passes split.ends all (subtags_begin is_ascii_alphanumeric refl refl refl behind rest refl subtags at) (sym split.parts ∙ tail) in
      ((λ e. some (sym one.0 ∙ e)), record { part = further; behind = behind; is = subtags; stands = one.1; dot = at })

  pub subtags_behind : (rest : List ℕ) → SubtagsThen bytes rest → (run ≡ [] → ⊥) × SubtagsThen here rest
  subtags_behind rest then = behind_by then.behind rest then.is then.stands then.dot

  pub subtags_before : (rest : List ℕ) → (run ≡ [] → ⊥) → SubtagsThen here rest → SubtagsThen bytes rest
  subtags_before rest some then = record {
    part = 45 ∷ run ++ then.part;
    behind = then.behind;
    is = more some split.passes refl then.is;
    stands = opens ∙ ap (λ l. 45 ∷ l) (split.parts ∙ ap (λ l. run ++ l) then.stands ∙ sym (append_assoc run then.part then.behind));
    dot = then.dot;
  }

-- where no - stands, the tag ends
no_more : {bytes part : List ℕ} (behind rest : List ℕ) → ((next : List ℕ) → bytes ≡ 45 ∷ next → ⊥) → AreSubtags part → bytes ≡ part ++ behind → trimmed behind ≡ 46 ∷ rest → trimmed bytes ≡ 46 ∷ rest
no_more behind rest no_hyphen none stands at = ap trimmed stands ∙ at
no_more behind rest no_hyphen (more {part = part} {rest = further} _ _ is _) stands at =
    absurd (no_hyphen ((part ++ further) ++ behind) (stands ∙ ap (λ l. l ++ behind) is))

pub subtags_end : (bytes : List ℕ) → ((next : List ℕ) → bytes ≡ 45 ∷ next → ⊥)
    → (r : Option (Bor (List ℕ))) → MatchOption r ((rest : List ℕ) → trimmed bytes ≡ 46 ∷ rest → ⊥) (λ x. trimmed bytes ≡ 46 ∷ x.now)
    → MatchOption r ((rest : List ℕ) → SubtagsThen bytes rest → ⊥) (λ x. SubtagsThen bytes x.now)
subtags_end bytes no_hyphen r h =
    found_by (λ rest. trimmed bytes ≡ 46 ∷ rest) (SubtagsThen bytes)
    (λ rest at. record { part = []; behind = bytes; is = none; stands = refl; dot = at })
    (λ rest then. no_more then.behind rest no_hyphen then.is then.stands then.dot) r h

-- a tag: letters, and further parts
module _ (bytes run here : List ℕ) (split : IsSplit is_ascii_alphabetic bytes run here) where
  pub tag_behind : (rest : List ℕ) → TagThen bytes rest → (run ≡ [] → ⊥) × SubtagsThen here rest
  tag_behind rest then =
      let tag = then.is in
      let whole : run ++ here ≡ tag.primary ++ (tag.subtags ++ then.behind) = sym split.parts ∙ then.stands ∙ ap (λ l. l ++ then.behind) tag.is ∙ append_assoc tag.primary tag.subtags then.behind in
      let one = one_run is_ascii_alphabetic run here tag.primary (tag.subtags ++ then.behind) split.passes split.ends tag.letters
      (subtags_begin is_ascii_alphabetic refl refl refl then.behind rest refl tag.further then.dot) whole in
      ((λ e. tag.some (sym one.0 ∙ e)), record { part = tag.subtags; behind = then.behind; is = tag.further; stands = one.1; dot = then.dot })

  pub tag_before : (rest : List ℕ) → (run ≡ [] → ⊥) → SubtagsThen here rest → TagThen bytes rest
  tag_before rest some then = record {
    part = run ++ then.part;
    behind = then.behind;
    is = record { primary = run; subtags = then.part; is = refl; some = some; letters = split.passes; further = then.is };
    stands = split.parts ∙ ap (λ l. run ++ l) then.stands ∙ sym (append_assoc run then.part then.behind);
    dot = then.dot;
  }

-- ---- what stands behind the quotes of a literal

-- the ways in which a literal goes on behind its quotes
data GoesOn (bytes rest : List ℕ) : Type 0 where
  bare : trimmed bytes ≡ 46 ∷ rest → GoesOn bytes rest
  typed : (next value behind : List ℕ) → bytes ≡ 94 ∷ 94 ∷ next → IriThen next value behind → trimmed behind ≡ 46 ∷ rest → GoesOn bytes rest
  tagged : (next : List ℕ) → bytes ≡ 64 ∷ next → TagThen next rest → GoesOn bytes rest

goes_on : {bytes part : List ℕ} (behind rest : List ℕ) → IsSuffix part → bytes ≡ part ++ behind → trimmed behind ≡ 46 ∷ rest → GoesOn bytes rest
goes_on behind rest nothing stands at = bare (ap trimmed stands ∙ at)
goes_on behind rest (datatype {part = part} {iri = value} is) stands at =
    typed (part ++ behind) value behind stands (record { part = part; is = is; stands = refl }) at
goes_on behind rest (language {tag = tag} is) stands at =
    tagged (tag ++ behind) stands (record { part = tag; behind = behind; is = is; stands = refl; dot = at })

goes_on_of : (bytes rest : List ℕ) → SuffixThen bytes rest → GoesOn bytes rest
goes_on_of bytes rest then = goes_on then.behind rest then.is then.stands then.dot

-- behind ^^ stands the datatype
module _ (bytes next : List ℕ) (opens : bytes ≡ 94 ∷ 94 ∷ next) where
  datatype_by : (rest : List ℕ) → GoesOn bytes rest → (value behind : List ℕ) × IriThen next value behind × (trimmed behind ≡ 46 ∷ rest)
  datatype_by rest (bare at) = absurd (no_dot 94 (94 ∷ next) rest refl (λ e. omega (arith, e)) (ap trimmed (sym opens) ∙ at))
  datatype_by rest (typed next' value behind is then at) =
      let same = rest_same 94 94 next' next (rest_same 94 94 (94 ∷ next') (94 ∷ next) (sym is ∙ opens)) in
      (value, behind, subst (λ l. IriThen l value behind) same then, at)
  datatype_by rest (tagged next' is then) = absurd (let e : 94 ≡ 64 = first_same 94 64 (94 ∷ next) next' (sym opens ∙ is) in omega (arith, e))

  pub datatype_behind : (rest : List ℕ) → SuffixThen bytes rest → (value behind : List ℕ) × IriThen next value behind × (trimmed behind ≡ 46 ∷ rest)
  datatype_behind rest then = datatype_by rest (goes_on_of bytes rest then)

  pub datatype_before : (value behind rest : List ℕ) → IriThen next value behind → trimmed behind ≡ 46 ∷ rest → SuffixThen bytes rest
  datatype_before value behind rest then at = record {
    part = 94 ∷ 94 ∷ then.part;
    behind = behind;
    is = datatype then.is;
    stands = opens ∙ ap (λ l. 94 ∷ 94 ∷ l) then.stands;
    dot = at;
  }

-- behind @ stands the tag
module _ (bytes next : List ℕ) (opens : bytes ≡ 64 ∷ next) where
  language_by : (rest : List ℕ) → GoesOn bytes rest → TagThen next rest
  language_by rest (bare at) = absurd (no_dot 64 next rest refl (λ e. omega (arith, e)) (ap trimmed (sym opens) ∙ at))
  language_by rest (typed next' value behind is then at) = absurd (let e : 64 ≡ 94 = first_same 64 94 next (94 ∷ next') (sym opens ∙ is) in omega (arith, e))
  language_by rest (tagged next' is then) = subst (λ l. TagThen l rest) (rest_same 64 64 next' next (sym is ∙ opens)) then

  pub language_behind : (rest : List ℕ) → SuffixThen bytes rest → TagThen next rest
  language_behind rest then = language_by rest (goes_on_of bytes rest then)

  pub language_before : (rest : List ℕ) → TagThen next rest → SuffixThen bytes rest
  language_before rest then = record {
    part = 64 ∷ then.part;
    behind = then.behind;
    is = language then.is;
    stands = opens ∙ ap (λ l. 64 ∷ l) then.stands;
    dot = then.dot;
  }

-- where neither stands, nothing does
module _ (bytes : List ℕ) (no_type : (next : List ℕ) → bytes ≡ 94 ∷ 94 ∷ next → ⊥) (no_tag : (next : List ℕ) → bytes ≡ 64 ∷ next → ⊥) where
  nothing_by : (rest : List ℕ) → GoesOn bytes rest → trimmed bytes ≡ 46 ∷ rest
  nothing_by rest (bare at) = at
  nothing_by rest (typed next value behind is then at) = absurd (no_type next is)
  nothing_by rest (tagged next is then) = absurd (no_tag next is)

  pub nothing_behind : (rest : List ℕ) → SuffixThen bytes rest → trimmed bytes ≡ 46 ∷ rest
  nothing_behind rest then = nothing_by rest (goes_on_of bytes rest then)

  pub nothing_before : (rest : List ℕ) → trimmed bytes ≡ 46 ∷ rest → SuffixThen bytes rest
  nothing_before rest at = record { part = []; behind = bytes; is = nothing; stands = refl; dot = at }

-- ---- literals and objects

-- a literal behind its opening quote
module _ (bytes text rest : List ℕ) (plain : Bool) (found : FindsText quotings.Literal bytes text plain rest) where
  pub literal_suffix : (end : List ℕ) → LiteralThen bytes end → SuffixThen rest end
  literal_suffix end then =
      let same = one_text quotings.Literal bytes text found.value rest then.text then.value then.behind found.then then.quoted in
      subst (λ l. SuffixThen l end) (sym same.1) then.suffixed

  pub suffix_literal : (end : List ℕ) → SuffixThen rest end → LiteralThen bytes end
  suffix_literal end then = record { text = text; value = found.value; behind = rest; quoted = found.then; suffixed = then }

-- an object that is a literal, or is an IRI
pub data IsEither (bytes rest : List ℕ) : Option Text → Type 0 where
  quoted : (next : List ℕ) → bytes ≡ 34 ∷ next → LiteralThen next rest → IsEither bytes rest None
  bracketed : (value : Text) (behind : List ℕ) → IriThen bytes value behind → trimmed behind ≡ 46 ∷ rest → IsEither bytes rest (Some value)

either_by : {bytes part : List ℕ} {object : Option Text} (behind rest : List ℕ) → IsObject part object → bytes ≡ part ++ behind → trimmed behind ≡ 46 ∷ rest → IsEither bytes rest object
either_by {part = part} behind rest (iri {iri = value} is) stands at = bracketed value behind (record { part = part; is = is; stands = stands }) at
either_by behind rest (literal is) stands at =
    quoted (is.text ++ 34 ∷ (is.suffix ++ behind))
    (stands ∙ ap (λ l. l ++ behind) is.is ∙ ap (λ l. 34 ∷ l) (append_assoc is.text (34 ∷ is.suffix) behind))
    (record {
      text = is.text;
      value = is.value;
      behind = is.suffix ++ behind;
      quoted = record { stands = refl; utf8 = is.utf8; spells = is.spells };
      suffixed = record { part = is.suffix; behind = behind; is = is.suffixed; stands = refl; dot = at };
    })

pub either_of : (bytes : List ℕ) (object : Option Text) (rest : List ℕ) → ObjectThen bytes object rest → IsEither bytes rest object
either_of bytes object rest then = either_by then.behind rest then.is then.stands then.dot

-- no IRI opens with a quote
quote_no_iri : (bytes next value behind : List ℕ) → bytes ≡ 34 ∷ next → IriThen bytes value behind → ⊥
quote_no_iri bytes next value behind opens then =
    let bracket = iri_opened bytes value behind then in
    let e : 34 ≡ 60 = first_same 34 60 next bracket.1 (sym opens ∙ bracket.2) in omega (arith, e)

-- behind a quote stands a literal
module _ (bytes next : List ℕ) (opens : bytes ≡ 34 ∷ next) where
  quoted_by : {object : Option Text} (rest : List ℕ) → IsEither bytes rest object → LiteralThen next rest
  quoted_by rest (quoted next' is then) = subst (λ l. LiteralThen l rest) (rest_same 34 34 next' next (sym is ∙ opens)) then
  quoted_by rest (bracketed value behind then at) = absurd (quote_no_iri bytes next value behind opens then)

  pub quoted_behind : (object : Option Text) (rest : List ℕ) → ObjectThen bytes object rest → LiteralThen next rest
  quoted_behind object rest then = quoted_by rest (either_of bytes object rest then)

  pub quoted_before : (rest : List ℕ) → LiteralThen next rest → FindsObject bytes None rest
  quoted_before rest then = record {
    value = None;
    then = record {
      part = 34 ∷ then.text ++ 34 ∷ then.suffixed.part;
      behind = then.suffixed.behind;
      is = literal (record {
        text = then.text;
        value = then.value;
        suffix = then.suffixed.part;
        is = refl;
        utf8 = then.quoted.utf8;
        spells = then.quoted.spells;
        suffixed = then.suffixed.is;
      });
      stands =
          opens ∙ ap (λ l. 34 ∷ l) (then.quoted.stands ∙ ap (λ l. then.text ++ 34 ∷ l) then.suffixed.stands)
          ∙ ap (λ l. 34 ∷ l) (sym (append_assoc then.text (34 ∷ then.suffixed.part) then.suffixed.behind));
      dot = then.suffixed.dot;
    };
    kept = parts.literal;
  }

-- where no quote stands, the object is an IRI
module _ (bytes : List ℕ) (no_quote : (next : List ℕ) → bytes ≡ 34 ∷ next → ⊥) where
  bracketed_by : {object : Option Text} (rest : List ℕ) → IsEither bytes rest object → (value behind : List ℕ) × IriThen bytes value behind × (trimmed behind ≡ 46 ∷ rest)
  bracketed_by rest (quoted next is then) = absurd (no_quote next is)
  bracketed_by rest (bracketed value behind then at) = (value, behind, then, at)

  pub bracketed_behind : (object : Option Text) (rest : List ℕ) → ObjectThen bytes object rest → (value behind : List ℕ) × IriThen bytes value behind × (trimmed behind ≡ 46 ∷ rest)
  bracketed_behind object rest then = bracketed_by rest (either_of bytes object rest then)

pub bracketed_before : (bytes behind rest : List ℕ) (kept : Iri) → FindsIri bytes kept behind → trimmed behind ≡ 46 ∷ rest → FindsObject bytes (Some kept) rest
bracketed_before bytes behind rest kept found at = record {
  value = Some found.value;
  then = record { part = found.then.part; behind = behind; is = iri found.then.is; stands = found.then.stands; dot = at };
  kept = parts.iri found.kept;
}

-- which object stands at the front is determined
one_either : {o o' : Option Text} (bytes rest rest' : List ℕ) → IsEither bytes rest o → IsEither bytes rest' o' → o ≡ o'
one_either bytes rest rest' (quoted next is then) (quoted next' is' then') = refl
one_either bytes rest rest' (quoted next is then) (bracketed value behind then' at) = absurd (quote_no_iri bytes next value behind is then')
one_either bytes rest rest' (bracketed value behind then at) (quoted next is then') = absurd (quote_no_iri bytes next value behind is then)
one_either bytes rest rest' (bracketed value behind then at) (bracketed value' behind' then' at') = ap Some (one_iri bytes value behind value' behind' then then').0

pub one_object : (bytes : List ℕ) (o o' : Option Text) (rest rest' : List ℕ) → ObjectThen bytes o rest → ObjectThen bytes o' rest' → o ≡ o'
one_object bytes o o' rest rest' then then' = one_either bytes rest rest' (either_of bytes o rest then) (either_of bytes o' rest' then')

-- ---- what stands behind the dot of an object is determined

one_subtags : {part part' : List ℕ} (bytes behind behind' rest rest' : List ℕ) → AreSubtags part → AreSubtags part' → bytes ≡ part ++ behind → bytes ≡ part' ++ behind'
    → trimmed behind ≡ 46 ∷ rest → trimmed behind' ≡ 46 ∷ rest' → rest ≡ rest'
one_subtags bytes behind behind' rest rest' none none stands stands' at at' = one_dot bytes rest rest' (ap trimmed stands ∙ at) (ap trimmed stands' ∙ at')
one_subtags bytes behind behind' rest rest' none (more {part = part'} {rest = further'} _ _ is' _) stands stands' at at' =
    absurd (no_dot 45 ((part' ++ further') ++ behind') rest refl (λ e. omega (arith, e)) (ap trimmed (sym (sym stands ∙ stands' ∙ ap (λ l. l ++ behind') is')) ∙ at))
one_subtags bytes behind behind' rest rest' (more {part = part} {rest = further} _ _ is _) none stands stands' at at' =
    absurd (no_dot 45 ((part ++ further) ++ behind) rest' refl (λ e. omega (arith, e)) (ap trimmed (sym (sym stands' ∙ stands ∙ ap (λ l. l ++ behind) is)) ∙ at'))
one_subtags bytes behind behind' rest rest' (more {part = part} {rest = further} _ all is subtags) (more {part = part'} {rest = further'} _ all' is' subtags') stands stands' at at' =
    let whole : 45 ∷ (part ++ further) ++ behind ≡ 45 ∷ (part' ++ further') ++ behind' = ap (λ l. l ++ behind) (sym is) ∙ sym stands ∙ stands' ∙ ap (λ l. l ++ behind') is' in
    let tail : part ++ (further ++ behind) ≡ part' ++ (further' ++ behind') =
    sym (append_assoc part further behind) ∙ rest_same 45 45 ((part ++ further) ++ behind) ((part' ++ further') ++ behind') whole ∙ append_assoc part' further' behind' in
    let one = one_run is_ascii_alphanumeric part (further ++ behind) part' (further' ++ behind') all (subtags_begin is_ascii_alphanumeric refl refl refl behind rest refl subtags at)
    all' (subtags_begin is_ascii_alphanumeric refl refl refl behind' rest' refl subtags' at') tail in
    one_subtags (further ++ behind) behind behind' rest rest' subtags subtags' refl one.1 at at'

one_tag : (bytes rest rest' : List ℕ) → TagThen bytes rest → TagThen bytes rest' → rest ≡ rest'
one_tag bytes rest rest' then then' =
    let tag = then.is in
    let tag' = then'.is in
    let whole : tag.primary ++ (tag.subtags ++ then.behind) ≡ tag'.primary ++ (tag'.subtags ++ then'.behind) =
    sym (append_assoc tag.primary tag.subtags then.behind) ∙ ap (λ l. l ++ then.behind) (sym tag.is) ∙ sym then.stands ∙ then'.stands
    ∙ ap (λ l. l ++ then'.behind) tag'.is ∙ append_assoc tag'.primary tag'.subtags then'.behind in
    let one = one_run is_ascii_alphabetic tag.primary (tag.subtags ++ then.behind) tag'.primary (tag'.subtags ++ then'.behind)
    tag.letters (subtags_begin is_ascii_alphabetic refl refl refl then.behind rest refl tag.further then.dot)
    tag'.letters (subtags_begin is_ascii_alphabetic refl refl refl then'.behind rest' refl tag'.further then'.dot) whole in
    one_subtags (tag.subtags ++ then.behind) then.behind then'.behind rest rest' tag.further tag'.further refl one.1 then.dot then'.dot

one_going : (bytes rest rest' : List ℕ) → SuffixThen bytes rest → GoesOn bytes rest' → rest ≡ rest'
one_going bytes rest rest' then (bare at) =
    one_dot bytes rest rest' (nothing_behind bytes
    (λ next is. no_dot 94 (94 ∷ next) rest' refl (λ e. omega (arith, e)) (ap trimmed (sym is) ∙ at))
    (λ next is. no_dot 64 next rest' refl (λ e. omega (arith, e)) (ap trimmed (sym is) ∙ at)) rest then) at
one_going bytes rest rest' then (typed next value behind is there at) =
    let datatype = datatype_behind bytes next is rest then in
    let same = one_iri next datatype.0 datatype.1 value behind datatype.2 there in
    one_dot behind rest rest' (subst (λ (l : List ℕ). trimmed l ≡ 46 ∷ rest) same.1 datatype.3) at
one_going bytes rest rest' then (tagged next is tag) = one_tag next rest rest' (language_behind bytes next is rest then) tag

one_suffix : (bytes rest rest' : List ℕ) → SuffixThen bytes rest → SuffixThen bytes rest' → rest ≡ rest'
one_suffix bytes rest rest' then then' = one_going bytes rest rest' then (goes_on_of bytes rest' then')

one_literal : (bytes rest rest' : List ℕ) → LiteralThen bytes rest → LiteralThen bytes rest' → rest ≡ rest'
one_literal bytes rest rest' then then' =
    let same = one_text quotings.Literal bytes then.text then.value then.behind then'.text then'.value then'.behind then.quoted then'.quoted in
    one_suffix then'.behind rest rest' (subst (λ l. SuffixThen l rest) same.1 then.suffixed) then'.suffixed

one_end_by : {o : Option Text} (bytes rest rest' : List ℕ) (o' : Option Text) → IsEither bytes rest o → ObjectThen bytes o' rest' → rest ≡ rest'
one_end_by bytes rest rest' o' (quoted next is then) then' = one_literal next rest rest' then (quoted_behind bytes next is o' rest' then')
one_end_by bytes rest rest' o' (bracketed value behind then at) then' =
    let there = bracketed_behind bytes (λ next is. quote_no_iri bytes next value behind is then) o' rest' then' in
    let same = one_iri bytes there.0 there.1 value behind there.2 then in
    one_dot behind rest rest' at (subst (λ (l : List ℕ). trimmed l ≡ 46 ∷ rest') same.1 there.3)

pub one_end : (bytes : List ℕ) (o o' : Option Text) (rest rest' : List ℕ) → ObjectThen bytes o rest → ObjectThen bytes o' rest' → rest ≡ rest'
one_end bytes o o' rest rest' then then' = one_end_by bytes rest rest' o' (either_of bytes o rest then) then'

-- an object opens with a bracket or a quote
pub object_opens : {o : Option Text} (bytes rest : List ℕ) → IsEither bytes rest o → (b : ℕ) (next : List ℕ) → bytes ≡ b ∷ next → b ≡ 95 → ⊥
object_opens bytes rest (quoted next' is then) b next opens e = absurd (let same : 34 ≡ b = first_same 34 b next' next (sym is ∙ opens) in omega (arith, same, e))
object_opens bytes rest (bracketed value behind then at) b next opens e =
    let bracket = iri_opened bytes value behind then in
    absurd (let same : 60 ≡ b = first_same 60 b bracket.1 next (sym bracket.2 ∙ opens) in omega (arith, same, e))
