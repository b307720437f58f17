-- Texts that are spelled by tokens: read from their first byte on, they have these symbols.
use Rattle.std.proofs.Common.{◌≡◌, ◌≢◌, ℕ, ◌+◌, ◌-◌, ◌<◌, ◌≤◌, true, false, ◌&&◌, not, List, [], ◌∷◌, ◌++◌, take, length, drop, get_or, slice_get, Some, refl, sym, ap, ◌∙◌, subst, true≢false, length-append, length-drop, arith}
use Rattle.std.specs.Prelude.{nat_lt, slice_range}
use Rattle.std.specs.List.{All, AllPass, list_all}
use Rattle.std.specs.Char.{IsScalar}
use Rattle.std.proofs.Math.Utf8.{encodes, low_scalar}
use Rattle.std.proofs.Math.Seq.{drop-append_seam, take-append_seam}
use Rattle.std.proofs.lemmas.Bool.{and_parts}
use Rattle.std.proofs.lemmas.Bool.Decides.{nat_tests}
use Rattle.std.proofs.lemmas.List.{drop-drop, get_or-drop}
use Rattle.std.proofs.lemmas.List.Elements.{All-nil, All-cons}
use Rattle.std.proofs.lemmas.Option.{slice_get-get_or, get_or_from_slice_get, slice_get_within}
use Rattle.std.proofs.lemmas.Str.{encode_ascii}
use Rattle.dl_lex.specs.declared.keyword.Keyword.{Keyword}
use Rattle.dl_lex.specs.Keywords.{keyword_text}
use Rattle.dl_lex.specs.declared.token.TokenKind.{TokenKind}
use Rattle.dl_lex.specs.declared.token.TokenKind.TheVariants.{Open, Close, Iri, Short, Word, End}
use Rattle.dl_lex.specs.declared.token.Token.{Token}
use Rattle.dl_lex.specs.Characters.{StandsAt, NoCharacterAt, is_run_character}
use Rattle.dl_lex.specs.Grammar as grammar
use Rattle.dl_lex.specs.Grammar.{Skips, IsRunText, IsRun, IsTokenAt, IsNextToken, IsFaultAt, is_white_space}
use Rattle.dl_lex.proofs.Ranges.{slice_of}
use Rattle.dl_lex.proofs.Standing.{StandsAt-append}
use Rattle.dl_lex.proofs.Runs.{none_at_end, none_at_ascii}
use Rattle.dl_names.specs.NameList.{Text}
use Rattle.dl_names.specs.Iris.{IsIri}
use Rattle.dl_owl.specs.Symbols as symbols
use Rattle.dl_owl.specs.Symbols.{Symbol, opening, closing, full_iri, short_iri, keyword, ending, symbol_of, Placed, placed, symbols_of, AreTokens}
use Rattle.dl_owl.proofs.IriTexts.{iri_characters}

-- ---- what the text of a name or of a word is

-- ASCII characters of a run, one at least, which are a token of this kind
pub record IsRunWord (word : Text) (kind : TokenKind) : Type 0 where
  pub some : 0 < length word
  pub characters : list_all (λ c. nat_lt c 128 && is_run_character c) word ≡ true
  pub is : IsRunText word kind

-- no character of a run begins the text
pub data EndsRun : Text → Type 0 where
  at_end : EndsRun []
  at_space : {text : Text} → EndsRun (32 ∷ text)
  at_opening : {text : Text} → EndsRun (40 ∷ text)
  at_closing : {text : Text} → EndsRun (41 ∷ text)

-- the text has these symbols
pub data Spells : Text → List Symbol → Type 0 where
  text_ends : Spells [] (ending ∷ [])
  a_space : {text : Text} {ss : List Symbol} → Spells text ss → Spells (32 ∷ text) ss
  an_opening : {text : Text} {ss : List Symbol} → Spells text ss → Spells (40 ∷ text) (opening ∷ ss)
  a_closing : {text : Text} {ss : List Symbol} → Spells text ss → Spells (41 ∷ text) (closing ∷ ss)
  an_iri : {text : Text} {ss : List Symbol} (name : Text) → IsIri name → Spells text ss
      → Spells (60 ∷ name ++ 62 ∷ text) (full_iri name ∷ ss)
  a_keyword : {text : Text} {ss : List Symbol} (k : Keyword) → IsRunWord (keyword_text k) (Word k) → EndsRun text
      → Spells text ss → Spells (keyword_text k ++ text) (keyword k ∷ ss)
  a_short_iri : {text : Text} {ss : List Symbol} (name : Text) → IsRunWord name Short → EndsRun text → Spells text ss
      → Spells (name ++ text) (short_iri name ∷ ss)

-- ---- what stands at an offset

module _ (bytes : List ℕ) (i : ℕ) (within : i ≤ length bytes) where
  pub stands_front : (xs ys : Text) → drop i bytes ≡ xs ++ ys → StandsAt bytes i xs (i + length xs)
  stands_front xs ys is =
      let behind : drop (i + length xs) bytes ≡ ys = sym (drop-drop (length xs) i bytes) ∙ ap (drop (length xs)) is ∙ drop-append_seam xs ys in
      let size = ap length is in
      let parts = length-append xs ys in
      let whole = length-drop i bytes in
      record { ends = refl; in_range = omega arith; is = is ∙ ap (λ l. xs ++ l) (sym behind) }

  pub drop_front : (xs ys : Text) → drop i bytes ≡ xs ++ ys → drop (i + length xs) bytes ≡ ys
  drop_front xs ys is = sym (drop-drop (length xs) i bytes) ∙ ap (drop (length xs)) is ∙ drop-append_seam xs ys

  byte_front : (c : ℕ) (ys : Text) → drop i bytes ≡ c ∷ ys → slice_get bytes i ≡ Some c
  byte_front c ys is =
      let size = ap length is in
      let whole = length-drop i bytes in
      let first : get_or bytes i 0 ≡ c = ap (λ n. get_or bytes n 0) (omega arith) ∙ sym (get_or-drop i bytes 0 0) ∙ ap (λ l. get_or l 0 0) is in
      slice_get-get_or bytes i 0 (omega arith) ∙ ap Some first

  -- nothing is skipped at a byte that is neither white space nor a comment
  no_skip : (c : ℕ) (ys : Text) → drop i bytes ≡ c ∷ ys → is_white_space c ≡ false → c ≢ 35 → Skips bytes i i
  no_skip c ys is plain other =
      grammar.Skips.nothing i within
      (λ d at.
      let same : d ≡ c = (let both : Some d ≡ Some c = sym at ∙ byte_front c ys is in cc) in
      (ap is_white_space same ∙ plain, λ hash. other (sym same ∙ hash)))

-- ---- words

run_plain : (c : ℕ) → is_run_character c ≡ true → (is_white_space c ≡ false) × (c ≢ 35)
run_plain c h = (grind (arith, nat_tests), λ hash. absurd (true≢false (sym (subst (λ d. is_run_character d ≡ true) hash h))))

ascii_word : (word : Text) → list_all (λ c. nat_lt c 128 && is_run_character c) word ≡ true
    → (encodes word ≡ word) × (All IsScalar word × AllPass is_run_character word)
ascii_word [] h = (refl, (All-nil IsScalar, All-nil (λ c. is_run_character c ≡ true)))
ascii_word (c ∷ cs) h =
    let parts = and_parts (nat_lt c 128 && is_run_character c) (list_all (λ d. nat_lt d 128 && is_run_character d) cs) h in
    let both = and_parts (nat_lt c 128) (is_run_character c) parts.0 in
    let low : c < 128 = grind (arith, nat_tests) in
    let rest = ascii_word cs parts.1 in (
      ap (λ l. l ++ encodes cs) (encode_ascii c low) ∙ ap (λ l. c ∷ l) rest.0,
      (
        All-cons IsScalar c cs (low_scalar c (omega (arith, low))) rest.1.0,
        All-cons (λ d. is_run_character d ≡ true) c cs both.1 rest.1.1,
      ),
    )

-- ---- the tokens of a text that is spelled

module _ (bytes : List ℕ) where
  -- tokens from this place on have these symbols
  abbrev pub HasSymbols : ℕ → List Symbol → Type 0
  HasSymbols i ss = (l : List Placed) × (AreTokens bytes true i l × (symbols_of l ≡ ss))

  skip_space : (i : ℕ) (l : List Placed) → slice_get bytes i ≡ Some 32 → AreTokens bytes true (i + 1) l → AreTokens bytes true i l
  skip_space i l at (symbols.AreTokens.nothing none) = absurd (true≢false none)
  skip_space i l at (symbols.AreTokens.fault place none) =
      symbols.AreTokens.fault place
      (record { skipped = grammar.Skips.white_space i place 32 at refl none.skipped; none = none.none })
  skip_space i l at (symbols.AreTokens.last t next end) =
      symbols.AreTokens.last t
      (record { skipped = grammar.Skips.white_space i t.start 32 at refl next.skipped; stands = next.stands }) end
  skip_space i l at (symbols.AreTokens.token t next not more) =
      symbols.AreTokens.token t
      (record { skipped = grammar.Skips.white_space i t.start 32 at refl next.skipped; stands = next.stands }) not more

  -- a token, and then the others
  put_token : (i j : ℕ) (kind : TokenKind) (s : Symbol) (ss : List Symbol) → Skips bytes i i → IsTokenAt bytes kind i j → kind ≢ End
      → symbol_of kind (slice_range bytes i j) ≡ s → HasSymbols j ss → HasSymbols i (s ∷ ss)
  put_token i j kind s ss skips stands not is rest =
      let t : Token = record { kind = kind; start = i; end = j } in (
        placed bytes t ∷ rest.0,
        (
          symbols.AreTokens.token t (record { skipped = skips; stands = stands }) not rest.1.0,
          (λ n. is n ∷ rest.1.1 n),
        ),
      )

  run_token : (i : ℕ) (kind : TokenKind) (word text : Text) → i ≤ length bytes → drop i bytes ≡ word ++ text → IsRunWord word kind → EndsRun text
      → IsRun bytes kind i (i + length word)
  run_token i kind word text within is run ends =
      let front = stands_front bytes i within word text is in
      let ascii = ascii_word word run.characters in
      let j = i + length word in
      let behind : drop j bytes ≡ text = drop_front bytes i within word text is in
      let some = run.some in
      let inside = front.in_range in
      let whole = length-drop j bytes in
      record {
        run = record {
          run = record {
            characters = word;
            scalars = ascii.1.0;
            admitted = ascii.1.1;
            stand = subst (λ l. StandsAt bytes i l j) (sym ascii.0) front;
          };
          longest = by text behind ends;
        };
        some = omega (arith, some);
        is = subst (λ l. IsRunText l kind) (sym (slice_of bytes i j word front)) run.is;
      }
    where
      front_stands : StandsAt bytes i word (i + length word)
      front_stands = stands_front bytes i within word text is

      at : (c : ℕ) (rest : Text) → drop (i + length word) bytes ≡ c ∷ rest → c < 128 → is_run_character c ≡ false
          → NoCharacterAt is_run_character bytes (i + length word)
      at c rest behind low none =
          let there = byte_front bytes (i + length word) front_stands.in_range c rest behind in
          let first : get_or bytes (i + length word) 0 ≡ c = get_or_from_slice_get bytes (i + length word) c 0 there in
          none_at_ascii is_run_character bytes (i + length word) (slice_get_within bytes (i + length word) c there)
          (omega (arith, first, low)) (ap is_run_character first ∙ none)

      by : (rest : Text) → drop (i + length word) bytes ≡ rest → EndsRun rest → NoCharacterAt is_run_character bytes (i + length word)
      by _ behind at_end =
          none_at_end is_run_character bytes (i + length word)
          (let size = ap length behind in
          let whole = length-drop (i + length word) bytes in
          let inside = front_stands.in_range in
          omega arith)
      by _ behind (at_space {text = rest}) = at 32 rest behind (omega arith) refl
      by _ behind (at_opening {text = rest}) = at 40 rest behind (omega arith) refl
      by _ behind (at_closing {text = rest}) = at 41 rest behind (omega arith) refl

  no_skip_word : (i : ℕ) (word text : Text) (kind : TokenKind) → i ≤ length bytes → drop i bytes ≡ word ++ text → IsRunWord word kind
      → Skips bytes i i
  no_skip_word i [] text kind within is run = absurd (let some = run.some in omega arith)
  no_skip_word i (c ∷ cs) text kind within is run =
      let parts = and_parts (nat_lt c 128 && is_run_character c) (list_all (λ d. nat_lt d 128 && is_run_character d) cs) run.characters in
      let plain = run_plain c (and_parts (nat_lt c 128) (is_run_character c) parts.0).1 in
      no_skip bytes i within c (cs ++ text) is plain.0 plain.1

  -- what is read of an IRI between its brackets
  pub between : (name : Text) → slice_range (60 ∷ name ++ 62 ∷ []) 1 (length (60 ∷ name ++ 62 ∷ []) - 1) ≡ name
  between name =
      let size : length (60 ∷ name ++ 62 ∷ []) - 1 - 1 ≡ length name = omega (arith, length-append name (62 ∷ [])) in
      ap (λ n. take n (name ++ 62 ∷ [])) size ∙ take-append_seam name (62 ∷ [])

  pub tokens_of : (i : ℕ) (text : Text) (ss : List Symbol) → i ≤ length bytes → drop i bytes ≡ text → Spells text ss → HasSymbols i ss
  tokens_of i _ _ within is text_ends =
      let size = ap length is in
      let whole = length-drop i bytes in
      let here : i ≡ length bytes = omega arith in
      let t : Token = record { kind = End; start = i; end = i } in (
        placed bytes t ∷ [],
        (
          symbols.AreTokens.last t
              (record {
                skipped = grammar.Skips.nothing i within (λ c at. absurd (let inside = slice_get_within bytes i c at in omega arith));
                stands = (here, refl);
              }) refl,
          refl,
        ),
      )
  tokens_of i _ _ within is (a_space {text = text} {ss = ss} more) =
      let front = stands_front bytes i within (32 ∷ []) text is in
      let rest = tokens_of (i + 1) text ss front.in_range (drop_front bytes i within (32 ∷ []) text is) more in
      (rest.0, (skip_space i rest.0 (byte_front bytes i within 32 text is) rest.1.0, rest.1.1))
  tokens_of i _ _ within is (an_opening {text = text} {ss = ss} more) =
      let front = stands_front bytes i within (40 ∷ []) text is in
      put_token i (i + 1) Open opening ss (no_skip bytes i within 40 text is refl (λ h. omega (arith, h))) front (λ h. cc) refl
      (tokens_of (i + 1) text ss front.in_range (drop_front bytes i within (40 ∷ []) text is) more)
  tokens_of i _ _ within is (a_closing {text = text} {ss = ss} more) =
      let front = stands_front bytes i within (41 ∷ []) text is in
      put_token i (i + 1) Close closing ss (no_skip bytes i within 41 text is refl (λ h. omega (arith, h))) front (λ h. cc) refl
      (tokens_of (i + 1) text ss front.in_range (drop_front bytes i within (41 ∷ []) text is) more)
  tokens_of i _ _ within is (an_iri {text = text} {ss = ss} name good more) =
      let inside = iri_characters name good in
      let one = stands_front bytes i within (60 ∷ []) (name ++ 62 ∷ text) is in
      let behind_one : drop (i + 1) bytes ≡ name ++ 62 ∷ text = drop_front bytes i within (60 ∷ []) (name ++ 62 ∷ text) is in
      let two = stands_front bytes (i + 1) one.in_range name (62 ∷ text) behind_one in
      let behind_two = drop_front bytes (i + 1) one.in_range name (62 ∷ text) behind_one in
      let end = i + 1 + length name in
      let three = stands_front bytes end two.in_range (62 ∷ []) text behind_two in
      let behind_three = drop_front bytes end two.in_range (62 ∷ []) text behind_two in
      let all =
      StandsAt-append bytes i (i + 1) (end + 1) (60 ∷ []) (name ++ 62 ∷ []) one
      (StandsAt-append bytes (i + 1) end (end + 1) name (62 ∷ []) two three) in
      let cut : slice_range bytes i (end + 1) ≡ 60 ∷ name ++ 62 ∷ [] = slice_of bytes i (end + 1) (60 ∷ name ++ 62 ∷ []) all in
      put_token i (end + 1) Iri (full_iri name) ss (no_skip bytes i within 60 (name ++ 62 ∷ text) is refl (λ h. omega (arith, h)))
      (record {
        inner_end = end;
        opens = one;
        inner = record {
          characters = inside.characters;
          scalars = inside.scalars;
          admitted = inside.admitted;
          stand = subst (λ l. StandsAt bytes (i + 1) l end) inside.is two;
        };
        closes = three;
      }) (λ h. cc)
      (ap full_iri (ap (λ l. slice_range l 1 (length l - 1)) cut ∙ between name))
      (tokens_of (end + 1) text ss three.in_range behind_three more)
  tokens_of i _ _ within is (a_keyword {text = text} {ss = ss} k good ends more) =
      let front = stands_front bytes i within (keyword_text k) text is in
      put_token i (i + length (keyword_text k)) (Word k) (keyword k) ss (no_skip_word i (keyword_text k) text (Word k) within is good)
      (run_token i (Word k) (keyword_text k) text within is good ends) (λ h. cc) refl
      (tokens_of (i + length (keyword_text k)) text ss front.in_range (drop_front bytes i within (keyword_text k) text is) more)
  tokens_of i _ _ within is (a_short_iri {text = text} {ss = ss} name good ends more) =
      let front = stands_front bytes i within name text is in
      put_token i (i + length name) Short (short_iri name) ss (no_skip_word i name text Short within is good)
      (run_token i Short name text within is good ends) (λ h. cc)
      (ap short_iri (slice_of bytes i (i + length name) name front))
      (tokens_of (i + length name) text ss front.in_range (drop_front bytes i within name text is) more)
