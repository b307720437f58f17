-- The text of a string, from an offset within it to its end.
use Rattle.std.proofs.Common.{◌≡◌, ◌≢◌, ℕ, ◌+◌, ◌<◌, ◌⊎◌, inl, inr, true, List, [], ◌∷◌, ◌++◌, length, get_or, drop, refl, sym, ap, ◌∙◌, subst, append_assoc, length-append, arith}
use Rattle.std.proofs.Math.Utf8.{encode, encodes}
use Rattle.std.proofs.Math.Seq.{drop-append_seam}
use Rattle.std.specs.List.{All}
use Rattle.std.specs.Char.{IsScalar}
use Rattle.std.proofs.lemmas.Bool.Decides.{nat_tests}
use Rattle.std.proofs.lemmas.List.{drop-drop}
use Rattle.std.proofs.lemmas.List.Elements.{All-head, All-tail}
use Rattle.std.proofs.lemmas.Str.{encode_ascii}
use Rattle.dl_lex.specs.Characters.{StandsAt, IsCharacterAt, NoCharacterAt, IsLongestRun, is_plain_character}
use Rattle.dl_lex.specs.Grammar.{IsQuoted, empty, plain, escaped, IsText}
use Rattle.dl_lex.specs.Scanning.{IsRestOfText, IsEscapeAt, NoEscapeAt}
use Rattle.dl_lex.proofs.Standing.{StandsAt-append, byte_stands}
use Rattle.dl_lex.proofs.Runs.{first_stands, same_character}
use Rattle.dl_lex.proofs.Tokens.{stands_byte}

-- a text that stands at an offset, in two parts
pub StandsAt-split : (bytes : List ℕ) (i j : ℕ) (xs ys : List ℕ) → StandsAt bytes i (xs ++ ys) j → StandsAt bytes i xs (i + length xs) × StandsAt bytes (i + length xs) ys j
StandsAt-split bytes i j xs ys s =
    let size = length-append xs ys in
    let ends = s.ends in
    let inside = s.in_range in
    let split : drop i bytes ≡ xs ++ (ys ++ drop j bytes) = s.is ∙ append_assoc xs ys (drop j bytes) in
    let later : drop (i + length xs) bytes ≡ ys ++ drop j bytes = sym (drop-drop (length xs) i bytes) ∙ (ap (λ t. drop (length xs) t) split ∙ drop-append_seam xs (ys ++ drop j bytes)) in (
      record { ends = refl; in_range = omega arith; is = split ∙ ap (λ t. xs ++ t) (sym later) },
      record { ends = omega arith; in_range = s.in_range; is = later },
    )

plain_apart : (c : ℕ) → is_plain_character c ≡ true → (c ≢ 34) × (c ≢ 92)
plain_apart c p = (grind (arith, nat_tests), grind (arith, nat_tests))

plain_from : (c : ℕ) → c ≢ 34 → c ≢ 92 → is_plain_character c ≡ true
plain_from c no_quote no_slash = grind (arith, nat_tests)

-- the character at an ASCII byte that stands there
at_byte : (bytes : List ℕ) (i j k c b : ℕ) → b < 128 → StandsAt bytes i (encode c) j → StandsAt bytes i (b ∷ []) k → c ≡ b
at_byte bytes i j k c b low s t = same_character bytes i j k c b s (subst (λ x. StandsAt bytes i x k) (sym (encode_ascii b low)) t)

escaped_text : (e : ℕ) (cs : List ℕ) → e < 128 → encodes (92 ∷ e ∷ cs) ≡ 92 ∷ e ∷ encodes cs
escaped_text e cs low = let slash : encode 92 ≡ 92 ∷ [] = encode_ascii 92 (omega arith) in let second : encode e ≡ e ∷ [] = encode_ascii e low in rw (slash, second) refl

pub escaped_low : (e : ℕ) → (e ≡ 34) ⊎ (e ≡ 92) → e < 128
escaped_low e (inl h) = omega arith
escaped_low e (inr h) = omega arith

-- a plain character, and what is left after it
pub rest_from_plain : (bytes : List ℕ) (i k j : ℕ) → IsCharacterAt is_plain_character bytes i k → IsRestOfText bytes k j → IsRestOfText bytes i j
rest_from_plain bytes i k j h r =
    let apart = plain_apart h.character h.admitted in
    record {
      characters = h.character ∷ r.characters;
      quoted = plain h.character r.characters h.scalar apart.0 apart.1 r.quoted;
      stands = subst (λ t. StandsAt bytes i t j) (sym (append_assoc (encode h.character) (encodes r.characters) (34 ∷ []))) (StandsAt-append bytes i k j (encode h.character) (encodes r.characters ++ 34 ∷ []) h.stands r.stands);
    }

after_plain : (bytes : List ℕ) (i k j : ℕ) → IsCharacterAt is_plain_character bytes i k → (cs : List ℕ) → IsQuoted cs → StandsAt bytes i (encodes cs ++ 34 ∷ []) j → IsRestOfText bytes k j
after_plain bytes i k j h _ empty s = absurd ((plain_apart h.character h.admitted).0 (at_byte bytes i k j h.character 34 (omega arith) h.stands s))
after_plain bytes i k j h _ (plain d ds scalar no_quote no_slash q) s =
    let parts = first_stands bytes i j d (encodes ds ++ 34 ∷ []) (subst (λ t. StandsAt bytes i t j) (append_assoc (encode d) (encodes ds) (34 ∷ [])) s) in
    let same : h.character ≡ d = same_character bytes i k _ h.character d h.stands parts.0 in
    let here : i + length (encode d) ≡ k = sym (h.stands.ends ∙ ap (λ c. i + length (encode c)) same) in
    record { characters = ds; quoted = q; stands = subst (λ n. StandsAt bytes n (encodes ds ++ 34 ∷ []) j) here parts.1 }
after_plain bytes i k j h _ (escaped e ds is q) s =
    let text = subst (λ t. StandsAt bytes i (t ++ 34 ∷ []) j) (escaped_text e ds (escaped_low e is)) s in
    let first = StandsAt-split bytes i j (92 ∷ []) (e ∷ encodes ds ++ 34 ∷ []) text in
    absurd ((plain_apart h.character h.admitted).1 (at_byte bytes i k _ h.character 92 (omega arith) h.stands first.0))

pub rest_after_plain : (bytes : List ℕ) (i k j : ℕ) → IsCharacterAt is_plain_character bytes i k → IsRestOfText bytes i j → IsRestOfText bytes k j
rest_after_plain bytes i k j h r = after_plain bytes i k j h r.characters r.quoted r.stands

-- over a whole run of plain characters, both ways
run_before_rest : (bytes : List ℕ) (i k j : ℕ) (cs : List ℕ) → All IsScalar cs → All (λ c. is_plain_character c ≡ true) cs → StandsAt bytes i (encodes cs) k → IsRestOfText bytes k j → IsRestOfText bytes i j
run_before_rest bytes i k j [] scalars plains s r = subst (λ n. IsRestOfText bytes n j) (let e = s.ends in omega arith) r
run_before_rest bytes i k j (c ∷ cs) scalars plains s r =
    let parts = first_stands bytes i k c (encodes cs) s in
    rest_from_plain bytes i (i + length (encode c)) j
    (record { character = c; scalar = All-head IsScalar c cs scalars; admitted = All-head (λ d. is_plain_character d ≡ true) c cs plains; stands = parts.0 })
    (run_before_rest bytes (i + length (encode c)) k j cs (All-tail IsScalar c cs scalars) (All-tail (λ d. is_plain_character d ≡ true) c cs plains) parts.1 r)

rest_after_run : (bytes : List ℕ) (i k j : ℕ) (cs : List ℕ) → All IsScalar cs → All (λ c. is_plain_character c ≡ true) cs → StandsAt bytes i (encodes cs) k → IsRestOfText bytes i j → IsRestOfText bytes k j
rest_after_run bytes i k j [] scalars plains s r = subst (λ n. IsRestOfText bytes n j) (let e = s.ends in omega arith) r
rest_after_run bytes i k j (c ∷ cs) scalars plains s r =
    let parts = first_stands bytes i k c (encodes cs) s in
    rest_after_run bytes (i + length (encode c)) k j cs (All-tail IsScalar c cs scalars) (All-tail (λ d. is_plain_character d ≡ true) c cs plains) parts.1
    (rest_after_plain bytes i (i + length (encode c)) j
    (record { character = c; scalar = All-head IsScalar c cs scalars; admitted = All-head (λ d. is_plain_character d ≡ true) c cs plains; stands = parts.0 })
    r)

-- an escape, and what is left after it
rest_from_escape : (bytes : List ℕ) (i k j : ℕ) → IsEscapeAt bytes i k → IsRestOfText bytes k j → IsRestOfText bytes i j
rest_from_escape bytes i k j h r = record {
  characters = 92 ∷ h.escaped ∷ r.characters;
  quoted = escaped h.escaped r.characters h.is r.quoted;
  stands = subst (λ t. StandsAt bytes i (t ++ 34 ∷ []) j) (sym (escaped_text h.escaped r.characters (escaped_low h.escaped h.is)))
      (StandsAt-append bytes i k j (92 ∷ h.escaped ∷ []) (encodes r.characters ++ 34 ∷ []) h.stands r.stands);
}

slash_at : (bytes : List ℕ) (i k : ℕ) → IsEscapeAt bytes i k → StandsAt bytes i (92 ∷ []) (i + 1)
slash_at bytes i k h = (StandsAt-split bytes i k (92 ∷ []) (h.escaped ∷ []) h.stands).0

after_escape : (bytes : List ℕ) (i k j : ℕ) → IsEscapeAt bytes i k → (cs : List ℕ) → IsQuoted cs → StandsAt bytes i (encodes cs ++ 34 ∷ []) j → IsRestOfText bytes k j
after_escape bytes i k j h _ empty s =
    let one = stands_byte bytes i j 34 [] s in
    let two = stands_byte bytes i k 92 (h.escaped ∷ []) h.stands in
    absurd (omega arith)
after_escape bytes i k j h _ (plain d ds scalar no_quote no_slash q) s =
    let parts = first_stands bytes i j d (encodes ds ++ 34 ∷ []) (subst (λ t. StandsAt bytes i t j) (append_assoc (encode d) (encodes ds) (34 ∷ [])) s) in
    absurd (no_slash (at_byte bytes i _ _ d 92 (omega arith) parts.0 (slash_at bytes i k h)))
after_escape bytes i k j h _ (escaped e ds is q) s =
    let text : StandsAt bytes i ((92 ∷ e ∷ []) ++ (encodes ds ++ 34 ∷ [])) j = subst (λ t. StandsAt bytes i (t ++ 34 ∷ []) j) (escaped_text e ds (escaped_low e is)) s in
    let parts = StandsAt-split bytes i j (92 ∷ e ∷ []) (encodes ds ++ 34 ∷ []) text in
    let here : i + 2 ≡ k = (let f = h.stands.ends in omega arith) in
    record { characters = ds; quoted = q; stands = subst (λ n. StandsAt bytes n (encodes ds ++ 34 ∷ []) j) here parts.1 }

rest_after_escape : (bytes : List ℕ) (i k j : ℕ) → IsEscapeAt bytes i k → IsRestOfText bytes i j → IsRestOfText bytes k j
rest_after_escape bytes i k j h r = after_escape bytes i k j h r.characters r.quoted r.stands

-- the closing quote
pub rest_closes : (bytes : List ℕ) (i : ℕ) → i < length bytes → get_or bytes i 0 ≡ 34 → IsRestOfText bytes i (i + 1)
rest_closes bytes i h quote = record { characters = []; quoted = empty; stands = byte_stands bytes i 34 h quote }

no_rest_of : (bytes : List ℕ) (i j : ℕ) → NoCharacterAt is_plain_character bytes i → NoEscapeAt bytes i → ((i < length bytes) × (get_or bytes i 0 ≡ 34) → ⊥) → (cs : List ℕ) → IsQuoted cs → StandsAt bytes i (encodes cs ++ 34 ∷ []) j → ⊥
no_rest_of bytes i j no_plain no_escape no_quote _ empty s =
    let byte = stands_byte bytes i j 34 [] s in
    let ends = s.ends in
    let inside = s.in_range in
    no_quote (omega arith, byte)
no_rest_of bytes i j no_plain no_escape no_quote _ (plain d ds scalar other no_slash q) s =
    let parts = first_stands bytes i j d (encodes ds ++ 34 ∷ []) (subst (λ t. StandsAt bytes i t j) (append_assoc (encode d) (encodes ds) (34 ∷ [])) s) in
    no_plain _ (record { character = d; scalar = scalar; admitted = plain_from d other no_slash; stands = parts.0 })
no_rest_of bytes i j no_plain no_escape no_quote _ (escaped e ds is q) s =
    let text : StandsAt bytes i ((92 ∷ e ∷ []) ++ (encodes ds ++ 34 ∷ [])) j = subst (λ t. StandsAt bytes i (t ++ 34 ∷ []) j) (escaped_text e ds (escaped_low e is)) s in
    let parts = StandsAt-split bytes i j (92 ∷ e ∷ []) (encodes ds ++ 34 ∷ []) text in
    no_escape _ (record { escaped = e; is = is; stands = parts.0 })

-- no plain character, no escape and no quote: no string goes on
pub no_rest : (bytes : List ℕ) (i : ℕ) → NoCharacterAt is_plain_character bytes i → NoEscapeAt bytes i → ((i < length bytes) × (get_or bytes i 0 ≡ 34) → ⊥) → (j : ℕ) → IsRestOfText bytes i j → ⊥
no_rest bytes i no_plain no_escape no_quote j r = no_rest_of bytes i j no_plain no_escape no_quote r.characters r.quoted r.stands

closes_once : (bytes : List ℕ) (i j k : ℕ) → StandsAt bytes i (34 ∷ []) j → (cs : List ℕ) → IsQuoted cs → StandsAt bytes i (encodes cs ++ 34 ∷ []) k → j ≡ k
closes_once bytes i j k s _ empty t = s.ends ∙ sym t.ends
closes_once bytes i j k s _ (plain d ds scalar other no_slash q) t =
    let parts = first_stands bytes i k d (encodes ds ++ 34 ∷ []) (subst (λ x. StandsAt bytes i x k) (append_assoc (encode d) (encodes ds) (34 ∷ [])) t) in
    absurd (other (at_byte bytes i _ j d 34 (omega arith) parts.0 s))
closes_once bytes i j k s _ (escaped e ds is q) t =
    let text : StandsAt bytes i (92 ∷ e ∷ (encodes ds ++ 34 ∷ [])) k = subst (λ x. StandsAt bytes i (x ++ 34 ∷ []) k) (escaped_text e ds (escaped_low e is)) t in
    let one = stands_byte bytes i j 34 [] s in
    let two = stands_byte bytes i k 92 (e ∷ (encodes ds ++ 34 ∷ [])) text in
    absurd (omega arith)

one_rest_of : (bytes : List ℕ) (i j k : ℕ) (cs : List ℕ) → IsQuoted cs → StandsAt bytes i (encodes cs ++ 34 ∷ []) j → IsRestOfText bytes i k → j ≡ k
one_rest_of bytes i j k _ empty s r = closes_once bytes i j k s r.characters r.quoted r.stands
one_rest_of bytes i j k _ (plain d ds scalar other no_slash q) s r =
    let parts = first_stands bytes i j d (encodes ds ++ 34 ∷ []) (subst (λ t. StandsAt bytes i t j) (append_assoc (encode d) (encodes ds) (34 ∷ [])) s) in
    let first : IsCharacterAt is_plain_character bytes i (i + length (encode d)) = record { character = d; scalar = scalar; admitted = plain_from d other no_slash; stands = parts.0 } in
    one_rest_of bytes (i + length (encode d)) j k ds q parts.1 (rest_after_plain bytes i (i + length (encode d)) k first r)
one_rest_of bytes i j k _ (escaped e ds is q) s r =
    let text : StandsAt bytes i ((92 ∷ e ∷ []) ++ (encodes ds ++ 34 ∷ [])) j = subst (λ t. StandsAt bytes i (t ++ 34 ∷ []) j) (escaped_text e ds (escaped_low e is)) s in
    let parts = StandsAt-split bytes i j (92 ∷ e ∷ []) (encodes ds ++ 34 ∷ []) text in
    let first : IsEscapeAt bytes i (i + 2) = record { escaped = e; is = is; stands = parts.0 } in
    one_rest_of bytes (i + 2) j k ds q parts.1 (rest_after_escape bytes i (i + 2) k first r)

-- a string ends at one offset
pub one_rest : (bytes : List ℕ) (i j k : ℕ) → IsRestOfText bytes i j → IsRestOfText bytes i k → j ≡ k
one_rest bytes i j k r t = one_rest_of bytes i j k r.characters r.quoted r.stands t

-- a string is its opening quote and the rest
pub text_from_rest : (bytes : List ℕ) (i j : ℕ) → i < length bytes → get_or bytes i 0 ≡ 34 → IsRestOfText bytes (i + 1) j → IsText bytes i j
text_from_rest bytes i j h quote r =
    let parts = StandsAt-split bytes (i + 1) j (encodes r.characters) (34 ∷ []) r.stands in
    record {
      inner_end = (i + 1) + length (encodes r.characters);
      characters = r.characters;
      opens = byte_stands bytes i 34 h quote;
      quoted = r.quoted;
      inner = parts.0;
      closes = parts.1;
    }

pub rest_from_text : (bytes : List ℕ) (i j : ℕ) → IsText bytes i j → IsRestOfText bytes (i + 1) j
rest_from_text bytes i j t = record { characters = t.characters; quoted = t.quoted; stands = StandsAt-append bytes (i + 1) t.inner_end j (encodes t.characters) (34 ∷ []) t.inner t.closes }

-- the rest of a string from i is the rest from k: what the scan of a string keeps
pub record GoesOnAt (bytes : List ℕ) (i k : ℕ) : Type 0 where
  pub from_there : (j : ℕ) → IsRestOfText bytes k j → IsRestOfText bytes i j
  pub to_there : (j : ℕ) → IsRestOfText bytes i j → IsRestOfText bytes k j
  pub no_plain : NoCharacterAt is_plain_character bytes k

pub GoesOnAt-run : (bytes : List ℕ) (i k : ℕ) → IsLongestRun is_plain_character bytes i k → GoesOnAt bytes i k
GoesOnAt-run bytes i k l = record {
  from_there = λ j r. run_before_rest bytes i k j l.run.characters l.run.scalars l.run.admitted l.run.stand r;
  to_there = λ j r. rest_after_run bytes i k j l.run.characters l.run.scalars l.run.admitted l.run.stand r;
  no_plain = l.longest;
}

pub GoesOnAt-escape : (bytes : List ℕ) (i k m n : ℕ) → GoesOnAt bytes i k → IsEscapeAt bytes k m → IsLongestRun is_plain_character bytes m n → GoesOnAt bytes i n
GoesOnAt-escape bytes i k m n g e l =
    let after = GoesOnAt-run bytes m n l in
    record {
      from_there = λ j r. g.from_there j (rest_from_escape bytes k m j e (after.from_there j r));
      to_there = λ j r. after.to_there j (rest_after_escape bytes k m j e (g.to_there j r));
      no_plain = l.longest;
    }
