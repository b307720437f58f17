-- What stands at an offset of bytes: texts, and characters in UTF-8.
use Rattle.std.proofs.Common.{◌≡◌, ℕ, ◌+◌, ◌<◌, ◌≤◌, ◌⊎◌, inl, inr, true, List, [], ◌∷◌, ◌++◌, length, get_or, take, drop, refl, sym, ap, ◌∙◌, append_assoc, length-append, length-drop, drop-cons, add-one, arith}
use Rattle.std.proofs.Math.Utf8.{encode, encodes, scalar, scalars}
use Rattle.std.specs.Str.{IsUtf8, continuation_len}
use Rattle.std.proofs.lemmas.Bool.{cases_lt, and_parts}
use Rattle.std.proofs.lemmas.Bool.Decides.{nat_tests}
use Rattle.std.proofs.lemmas.List.{get_or-drop, get_or_append_left, get_or-take, length-take-le, take-append-drop, append-nil, nil_from_length, drop-drop}
use Rattle.std.proofs.Math.Seq.{take-append_seam}
use Rattle.std.proofs.lemmas.Str.{encode_ascii, length-encode, len_utf8_bounds, char_from_byte, byte_from_char}
use Rattle.dl_lex.specs.Characters.{StandsAt, IsCharacterAt}

-- one text after another
pub StandsAt-append : (bytes : List ℕ) (i j k : ℕ) (xs ys : List ℕ) → StandsAt bytes i xs j → StandsAt bytes j ys k → StandsAt bytes i (xs ++ ys) k
StandsAt-append bytes i j k xs ys a b = record {
  ends = (let n = length-append xs ys in let p = a.ends in let q = b.ends in omega arith);
  in_range = b.in_range;
  is = a.is ∙ (ap (λ s. xs ++ s) b.is ∙ sym (append_assoc xs ys (drop k bytes)));
}

pub StandsAt-nil : (bytes : List ℕ) (i : ℕ) → i ≤ length bytes → StandsAt bytes i [] i
StandsAt-nil bytes i h = record { ends = omega arith; in_range = h; is = refl }

lead_width_by_size : (c : ℕ) → (c < 128) ⊎ (128 ≤ c) → (c < 2048) ⊎ (2048 ≤ c) → (c < 65536) ⊎ (65536 ≤ c) → length (encode c) ≡ continuation_len (get_or (encode c) 0 0) + 1
unfolding encode
lead_width_by_size c (inl one) two three = grind (arith, nat_tests)
lead_width_by_size c (inr a) (inl two) three = grind (arith, nat_tests)
lead_width_by_size c (inr a) (inr b) (inl three) = grind (arith, nat_tests)
lead_width_by_size c (inr a) (inr b) (inr d) = grind (arith, nat_tests)

-- the first byte of a character tells its length
pub lead_width : (c : ℕ) → length (encode c) ≡ continuation_len (get_or (encode c) 0 0) + 1
lead_width c = lead_width_by_size c (cases_lt c 128) (cases_lt c 2048) (cases_lt c 65536)

front_byte : (bytes : List ℕ) (i : ℕ) → get_or (drop i bytes) 0 0 ≡ get_or bytes i 0
front_byte bytes i = get_or-drop i bytes 0 0 ∙ ap (λ k. get_or bytes k 0) (omega arith)

-- a character that stands at an ASCII byte is that byte
pub ascii_character : (bytes : List ℕ) (i j c : ℕ) → StandsAt bytes i (encode c) j → i < length bytes → get_or bytes i 0 < 128 → c ≡ get_or bytes i 0
ascii_character bytes i j c s h low =
    let n = length-drop i bytes in
    char_from_byte (drop i bytes) (drop j bytes) c s.is (rw (front_byte bytes i) low) (omega arith) ∙ front_byte bytes i

-- a byte stands at its offset
pub byte_stands : (bytes : List ℕ) (i c : ℕ) → i < length bytes → get_or bytes i 0 ≡ c → StandsAt bytes i (c ∷ []) (i + 1)
byte_stands bytes i c h e = record {
  ends = refl;
  in_range = omega arith;
  is = rw (add-one, ← e) (drop-cons bytes i 0 h);
}

pub ascii_stands : (bytes : List ℕ) (i c : ℕ) → i < length bytes → get_or bytes i 0 ≡ c → c < 128 → StandsAt bytes i (encode c) (i + 1)
ascii_stands bytes i c h e low = rw (encode_ascii c low) (byte_stands bytes i c h e)

-- at a byte past ASCII stands no ASCII character
pub wide_character : (bytes : List ℕ) (i j c : ℕ) → StandsAt bytes i (encode c) j → 128 ≤ get_or bytes i 0 → (c < 128) ⊎ (128 ≤ c) → 128 ≤ c
wide_character bytes i j c s wide (inr h) = h
wide_character bytes i j c s wide (inl low) =
    let same : get_or bytes i 0 ≡ c = sym (front_byte bytes i) ∙ byte_from_char (drop i bytes) (drop j bytes) c s.is low in
    absurd (omega arith)

-- the first byte of the character that stands at an offset
pub first_byte : (bytes : List ℕ) (i j c : ℕ) → StandsAt bytes i (encode c) j → get_or (encode c) 0 0 ≡ get_or bytes i 0
first_byte bytes i j c s =
    let some = len_utf8_bounds c in
    let size = length-encode c in
    sym (get_or_append_left (encode c) (drop j bytes) 0 0 (omega arith)) ∙ (ap (λ t. get_or t 0 0) (sym s.is) ∙ front_byte bytes i)

-- a character takes as many bytes as its first byte tells
pub character_width : (bytes : List ℕ) (i j c : ℕ) → StandsAt bytes i (encode c) j → j ≡ i + (continuation_len (get_or bytes i 0) + 1)
character_width bytes i j c s = s.ends ∙ ap (λ k. i + k) (lead_width c ∙ ap (λ b. continuation_len b + 1) (first_byte bytes i j c s))

-- the bytes of a character, cut out
pub window_of_character : (bytes : List ℕ) (i j c w : ℕ) → StandsAt bytes i (encode c) j → j ≡ i + w → take w (drop i bytes) ≡ encode c
window_of_character bytes i j c w s e =
    let size : w ≡ length (encode c) = (let n = s.ends in omega arith) in
    rw (size, s.is) (take-append_seam (encode c) (drop j bytes))

only_character : (bytes : List ℕ) (i w : ℕ) → i + w ≤ length bytes → w ≡ continuation_len (get_or bytes i 0) + 1 → (cs : List ℕ) → scalars cs ≡ true → encodes cs ≡ take w (drop i bytes) → IsCharacterAt (λ _. true) bytes i (i + w)
only_character bytes i w h wide [] s e =
    let n : 0 ≡ length (take w (drop i bytes)) = ap length e in
    let size = length-take-le w (drop i bytes) (let m = length-drop i bytes in omega arith) in
    absurd (omega arith)
only_character bytes i w h wide (c ∷ cs) s e =
    let m = length-drop i bytes in
    let size = length-take-le w (drop i bytes) (omega arith) in
    let some = len_utf8_bounds c in
    let byte_len = length-encode c in
    let lead : get_or (encode c) 0 0 ≡ get_or bytes i 0 =
    sym (get_or_append_left (encode c) (encodes cs) 0 0 (omega arith)) ∙ (ap (λ t. get_or t 0 0) e ∙ (get_or-take w (drop i bytes) 0 0 (omega arith) ∙ front_byte bytes i)) in
    let same : length (encode c) ≡ w = lead_width c ∙ (ap (λ b. continuation_len b + 1) lead ∙ sym wide) in
    let whole = ap length e in
    let parts = length-append (encode c) (encodes cs) in
    let none : encodes cs ≡ [] = nil_from_length (encodes cs) (omega arith) in
    let front : take w (drop i bytes) ≡ encode c = sym e ∙ (ap (λ t. encode c ++ t) none ∙ append-nil (encode c)) in
    record {
      character = c;
      scalar = (and_parts (scalar c) (scalars cs) s).0;
      admitted = refl;
      stands = record {
        ends = omega arith;
        in_range = h;
        is = sym (take-append-drop w (drop i bytes)) ∙ (ap (λ t. t ++ drop w (drop i bytes)) front ∙ ap (λ t. encode c ++ t) (drop-drop w i bytes));
      };
    }

-- the bytes that are as many as their first tells, and are UTF-8, are a character
pub character_of_window : (bytes : List ℕ) (i w : ℕ) → i + w ≤ length bytes → w ≡ continuation_len (get_or bytes i 0) + 1 → IsUtf8 (take w (drop i bytes)) → IsCharacterAt (λ _. true) bytes i (i + w)
character_of_window bytes i w h wide u = only_character bytes i w h wide u.0 u.1.0 u.1.1
