-- The text of a query has the tokens that its symbols say.
use Rattle.std.proofs.Common.{◌≡◌, ℕ, zero, suc, ◌-◌, codes, append-nil, ◌%◌, ◌+◌, ◌<◌, ◌^◌, Bool, true, false, not, cond, List, [], ◌∷◌, ◌++◌, length, map, take, drop, refl, sym, ap, subst, ◌∙◌, append_assoc, arith}
use Rattle.std.specs.Fmt.{decimal}
use Rattle.std.specs.List.{AllByRecursion, flat_map, list_all}
use Rattle.std.specs.Str.{is_utf8}
use Rattle.std.proofs.lemmas.Fmt.{decimal_by_steps}
use Rattle.std.proofs.lemmas.Str.{is_utf8-from_IsUtf8}
use Rattle.dl_names.specs.NameList.{Text}
use Rattle.dl_names.specs.Iris.{is_iri_byte}
use Rattle.dl_terms.specs.declared.query.Term.{Term}
use Rattle.dl_terms.specs.declared.query.Term.TheVariants.{Var, Name}
use Rattle.dl_terms.specs.declared.query.Atom.{Atom}
use Rattle.dl_terms.specs.declared.query.Atom.TheVariants.{Is, Link}
use Rattle.dl_terms.specs.Occurring.{term_names, atom_names}
use Rattle.dl_terms.specs.Queries.{term_variables, atom_variables}
use Rattle.dl_terms.proofs.MemberLemmas.{both_true}
use Rattle.dl_text.specs.NameText.{name_text, comma_joined}
use Rattle.dl_stream.specs.ReadBack.{text_at}
use Rattle.dl_text.specs.QueryText.{variable_text, term_text, atom_text}
use Rattle.dl_stream.proofs.QueryBack.{IsIriAt, term_symbol, atom_symbols, body_symbols, more_symbols, head_symbols, query_word, opening, closing, comma, turnstile, ending}
use Rattle.dl_stream.proofs.VariableBack.{variable_name}
use Rattle.dl_query.specs.Symbols.{Symbol, variable, iri, no_token, front, run_len, run, behind, is_variable_byte, is_blank, front_of, next_front, next_placed, Placed, is_last, AreTokens, last, more, symbols_of, variable_of, iri_of}

-- ---- runs at the front

-- bytes that pass, and then one that doesn't
pub record Stops (p : ℕ → Bool) (xs : List ℕ) (b : ℕ) : Type 0 where
  pub passes : AllByRecursion (λ x. p x ≡ true) xs
  pub stops : p b ≡ false

take_front : (xs ys : List ℕ) → take (length xs) (xs ++ ys) ≡ xs
take_front [] ys = refl
take_front (x ∷ xs) ys = ap (λ l. x ∷ l) (take_front xs ys)

drop_front : (xs ys : List ℕ) → drop (length xs) (xs ++ ys) ≡ ys
drop_front [] ys = refl
drop_front (x ∷ xs) ys = drop_front xs ys

module _ (p : ℕ → Bool) where
  run_len-is : (xs : List ℕ) (b : ℕ) (rest : List ℕ) → AllByRecursion (λ x. p x ≡ true) xs → p b ≡ false
      → run_len p (xs ++ b ∷ rest) ≡ length xs
  run_len-is [] b rest all stops = ap (λ c. cond (not (not c)) (1 + run_len p rest) 0) stops
  run_len-is (x ∷ xs) b rest all stops =
      let here : run_len p ((x ∷ xs) ++ b ∷ rest) ≡ 1 + run_len p (xs ++ b ∷ rest) =
      ap (λ c. cond (not (not c)) (1 + run_len p (xs ++ b ∷ rest)) 0) all.0
      in
      omega (arith, here, run_len-is xs b rest all.1 stops)

  pub run-is : (xs : List ℕ) (b : ℕ) (rest : List ℕ) → AllByRecursion (λ x. p x ≡ true) xs → p b ≡ false → run p (xs ++ b ∷ rest) ≡ xs
  run-is xs b rest all stops = ap (λ n. take n (xs ++ b ∷ rest)) (run_len-is xs b rest all stops) ∙ take_front xs (b ∷ rest)

  pub behind-is : (xs : List ℕ) (b : ℕ) (rest : List ℕ) → AllByRecursion (λ x. p x ≡ true) xs → p b ≡ false
      → behind p (xs ++ b ∷ rest) ≡ b ∷ rest
  behind-is xs b rest all stops = ap (λ n. drop n (xs ++ b ∷ rest)) (run_len-is xs b rest all stops) ∙ drop_front xs (b ∷ rest)

-- ---- tokens one after the other

pub record Tokens (len : ℕ) (bytes : Text) (symbols : List Symbol) : Type 0 where
  pub tokens : List Placed
  pub are : AreTokens len bytes tokens
  pub is : symbols_of tokens ≡ symbols

pub token_then : {len : ℕ} {rest : Text} {symbols : List Symbol} (bytes : Text) (s : Symbol) → next_front bytes ≡ front s rest → is_last s ≡ false
    → Tokens len rest symbols → Tokens len bytes (s ∷ symbols)
token_then {len} bytes s stands goes_on others = record {
  tokens = next_placed len bytes ∷ others.tokens;
  are = more (ap (λ f. is_last f.symbol) stands ∙ goes_on) (subst (λ r. AreTokens len r others.tokens) (sym (ap (λ f. f.rest) stands)) others.are);
  is = (λ i. (stands i).symbol ∷ others.is i);
}

-- the same text, written otherwise
pub as_text : {len : ℕ} {symbols : List Symbol} (x y : Text) → x ≡ y → Tokens len y symbols → Tokens len x symbols
as_text {len} {symbols} x y same tokens = subst (λ t. Tokens len t symbols) (sym same) tokens

-- the end of the text
pub at_end : (len : ℕ) → Tokens len [] (ending ∷ [])
at_end len = record { tokens = next_placed len [] ∷ []; are = last refl; is = refl }

-- ---- a variable and an IRI

variable_front : (v : ℕ) (b : ℕ) (rest : Text) → AllByRecursion (λ x. is_variable_byte x ≡ true) (decimal v) → is_variable_byte b ≡ false
    → next_front (63 ∷ 118 ∷ decimal v ++ b ∷ rest) ≡ front (variable (118 ∷ decimal v)) (b ∷ rest)
variable_front v b rest digits stops =
    let name = 118 ∷ decimal v in
    (λ i. variable_of (run-is is_variable_byte name b rest (refl, digits) stops i) (behind-is is_variable_byte name b rest (refl, digits) stops i))

iri_front : (text rest : Text) → AllByRecursion (λ x. is_iri_byte x ≡ true) text → is_utf8 text ≡ true
    → next_front (60 ∷ text ++ 62 ∷ rest) ≡ front (iri text) rest
iri_front text rest bytes utf8 =
    (λ i. iri_of (run-is is_iri_byte text 62 rest bytes refl i) (behind-is is_iri_byte text 62 rest bytes refl i))
    ∙ ap (λ c. cond c (front (iri text) rest) (front no_token rest)) utf8

-- ---- digits

digit_byte : (d : ℕ) → d < 10 → is_variable_byte (48 + d) ≡ true
digit_byte zero h = refl
digit_byte (suc zero) h = refl
digit_byte (suc (suc zero)) h = refl
digit_byte (suc (suc (suc zero))) h = refl
digit_byte (suc (suc (suc (suc zero)))) h = refl
digit_byte (suc (suc (suc (suc (suc zero))))) h = refl
digit_byte (suc (suc (suc (suc (suc (suc zero)))))) h = refl
digit_byte (suc (suc (suc (suc (suc (suc (suc zero))))))) h = refl
digit_byte (suc (suc (suc (suc (suc (suc (suc (suc zero)))))))) h = refl
digit_byte (suc (suc (suc (suc (suc (suc (suc (suc (suc zero))))))))) h = refl
digit_byte (suc (suc (suc (suc (suc (suc (suc (suc (suc (suc d)))))))))) h = absurd (omega (arith, h))

digits_then : (xs ys : List ℕ) → AllByRecursion (λ x. is_variable_byte x ≡ true) xs → AllByRecursion (λ x. is_variable_byte x ≡ true) ys
    → AllByRecursion (λ x. is_variable_byte x ≡ true) (xs ++ ys)
digits_then [] ys h g = g
digits_then (x ∷ xs) ys h g = (h.0, digits_then xs ys h.1 g)

digits_of_decimal : (n : ℕ) → n < 2 ^ 64 → AllByRecursion (λ x. is_variable_byte x ≡ true) (decimal n)
digits_of_decimal n h =
    decimal_by_steps (λ n ds. AllByRecursion (λ x. is_variable_byte x ≡ true) ds) (λ n small. (digit_byte n small, tt))
    (λ n ds large front. digits_then ds ((48 + n % 10) ∷ []) front (digit_byte (n % 10) (omega arith), tt)) n h

-- ---- IRIs

all_bytes : (text : Text) → list_all is_iri_byte text ≡ true → AllByRecursion (λ x. is_iri_byte x ≡ true) text
all_bytes [] h = tt
all_bytes (x ∷ text) h =
    let both = both_true (is_iri_byte x) (list_all is_iri_byte text) h in
    (both.0, all_bytes text both.1)

-- ---- parts of a query that is printed

abbrev AreFew : List ℕ → Type 0
AreFew vs = AllByRecursion (λ v. v < 2 ^ 64) vs

few_parts : (xs ys : List ℕ) → AreFew (xs ++ ys) → AreFew xs × AreFew ys
few_parts [] ys h = (tt, h)
few_parts (x ∷ xs) ys h = let rest = few_parts xs ys h.1 in ((h.0, rest.0), rest.1)

-- a space before a token
space_passed : (bytes : Text) → behind is_blank (32 ∷ bytes) ≡ behind is_blank bytes
space_passed bytes =
    let n = run_len is_blank bytes in
    let e : 1 + n ≡ suc n = omega arith in
    ap (λ k. drop k (32 ∷ bytes)) e

module _ (held : List Text) where
  iri_parts : (xs ys : List ℕ) → AllByRecursion (IsIriAt held) (xs ++ ys) → AllByRecursion (IsIriAt held) xs × AllByRecursion (IsIriAt held) ys
  iri_parts [] ys h = (tt, h)
  iri_parts (x ∷ xs) ys h = let rest = iri_parts xs ys h.1 in ((h.0, rest.0), rest.1)

module _ (held : List Text) (len : ℕ) where
  iri_then : (n : ℕ) (symbols : List Symbol) (rest : Text) → IsIriAt held n → Tokens len rest symbols
      → Tokens len (name_text held n ++ rest) (iri (text_at held n) ∷ symbols)
  iri_then n symbols rest is others =
      as_text (name_text held n ++ rest) (60 ∷ text_at held n ++ 62 ∷ rest) (append_assoc (60 ∷ text_at held n) (62 ∷ []) rest)
      (token_then (60 ∷ text_at held n ++ 62 ∷ rest) (iri (text_at held n))
      (iri_front (text_at held n) rest (all_bytes (text_at held n) is.characters)
      (is_utf8-from_IsUtf8 (text_at held n) is.utf8)) refl others)

  -- a variable, before a byte that ends it
  variable_then : (v b : ℕ) (symbols : List Symbol) (rest : Text) → v < 2 ^ 64 → is_variable_byte b ≡ false → Tokens len (b ∷ rest) symbols
      → Tokens len (variable_text v ++ b ∷ rest) (variable (variable_name v) ∷ symbols)
  variable_then v b symbols rest few stops others =
      token_then (variable_text v ++ b ∷ rest) (variable (variable_name v)) (variable_front v b rest (digits_of_decimal v few) stops) refl others

  term_then : (t : Term) (b : ℕ) (symbols : List Symbol) (rest : Text) → AreFew (term_variables t) → AllByRecursion (IsIriAt held) (term_names t)
      → is_variable_byte b ≡ false → Tokens len (b ∷ rest) symbols → Tokens len (term_text held t ++ b ∷ rest) (term_symbol held t ∷ symbols)
  term_then (Var v) b symbols rest few iris stops others = variable_then v b symbols rest few.0 stops others
  term_then (Name n) b symbols rest few iris stops others = iri_then n symbols (b ∷ rest) iris.0 others

  abbrev placed_at : Text → Placed
  placed_at x = record { symbol = (front_of x).symbol; at = len - length x }

  space_are : (bytes : Text) (tokens : List Placed) → AreTokens len bytes tokens → AreTokens len (32 ∷ bytes) tokens
  space_are bytes tokens (last e) =
      let same = space_passed bytes in
      subst (λ x. AreTokens len (32 ∷ bytes) (placed_at x ∷ [])) same (last (ap (λ x. is_last (front_of x).symbol) same ∙ e))
  space_are bytes tokens (more {tokens = others} e rest) =
      let same = space_passed bytes in
      subst (λ x. AreTokens len (32 ∷ bytes) (placed_at x ∷ others)) same
      (more (ap (λ x. is_last (front_of x).symbol) same ∙ e) (subst (λ x. AreTokens len (front_of x).rest others) (sym same) rest))

  as_space : (bytes : Text) (symbols : List Symbol) → Tokens len bytes symbols → Tokens len (32 ∷ bytes) symbols
  as_space bytes symbols others = record {
    tokens = others.tokens;
    are = space_are bytes others.tokens others.are;
    is = others.is;
  }

  -- an atom
  atom_then : (a : Atom) (symbols : List Symbol) (rest : Text) → AreFew (atom_variables a) → AllByRecursion (IsIriAt held) (atom_names a)
      → Tokens len rest symbols → Tokens len (atom_text held a ++ rest) (atom_symbols held a symbols)
  atom_then (Is c t) symbols rest few iris others =
      let closed = token_then (41 ∷ rest) closing refl refl others in
      let term = term_then t 41 (closing ∷ symbols) rest few iris.1 refl closed in
      let opened = token_then (40 ∷ (term_text held t ++ 41 ∷ rest)) opening refl refl term in
      as_text (atom_text held (Is c t) ++ rest) (name_text held c ++ (40 ∷ (term_text held t ++ 41 ∷ rest)))
      (append_assoc (name_text held c) (40 ∷ term_text held t ++ 41 ∷ []) rest
      ∙ ap (λ l. name_text held c ++ 40 ∷ l) (append_assoc (term_text held t) (41 ∷ []) rest))
      (iri_then c (opening ∷ term_symbol held t ∷ closing ∷ symbols) (40 ∷ (term_text held t ++ 41 ∷ rest)) iris.0 opened)
  atom_then (Link p t u) symbols rest few iris others =
      let fews = few_parts (term_variables t) (term_variables u) few in
      let parts = iri_parts held (term_names t) (term_names u) iris.1 in
      let behind_u = 41 ∷ rest in
      let text_u = term_text held u ++ behind_u in
      let text_t = term_text held t ++ 44 ∷ 32 ∷ text_u in
      let symbols_u = term_symbol held u ∷ closing ∷ symbols in
      let closed = token_then behind_u closing refl refl others in
      let second = term_then u 41 (closing ∷ symbols) rest fews.1 parts.1 refl closed in
      let parted = token_then (44 ∷ 32 ∷ text_u) comma refl refl (as_space text_u symbols_u second) in
      let first = term_then t 44 (comma ∷ symbols_u) (32 ∷ text_u) fews.0 parts.0 refl parted in
      let opened = token_then (40 ∷ text_t) opening refl refl first in
      as_text (atom_text held (Link p t u) ++ rest) (name_text held p ++ 40 ∷ text_t)
      (append_assoc (name_text held p) (40 ∷ term_text held t ++ (44 ∷ 32 ∷ term_text held u ++ 41 ∷ [])) rest
      ∙ ap (λ l. name_text held p ++ 40 ∷ l)
      (append_assoc (term_text held t) (44 ∷ 32 ∷ term_text held u ++ 41 ∷ []) rest
      ∙ ap (λ l. term_text held t ++ 44 ∷ 32 ∷ l) (append_assoc (term_text held u) (41 ∷ []) rest)))
      (iri_then p (opening ∷ term_symbol held t ∷ comma ∷ symbols_u) (40 ∷ text_t) iris.0 opened)

  -- the head, up to what closes it
  more_then : (v : ℕ) (vs : List ℕ) (symbols : List Symbol) (rest : Text) → AreFew (v ∷ vs) → Tokens len rest symbols
      → Tokens len (comma_joined (map variable_text (v ∷ vs)) ++ 41 ∷ rest) (more_symbols v vs symbols)
  more_then v [] symbols rest few others =
      as_text (comma_joined (map variable_text (v ∷ [])) ++ 41 ∷ rest) (variable_text v ++ 41 ∷ rest)
      (ap (λ l. l ++ 41 ∷ rest) (append-nil (variable_text v)))
      (variable_then v 41 (closing ∷ symbols) rest few.0 refl (token_then (41 ∷ rest) closing refl refl others))
  more_then v (w ∷ vs) symbols rest few others =
      let behind_v = comma_joined (map variable_text (w ∷ vs)) in
      let behind = behind_v ++ 41 ∷ rest in
      let further = more_then w vs symbols rest few.1 others in
      as_text (comma_joined (map variable_text (v ∷ w ∷ vs)) ++ 41 ∷ rest) (variable_text v ++ 44 ∷ 32 ∷ behind)
      (append_assoc (variable_text v) (44 ∷ 32 ∷ behind_v) (41 ∷ rest))
      (variable_then v 44 (comma ∷ more_symbols w vs symbols) (32 ∷ behind) few.0 refl
      (token_then (44 ∷ 32 ∷ behind) comma refl refl (as_space behind (more_symbols w vs symbols) further)))

  head_then : (vs : List ℕ) (symbols : List Symbol) (rest : Text) → AreFew vs → Tokens len rest symbols
      → Tokens len (comma_joined (map variable_text vs) ++ 41 ∷ rest) (head_symbols vs symbols)
  head_then [] symbols rest few others = token_then (41 ∷ rest) closing refl refl others
  head_then (v ∷ vs) symbols rest few others = more_then v vs symbols rest few others

  -- the body, up to the end
  body_then : (a : Atom) (atoms : List Atom) → AreFew (flat_map atom_variables (a ∷ atoms))
      → AllByRecursion (λ a. AllByRecursion (IsIriAt held) (atom_names a)) (a ∷ atoms)
      → Tokens len (comma_joined (map (atom_text held) (a ∷ atoms))) (body_symbols held a atoms)
  body_then a [] few iris = atom_then a (ending ∷ []) [] (few_parts (atom_variables a) [] few).0 iris.0 (at_end len)
  body_then a (b ∷ atoms) few iris =
      let fews = few_parts (atom_variables a) (flat_map atom_variables (b ∷ atoms)) few in
      let behind = comma_joined (map (atom_text held) (b ∷ atoms)) in
      atom_then a (comma ∷ body_symbols held b atoms) (44 ∷ 32 ∷ behind) fews.0 iris.0
      (token_then (44 ∷ 32 ∷ behind) comma refl refl (as_space behind (body_symbols held b atoms) (body_then b atoms fews.1 iris.1)))

  -- the whole text
  pub query_then : (head : List ℕ) (a : Atom) (atoms : List Atom) → AreFew head → AreFew (flat_map atom_variables (a ∷ atoms))
      → AllByRecursion (λ a. AllByRecursion (IsIriAt held) (atom_names a)) (a ∷ atoms)
      → Tokens len (codes "q(" ++ (comma_joined (map variable_text head) ++ (codes ") :- " ++ comma_joined (map (atom_text held) (a ∷ atoms)))))
      (query_word ∷ opening ∷ head_symbols head (turnstile ∷ body_symbols held a atoms))
  query_then head a atoms few_head few iris =
      let body = comma_joined (map (atom_text held) (a ∷ atoms)) in
      let spaced = as_space body (body_symbols held a atoms) (body_then a atoms few iris) in
      let turned = token_then (58 ∷ 45 ∷ 32 ∷ body) turnstile refl refl spaced in
      let behind_head = as_space (58 ∷ 45 ∷ 32 ∷ body) (turnstile ∷ body_symbols held a atoms) turned in
      let in_head = head_then head (turnstile ∷ body_symbols held a atoms) (32 ∷ 58 ∷ 45 ∷ 32 ∷ body) few_head behind_head in
      let text = comma_joined (map variable_text head) ++ 41 ∷ 32 ∷ 58 ∷ 45 ∷ 32 ∷ body in
      token_then (113 ∷ 40 ∷ text) query_word refl refl (token_then (40 ∷ text) opening refl refl in_head)
