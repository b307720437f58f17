-- Reading token by token: each text has its tokens, and reading them ends at one place.
use Rattle.std.proofs.Common.{◌≡◌, ◌≢◌, ℕ, zero, suc, ◌<◌, ◌≤◌, Bool, true, false, cond, ◌&&◌, ◌==◌, List, [], ◌∷◌, length, refl, sym, ap, ◌∙◌, true≢false, arith, length-drop}
use Rattle.std.specs.Str.{is_utf8}
use Rattle.std.proofs.lemmas.Bool.{cond_both}
use Rattle.dl_names.specs.NameList.{Text}
use Rattle.dl_names.specs.Iris.{is_iri_byte}
use Rattle.dl_query.specs.declared.token.Mark.TheVariants.{QueryWord, Opening, Closing, Comma, Turnstile, Ending}
use Rattle.dl_query.specs.Symbols.{Symbol, mark, variable, iri, no_token, Front, front, no_front, turnstile_of, variable_of, iri_of, token_of, front_of, next_front, next_placed, is_last, is_blank, is_variable_byte, run, run_len, behind, Placed, AreTokens, last, more}
use Rattle.dl_query.specs.Grammar.{Met}
use Rattle.dl_query.specs.Steps.{Expected, Cause, syntax, fault_of, Move, goes, refuses, ends, body_more, move_of}
use Rattle.dl_query.specs.Reading.{Outcome, gives, fails, unfinished, outcome_of, outcome, HasOutcome}

-- ---- what stands behind a token is shorter

-- behind a token that isn't the last one there are fewer bytes than this
abbrev IsShort : ℕ → Front → Type 0
IsShort n f = is_last f.symbol ≡ false → length f.rest < n

IsShort-none : (n : ℕ) (rest : List ℕ) → IsShort n (no_front rest)
IsShort-none n rest h = absurd (true≢false h)

IsShort-turnstile : (rest : List ℕ) (n : ℕ) → length rest ≤ n → IsShort (suc n) (turnstile_of rest)
IsShort-turnstile [] n h = IsShort-none (suc n) []
IsShort-turnstile (b ∷ rest) n h =
    cond_both (b == 45) (front (mark Turnstile) rest) (no_front rest) (IsShort (suc n)) (λ _ _. omega (arith, h)) (λ _. IsShort-none (suc n) rest)

IsShort-variable : (name : Text) (rest : List ℕ) (n : ℕ) → length rest ≤ n → IsShort (suc n) (variable_of name rest)
IsShort-variable [] [] n h = IsShort-none (suc n) []
IsShort-variable [] (b ∷ rest) n h = IsShort-none (suc n) rest
IsShort-variable (b ∷ name) rest n h = λ _. omega (arith, h)

IsShort-iri : (text : Text) (rest : List ℕ) (n : ℕ) → length rest ≤ n → IsShort (suc n) (iri_of text rest)
IsShort-iri text [] n h = IsShort-none (suc n) []
IsShort-iri text (b ∷ rest) n h =
    cond_both (b == 62 && is_utf8 text) (front (iri text) rest) (no_front rest) (IsShort (suc n)) (λ _ _. omega (arith, h)) (λ _. IsShort-none (suc n) rest)

pub length-behind : (p : ℕ → Bool) (bytes : List ℕ) → length (behind p bytes) ≤ length bytes
length-behind p bytes = omega (arith, length-drop (run_len p bytes) bytes)

IsShort-token : (b : ℕ) (rest : List ℕ) → IsShort (suc (length rest)) (token_of b rest)
IsShort-token b rest =
    let n = suc (length rest) in
    let all : (s : Symbol) → IsShort n (front s rest) = λ s _. omega arith in
    let or_else : (c : Bool) (x y : Front) → IsShort n x → IsShort n y → IsShort n (cond c x y) = λ c x y hx hy. cond_both c x y (IsShort n) (λ _. hx) (λ _. hy) in
    or_else (b == 113) _ _ (all (mark QueryWord))
    (or_else (b == 40) _ _ (all (mark Opening))
    (or_else (b == 41) _ _ (all (mark Closing))
    (or_else (b == 44) _ _ (all (mark Comma))
    (or_else (b == 58) _ _ (IsShort-turnstile rest (length rest) (omega arith))
    (or_else (b == 63) _ _ (IsShort-variable (run is_variable_byte rest) (behind is_variable_byte rest) (length rest) (length-behind is_variable_byte rest))
    (or_else (b == 60) _ _ (IsShort-iri (run is_iri_byte rest) (behind is_iri_byte rest) (length rest) (length-behind is_iri_byte rest)) (IsShort-none n rest)))))))

IsShort-front : (bytes : List ℕ) → IsShort (length bytes) (front_of bytes)
IsShort-front [] h = absurd (true≢false h)
IsShort-front (b ∷ rest) h = IsShort-token b rest h

pub next-shorter : (bytes : List ℕ) → is_last (next_front bytes).symbol ≡ false → length (next_front bytes).rest < length bytes
next-shorter bytes h =
    let short : length (next_front bytes).rest < length (behind is_blank bytes) = IsShort-front (behind is_blank bytes) h in
    omega (arith, short, length-behind is_blank bytes)

-- ---- each text has its tokens

module _ (len : ℕ) where
  pub record HasTokens (bytes : List ℕ) : Type 0 where
    pub tokens : List Placed
    pub are : AreTokens len bytes tokens

  has_tokens : (n : ℕ) (bytes : List ℕ) → length bytes ≤ n → HasTokens bytes
  has_tokens zero bytes h = by (is_last (next_front bytes).symbol) refl
    where
      by : (b : Bool) → is_last (next_front bytes).symbol ≡ b → HasTokens bytes
      by true e = record { tokens = next_placed len bytes ∷ []; are = last e }
      by false e = absurd (omega (arith, h, next-shorter bytes e))
  has_tokens (suc n) bytes h = by (is_last (next_front bytes).symbol) refl (has_tokens n (next_front bytes).rest)
    where
      by : (b : Bool) → is_last (next_front bytes).symbol ≡ b
          → (length (next_front bytes).rest ≤ n → HasTokens (next_front bytes).rest) → HasTokens bytes
      by true e others = record { tokens = next_placed len bytes ∷ []; are = last e }
      by false e others =
          let rest = others (omega (arith, h, next-shorter bytes e)) in
          record { tokens = next_placed len bytes ∷ rest.tokens; are = more e rest.are }

  pub tokens-some : (bytes : List ℕ) → HasTokens bytes
  tokens-some bytes = has_tokens (length bytes) bytes (omega arith)

  -- and no others
  pub tokens-one : {bytes : List ℕ} {one other : List Placed} → AreTokens len bytes one → AreTokens len bytes other → one ≡ other
  tokens-one (last e) (last e') = refl
  tokens-one (last e) (more e' rest') = absurd (true≢false (sym e ∙ e'))
  tokens-one (more e rest) (last e') = absurd (true≢false (sym e' ∙ e))
  tokens-one {bytes} (more e rest) (more e' rest') = ap (λ l. next_placed len bytes ∷ l) (tokens-one rest rest')

-- ---- moves at the last token

pub move-ending : (e : Expected) (m : Met) → e ≢ body_more → move_of e m (mark Ending) ≡ refuses syntax
move-ending body_more m h = absurd (h refl)
move-ending _ m h = refl

pub move-no_token : (e : Expected) (m : Met) → move_of e m no_token ≡ refuses syntax
move-no_token body_more m = refl
move-no_token _ m = refl

-- reading doesn't go on behind a last token
pub move-last : (e : Expected) (m : Met) (s : Symbol) → is_last s ≡ true → (e' : Expected) (m' : Met) → move_of e m s ≡ goes e' m' → ⊥
move-last body_more m (mark Ending) h e' m' is = cc
move-last _ m (mark Ending) h e' m' is = cc
move-last e m no_token h e' m' is = let no = move-no_token e m in cc
move-last e m (variable x) h e' m' is = absurd (true≢false (sym h))
move-last e m (iri x) h e' m' is = absurd (true≢false (sym h))
move-last e m (mark QueryWord) h e' m' is = absurd (true≢false (sym h))
move-last e m (mark Opening) h e' m' is = absurd (true≢false (sym h))
move-last e m (mark Closing) h e' m' is = absurd (true≢false (sym h))
move-last e m (mark Comma) h e' m' is = absurd (true≢false (sym h))
move-last e m (mark Turnstile) h e' m' is = absurd (true≢false (sym h))

-- ---- what reading gives

-- the outcome at a token whose move is known
module _ (e : Expected) (m : Met) (t : Placed) (tokens : List Placed) where
  pub outcome-goes : (e' : Expected) (m' : Met) → move_of e m t.symbol ≡ goes e' m' → outcome e m (t ∷ tokens) ≡ outcome e' m' tokens
  outcome-goes e' m' h = ap (outcome_of m t (λ a b. outcome a b tokens)) h

  pub outcome-refuses : (cause : Cause) → move_of e m t.symbol ≡ refuses cause → outcome e m (t ∷ tokens) ≡ fails (fault_of cause t.at) m.names
  outcome-refuses cause h = ap (outcome_of m t (λ a b. outcome a b tokens)) h

  pub outcome-ends : move_of e m t.symbol ≡ ends → outcome e m (t ∷ tokens) ≡ gives m
  outcome-ends h = ap (outcome_of m t (λ a b. outcome a b tokens)) h

module _ (len : ℕ) where
  -- reading the tokens of a text ends
  pub outcome-finished : {bytes : List ℕ} {tokens : List Placed} → AreTokens len bytes tokens → (e : Expected) (m : Met) → outcome e m tokens ≡ unfinished → ⊥
  outcome-finished {bytes} (last l) e m h = by (move_of e m (next_front bytes).symbol) refl
    where
      by : (move : Move) → move_of e m (next_front bytes).symbol ≡ move → ⊥
      by (goes e' m') is = move-last e m (next_front bytes).symbol l e' m' is
      by (refuses cause) is = let fault = outcome-refuses e m (next_placed len bytes) [] cause is in cc
      by ends is = let met = outcome-ends e m (next_placed len bytes) [] is in cc
  outcome-finished {bytes} (more {tokens = tokens} l rest) e m h = by (move_of e m (next_front bytes).symbol) refl (outcome-finished rest)
    where
      by : (move : Move) → move_of e m (next_front bytes).symbol ≡ move
          → ((e' : Expected) (m' : Met) → outcome e' m' tokens ≡ unfinished → ⊥) → ⊥
      by (goes e' m') is later = later e' m' (sym (outcome-goes e m (next_placed len bytes) tokens e' m' is) ∙ h)
      by (refuses cause) is later = let fault = outcome-refuses e m (next_placed len bytes) tokens cause is in cc
      by ends is later = let met = outcome-ends e m (next_placed len bytes) tokens is in cc

  -- so it gives one thing
  pub HasOutcome-one : {e : Expected} {m : Met} {bytes : List ℕ} {o o' : Outcome} → HasOutcome len e m bytes o → HasOutcome len e m bytes o' → o ≡ o'
  HasOutcome-one {e} {m} h h' = sym h.is ∙ ap (outcome e m) (tokens-one len h.are h'.are) ∙ h'.is

  pub record Ends (e : Expected) (m : Met) (bytes : List ℕ) : Type 0 where
    pub o : Outcome
    pub has : HasOutcome len e m bytes o

  pub HasOutcome-some : (e : Expected) (m : Met) (bytes : List ℕ) → Ends e m bytes
  HasOutcome-some e m bytes =
      let has = tokens-some len bytes in
      record { o = outcome e m has.tokens; has = record { tokens = has.tokens; are = has.are; is = refl } }

  -- the next token does this, and then reading the rest gives this
  module _ (e : Expected) (m : Met) (bytes : List ℕ) where
    pub HasOutcome-goes : (e' : Expected) (m' : Met) (o : Outcome) → move_of e m (next_front bytes).symbol ≡ goes e' m'
        → HasOutcome len e' m' (next_front bytes).rest o → HasOutcome len e m bytes o
    HasOutcome-goes e' m' o is rest = by (is_last (next_front bytes).symbol) refl
      where
        by : (b : Bool) → is_last (next_front bytes).symbol ≡ b → HasOutcome len e m bytes o
        by true l = absurd (move-last e m (next_front bytes).symbol l e' m' is)
        by false l = record {
          tokens = next_placed len bytes ∷ rest.tokens;
          are = more l rest.are;
          is = outcome-goes e m (next_placed len bytes) rest.tokens e' m' is ∙ rest.is;
        }

    -- the tokens begin with the next one
    pub record BeginsWith (t : Placed) : Type 0 where
      pub others : List Placed
      pub are : AreTokens len bytes (t ∷ others)

    begins : BeginsWith (next_placed len bytes)
    begins = by (is_last (next_front bytes).symbol) refl
      where
        by : (b : Bool) → is_last (next_front bytes).symbol ≡ b → BeginsWith (next_placed len bytes)
        by true l = record { others = []; are = last l }
        by false l = let has = tokens-some len (next_front bytes).rest in record { others = has.tokens; are = more l has.are }

    pub HasOutcome-refuses : (cause : Cause) → move_of e m (next_front bytes).symbol ≡ refuses cause
        → HasOutcome len e m bytes (fails (fault_of cause (next_placed len bytes).at) m.names)
    HasOutcome-refuses cause is = record {
      tokens = next_placed len bytes ∷ begins.others;
      are = begins.are;
      is = outcome-refuses e m (next_placed len bytes) begins.others cause is;
    }

    pub HasOutcome-ends : move_of e m (next_front bytes).symbol ≡ ends → HasOutcome len e m bytes (gives m)
    HasOutcome-ends is = record {
      tokens = next_placed len bytes ∷ begins.others;
      are = begins.are;
      is = outcome-ends e m (next_placed len bytes) begins.others is;
    }
