-- At each offset one token begins at most, and of one kind.
use Rattle.std.proofs.Common.{◌≡◌, ℕ, ◌+◌, ◌<◌, ◌≤◌, ◌⊎◌, inl, inr, true, Option, Some, List, [], ◌∷◌, length, refl, sym, ap, ◌∙◌, subst, arith}
use Rattle.std.specs.List.{slice_get, slice_range}
use Rattle.std.proofs.lemmas.Bool.{cases_lt, false≢true}
use Rattle.dl_lex.specs.declared.token.TokenKind.{TokenKind}
use Rattle.dl_lex.specs.declared.token.TokenKind.TheVariants.{Open, Close, Equals, Caret, Iri, Text, Lang, Node, Short, Number, Word, End}
use Rattle.dl_lex.specs.declared.token.Token.{Token}
use Rattle.dl_lex.specs.Characters.{StandsAt, is_comment_character, is_iri_character, is_lang_character, is_run_character}
use Rattle.dl_lex.specs.Grammar.{is_white_space, Skips, nothing, white_space, comment, IsRunText, node, short, number, word, IsRun, IsTokenAt, IsNextToken, IsFaultAt}
use Rattle.dl_lex.proofs.Runs.{one_run}
use Rattle.dl_lex.proofs.Tokens.{form, form_of_token, as_run}
use Rattle.dl_lex.proofs.Quoted.{rest_from_text, one_rest}
use Rattle.dl_lex.proofs.Ends.{iri_ends}
use Rattle.dl_lex.proofs.Spelled.{keyword_unique}

same_byte : (o : Option ℕ) (b c : ℕ) → o ≡ Some b → o ≡ Some c → b ≡ c
same_byte o b c p q = cc

-- what begins at i is seen by its byte
one_skip : (bytes : List ℕ) (i j k : ℕ) → Skips bytes i j → Skips bytes i k → j ≡ k
one_skip bytes _ _ _ (nothing i h f) (nothing _ g e) = refl
one_skip bytes _ _ _ (nothing i h f) (white_space _ k c at white s) = absurd (false≢true (sym (f c at).0 ∙ white))
one_skip bytes _ _ _ (nothing i h f) (comment _ m k at run s) = absurd ((f 35 at).1 refl)
one_skip bytes _ _ _ (white_space i j c at white s) (nothing _ g e) = absurd (false≢true (sym (e c at).0 ∙ white))
one_skip bytes _ _ _ (white_space i j c at white s) (white_space _ k d there white' t) = one_skip bytes (i + 1) j k s t
one_skip bytes _ _ _ (white_space i j c at white s) (comment _ m k there run t) =
    let hash : c ≡ 35 = same_byte (slice_get bytes i) c 35 at there in
    absurd (false≢true (subst (λ b. is_white_space b ≡ true) hash white))
one_skip bytes _ _ _ (comment i m j at run s) (nothing _ g e) = absurd ((e 35 at).1 refl)
one_skip bytes _ _ _ (comment i m j at run s) (white_space _ k d there white t) =
    let hash : d ≡ 35 = same_byte (slice_get bytes i) d 35 there at in
    absurd (false≢true (subst (λ b. is_white_space b ≡ true) hash white))
one_skip bytes _ _ _ (comment i m j at run s) (comment _ n k there run' t) =
    let same : n ≡ m = one_run is_comment_character bytes (i + 1) n m run' run in
    one_skip bytes m j k s (subst (λ p. Skips bytes p k) same t)

-- two tokens from one offset on
pub record AreSame (a b : TokenKind) (j k : ℕ) : Type 0 where
  pub kinds : a ≡ b
  pub ends : j ≡ k

-- a text is of one kind of run at most
same_kind : (text : List ℕ) (a b : TokenKind) → IsRunText text a → IsRunText text b → a ≡ b
same_kind text _ _ (node n) (node m) = refl
same_kind text _ _ (node n) (short m c) = cc
same_kind text _ _ (node n) (number m c d) = cc
same_kind text _ _ (node n) (word k m c d s) = cc
same_kind text _ _ (short n c) (node m) = cc
same_kind text _ _ (short n c) (short m e) = refl
same_kind text _ _ (short n c) (number m e d) = cc
same_kind text _ _ (short n c) (word k m e d s) = cc
same_kind text _ _ (number n c d) (node m) = cc
same_kind text _ _ (number n c d) (short m e) = cc
same_kind text _ _ (number n c d) (number m e f) = refl
same_kind text _ _ (number n c d) (word k m e f s) = cc
same_kind text _ _ (word j n c d s) (node m) = cc
same_kind text _ _ (word j n c d s) (short m e) = cc
same_kind text _ _ (word j n c d s) (number m e f) = cc
same_kind text _ _ (word j n c d s) (word k m e f t) = ap Word (keyword_unique j k (sym s ∙ t))

same_runs : (bytes : List ℕ) (a b : TokenKind) (i j k : ℕ) → IsRun bytes a i j → IsRun bytes b i k → AreSame a b j k
same_runs bytes a b i j k s t =
    let same : k ≡ j = one_run is_run_character bytes i k j t.run s.run in
    let other = subst (λ n. IsRunText (slice_range bytes i n) b) same t.is in
    record { kinds = same_kind (slice_range bytes i j) a b s.is other; ends = sym same }

same_tokens : (bytes : List ℕ) (a b : TokenKind) (i j k : ℕ) → IsTokenAt bytes a i j → IsTokenAt bytes b i k → form a ≡ form b → AreSame a b j k
same_tokens bytes Open Open i j k s t e = record { kinds = refl; ends = s.ends ∙ sym t.ends }
same_tokens bytes Close Close i j k s t e = record { kinds = refl; ends = s.ends ∙ sym t.ends }
same_tokens bytes Equals Equals i j k s t e = record { kinds = refl; ends = s.ends ∙ sym t.ends }
same_tokens bytes Caret Caret i j k s t e = record { kinds = refl; ends = s.ends ∙ sym t.ends }
same_tokens bytes Iri Iri i j k s t e =
    let inner : s.inner_end ≡ t.inner_end = one_run is_iri_character bytes (i + 1) s.inner_end t.inner_end (iri_ends bytes i j s) (iri_ends bytes i k t) in
    record { kinds = refl; ends = s.closes.ends ∙ (ap (λ n. n + 1) inner ∙ sym t.closes.ends) }
same_tokens bytes Text Text i j k s t e = record { kinds = refl; ends = one_rest bytes (i + 1) j k (rest_from_text bytes i j s) (rest_from_text bytes i k t) }
same_tokens bytes Lang Lang i j k s t e = record { kinds = refl; ends = one_run is_lang_character bytes (i + 1) j k s.tag t.tag }
same_tokens bytes Node b i j k s t e = same_runs bytes Node b i j k s (as_run bytes b i k t (sym e))
same_tokens bytes Short b i j k s t e = same_runs bytes Short b i j k s (as_run bytes b i k t (sym e))
same_tokens bytes Number b i j k s t e = same_runs bytes Number b i j k s (as_run bytes b i k t (sym e))
same_tokens bytes (Word keyword) b i j k s t e = same_runs bytes (Word keyword) b i j k s (as_run bytes b i k t (sym e))
same_tokens bytes End End i j k s t e = record { kinds = refl; ends = s.1 ∙ sym t.1 }
same_tokens bytes a b i j k s t e = absurd (omega arith)

-- at the end of the bytes stands the end alone
at_end_run : (bytes : List ℕ) (a : TokenKind) (i j : ℕ) → IsRun bytes a i j → length bytes ≤ i → ⊥
at_end_run bytes a i j r h = (let some = r.some in let inside = r.run.run.stand.in_range in omega arith)

at_end_text : (bytes : List ℕ) (i j b : ℕ) (rest : List ℕ) → StandsAt bytes i (b ∷ rest) j → length bytes ≤ i → ⊥
at_end_text bytes i j b rest s h = (let ends = s.ends in let inside = s.in_range in omega arith)

at_end : (bytes : List ℕ) (a : TokenKind) (i j : ℕ) → IsTokenAt bytes a i j → length bytes ≤ i → form a ≡ 8
at_end bytes Open i j t h = absurd (at_end_text bytes i j 40 [] t h)
at_end bytes Close i j t h = absurd (at_end_text bytes i j 41 [] t h)
at_end bytes Equals i j t h = absurd (at_end_text bytes i j 61 [] t h)
at_end bytes Caret i j t h = absurd (at_end_text bytes i j 94 (94 ∷ []) t h)
at_end bytes Iri i j t h = absurd (at_end_text bytes i (i + 1) 60 [] t.opens h)
at_end bytes Text i j t h = absurd (at_end_text bytes i (i + 1) 34 [] t.opens h)
at_end bytes Lang i j t h = absurd (at_end_text bytes i (i + 1) 64 [] t.opens h)
at_end bytes Node i j t h = absurd (at_end_run bytes Node i j t h)
at_end bytes Short i j t h = absurd (at_end_run bytes Short i j t h)
at_end bytes Number i j t h = absurd (at_end_run bytes Number i j t h)
at_end bytes (Word keyword) i j t h = absurd (at_end_run bytes (Word keyword) i j t h)
at_end bytes End i j t h = refl

token_form : (bytes : List ℕ) (a b : TokenKind) (i j k : ℕ) → IsTokenAt bytes a i j → IsTokenAt bytes b i k → (i < length bytes) ⊎ (length bytes ≤ i) → form a ≡ form b
token_form bytes a b i j k s t (inl h) = form_of_token bytes a i j s h ∙ sym (form_of_token bytes b i k t h)
token_form bytes a b i j k s t (inr h) = at_end bytes a i j s h ∙ sym (at_end bytes b i k t h)

-- at an offset one token stands at most
pub one_token_at : (bytes : List ℕ) (a b : TokenKind) (i j k : ℕ) → IsTokenAt bytes a i j → IsTokenAt bytes b i k → AreSame a b j k
one_token_at bytes a b i j k s t = same_tokens bytes a b i j k s t (token_form bytes a b i j k s t (cases_lt i (length bytes)))

token_same : (a b : TokenKind) (i j k m : ℕ) → a ≡ b → i ≡ j → k ≡ m → (let s : Token = record { kind = a; start = i; end = k } in s) ≡ (let t : Token = record { kind = b; start = j; end = m } in t)
token_same a b i j k m p q r = cc

-- one token is the next at most
pub one_next_token : (bytes : List ℕ) (offset : ℕ) (s t : Token) → IsNextToken bytes offset s → IsNextToken bytes offset t → s ≡ t
one_next_token bytes offset s t a b =
    let start : t.start ≡ s.start = one_skip bytes offset t.start s.start b.skipped a.skipped in
    let stands = subst (λ n. IsTokenAt bytes t.kind n t.end) start b.stands in
    let same = one_token_at bytes s.kind t.kind s.start s.end t.end a.stands stands in
    token_same s.kind t.kind s.start t.start s.end t.end same.kinds (sym start) same.ends

-- no token is the next where a fault is
pub no_token_at_fault : (bytes : List ℕ) (offset at : ℕ) (t : Token) → IsFaultAt bytes offset at → IsNextToken bytes offset t → ⊥
no_token_at_fault bytes offset at t f b =
    let start : t.start ≡ at = one_skip bytes offset t.start at b.skipped f.skipped in
    f.none t.kind t.end (subst (λ n. IsTokenAt bytes t.kind n t.end) start b.stands)

pub one_fault : (bytes : List ℕ) (offset at at' : ℕ) → IsFaultAt bytes offset at → IsFaultAt bytes offset at' → at ≡ at'
one_fault bytes offset at at' f g = one_skip bytes offset at at' f.skipped g.skipped
