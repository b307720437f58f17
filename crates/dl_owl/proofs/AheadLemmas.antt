-- Behind a token fewer tokens are left.
use Rattle.std.proofs.Common.{◌≡◌, ◌≢◌, ◌<◌, ◌+◌, ◌-◌, ℕ, List, length, add-one, refl, sym, ◌∙◌, subst, arith}
use Rattle.dl_lex.specs.declared.keyword.Keyword.{Keyword}
use Rattle.dl_lex.specs.declared.token.TokenKind.{TokenKind}
use Rattle.dl_lex.specs.declared.token.TokenKind.TheVariants.{Open, Close, Equals, Caret, Iri, Text, Lang, Node, Short, Number, Word, End}
use Rattle.dl_lex.specs.declared.token.Token.{Token}
use Rattle.dl_lex.specs.Grammar.{IsTokenAt, IsNextToken}
use Rattle.dl_lex.proofs.Ranges.{skips_forward, token_in_range}
use Rattle.dl_owl.specs.Walk.{Spot, left_by, left, Moved}

-- a token that is not the end has a byte at least
has_bytes : (bytes : List ℕ) (kind : TokenKind) (i j : ℕ) → kind ≢ End → IsTokenAt bytes kind i j → i < j
has_bytes bytes Open i j not t = let e = t.ends in omega arith
has_bytes bytes Close i j not t = let e = t.ends in omega arith
has_bytes bytes Equals i j not t = let e = t.ends in omega arith
has_bytes bytes Caret i j not t = let e = t.ends in omega arith
has_bytes bytes Iri i j not t =
    let o = t.opens.ends in
    let inner = t.inner.stand.ends in
    let c = t.closes.ends in
    omega arith
has_bytes bytes Text i j not t =
    let inner = t.inner.ends in
    let c = t.closes.ends in
    omega arith
has_bytes bytes Lang i j not t = let some = t.some in omega arith
has_bytes bytes Node i j not t = t.some
has_bytes bytes Short i j not t = t.some
has_bytes bytes Number i j not t = t.some
has_bytes bytes (Word k) i j not t = t.some
has_bytes bytes End i j not t = absurd (not refl)

some_left : (kind : TokenKind) (n : ℕ) → kind ≢ End → left_by kind n ≡ n + 1
some_left End n not = absurd (not refl)
some_left kind n not = sym (add-one n)

fewer_left : (kind later : TokenKind) (n m : ℕ) → kind ≢ End → (later ≢ End → m < n) → left_by later m < left_by kind n
fewer_left kind End n m not h = let here = some_left kind n not in omega arith
fewer_left kind later n m not h =
    let here = some_left kind n not in
    let less : m < n = h (λ end. cc) in
    omega arith

pub next_left : (bytes : List ℕ) (s t : Token) → s.kind ≢ End → IsNextToken bytes s.end t
    → left_by t.kind (length bytes - t.end) < left_by s.kind (length bytes - s.end)
next_left bytes s t some next =
    fewer_left s.kind t.kind (length bytes - s.end) (length bytes - t.end) some
    (λ not.
    let behind = skips_forward bytes s.end t.start next.skipped in
    let bytes_of = has_bytes bytes t.kind t.start t.end not next.stands in
    let within = (token_in_range bytes t.kind t.start t.end next.stands).in_range in
    omega arith)

pub moved_ahead : (s new : Spot) → Moved s new → s.token.kind ≢ End → left new < left s
moved_ahead s new m some =
    subst (λ b. left_by new.token.kind (length b - new.token.end) < left s) (sym m.bytes) (next_left s.bytes s.token
    new.token some m.next)

-- a keyword is not the end
pub word_some : (w : Keyword) (kind : TokenKind) → kind ≡ Word w → kind ≢ End
word_some w kind is end = let apart : Word w ≡ End = sym is ∙ end in cc
