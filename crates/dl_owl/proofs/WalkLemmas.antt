-- Steps of a reader over the tokens, one after another.
use Rattle.std.proofs.Common.{◌≡◌, ◌≢◌, ℕ, suc, zero, Bool, true, false, cond, not, inl, inr, Result, Ok, Err, List, [], ◌∷◌, refl, sym, ap, ◌∙◌, subst, ◌⊎◌}
use Rattle.std.proofs.Math.Nat.{lt_trans}
use Rattle.dl_lex.specs.declared.token.TokenKind.{TokenKind}
use Rattle.dl_lex.specs.declared.token.TokenKind.TheVariants.{Open, Close, Equals, Caret, Iri, Text, Lang, Node, Short, Number, Word, End}
use Rattle.dl_lex.specs.declared.token.Token.{Token}
use Rattle.dl_lex.specs.Grammar.{IsNextToken, IsFaultAt}
use Rattle.dl_names.specs.NameList as name_list
use Rattle.dl_names.specs.NameList.{Extends}
use Rattle.dl_names.proofs.NameListLemmas.{Extends-same, Extends-trans}
use Rattle.dl_owl.specs.declared.fault.OwlFault.{OwlFault}
use Rattle.dl_owl.specs.declared.fault.OwlFault.TheVariants as fault
use Rattle.dl_owl.specs.declared.fault.OwlFault.TheVariants.{NoMemory}
use Rattle.dl_owl.specs.Symbols as symbols
use Rattle.dl_owl.specs.Symbols.{Symbol, no_token, Placed, placed, symbol_of, AreTokens}
use Rattle.dl_owl.specs.Prefixes.{Prefixes}
use Rattle.dl_owl.specs.Causes.{Cause, syntax, too_deep, fault_of}
use Rattle.dl_owl.specs.Expected.{Expected, prologue, prefix_name, prefix_equals, prefix_iri, title, annotations_first, items, lone_axiom, finish, done, open_then, close_then, annotations_then, iri_then, subject_then, value_then, value_end, property_then, role_then, first_role, second_role, sub_then, sup_then, thing_then, filler_then, roles_close, subs_close, sups_close, individual_then, unnamed_then, different_close, class_then, declared_class, entity_then, goes, refuses}
use Rattle.dl_owl.specs.Steps.{move_of}
use Rattle.dl_owl.specs.Reading.{fails, depth_after, is_too_deep, outcome_of, outcome}
use Rattle.dl_owl.specs.Walk as walk
use Rattle.dl_owl.specs.Walk.{Spot, symbol_at, Here, here, met_of, FromToken, Goes, FaultsBy, Faults, Reads, Passes}
use Rattle.dl_owl.proofs.AheadLemmas.{next_left}

-- ---- one after another

pub goes_tokens : (bytes : List ℕ) (all : Bool) (place : ℕ) (t : Token) (tokens : List Placed) → IsNextToken bytes place t
    → FromToken bytes all t tokens → AreTokens bytes all place tokens
goes_tokens bytes all place t tokens next (walk.FromToken.last end) = symbols.AreTokens.last t next end
goes_tokens bytes all place t tokens next (walk.FromToken.more not them) = symbols.AreTokens.token t next not them

pub goes-then : (e : Expected) (a : Here) (f : Expected) (b : Here) (g : Expected) (c : Here) → Goes e a f b → Goes f b g c → Goes e a g c
goes-then e a f b g c first second = record {
  same = second.same ∙ first.same;
  ahead = lt_trans second.ahead first.ahead;
  grows = Extends-trans a.names b.names c.names first.grows second.grows;
  on = λ all rest from.
      let middle =
      second.on all rest (subst (λ bytes. FromToken bytes all c.spot.token rest) (sym first.same) from) in
      let front =
      first.on all middle.0 (subst (λ bytes. FromToken bytes all b.spot.token middle.0) first.same middle.1.0) in
      (front.0, (front.1.0, front.1.1 ∙ middle.1.1));
}

-- why it comes to a fault there is why it does here
why_behind : (e : Expected) (a : Here) (f : Expected) (b : Here) (fault : OwlFault) → Goes e a f b
    → (fault ≡ NoMemory) ⊎ FaultsBy f b fault → (fault ≡ NoMemory) ⊎ FaultsBy e a fault
why_behind e a f b fault first (inl none) = inl none
why_behind e a f b fault first (inr by) =
    let front = first.on false by.tokens (subst (λ bytes. FromToken bytes false b.spot.token by.tokens) first.same by.are) in
    inr
    (record {
      cause = by.cause;
      at = by.at;
      tokens = front.0;
      is = by.is;
      are = front.1.0;
      comes = front.1.1 ∙ by.comes;
    })

pub goes-faults : {after : List name_list.Text} (e : Expected) (a : Here) (f : Expected) (b : Here) (fault : OwlFault)
    → Goes e a f b → Faults f b after fault → Faults e a after fault
goes-faults {after = after} e a f b fault first h = record {
  grows = Extends-trans a.names b.names after first.grows h.grows;
  why = why_behind e a f b fault first h.why;
}

-- it comes to a fault here, and the names are as before
pub faults_here : (e : Expected) (a : Here) (fault : OwlFault) → FaultsBy e a fault → Faults e a a.names fault
faults_here e a fault by = record { grows = Extends-same a.names; why = inr by }

-- memory is refused, where the names have grown to these
pub no_memory : (e : Expected) (a : Here) (after : List name_list.Text) → Extends a.names after → Faults e a after NoMemory
no_memory e a after grows = record { grows = grows; why = inl refl }

-- what is read behind what was passed over
pub reads_behind : {V : Type 0} (e f : (V → Expected) → Expected) (a b c : Here) (r : Result V OwlFault)
    → ((k : V → Expected) → Goes (e k) a (f k) b) → Reads f b c r → Reads e a c r
reads_behind e f a b c (Ok v) first h = λ k. goes-then (e k) a (f k) b (k v) c (first k) (h k)
reads_behind e f a b c (Err fault) first h = λ k. goes-faults (e k) a (f k) b fault (first k) (h k)

-- ---- what is expected in two ways that go on alike

pub outcome_alike : (e f : Expected) (h : Here) (all : Bool) (tokens : List Placed) → FromToken h.spot.bytes all h.spot.token tokens
    → move_of h.prefixes e (symbol_at h.spot) ≡ move_of h.prefixes f (symbol_at h.spot)
    → outcome e (met_of h) tokens ≡ outcome f (met_of h) tokens
outcome_alike e f h all tokens (walk.FromToken.last end) is =
    ap (outcome_of (met_of h) (placed h.spot.bytes h.spot.token) (λ g later. outcome g later [])) is
outcome_alike e f h all tokens (walk.FromToken.more {rest = rest} not them) is =
    ap (outcome_of (met_of h) (placed h.spot.bytes h.spot.token) (λ g later. outcome g later rest)) is

pub goes_alike : (e f : Expected) (a : Here) (later : Expected) (b : Here)
    → move_of a.prefixes e (symbol_at a.spot) ≡ move_of a.prefixes f (symbol_at a.spot) → Goes f a later b → Goes e a later b
goes_alike e f a later b is h = record {
  same = h.same;
  ahead = h.ahead;
  grows = h.grows;
  on = λ all rest from.
      let front = h.on all rest from in
      (front.0, (front.1.0, outcome_alike e f a all front.0 front.1.0 is ∙ front.1.1));
}

-- where what is expected there goes on as something else does
pub goes_as : (e : Expected) (a : Here) (f g : Expected) (b : Here)
    → move_of b.prefixes f (symbol_at b.spot) ≡ move_of b.prefixes g (symbol_at b.spot) → Goes e a f b → Goes e a g b
goes_as e a f g b is h = record {
  same = h.same;
  ahead = h.ahead;
  grows = h.grows;
  on = λ all rest from.
      let front = h.on all rest from in
      let there = subst (λ bytes. FromToken bytes all b.spot.token rest) (sym h.same) from in
      (front.0, (front.1.0, front.1.1 ∙ outcome_alike f g b all rest there is));
}

why_alike : (e f : Expected) (a : Here) (fault : OwlFault)
    → move_of a.prefixes e (symbol_at a.spot) ≡ move_of a.prefixes f (symbol_at a.spot)
    → (fault ≡ NoMemory) ⊎ FaultsBy f a fault → (fault ≡ NoMemory) ⊎ FaultsBy e a fault
why_alike e f a fault is (inl none) = inl none
why_alike e f a fault is (inr by) =
    inr
    (record {
      cause = by.cause;
      at = by.at;
      tokens = by.tokens;
      is = by.is;
      are = by.are;
      comes = outcome_alike e f a false by.tokens by.are is ∙ by.comes;
    })

pub faults_alike : {after : List name_list.Text} (e f : Expected) (a : Here) (fault : OwlFault)
    → move_of a.prefixes e (symbol_at a.spot) ≡ move_of a.prefixes f (symbol_at a.spot) → Faults f a after fault
    → Faults e a after fault
faults_alike e f a fault is h = record { grows = h.grows; why = why_alike e f a fault is h.why }

-- the same of what has no value
pub passes_behind : (e f : Expected → Expected) (a b c : Here) (r : Result (Unit {0}) OwlFault)
    → ((k : Expected) → Goes (e k) a (f k) b) → Passes f b c r → Passes e a c r
passes_behind e f a b c (Ok v) first h = λ k. goes-then (e k) a (f k) b k c (first k) (h k)
passes_behind e f a b c (Err fault) first h = λ k. goes-faults (e k) a (f k) b fault (first k) (h k)

pub passes_alike : (e f : Expected → Expected) (a b : Here) (r : Result (Unit {0}) OwlFault)
    → ((k : Expected) → move_of a.prefixes (e k) (symbol_at a.spot) ≡ move_of a.prefixes (f k) (symbol_at a.spot))
    → Passes f a b r → Passes e a b r
passes_alike e f a b (Ok v) is h = λ k. goes_alike (e k) (f k) a k b (is k) (h k)
passes_alike e f a b (Err fault) is h = λ k. faults_alike (e k) (f k) a fault (is k) (h k)

-- ---- a token that fits

module _ (e next : Expected) (s : Spot) (p : Prefixes) (names : List name_list.Text) (is : move_of p e (symbol_at s) ≡ goes next)
    (flat : is_too_deep (symbol_at s) s.depth ≡ false) (some : s.token.kind ≢ End) where
  fits : (rest : List Placed)
      → outcome e (met_of (here s p names)) (placed s.bytes s.token ∷ rest)
      ≡ outcome next (record { prefixes = p; names = names; depth = depth_after (symbol_at s) s.depth }) rest
  fits rest =
      ap (outcome_of (met_of (here s p names)) (placed s.bytes s.token) (λ f later. outcome f later rest)) is
      ∙ ap (λ b. cond b (fails too_deep s.token.start)
      (outcome next (record { prefixes = p; names = names; depth = depth_after (symbol_at s) s.depth }) rest)) flat

  pub goes-fit : (t : Token) → IsNextToken s.bytes s.token.end t
      → Goes e (here s p names) next (here (record { bytes = s.bytes; token = t; depth = depth_after (symbol_at s) s.depth }) p names)
  goes-fit t after = record {
    same = refl;
    ahead = next_left s.bytes s.token t some after;
    grows = Extends-same names;
    on = λ all rest from.
        (placed s.bytes s.token ∷ rest, (walk.FromToken.more some (goes_tokens s.bytes all s.token.end t rest after from), fits rest));
  }

  pub faults-behind : (at : ℕ) → IsFaultAt s.bytes s.token.end at → move_of p next no_token ≡ refuses syntax
      → Faults e (here s p names) names (fault.Syntax at)
  faults-behind at none refused =
      faults_here e (here s p names) (fault.Syntax at)
      (record {
        cause = syntax;
        at = at;
        tokens = placed s.bytes s.token ∷ record { symbol = no_token; at = at } ∷ [];
        is = refl;
        are = walk.FromToken.more some (symbols.AreTokens.fault at none);
        comes =
            fits (record { symbol = no_token; at = at } ∷ [])
            ∙ ap
            (outcome_of (record { prefixes = p; names = names; depth = depth_after (symbol_at s) s.depth }) (record { symbol = no_token; at = at })
            (λ f later. outcome f later [])) refused;
      })

-- ---- a token that is refused

pub one_token : (bytes : List ℕ) (t : Token) → FromToken bytes false t (placed bytes t ∷ [])
one_token bytes t = by t.kind refl
  where
    other : t.kind ≢ End → FromToken bytes false t (placed bytes t ∷ [])
    other not = walk.FromToken.more not (symbols.AreTokens.nothing refl)

    by : (kind : TokenKind) → t.kind ≡ kind → FromToken bytes false t (placed bytes t ∷ [])
    by End is = walk.FromToken.last is
    by Open is = other (λ end. let apart : Open ≡ End = sym is ∙ end in cc)
    by Close is = other (λ end. let apart : Close ≡ End = sym is ∙ end in cc)
    by Equals is = other (λ end. let apart : Equals ≡ End = sym is ∙ end in cc)
    by Caret is = other (λ end. let apart : Caret ≡ End = sym is ∙ end in cc)
    by Iri is = other (λ end. let apart : Iri ≡ End = sym is ∙ end in cc)
    by Text is = other (λ end. let apart : Text ≡ End = sym is ∙ end in cc)
    by Lang is = other (λ end. let apart : Lang ≡ End = sym is ∙ end in cc)
    by Node is = other (λ end. let apart : Node ≡ End = sym is ∙ end in cc)
    by Short is = other (λ end. let apart : Short ≡ End = sym is ∙ end in cc)
    by Number is = other (λ end. let apart : Number ≡ End = sym is ∙ end in cc)
    by (Word k) is = other (λ end. let apart : Word k ≡ End = sym is ∙ end in cc)

pub faults-refused : (e : Expected) (s : Spot) (p : Prefixes) (names : List name_list.Text) (cause : Cause)
    → move_of p e (symbol_at s) ≡ refuses cause → Faults e (here s p names) names (fault_of cause s.token.start)
faults-refused e s p names cause is =
    faults_here e (here s p names) (fault_of cause s.token.start)
    (record {
      cause = cause;
      at = s.token.start;
      tokens = placed s.bytes s.token ∷ [];
      is = refl;
      are = one_token s.bytes s.token;
      comes = ap (outcome_of (met_of (here s p names)) (placed s.bytes s.token) (λ f later. outcome f later [])) is;
    })

pub faults-deep : (e next : Expected) (s : Spot) (p : Prefixes) (names : List name_list.Text)
    → move_of p e (symbol_at s) ≡ goes next → is_too_deep (symbol_at s) s.depth ≡ true
    → Faults e (here s p names) names (fault.TooDeep s.token.start)
faults-deep e next s p names is deep =
    faults_here e (here s p names) (fault.TooDeep s.token.start)
    (record {
      cause = too_deep;
      at = s.token.start;
      tokens = placed s.bytes s.token ∷ [];
      is = refl;
      are = one_token s.bytes s.token;
      comes =
          ap (outcome_of (met_of (here s p names)) (placed s.bytes s.token) (λ f later. outcome f later [])) is
          ∙ ap (λ b. cond b (fails too_deep s.token.start)
          (outcome next (record { prefixes = p; names = names; depth = depth_after (symbol_at s) s.depth }) [])) deep;
    })

-- where no token begins, nothing else is to blame
pub no_token_refused : (p : Prefixes) (e : Expected) → move_of p e no_token ≡ refuses syntax
no_token_refused p prologue = refl
no_token_refused p prefix_name = refl
no_token_refused p (prefix_equals name) = refl
no_token_refused p (prefix_iri name) = refl
no_token_refused p (title zero) = refl
no_token_refused p (title (suc n)) = refl
no_token_refused p annotations_first = refl
no_token_refused p (items d) = refl
no_token_refused p lone_axiom = refl
no_token_refused p (finish d) = refl
no_token_refused p (done d) = refl
no_token_refused p (open_then e) = refl
no_token_refused p (close_then e) = refl
no_token_refused p (annotations_then e) = no_token_refused p e
no_token_refused p (iri_then e) = refl
no_token_refused p (subject_then e) = refl
no_token_refused p (value_then e) = refl
no_token_refused p (value_end e) = refl
no_token_refused p (property_then k) = refl
no_token_refused p (role_then k) = refl
no_token_refused p (first_role k) = refl
no_token_refused p (second_role k e) = refl
no_token_refused p (sub_then k) = refl
no_token_refused p (sup_then k) = refl
no_token_refused p (thing_then e) = refl
no_token_refused p (filler_then r k) = refl
no_token_refused p (roles_close zero before k) = refl
no_token_refused p (roles_close (suc n) before k) = refl
no_token_refused p (subs_close zero before k) = refl
no_token_refused p (subs_close (suc n) before k) = refl
no_token_refused p (sups_close zero before k) = refl
no_token_refused p (sups_close (suc n) before k) = refl
no_token_refused p (individual_then k) = refl
no_token_refused p (unnamed_then e) = refl
no_token_refused p (different_close zero before e) = refl
no_token_refused p (different_close (suc n) before e) = refl
no_token_refused p (class_then k) = refl
no_token_refused p (declared_class k) = refl
no_token_refused p (entity_then k) = refl
