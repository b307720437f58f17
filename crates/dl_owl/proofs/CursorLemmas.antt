-- Parentheses at a cursor.
use Rattle.std.proofs.Common.{◌≡◌, ◌≢◌, ℕ, Bool, true, false, cond, IsTrue, inr, Result, IsErrAnd, List, [], ◌∷◌, refl, sym, ap, ◌∙◌, subst, slice_range, true≢false}
use Rattle.std.proofs.lemmas.Result.{err_from_is_err_and}
use Rattle.dl_lex.specs.declared.token.TokenKind.{TokenKind}
use Rattle.dl_lex.specs.declared.token.TokenKind.TheVariants.{Open, Close, End}
use Rattle.dl_names.specs.NameList as name_list
use Rattle.dl_names.specs.NameList.{names_after, place_of, has_no_place}
use Rattle.dl_names.proofs.NameListLemmas.{Extends-names_after}
use Rattle.dl_owl.specs.declared.fault.OwlFault.{OwlFault}
use Rattle.dl_owl.specs.declared.fault.OwlFault.TheVariants as fault
use Rattle.dl_owl.specs.Symbols as symbols
use Rattle.dl_owl.specs.Symbols.{Symbol, opening, closing, no_token, Placed, symbol_of, placed, AreTokens}
use Rattle.dl_owl.specs.Prefixes.{Prefixes}
use Rattle.dl_owl.specs.Causes.{syntax, too_deep, too_many_names}
use Rattle.dl_owl.specs.Expected.{Expected, open_then, close_then, goes, takes_name, refuses}
use Rattle.dl_owl.specs.Steps.{move_of}
use Rattle.dl_owl.specs.Reading.{fails, depth_after, is_too_deep, outcome_of, outcome}
use Rattle.dl_owl.specs.Walk as walk
use Rattle.dl_owl.specs.Walk.{Spot, symbol_at, Here, here, met_of, FromToken, Goes, Faults, Moved, NoneNext, Reads, Passes}
use Rattle.dl_owl.proofs.AheadLemmas.{moved_ahead}
use Rattle.dl_owl.proofs.WalkLemmas.{goes_tokens, one_token, faults_here, goes-fit, faults-behind, faults-refused, faults-deep, no_token_refused}

-- ---- the exit of a `?`

pub exit_passes : (e : Expected → Expected) (a b : Here) (r : Result (Unit {0}) OwlFault) (fault : OwlFault) → IsErrAnd r (λ y. y ≡ fault)
    → ((k : Expected) → Faults (e k) a b.names fault) → Passes e a b r
exit_passes e a b r fault is h =
    let found = err_from_is_err_and r is in
    subst (Passes e a b) (sym found.1) (λ k. subst (Faults (e k) a b.names) (sym found.2) (h k))

pub exit_reads : {V : Type 0} (e : (V → Expected) → Expected) (a b : Here) (r : Result V OwlFault) (fault : OwlFault) → IsErrAnd r (λ y. y ≡ fault)
    → ((k : V → Expected) → Faults (e k) a b.names fault) → Reads e a b r
exit_reads e a b r fault is h =
    let found = err_from_is_err_and r is in
    subst (Reads e a b) (sym found.1) (λ k. subst (Faults (e k) a b.names) (sym found.2) (h k))

-- ---- a token that is passed over

-- nothing but the next token changes
moved_is : (old new : Spot) → Moved old new → new ≡ (let s : Spot = record { bytes = old.bytes; token = new.token; depth = old.depth } in s)
moved_is old new m = λ i. record { bytes = m.bytes i; token = new.token; depth = m.depth i }

module _ (e next : Expected) (s : Spot) (p : Prefixes) (names : List name_list.Text) (is : move_of p e (symbol_at s) ≡ goes next)
    (flat : is_too_deep (symbol_at s) s.depth ≡ false) (some : s.token.kind ≢ End) where
  pub advance-goes : (new later : Spot) → Moved s new
      → later ≡ (let t : Spot = record { bytes = new.bytes; token = new.token; depth = depth_after (symbol_at s) new.depth } in t)
      → Goes e (here s p names) next (here later p names)
  advance-goes new later m same =
      subst (λ t. Goes e (here s p names) next (here t p names))
      (sym (same ∙ (λ i. record { bytes = m.bytes i; token = new.token; depth = depth_after (symbol_at s) (m.depth i) })))
      (goes-fit e next s p names is flat some new.token m.next)

  pub advance-faults : (fault : OwlFault) → NoneNext s fault → Faults e (here s p names) names fault
  advance-faults fault none =
      subst (Faults e (here s p names) names) (sym none.is)
      (faults-behind e next s p names is flat some none.at none.none (no_token_refused p next))

-- ---- parentheses

open_refused : (kind : TokenKind) (text : List ℕ) (p : Prefixes) (k : Expected) → (kind ≡ Open → ⊥) → move_of p (open_then k) (symbol_of kind text) ≡ refuses syntax
open_refused Open text p k not = absurd (not refl)
open_refused kind text p k not = refl

close_refused : (kind : TokenKind) (text : List ℕ) (p : Prefixes) (k : Expected) → (kind ≡ Close → ⊥) → move_of p (close_then k) (symbol_of kind text) ≡ refuses syntax
close_refused Close text p k not = absurd (not refl)
close_refused kind text p k not = refl

-- a test of the kind says that it is another
pub not_kind : (b : Bool) (P : Type 0) → ((IsTrue b → P) × (P → IsTrue b)) → b ≡ false → P → ⊥
not_kind b P tells not is = true≢false (sym (tells.1 is) ∙ not)

module _ (s : Spot) (p : Prefixes) (names : List name_list.Text) (k : Expected) where
  pub open-not : (s.token.kind ≡ Open → ⊥) → Faults (open_then k) (here s p names) names (fault.Syntax s.token.start)
  open-not not =
      faults-refused (open_then k) s p names syntax
      (open_refused s.token.kind (slice_range s.bytes s.token.start s.token.end) p k not)

  pub close-not : (s.token.kind ≡ Close → ⊥) → Faults (close_then k) (here s p names) names (fault.Syntax s.token.start)
  close-not not =
      faults-refused (close_then k) s p names syntax
      (close_refused s.token.kind (slice_range s.bytes s.token.start s.token.end) p k not)

  opening_is : s.token.kind ≡ Open → symbol_at s ≡ opening
  opening_is is = ap (λ kind. symbol_of kind (slice_range s.bytes s.token.start s.token.end)) is

  closing_is : s.token.kind ≡ Close → symbol_at s ≡ closing
  closing_is is = ap (λ kind. symbol_of kind (slice_range s.bytes s.token.start s.token.end)) is

  pub open-deep : s.token.kind ≡ Open → is_too_deep opening s.depth ≡ true → Faults (open_then k) (here s p names) names (fault.TooDeep s.token.start)
  open-deep is deep =
      faults-deep (open_then k) k s p names (ap (move_of p (open_then k)) (opening_is is))
      (ap (λ t. is_too_deep t s.depth) (opening_is is) ∙ deep)

  module _ (is : s.token.kind ≡ Open) (flat : is_too_deep opening s.depth ≡ false) where
    pub open-goes : (new later : Spot) → Moved s new → later ≡ record new { depth = depth_after opening new.depth }
        → Goes (open_then k) (here s p names) k (here later p names)
    open-goes new later m same =
        advance-goes (open_then k) k s p names (ap (move_of p (open_then k)) (opening_is is))
        (ap (λ t. is_too_deep t s.depth) (opening_is is) ∙ flat) (λ end. let apart : Open ≡ End = sym is ∙ end in cc)
        new later m
        (same ∙ ap (λ t. let u : Spot = record new { depth = depth_after t new.depth } in u) (sym (opening_is is)))

    pub open-faults : (fault : OwlFault) → NoneNext s fault → Faults (open_then k) (here s p names) names fault
    open-faults fault none =
        advance-faults (open_then k) k s p names (ap (move_of p (open_then k)) (opening_is is))
        (ap (λ t. is_too_deep t s.depth) (opening_is is) ∙ flat) (λ end. let apart : Open ≡ End = sym is ∙ end in cc)
        fault none

  module _ (is : s.token.kind ≡ Close) where
    pub close-goes : (new later : Spot) → Moved s new → later ≡ record new { depth = depth_after closing new.depth }
        → Goes (close_then k) (here s p names) k (here later p names)
    close-goes new later m same =
        advance-goes (close_then k) k s p names (ap (move_of p (close_then k)) (closing_is is))
        (ap (λ t. is_too_deep t s.depth) (closing_is is)) (λ end. let apart : Close ≡ End = sym is ∙ end in cc)
        new later m
        (same ∙ ap (λ t. let u : Spot = record new { depth = depth_after t new.depth } in u) (sym (closing_is is)))

    pub close-faults : (fault : OwlFault) → NoneNext s fault → Faults (close_then k) (here s p names) names fault
    close-faults fault none =
        advance-faults (close_then k) k s p names (ap (move_of p (close_then k)) (closing_is is))
        (ap (λ t. is_too_deep t s.depth) (closing_is is)) (λ end. let apart : Close ≡ End = sym is ∙ end in cc)
        fault none

-- ---- a name that is taken

module _ (e : Expected) (s : Spot) (p : Prefixes) (names : List name_list.Text) (text : name_list.Text) (k : ℕ → Expected)
    (is : move_of p e (symbol_at s) ≡ takes_name text k) (flat : (t : ℕ) → is_too_deep (symbol_at s) t ≡ false)
    (level : depth_after (symbol_at s) s.depth ≡ s.depth) (some : s.token.kind ≢ End) where
  taken : has_no_place names text ≡ false → (rest : List Placed)
      → outcome e (met_of (here s p names)) (placed s.bytes s.token ∷ rest)
      ≡ outcome (k (place_of (names_after names text) text)) (record { prefixes = p; names = names_after names text; depth = s.depth }) rest
  taken room rest =
      ap (outcome_of (met_of (here s p names)) (placed s.bytes s.token) (λ f later. outcome f later rest)) is
      ∙ ap (λ b. cond b (fails too_deep s.token.start)
      (cond (has_no_place names text) (fails too_many_names s.token.start)
      (outcome (k (place_of (names_after names text) text)) (record { prefixes = p; names = names_after names text; depth = depth_after (symbol_at s) s.depth }) rest)))
      (flat s.depth)
      ∙ ap (λ b. cond b (fails too_many_names s.token.start)
      (outcome (k (place_of (names_after names text) text)) (record { prefixes = p; names = names_after names text; depth = depth_after (symbol_at s) s.depth }) rest))
      room
      ∙ ap (λ d. outcome (k (place_of (names_after names text) text)) (record { prefixes = p; names = names_after names text; depth = d }) rest) level

  pub name-goes : has_no_place names text ≡ false → (new : Spot) → Moved s new
      → Goes e (here s p names) (k (place_of (names_after names text) text)) (here new p (names_after names text))
  name-goes room new m = record {
    same = m.bytes;
    ahead = moved_ahead s new m some;
    grows = Extends-names_after names text;
    on = λ all rest from. (
      placed s.bytes s.token ∷ rest,
      (
        walk.FromToken.more some (goes_tokens s.bytes all s.token.end new.token rest m.next from),
        taken room rest
            ∙ ap (λ d. outcome (k (place_of (names_after names text) text)) (record { prefixes = p; names = names_after names text; depth = d }) rest) (sym m.depth),
      ),
    );
  }

  pub name-full : has_no_place names text ≡ true → Faults e (here s p names) names (fault.TooManyNames s.token.start)
  name-full full =
      faults_here e (here s p names) (fault.TooManyNames s.token.start)
      (record {
        cause = too_many_names;
        at = s.token.start;
        tokens = placed s.bytes s.token ∷ [];
        is = refl;
        are = one_token s.bytes s.token;
        comes =
            ap (outcome_of (met_of (here s p names)) (placed s.bytes s.token) (λ f later. outcome f later [])) is
            ∙ ap (λ b. cond b (fails too_deep s.token.start)
            (cond (has_no_place names text) (fails too_many_names s.token.start)
            (outcome (k (place_of (names_after names text) text)) (record { prefixes = p; names = names_after names text; depth = depth_after (symbol_at s) s.depth }) [])))
            (flat s.depth)
            ∙ ap (λ b. cond b (fails too_many_names s.token.start)
            (outcome (k (place_of (names_after names text) text)) (record { prefixes = p; names = names_after names text; depth = depth_after (symbol_at s) s.depth }) []))
            full;
      })

  pub name-faults : has_no_place names text ≡ false → (fault : OwlFault) → NoneNext s fault
      → Faults e (here s p names) (names_after names text) fault
  name-faults room fault none =
      subst (Faults e (here s p names) (names_after names text)) (sym none.is)
      (record {
        grows = Extends-names_after names text;
        why = inr (record {
          cause = syntax;
          at = none.at;
          tokens = placed s.bytes s.token ∷ record { symbol = no_token; at = none.at } ∷ [];
          is = refl;
          are = walk.FromToken.more some (symbols.AreTokens.fault none.at none.none);
          comes =
              taken room (record { symbol = no_token; at = none.at } ∷ [])
              ∙ ap
              (outcome_of (record { prefixes = p; names = names_after names text; depth = s.depth }) (record { symbol = no_token; at = none.at })
              (λ f later. outcome f later []))
              (no_token_refused p (k (place_of (names_after names text) text)));
        });
      })
