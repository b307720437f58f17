-- Individuals that are read one after another, each none of those before.
use Rattle.std.proofs.Common.{◌≡◌, ℕ, zero, Bool, true, false, ◌||◌, not, Result, Ok, Err, if◌then◌else◌, List, [], ◌∷◌, map, String, Global, string_bytes, refl, sym, ap, ◌∙◌, slice_range, true≢false}
use Rattle.std.specs.List.{list_any}
use Rattle.std.specs.Str.{bytes_eq}
use Rattle.std.specs.String.{string_eq}
use Rattle.std.proofs.lemmas.List.Folds.{list_any-append}
use Rattle.dl_lex.specs.declared.keyword.Keyword.TheVariants.{DifferentIndividuals}
use Rattle.dl_lex.specs.declared.token.TokenKind.{TokenKind}
use Rattle.dl_lex.specs.declared.token.TokenKind.TheVariants.{Close}
use Rattle.dl_names.specs.NameList.{Text, has_name, names_after}
use Rattle.dl_names.proofs.NameListLemmas.{names_after-new}
use Rattle.dl_names.proofs.SetLemmas.{has_name_shown}
use Rattle.dl_owl.specs.declared.fault.OwlFault.{OwlFault}
use Rattle.dl_owl.specs.Symbols.{Symbol, symbol_of}
use Rattle.dl_owl.specs.Prefixes.{Prefixes}
use Rattle.dl_owl.specs.NamesNext.{IsIri}
use Rattle.dl_names.specs.Iris.{is_free}
use Rattle.dl_owl.specs.Causes.{reserved}
use Rattle.dl_owl.specs.Refused.{keyword_left_out}
use Rattle.dl_owl.specs.Expected.{Expected, close_then, different_close, Move, goes, refuses}
use Rattle.dl_owl.specs.Steps.{refused_individual, different_next, move_of}
use Rattle.dl_owl.specs.Walk.{Here, Goes, Faults, Passes}
use Rattle.dl_owl.specs.Different.{HaveSame, ReadsDifferent}
use Rattle.dl_owl.proofs.IriLemmas.{at_iri-is}
use Rattle.dl_owl.proofs.WalkLemmas.{goes-then, goes-faults, goes_as}

-- ---- the set of those before

-- a string is new where its text is
pub is_new_shown : (strings : List (String Global)) (names : List Text) → map string_bytes strings ≡ names
    → (text : Text)
    (string : String Global) → string_bytes string ≡ text → not (list_any (string_eq string) strings) ≡ not
    (has_name names text)
is_new_shown strings names shown text string bytes =
    ap not (ap (λ t. list_any (λ k. bytes_eq t (string_bytes k)) strings) bytes
    ∙ sym (has_name_shown strings names shown text))

or_swap : (a b : Bool) → (a || b) ≡ (b || (a || false))
or_swap true true = refl
or_swap true false = refl
or_swap false true = refl
or_swap false false = refl

-- the names with one more
pub same_after : (before names : List Text) (text : Text) → HaveSame before names → has_name names text ≡ false
    → HaveSame (text ∷ before) (names_after names text)
same_after before names text same new other =
    ap (λ b. bytes_eq other text || b) (same other)
    ∙ or_swap (bytes_eq other text) (has_name names other)
    ∙ sym (list_any-append (bytes_eq other) names (text ∷ []))
    ∙ ap (λ l. has_name l other) (sym (names_after-new names text new))

-- ---- one individual

-- what its text does
abbrev pub individual_by : List Text → (List Text → Expected) → Text → Move
individual_by before k text =
    if has_name before text then refuses (keyword_left_out DifferentIndividuals)
    else (if is_free text then goes (k (text ∷ before)) else refuses reserved)

module _ (p : Prefixes) (s : Symbol) (text : Text) (iri : IsIri p s text) (before : List Text) (k : List Text
    → Expected) where
  pub individual_twice : has_name before text ≡ true → different_next p before k s ≡ refuses
      (keyword_left_out DifferentIndividuals)
  individual_twice twice =
      at_iri-is p s text (individual_by before k) (refuses (refused_individual s)) iri
      ∙ ap
      (λ b.
      if b then refuses (keyword_left_out DifferentIndividuals)
      else (if is_free text then goes (k (text ∷ before)) else refuses reserved))
      twice

  pub individual_once : has_name before text ≡ false → (free : Bool) → is_free text ≡ free
      → different_next p before k s ≡ (if free then goes (k (text ∷ before)) else refuses reserved)
  individual_once once free is =
      at_iri-is p s text (individual_by before k) (refuses (refused_individual s)) iri
      ∙ ap
      (λ b.
      if b then refuses (keyword_left_out DifferentIndividuals)
      else (if is_free text then goes (k (text ∷ before)) else refuses reserved))
      once
      ∙ ap (λ b. if b then goes (k (text ∷ before)) else refuses reserved) is

-- ---- one after another

-- so many more are expected now, none of those before
pub record Different (n : ℕ) (met : List Text) (a b : Here) : Type 0 where
  pub before : List Text
  pub same : HaveSame before met
  pub on : (e : Expected) → Goes (different_close 2 [] e) a (different_close n before e) b

pub different_first : (a b : Here) (met later : List Text) → met ≡ [] → ReadsDifferent a b met later (Ok tt)
    → Different 1 later a b
different_first a b met later none h =
    let one = h [] (λ t. ap (λ l. has_name l t) (sym none)) in
    record {
      before = one.0 ∷ [];
      same = one.1;
      on = λ e. one.2 (different_close 2 [] e) (λ more. different_close 1 more e) refl;
    }

pub different_first_faults : (a b : Here) (met later : List Text) (fault : OwlFault) → met ≡ []
    → ReadsDifferent a b met later (Err fault) → (e : Expected) → Faults (different_close 2 [] e) a b.names fault
different_first_faults a b met later fault none h e =
    h [] (λ t. ap (λ l. has_name l t) (sym none)) (different_close 2 [] e) (λ more. different_close 1 more e) refl

different_other : (p : Prefixes) (before : List Text) (e : Expected) (kind : TokenKind) (text : List ℕ)
    → (kind ≡ Close → ⊥)
    → move_of p (different_close zero before e) (symbol_of kind text)
    ≡ different_next p before (λ more. different_close zero more e) (symbol_of kind text)
different_other p before e Close text not = absurd (not refl)
different_other p before e kind text not = refl

different_end : (p : Prefixes) (before : List Text) (e : Expected) (kind : TokenKind) (text : List ℕ) → kind ≡ Close
    → move_of p (different_close zero before e) (symbol_of kind text) ≡ move_of p (close_then e) (symbol_of kind text)
different_end p before e Close text is = refl
different_end p before e kind text is = absurd (cc)

module _ (met later : List Text) (a b d : Here) where
  pub different_second : Different 1 met a b → ReadsDifferent b d met later (Ok tt) → Different 0 later a d
  different_second s h =
      let one = h s.before s.same in
      record {
        before = one.0 ∷ s.before;
        same = one.1;
        on = λ e.
            goes-then (different_close 2 [] e) a (different_close 1 s.before e) b
            (different_close 0 (one.0 ∷ s.before) e) d (s.on e)
            (one.2 (different_close 1 s.before e) (λ more. different_close 0 more e) refl);
      }

  pub different_second_faults : (fault : OwlFault) → Different 1 met a b → ReadsDifferent b d met later (Err fault)
      → (e : Expected)
      → Faults (different_close 2 [] e) a d.names fault
  different_second_faults fault s h e =
      goes-faults (different_close 2 [] e) a (different_close 1 s.before e) b fault (s.on e)
      (h s.before s.same (different_close 1 s.before e) (λ more. different_close 0 more e) refl)

  pub different_again : Different 0 met a b → (b.spot.token.kind ≡ Close → ⊥) → ReadsDifferent b d met later (Ok tt)
      → Different 0 later a d
  different_again s not h =
      let one = h s.before s.same in
      record {
        before = one.0 ∷ s.before;
        same = one.1;
        on = λ e.
            goes-then (different_close 2 [] e) a (different_close 0 s.before e) b
            (different_close 0 (one.0 ∷ s.before) e) d (s.on e)
            (one.2 (different_close 0 s.before e) (λ more. different_close 0 more e)
            (different_other b.prefixes s.before e b.spot.token.kind
            (slice_range b.spot.bytes b.spot.token.start b.spot.token.end) not));
      }

  pub different_again_faults : (fault : OwlFault) → Different 0 met a b → (b.spot.token.kind ≡ Close → ⊥)
      → ReadsDifferent b d met later (Err fault) → (e : Expected) → Faults (different_close 2 [] e) a d.names fault
  different_again_faults fault s not h e =
      goes-faults (different_close 2 [] e) a (different_close 0 s.before e) b fault (s.on e)
      (h s.before s.same (different_close 0 s.before e) (λ more. different_close 0 more e)
      (different_other b.prefixes s.before e b.spot.token.kind
      (slice_range b.spot.bytes b.spot.token.start b.spot.token.end) not))

  -- the next one goes ahead
  pub different_ahead : (s : Different 0 met a b) → (b.spot.token.kind ≡ Close → ⊥) → ReadsDifferent b d met later
      (Ok tt) → (e : Expected)
      → (more : List Text) × Goes (different_close 0 s.before e) b (different_close 0 more e) d
  different_ahead s not h e =
      let one = h s.before s.same in (
        one.0 ∷ s.before,
        one.2 (different_close 0 s.before e) (λ more. different_close 0 more e)
            (different_other b.prefixes s.before e b.spot.token.kind
            (slice_range b.spot.bytes b.spot.token.start b.spot.token.end) not),
      )

pub different_closes : (met : List Text) (a b d : Here) (r : Result (Unit {0}) OwlFault) → Different 0 met a b
    → b.spot.token.kind ≡ Close
    → Passes close_then b d r → Passes (different_close 2 []) a d r
different_closes met a b d (Ok u) s is h =
    λ e.
    goes-then (different_close 2 [] e) a (close_then e) b e d
    (goes_as (different_close 2 [] e) a (different_close 0 s.before e) (close_then e) b
    (different_end b.prefixes s.before e b.spot.token.kind (slice_range b.spot.bytes b.spot.token.start
    b.spot.token.end) is) (s.on e))
    (h e)
different_closes met a b d (Err fault) s is h =
    λ e.
    goes-faults (different_close 2 [] e) a (close_then e) b fault
    (goes_as (different_close 2 [] e) a (different_close 0 s.before e) (close_then e) b
    (different_end b.prefixes s.before e b.spot.token.kind (slice_range b.spot.bytes b.spot.token.start
    b.spot.token.end) is) (s.on e))
    (h e)

-- ---- what the set told

pub was_new : (names : List Text) (text : Text) (new : Bool) → new ≡ not (has_name names text) → new ≡ true
    → has_name names text ≡ false
was_new names text new told is = by (has_name names text) refl
  where
    by : (b : Bool) → has_name names text ≡ b → has_name names text ≡ false
    by false same = same
    by true same = absurd (true≢false (sym is ∙ told ∙ ap not same))

pub was_there : (names : List Text) (text : Text) (new : Bool) → new ≡ not (has_name names text) → new ≡ false
    → has_name names text ≡ true
was_there names text new told is = by (has_name names text) refl
  where
    by : (b : Bool) → has_name names text ≡ b → has_name names text ≡ true
    by true same = same
    by false same = absurd (true≢false (sym (ap not same) ∙ sym told ∙ is))
