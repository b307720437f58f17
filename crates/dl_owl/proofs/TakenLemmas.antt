-- An IRI that stands next, and a name that is taken there.
use Rattle.std.proofs.Common.{◌≡◌, ◌≢◌, ℕ, ◌≤◌, ◌&&◌, nat_le, not, Bool, true, false, Option, Some, None, Result, Ok, Err, IsErrAnd, List, [], ◌∷◌, ◌++◌, length, refl, sym, ap, ◌∙◌, subst, arith, slice_range}
use Rattle.std.proofs.lemmas.Result.{err_from_is_err_and}
use Rattle.std.proofs.lemmas.List.{length_push}
use Rattle.std.proofs.lemmas.Bool.Decides.{nat_tests}
use Rattle.dl_lex.specs.declared.token.TokenKind.{TokenKind}
use Rattle.dl_lex.specs.declared.token.TokenKind.TheVariants.{Node, End}
use Rattle.dl_names.specs.NameList as name_list
use Rattle.dl_names.specs.NameList.{max_names, has_name, names_after, place_of, has_no_place}
use Rattle.dl_owl.specs.declared.fault.OwlFault.{OwlFault}
use Rattle.dl_owl.specs.declared.fault.OwlFault.TheVariants as fault
use Rattle.dl_owl.specs.Symbols.{Symbol, full_iri, short_iri, ending, symbol_of}
use Rattle.dl_owl.specs.Prefixes.{Prefixes, iri_of, expanded}
use Rattle.dl_owl.specs.NamesNext.{IsIri}
use Rattle.dl_owl.specs.Causes.{Cause, syntax, prefix_unknown, fault_of}
use Rattle.dl_owl.specs.Expected.{Expected, prologue, Move, goes, takes_name, declares, refuses}
use Rattle.dl_owl.specs.Steps.{at_iri, refused_individual, move_of}
use Rattle.dl_owl.specs.Reading.{depth_after, is_too_deep}
use Rattle.dl_owl.specs.Walk.{Spot, symbol_at, Here, here, Goes, Faults, Moved, NoneNext, Reads, Follows}
use Rattle.dl_owl.proofs.WalkLemmas.{faults-refused}
use Rattle.dl_owl.proofs.CursorLemmas.{advance-goes, advance-faults, name-goes, name-full, name-faults}

-- ---- a reader that follows a move

pub exit_follows : {V : Type 0} (m : (V → Expected) → Move) (a b : Here) (r : Result V OwlFault) (fault : OwlFault)
    → IsErrAnd r (λ y. y ≡ fault)
    → ((e : Expected) (k : V → Expected) → move_of a.prefixes e (symbol_at a.spot) ≡ m k → Faults e a b.names fault) → Follows m a b r
exit_follows m a b r fault is h =
    let found = err_from_is_err_and r is in
    subst (Follows m a b) (sym found.1) (λ e k same. subst (Faults e a b.names) (sym found.2) (h e k same))

pub follows_as : {V : Type 0} (m n : (V → Expected) → Move) (a b : Here) (r : Result V OwlFault)
    → ((k : V → Expected) → n k ≡ m k) → Follows m a b r → Follows n a b r
follows_as m n a b (Ok v) alike h = λ e k same. h e k (same ∙ alike k)
follows_as m n a b (Err fault) alike h = λ e k same. h e k (same ∙ alike k)

pub reads_follows : {V : Type 0} (e : (V → Expected) → Expected) (m : (V → Expected) → Move) (a b : Here) (r : Result V OwlFault)
    → ((k : V → Expected) → move_of a.prefixes (e k) (symbol_at a.spot) ≡ m k) → Follows m a b r → Reads e a b r
reads_follows e m a b (Ok v) alike h = λ k. h (e k) k (alike k)
reads_follows e m a b (Err fault) alike h = λ k. h (e k) k (alike k)

-- ---- an IRI is no parenthesis, and not the end

iri_flat : (p : Prefixes) (s : Symbol) (text : name_list.Text) (depth : ℕ) → IsIri p s text → is_too_deep s depth ≡ false
iri_flat p (full_iri t) text depth is = refl
iri_flat p (short_iri t) text depth is = refl
iri_flat p s text depth is = absurd (cc)

iri_level : (p : Prefixes) (s : Symbol) (text : name_list.Text) (depth : ℕ) → IsIri p s text → depth_after s depth ≡ depth
iri_level p (full_iri t) text depth is = refl
iri_level p (short_iri t) text depth is = refl
iri_level p s text depth is = absurd (cc)

iri_some : (p : Prefixes) (kind : TokenKind) (bytes : List ℕ) (text : name_list.Text) → IsIri p (symbol_of kind bytes) text → kind ≢ End
iri_some p kind bytes text is end =
    let none : iri_of p ending ≡ Some text = ap (λ k. iri_of p (symbol_of k bytes)) (sym end) ∙ is in cc

-- where an individual is expected, only a blank node is left out
pub no_node : (kind : TokenKind) (bytes : List ℕ) → (kind ≡ Node → ⊥) → refused_individual (symbol_of kind bytes) ≡ syntax
no_node Node bytes not = absurd (not refl)
no_node kind bytes not = refl

-- ---- whether there is a place for a name

pub no_room : (names : List name_list.Text) (text : name_list.Text) → length names ≡ max_names → has_name names text ≡ false
    → has_no_place names text ≡ true
no_room names text full new =
    ap (λ b. not b && nat_le max_names (length names)) new ∙ ap (λ n. nat_le max_names n) full

pub room : (names : List name_list.Text) (text : name_list.Text) → length (names_after names text) ≤ max_names
    → has_no_place names text ≡ false
room names text fits = by (has_name names text) refl
  where
    by : (b : Bool) → has_name names text ≡ b → has_no_place names text ≡ false
    by true is = ap (λ b. not b && nat_le max_names (length names)) is
    by false is =
        let after : names_after names text ≡ names ++ text ∷ [] = rw is refl in
        let more : length (names ++ text ∷ []) ≤ max_names = subst (λ l. length l ≤ max_names) after fits in
        ap (λ b. not b && nat_le max_names (length names)) is
        ∙ (let count = length_push names text in grind (arith, nat_tests))

-- ---- a name that is taken

module _ (s : Spot) (p : Prefixes) (names : List name_list.Text) (text : name_list.Text) (iri : IsIri p (symbol_at s) text)
    (e : Expected) (k : ℕ → Expected) (is : move_of p e (symbol_at s) ≡ takes_name text k) where
  flat : (t : ℕ) → is_too_deep (symbol_at s) t ≡ false
  flat t = iri_flat p (symbol_at s) text t iri

  level : depth_after (symbol_at s) s.depth ≡ s.depth
  level = iri_level p (symbol_at s) text s.depth iri

  some : s.token.kind ≢ End
  some = iri_some p s.token.kind (slice_range s.bytes s.token.start s.token.end) text iri

  pub took : has_no_place names text ≡ false → (new : Spot) → Moved s new → (after : List name_list.Text) (n : ℕ)
      → after ≡ names_after names text → n ≡ place_of (names_after names text) text
      → Goes e (here s p names) (k n) (here new p after)
  took free new m after n named at =
      subst (λ l. Goes e (here s p names) (k n) (here new p l)) (sym named)
      (subst (λ j. Goes e (here s p names) (k j) (here new p (names_after names text))) (sym at)
      (name-goes e s p names text k is flat level some free new m))

  pub took_full : has_no_place names text ≡ true → (after : List name_list.Text) → after ≡ names
      → Faults e (here s p names) after (fault.TooManyNames s.token.start)
  took_full full after same =
      subst (λ l. Faults e (here s p names) l (fault.TooManyNames s.token.start)) (sym same)
      (name-full e s p names text k is flat level some full)

  pub took_faults : has_no_place names text ≡ false → (fault : OwlFault) → NoneNext s fault → (after : List name_list.Text)
      → after ≡ names_after names text → Faults e (here s p names) after fault
  took_faults free fault none after named =
      subst (λ l. Faults e (here s p names) l fault) (sym named)
      (name-faults e s p names text k is flat level some free fault none)

-- ---- an IRI that is passed over

module _ (s : Spot) (p : Prefixes) (names : List name_list.Text) (text : name_list.Text) (iri : IsIri p (symbol_at s) text)
    (e next : Expected) (is : move_of p e (symbol_at s) ≡ goes next) where
  pub passed : (new : Spot) → Moved s new → Goes e (here s p names) next (here new p names)
  passed new m =
      advance-goes e next s p names is (iri_flat p (symbol_at s) text s.depth iri)
      (iri_some p s.token.kind (slice_range s.bytes s.token.start s.token.end) text iri) new new m
      (ap (λ d. let t : Spot = record { bytes = new.bytes; token = new.token; depth = d } in t)
      (sym (iri_level p (symbol_at s) text new.depth iri)))

  pub passed_faults : (fault : OwlFault) → NoneNext s fault → Faults e (here s p names) names fault
  passed_faults fault none =
      advance-faults e next s p names is (iri_flat p (symbol_at s) text s.depth iri)
      (iri_some p s.token.kind (slice_range s.bytes s.token.start s.token.end) text iri) fault none

-- ---- what was found

-- a token that does what a text does, whatever that is, is this IRI
pub found_iri : (p : Prefixes) (s : Symbol) (text : name_list.Text)
    → ((k : name_list.Text → Move) (other : Move) → at_iri p s k other ≡ k text) → IsIri p s text
found_iri p (full_iri t) text h =
    let same : declares t t prologue ≡ declares text text prologue = h (λ x. declares x x prologue) (refuses syntax) in cc
found_iri p (short_iri short) text h = by (expanded p short) refl (h (λ x. declares x x prologue) (refuses syntax))
  where
    by : (found : Option name_list.Text) → expanded p short ≡ found
        → (elim found [ None ↦ refuses prefix_unknown | Some t ↦ declares t t prologue ]) ≡ declares text text prologue
        → expanded p short ≡ Some text
    by None is h = absurd (cc)
    by (Some t) is h = is ∙ (let same : t ≡ text = cc in ap Some same)
found_iri p s text h =
    let same : refuses syntax ≡ declares text text prologue = h (λ x. declares x x prologue) (refuses syntax) in absurd (cc)

module _ (s : Spot) (p : Prefixes) (names : List name_list.Text) (e : Expected) (k : name_list.Text → Move) (cause : Cause)
    (is : move_of p e (symbol_at s) ≡ at_iri p (symbol_at s) k (refuses cause)) where
  pub found_unknown : ((l : name_list.Text → Move) (other : Move) → at_iri p (symbol_at s) l other ≡ refuses prefix_unknown)
      → Faults e (here s p names) names (fault.PrefixUnknown s.token.start)
  found_unknown h = faults-refused e s p names prefix_unknown (is ∙ h k (refuses cause))

  pub found_other : (fault : OwlFault) → fault ≡ fault_of cause s.token.start
      → ((l : name_list.Text → Move) (other : Move) → at_iri p (symbol_at s) l other ≡ other) → Faults e (here s p names) names fault
  found_other fault same h =
      subst (Faults e (here s p names) names) (sym same) (faults-refused e s p names cause (is ∙ h k (refuses cause)))
