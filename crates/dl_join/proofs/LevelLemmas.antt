-- The levels of the search: needs divided by a variable, the names of the variable one after the other, and the last level.
use Rattle.std.proofs.Common.{◌≡◌, ◌≢◌, ℕ, ◌+◌, ◌<◌, ◌≤◌, ◌⊎◌, inl, inr, Bool, true, false, ◌||◌, ◌==◌, not, filter, List, [], ◌∷◌, ◌++◌, Some, length, map, take, get_or, refl, sym, ap, ◌∙◌, arith, true≢false}
use Rattle.std.specs.Prelude.{IsTrue}
use Rattle.std.specs.List.{All, Any, Contains}
use Rattle.std.specs.List.Sorted.{IsPermutation}
use Rattle.std.proofs.lemmas.Bool.{cases_lt}
use Rattle.std.proofs.lemmas.Bool.Decides.{nat_tests}
use Rattle.std.proofs.lemmas.List.{get_or_default, take_at}
use Rattle.std.proofs.lemmas.List.Elements.{All-append, All-filter, filter_passes, All-head, All-tail}
use Rattle.std.proofs.lemmas.List.Sorted.{IsPermutation-filter_both, IsPermutation-sym, All-permutation, Contains-permutation}
use Rattle.dl_terms.specs.declared.query.Term.{Term}
use Rattle.dl_terms.specs.declared.query.Term.TheVariants.{Var, Name}
use Rattle.dl_join.specs.declared.need.Need.{Need}
use Rattle.dl_join.specs.declared.gather.Gathered.{Gathered}
use Rattle.dl_join.specs.Disjuncts.{name_of}
use Rattle.dl_join.specs.Tuples.{AreMoreThan}
use Rattle.dl_join.specs.Gathering.{Has, IsGathered, Gathers}
use Rattle.dl_join.specs.Needs.{IsAscending, NeedHolds, Allows, Stands, AreMoved, AreNarrowed, AddsNarrowed, Mentions, FitsOrder}
use Rattle.dl_join.specs.Searching.{IsGiven, named, name_or_zero, IsName, IsReady, IsLevel}
use Rattle.dl_join.proofs.ListLemmas.{Any-Contains, All-left}
use Rattle.dl_join.proofs.NeedLemmas.{AreMoved-itself, AreMoved-twice, AreMoved-weaker, all_allow}
use Rattle.dl_join.proofs.GatherLemmas.{AreMoreThan-weaker, Gathers-same}
use Rattle.dl_join.proofs.SearchLemmas.{step_down, step_up, step_ready}

-- ---- needs divided by a variable

abbrev pub of_var : ℕ → List Need → List Need
of_var v = filter (λ n. n.at == v)

abbrev pub of_others : ℕ → List Need → List Need
of_others v = filter (λ n. not (n.at == v))

parts : (v : ℕ) (needs : List Need) → IsPermutation needs (of_var v needs ++ of_others v needs)
parts v needs = IsPermutation-filter_both (λ n. n.at == v) (λ n. not (n.at == v)) (λ n. refl) needs

Any-permutation : {X : Type 0} (P : X → Type 0) (xs ys : List X) → IsPermutation xs ys → Any P xs → Any P ys
Any-permutation P xs ys p w = Any-Contains P ys w.1 (Contains-permutation xs ys w.1 p (w.0, w.2, w.3)) w.4

here : (v : ℕ) (needs : List Need) → All (λ n. n.at ≡ v) (of_var v needs)
here v needs = λ k d h.
    let passes = filter_passes (λ (n : Need). n.at == v) needs k d h in
    grind (arith, nat_tests, passes)

elsewhere : (v : ℕ) (needs : List Need) → All (λ n. n.at ≢ v) (of_others v needs)
elsewhere v needs = λ k d h.
    let n = get_or (of_others v needs) k d in
    let passes : not (n.at == v) ≡ true = filter_passes (λ (n : Need). not (n.at == v)) needs k d h in
    λ same. (let b : (n.at == v) ≡ true = grind (arith, nat_tests) in absurd (true≢false (sym (rw b at passes))))

fits_here : (v : ℕ) (rest : List ℕ) (n : Need) → FitsOrder (v ∷ rest) n → n.at ≡ v → (w : ℕ) → n.other ≡ Some w → (w ≢ v) × Contains rest w
fits_here v rest n fits same w some = elim fits [ inl p ↦ p.1 w some | inr p ↦ absurd (p.0 same) ]

fits_apart : (v : ℕ) (rest : List ℕ) (n : Need) → FitsOrder (v ∷ rest) n → n.at ≢ v → (w : ℕ) → n.other ≡ Some w → w ≢ v
fits_apart v rest n fits differs w some = elim fits [ inl p ↦ absurd (differs p.0) | inr p ↦ p.1 w some ]

fits_later : (v : ℕ) (rest : List ℕ) (n : Need) → FitsOrder (v ∷ rest) n → n.at ≢ v → FitsOrder rest n
fits_later v rest n fits differs = elim fits [ inl p ↦ absurd (differs p.0) | inr p ↦ p.2 ]

pub level_of : (v : ℕ) (rest : List ℕ) (needs : List Need) (head : List Term) → IsReady (v ∷ rest) needs head → 0 < length (of_var v needs)
    → IsLevel v rest (of_var v needs) (of_others v needs) head
level_of v rest needs head r some =
    let active = of_var v needs in
    let later = of_others v needs in
    let fits = All-filter (λ n. n.at == v) (FitsOrder (v ∷ rest)) needs r.fits in
    let fits' = All-filter (λ n. not (n.at == v)) (FitsOrder (v ∷ rest)) needs r.fits in
    record {
      some = some;
      here = here v needs;
      elsewhere = elsewhere v needs;
      ready = All-permutation IsAscending needs (active ++ later) (parts v needs) r.ascending;
      active_fits = λ k d h. fits_here v rest (get_or active k d) (fits k d h) (here v needs k d h);
      later_fits = λ k d h. fits_later v rest (get_or later k d) (fits' k d h) (elsewhere v needs k d h);
      later_apart = λ k d h. fits_apart v rest (get_or later k d) (fits' k d h) (elsewhere v needs k d h);
      covered = λ u w. Any-permutation (Mentions u) needs (active ++ later) (parts v needs) (r.covered u w);
    }

-- a variable of no need is passed over
pub skip_ready : (v : ℕ) (rest : List ℕ) (needs : List Need) (head : List Term) → IsReady (v ∷ rest) needs head → length (of_var v needs) ≡ 0 → IsReady rest needs head
skip_ready v rest needs head r none =
    let apart : All (λ n. n.at ≢ v) needs =
    All-permutation (λ n. n.at ≢ v) (of_var v needs ++ of_others v needs) needs (IsPermutation-sym needs (of_var v needs ++ of_others v needs) (parts v needs))
    (All-append (λ n. n.at ≢ v) (of_var v needs) (of_others v needs) (λ k d h. absurd (omega arith)) (elsewhere v needs)) in
    record {
      ascending = r.ascending;
      fits = λ k d h. fits_later v rest (get_or needs k d) (r.fits k d h) (apart k d h);
      covered = r.covered;
    }

pub given_parts : (v : ℕ) (needs : List Need) (head : List Term) (t : List ℕ) → IsGiven needs head t → IsGiven (of_var v needs ++ of_others v needs) head t
given_parts v needs head t g = record {
  names = g.names;
  holds = All-permutation (NeedHolds g.names) needs (of_var v needs ++ of_others v needs) (parts v needs) g.holds;
  gives = g.gives;
}

pub parts_given : (v : ℕ) (needs : List Need) (head : List Term) (t : List ℕ) → IsGiven (of_var v needs ++ of_others v needs) head t → IsGiven needs head t
parts_given v needs head t g = record {
  names = g.names;
  holds = All-permutation (NeedHolds g.names) (of_var v needs ++ of_others v needs) needs (IsPermutation-sym needs (of_var v needs ++ of_others v needs) (parts v needs)) g.holds;
  gives = g.gives;
}

-- ---- the last level

pub is_name : (t : Term) → ((v : ℕ) → t ≡ Var v → ⊥) → IsName t
is_name (Var v) none = absurd (none v refl)
is_name (Name a) none = tt

pub ready_leaf : (needs : List Need) (head : List Term) → IsReady [] needs head → All IsName head
ready_leaf needs head r = λ k d h. is_name (get_or head k d) (λ v e.
    let any = r.covered v (k, h, get_or_default head k (Var v) d h ∙ e) in
    r.fits any.0 any.1 any.2)

named_tuple : (names : ℕ → ℕ) (head : List Term) → All IsName head → map (name_of names) head ≡ map name_or_zero head
named_tuple names [] all = refl
named_tuple names (Var v ∷ head) all = absurd (All-head IsName (Var v) head all)
named_tuple names (Name a ∷ head) all = ap (λ xs. a ∷ xs) (named_tuple names head (All-tail IsName (Name a) head all))

pub leaf_given : (needs : List Need) (head : List Term) → IsReady [] needs head → (t : List ℕ) → t ≡ map name_or_zero head → IsGiven needs head t
leaf_given needs head r t e = record {
  names = λ v. 0;
  holds = λ k d h. absurd (r.fits k d h);
  gives = named_tuple (λ v. 0) head (ready_leaf needs head r) ∙ sym e;
}

-- where the head has names alone, it gives one tuple
pub closed_tuple : (needs : List Need) (head : List Term) → All IsName head → (t : List ℕ) → IsGiven needs head t → t ≡ map name_or_zero head
closed_tuple needs head all t g = sym g.gives ∙ named_tuple g.names head all

-- ---- the names of a variable, one after the other

-- all tuples were gathered that names below a bound for the variable give
pub record Searched (from var : ℕ) (active0 later active : List Need) (head : List Term) (old now : Gathered) (found : Bool) : Type 0 where
  pub moved : AreMoved from active0 active
  pub ascending : All IsAscending active
  pub valid : IsGathered now
  pub limit : now.limit ≡ old.limit
  pub width : now.known.width ≡ old.known.width
  pub kept : (t : List ℕ) → Has old t → Has now t
  pub only : (t : List ℕ) → Has now t → Has old t ⊎ IsGiven (active0 ++ later) head t
  pub passed : (t : List ℕ) (g : IsGiven (active0 ++ later) head t) → g.names var < from → Has now t
  pub some : found ≡ true → (t : List ℕ) × IsGiven (active0 ++ later) head t × Has now t

pub Searched-none : (var : ℕ) (others : List ℕ) (active later : List Need) (head : List Term) (old : Gathered) → IsLevel var others active later head → IsGathered old
    → Searched 0 var active later active head old old false
Searched-none var others active later head old l v = record {
  moved = AreMoved-itself 0 active;
  ascending = All-left IsAscending active later l.ready;
  valid = v;
  limit = refl;
  width = refl;
  kept = λ t h. h;
  only = λ t h. inl h;
  passed = λ t g lt. absurd (omega arith);
  some = λ e. absurd (true≢false (sym e));
}

-- the name that is given to the variable is one that each need of it allows
given_allowed : (var from : ℕ) (others : List ℕ) (active0 later active : List Need) (head : List Term) (t : List ℕ) → IsLevel var others active0 later head
    → AreMoved from active0 active → (g : IsGiven (active0 ++ later) head t) → from ≤ g.names var → All (Allows (g.names var)) active
given_allowed var from others active0 later active head t l m g le =
    all_allow from (g.names var) active0 active le m (λ k d h.
    let held = All-left (NeedHolds g.names) active0 later g.holds k d h in
    record { pair = held.pair; among = held.among; here = held.here ∙ ap g.names (l.here k d h) })

either : {W : Type 0} (f c : Bool) → (f ≡ true → W) → (c ≡ true → W) → (f || c) ≡ true → W
either true c one two e = one refl
either false true one two e = two refl
either false false one two e = absurd (true≢false (sym e))

pub Searched-more : (from name var : ℕ) (others : List ℕ) (active0 later active active' added : List Need) (head : List Term) (old mid now : Gathered) (found b : Bool)
    → IsLevel var others active0 later head → Searched from var active0 later active head old mid found → from ≤ name → AreMoved name active active'
    → All (Stands name name) active' → ((x : ℕ) → from ≤ x → All (Allows x) active → name ≤ x) → AreNarrowed name active' added
    → Gathers (IsGiven (later ++ added) (map (named var name) head)) mid now
    → (b ≡ true → (t : List ℕ) × IsGiven (later ++ added) (map (named var name) head) t)
    → Searched (name + 1) var active0 later active' head old now (found || b)
Searched-more from name var others active0 later active active' added head old mid now found b l s le mv stand least n g below =
    let moved = AreMoved-twice from name active0 active active' le s.moved mv in
    record {
      moved = AreMoved-weaker name (name + 1) active0 active' (omega arith) moved;
      ascending = λ k d h. (stand k d h).ascending;
      valid = g.valid;
      limit = g.limit ∙ s.limit;
      width = g.width ∙ s.width;
      kept = λ t h. g.kept t (s.kept t h);
      only = λ t h. elim (g.only t h) [
        | inl was ↦ s.only t was
        | inr given ↦ inr (step_up var name others active0 active' later added head l moved n t stand given)
      ];
      passed = λ t given lt. elim (cases_lt (given.names var) from) [
        | inl before ↦ g.kept t (s.passed t given before)
        | inr past ↦
            (let low = least (given.names var) past (given_allowed var from others active0 later active head t l s.moved given past) in
            let is_name : given.names var ≡ name = omega arith in
            g.found t (step_down var name others active0 active' later added head l moved n t given is_name))
      ];
      some = either found b
          (λ e. let w = s.some e in (w.0, w.1, g.kept w.0 w.2))
          (λ e. let w = below e in (w.0, step_up var name others active0 active' later added head l moved n w.0 stand w.1, g.found w.0 w.1));
    }

pub Searched-all : (from var : ℕ) (others : List ℕ) (active0 later active : List Need) (head : List Term) (old now : Gathered) (found : Bool)
    → IsLevel var others active0 later head → Searched from var active0 later active head old now found → ((x : ℕ) → from ≤ x → All (Allows x) active → ⊥)
    → Gathers (IsGiven (active0 ++ later) head) old now
Searched-all from var others active0 later active head old now found l s none = record {
  valid = s.valid;
  limit = s.limit;
  width = s.width;
  kept = s.kept;
  found = λ t g. elim (cases_lt (g.names var) from) [
    | inl before ↦ s.passed t g before
    | inr past ↦ absurd (none (g.names var) past (given_allowed var from others active0 later active head t l s.moved g past))
  ];
  only = s.only;
}

-- behind the last variable of the head one match is all that is asked
pub Searched-closed : (from var : ℕ) (active0 later active : List Need) (head : List Term) (old now : Gathered)
    → Searched from var active0 later active head old now true → All IsName head → Gathers (IsGiven (active0 ++ later) head) old now
Searched-closed from var active0 later active head old now s closed =
    let one = s.some refl in
    record {
      valid = s.valid;
      limit = s.limit;
      width = s.width;
      kept = s.kept;
      found = λ t g. (let same : one.0 ≡ t = closed_tuple (active0 ++ later) head closed one.0 one.1 ∙ sym (closed_tuple (active0 ++ later) head closed t g) in
          rw (← same) one.2);
      only = s.only;
    }

pub over_more : (from name var : ℕ) (others : List ℕ) (active0 later active active' added : List Need) (head : List Term) (old mid : Gathered) (found : Bool)
    → IsLevel var others active0 later head → Searched from var active0 later active head old mid found → from ≤ name → AreMoved name active active'
    → All (Stands name name) active' → AreNarrowed name active' added
    → AreMoreThan mid.limit (λ t. Has mid t ⊎ IsGiven (later ++ added) (map (named var name) head) t)
    → AreMoreThan old.limit (λ t. Has old t ⊎ IsGiven (active0 ++ later) head t)
over_more from name var others active0 later active active' added head old mid found l s le mv stand n m =
    let moved = AreMoved-twice from name active0 active active' le s.moved mv in
    rw (← s.limit) (AreMoreThan-weaker mid.limit (λ t. Has mid t ⊎ IsGiven (later ++ added) (map (named var name) head) t) (λ t. Has old t ⊎ IsGiven (active0 ++ later) head t)
    (λ t h. elim h [
      | inl was ↦ s.only t was
      | inr given ↦ inr (step_up var name others active0 active' later added head l moved n t stand given)
    ]) m)

-- ---- the same, from what the code's steps tell

-- what the search below is given: the needs of later variables with those that are narrowed, and the named head
pub record IsEntered (name var : ℕ) (active later : List Need) (head : List Term) (needs : List Need) (named_head : List Term) : Type 0 where
  pub added : List Need
  pub needs_are : needs ≡ later ++ added
  pub head_is : named_head ≡ map (named var name) head
  pub narrowed : AreNarrowed name active added

pub entered : (name var kept : ℕ) (active later0 later later1 later2 needs : List Need) (head head' named_head : List Term) → take kept later ≡ later0 → later1 ≡ later
    → AddsNarrowed name active (take kept later1) later2 → head' ≡ map (named var name) head → needs ≡ later2 → named_head ≡ head'
    → IsEntered name var active later0 head needs named_head
entered name var kept active later0 later later1 later2 needs head head' named_head front same adds is_head is_needs is_named =
    let whole : take kept later1 ≡ later0 = ap (take kept) same ∙ front in
    record {
      added = adds.added;
      needs_are = is_needs ∙ (adds.is ∙ ap (λ xs. xs ++ adds.added) whole);
      head_is = is_named ∙ is_head;
      narrowed = adds.narrowed;
    }

-- the front of the later needs stays
pub front_stays : (name kept : ℕ) (active later0 later later1 later2 : List Need) → kept ≡ length later0 → take kept later ≡ later0 → later1 ≡ later
    → AddsNarrowed name active (take kept later1) later2 → take kept later2 ≡ later0
front_stays name kept active later0 later later1 later2 count front same adds =
    let whole : take kept later1 ≡ later0 = ap (take kept) same ∙ front in
    let is : later2 ≡ later0 ++ adds.added = adds.is ∙ ap (λ xs. xs ++ adds.added) whole in
    rw is (take_at later0 adds.added kept (sym count))

pub entered_ready : (name var from : ℕ) (others : List ℕ) (active0 later0 active active1 needs : List Need) (head named_head : List Term) → IsLevel var others active0 later0 head
    → AreMoved from active0 active → from ≤ name → AreMoved name active active1 → All (Stands name name) active1 → IsEntered name var active1 later0 head needs named_head
    → IsReady others needs named_head
entered_ready name var from others active0 later0 active active1 needs head named_head l m le mv stand e =
    rw (e.needs_are, e.head_is) (step_ready var name others active0 active1 later0 e.added head l (AreMoved-twice from name active0 active active1 le m mv) e.narrowed stand)

pub entered_more : (from name var : ℕ) (others : List ℕ) (active0 later0 active active1 active2 needs : List Need) (head named_head : List Term) (old mid now : Gathered) (found b : Bool)
    → IsLevel var others active0 later0 head → Searched from var active0 later0 active head old mid found → from ≤ name → AreMoved name active active1
    → All (Stands name name) active1 → ((x : ℕ) → from ≤ x → All (Allows x) active → name ≤ x) → active2 ≡ active1
    → IsEntered name var active1 later0 head needs named_head → Gathers (IsGiven needs named_head) mid now
    → (IsTrue b → (t : List ℕ) × IsGiven needs named_head t)
    → Searched (name + 1) var active0 later0 active2 head old now (found || b)
entered_more from name var others active0 later0 active active1 active2 needs head named_head old mid now found b l s le mv stand least same e g some =
    rw same (Searched-more from name var others active0 later0 active active1 e.added head old mid now found b l s le mv stand least e.narrowed
    (rw (e.needs_are, e.head_is) at g)
    (λ is. (let w = some is in (w.0, rw (e.needs_are, e.head_is) at w.1))))

pub entered_over : (from name var : ℕ) (others : List ℕ) (active0 later0 active active1 needs : List Need) (head named_head : List Term) (old mid : Gathered) (found : Bool)
    → IsLevel var others active0 later0 head → Searched from var active0 later0 active head old mid found → from ≤ name → AreMoved name active active1
    → All (Stands name name) active1 → IsEntered name var active1 later0 head needs named_head
    → AreMoreThan mid.limit (λ t. Has mid t ⊎ IsGiven needs named_head t) → AreMoreThan old.limit (λ t. Has old t ⊎ IsGiven (active0 ++ later0) head t)
entered_over from name var others active0 later0 active active1 needs head named_head old mid found l s le mv stand e m =
    over_more from name var others active0 later0 active active1 e.added head old mid found l s le mv stand e.narrowed (rw (e.needs_are, e.head_is) at m)

-- the search below a first variable, from that over its needs and the others
pub level_gathers : (v : ℕ) (needs : List Need) (head : List Term) (active later : List Need) (old new : Gathered) → active ≡ of_var v needs → later ≡ of_others v needs
    → Gathers (IsGiven (active ++ later) head) old new → Gathers (IsGiven needs head) old new
level_gathers v needs head active later old new is is' g =
    Gathers-same (IsGiven (of_var v needs ++ of_others v needs) head) (IsGiven needs head) old new (parts_given v needs head) (given_parts v needs head) (rw (is, is') at g)

pub level_over : (v limit : ℕ) (needs : List Need) (head : List Term) (active later : List Need) (old : Gathered) → active ≡ of_var v needs → later ≡ of_others v needs
    → AreMoreThan limit (λ t. Has old t ⊎ IsGiven (active ++ later) head t) → AreMoreThan limit (λ t. Has old t ⊎ IsGiven needs head t)
level_over v limit needs head active later old is is' m =
    AreMoreThan-weaker limit (λ t. Has old t ⊎ IsGiven (of_var v needs ++ of_others v needs) head t) (λ t. Has old t ⊎ IsGiven needs head t)
    (λ t h. elim h [ inl was ↦ inl was | inr given ↦ inr (parts_given v needs head t given) ]) (rw (is, is') at m)
