-- How entries of texts and their places give names in order and ranks.
use Rattle.std.proofs.Common.{◌≡◌, ◌≢◌, ℕ, ◌+◌, ◌++◌, ◌<◌, ◌≤◌, ◌⊎◌, true, false, All, Contains, nat_eq, length, map, get_or, slice_index, slice_set, slice_get, List, [], ◌∷◌, take, drop, Some, String, Global, string_bytes, AllPairs, refl, sym, ap, subst, inl, inr, ◌∙◌, true≢false, arith, rules}
use borrow.Author.Tests.{eqb-true}
use Rattle.std.specs.declared.cmp.Ordering.{Ordering}
use Rattle.std.specs.declared.cmp.Ordering.TheVariants.{Less, Equal, Greater}
use Rattle.std.specs.List.{IsDistinct}
use Rattle.std.specs.Option.{option_map}
use Rattle.std.specs.Ordering.{nat_cmp, ordering_then, is_lt}
use Rattle.std.specs.List.Sorted.{IsPermutation, IsSorted}
use Rattle.std.proofs.lemmas.Bool.{cases_lt, false_from_ne_true}
use Rattle.std.proofs.lemmas.Cmp.{nat_eq_equiv, nat_list_cmp_total}
use Rattle.std.proofs.lemmas.List.{length-map, length_push, length-take-le, take_more, map-append, get_or_push, get_or_append_left, get_or-drop, get_or-map, get_or-set_same, get_or-set_other}
use Rattle.std.proofs.lemmas.List.Elements.{All-push}
use Rattle.std.proofs.lemmas.List.Sorted.{All-permutation, Contains-permutation, IsPermutation-map, length_permutation}
use Rattle.std.proofs.lemmas.Map.Keys.{IsDistinct-from_apart, IsDistinct-IsPermutation, apart_from_distinct, Less-from_sorted, sorted_from_all_adjacent}
use Rattle.std.proofs.lemmas.Option.{get_or_from_slice_get, slice_get_within, slice_get-get_or, slice_get-map, slice_get_cases}
use Rattle.dl_names.specs.NameList.{Text, has_name, place_of, HasNoRepeats}
use Rattle.dl_names.specs.Frozen.{text_cmp, IsBefore, IsAscending, IsFrozen}
use Rattle.dl_names.specs.Arrange.{Entry, IsFronted, AreAlike, ArePlaced}
use Rattle.dl_names.proofs.FrontLemmas.{front-before, cmp-behind, take-fewer}
use Rattle.dl_names.proofs.NameListLemmas.{same_test, same_place, place_of-lt, slice_get-place_of, has_name-slice_get}
use Rattle.dl_names.proofs.FrozenLemmas.{IsBefore_cases}

-- what a read behind the end gives
abbrev pub blank : Entry
blank = (0, record { ref_ptr = (0, 0); now = [] }, 0)

-- no two entries have one place
abbrev pub HasDistinctPlaces : List Entry → Type 0
HasDistinctPlaces entries = AllPairs (λ one two. one.2 ≢ two.2) entries

-- the ranks of the places of the first entries are their indices
abbrev pub RanksFirst : List Entry → List ℕ → ℕ → Type 0
RanksFirst entries ranks count = (k : ℕ) (d : Entry) → k < count → slice_index ranks (get_or entries k d).2 ≡ k

-- one more rank is written
pub RanksFirst-more : (entries : List Entry) (ranks : List ℕ) (rank : ℕ) (entry : Entry) → HasDistinctPlaces entries → slice_get entries rank ≡ Some entry → entry.2 < length ranks
    → RanksFirst entries ranks rank → RanksFirst entries (slice_set ranks entry.2 rank) (rank + 1)
RanksFirst-more entries ranks rank entry distinct at within before k d lt =
    let here : (get_or entries rank d).2 ≡ entry.2 = ap (λ p. p.2) (get_or_from_slice_get entries rank entry d at) in
    elim (cases_lt k rank) [
      | inl earlier ↦
          let other : (get_or entries k d).2 ≢ entry.2 = λ e. distinct k rank d earlier (slice_get_within entries rank entry at) (e ∙ sym here) in
          get_or-set_other ranks entry.2 (get_or entries k d).2 rank 0 other ∙ before k d earlier
      | inr later ↦
          let e : k ≡ rank = omega (arith, lt, later) in
          ap (λ place. slice_index (slice_set ranks entry.2 rank) place) (ap (λ m. (get_or entries m d).2) e ∙ here) ∙ get_or-set_same ranks entry.2 rank 0 within ∙ sym e
    ]

-- ---- how far texts are alike

-- one more text, with which fewer bytes are alike
pub alike-more : (strings : List (String Global)) (k : ℕ) (string : String Global) (first : Text) (old new : ℕ) → slice_get strings k ≡ Some string → new ≤ old
    → take new first ≡ take new (string_bytes string) → All (λ s. take old (string_bytes s) ≡ take old first) (take k strings)
    → All (λ s. take new (string_bytes s) ≡ take new first) (take (k + 1) strings)
alike-more strings k string first old new at fewer here before =
    let k_in = slice_get_within strings k string at in
    let longer : take (k + 1) strings ≡ take k strings ++ string ∷ [] = take_more strings k string k_in ∙ ap (λ x. take k strings ++ x ∷ []) (get_or_from_slice_get strings k string string at) in
    subst (All (λ s. take new (string_bytes s) ≡ take new first)) (sym longer)
    (All-push (λ s. take new (string_bytes s) ≡ take new first) (take k strings) string (λ i d within. take-fewer new old _ _ fewer (before i d within)) (sym here))

-- ---- the entries of a set

-- one more entry
pub ArePlaced-push : (skip : ℕ) (strings : List (String Global)) (entries : List Entry) (k : ℕ) (string : String Global) (entry : Entry) → slice_get strings k ≡ Some string
    → IsFronted skip entry → entry.1.now ≡ string_bytes string → entry.2 ≡ k → ArePlaced skip (take k strings) entries → ArePlaced skip (take (k + 1) strings) (entries ++ entry ∷ [])
ArePlaced-push skip strings entries k string entry at fronted shown placed before =
    let k_in = slice_get_within strings k string at in
    let longer : take (k + 1) strings ≡ take k strings ++ string ∷ [] = take_more strings k string k_in ∙ ap (λ x. take k strings ++ x ∷ []) (get_or_from_slice_get strings k string string at) in
    let as_many : length entries ≡ k = before.as_many ∙ length-take-le k strings (omega (arith, k_in)) in
    subst (λ l. ArePlaced skip l (entries ++ entry ∷ [])) (sym longer) (record {
      as_many = omega (arith, length_push entries entry, length_push (take k strings) string, before.as_many);
      shown = map-append (λ (e : Entry). e.1.now) entries (entry ∷ []) ∙ (λ t. before.shown t ++ shown t ∷ []) ∙ sym (map-append string_bytes (take k strings) (string ∷ []));
      places = λ i d within. elim (cases_lt i (length entries)) [
        | inl earlier ↦ ap (λ e. e.2) (get_or_append_left entries (entry ∷ []) d i earlier) ∙ before.places i d earlier
        | inr later ↦
            let here : length entries ≡ i = omega (arith, later, within, length_push entries entry) in
            ap (λ e. e.2) (get_or_push entries entry d i here) ∙ placed ∙ sym as_many ∙ here
      ];
      fronted = All-push (IsFronted skip) entries entry before.fronted fronted;
    })

-- the entries, in whatever order: one for each place of the set, with its text
pub record AreEntriesOf (set : List Text) (entries : List Entry) : Type 0 where
  pub as_many : length entries ≡ length set
  pub told : All (λ entry. slice_get set entry.2 ≡ Some entry.1.now) entries
  pub apart : IsDistinct nat_eq (map (λ entry. entry.2) entries)
  pub each : (place : ℕ) → place < length set → Contains (map (λ entry. entry.2) entries) place
  pub skip : ℕ
  pub start : Text
  pub fronted : All (IsFronted skip) entries
  pub starts : All (λ entry. take skip entry.1.now ≡ start) entries

-- the texts of the entries, in their order
abbrev pub texts_in : List Entry → List Text
texts_in entries = map (λ entry. entry.1.now) entries

module _ (strings : List (String Global)) (entries : List Entry) (skip : ℕ) (alike : AreAlike skip strings) (placed : ArePlaced skip strings entries) where
  place_at : (k d : ℕ) → (e : Entry) → k < length entries → get_or (map (λ entry. entry.2) entries) k d ≡ k
  place_at k d e within = get_or-map (λ entry. entry.2) entries k e d within ∙ placed.places k e within

  -- placed strings are entries of their texts
  pub AreEntriesOf-placed : AreEntriesOf (map string_bytes strings) entries
  AreEntriesOf-placed = record {
    as_many = placed.as_many ∙ sym (length-map strings string_bytes);
    told = λ k d within.
        let text = slice_get-get_or entries k d within in
        subst (λ place. slice_get (map string_bytes strings) place ≡ Some (get_or entries k d).1.now) (sym (placed.places k d within))
        (ap (λ l. slice_get l k) (sym placed.shown) ∙ slice_get-map (λ (entry : Entry). entry.1.now) entries k ∙ ap (option_map (λ entry. entry.1.now)) text);
    apart = IsDistinct-from_apart nat_eq (map (λ entry. entry.2) entries) (λ i j d lt within.
        let j_in : j < length entries = omega (arith, length-map entries (λ entry. entry.2), within) in
        let e = entry_in j j_in in
        (λ t. nat_eq (place_at i d e (omega arith) t) (place_at j d e j_in t)) ∙ false_from_ne_true (nat_eq i j) (λ same. omega (arith, eqb-true i j same, lt)));
    each = λ place within.
        let here : place < length entries = omega (arith, placed.as_many, length-map strings string_bytes, within) in
        (place, omega (arith, length-map entries (λ entry. entry.2), here), place_at place place (entry_in place here) here);
    skip = skip;
    start = alike.0;
    fronted = placed.fronted;
    starts = λ k d within.
        let k_in : k < length strings = omega (arith, placed.as_many, within) in
        let here = slice_get_cases strings k in
        elim here.1 [
          | inl at ↦
              let one = get_or-map (λ (entry : Entry). entry.1.now) entries k d [] within in
              let other = get_or-map string_bytes strings k at.0 [] k_in in
              let same : (get_or entries k d).1.now ≡ string_bytes (get_or strings k at.0) = sym one ∙ ap (λ l. get_or l k []) placed.shown ∙ other in
              ap (take skip) same ∙ alike.1 k at.0 k_in
          | inr past ↦ absurd (omega (arith, past.0, k_in))
        ];
  }
    where
      entry_in : (k : ℕ) → k < length entries → Entry
      entry_in k within = elim (slice_get_cases entries k).1 [ inl at ↦ at.0 | inr past ↦ absurd (omega (arith, past.0, within)) ]

-- another order of the entries
pub AreEntriesOf-IsPermutation : (set : List Text) (entries other : List Entry) → IsPermutation entries other → AreEntriesOf set entries → AreEntriesOf set other
AreEntriesOf-IsPermutation set entries other moved of = record {
  as_many = length_permutation entries other moved ∙ of.as_many;
  told = All-permutation (λ entry. slice_get set entry.2 ≡ Some (entry.1.now)) entries other moved of.told;
  apart = IsDistinct-IsPermutation nat_eq nat_eq_equiv.symm _ _ (IsPermutation-map (λ entry. entry.2) entries other moved) of.apart;
  each = λ place within. Contains-permutation _ _ place (IsPermutation-map (λ entry. entry.2) entries other moved) (of.each place within);
  skip = of.skip;
  start = of.start;
  fronted = All-permutation (IsFronted of.skip) entries other moved of.fronted;
  starts = All-permutation (λ entry. take of.skip entry.1.now ≡ of.start) entries other moved of.starts;
}

-- entries in order: by the numbers of their fronts, then by their texts, then by their places
abbrev pub entry_cmp : Entry → Entry → Ordering
entry_cmp x y = ordering_then (ordering_then (nat_cmp x.0 y.0) (text_cmp x.1.now y.1.now)) (nat_cmp x.2 y.2)

-- an entry of an earlier text has no greater number, where both begin alike as far as is skipped
number-before : (skip : ℕ) (p q : Entry) → IsFronted skip p → IsFronted skip q → take skip p.1.now ≡ take skip q.1.now → IsBefore p.1.now q.1.now → p.0 ≤ q.0
number-before skip p q p_fronted q_fronted alike before =
    let behind = sym (cmp-behind skip p.1.now q.1.now alike) ∙ before in
    let bytes : (i : ℕ) → get_or (drop skip p.1.now) i 0 < 256 = λ i. subst (λ b. b < 256) (sym (get_or-drop skip p.1.now i 0)) (p_fronted.bytes (skip + i)) in
    omega (arith, front-before (drop skip p.1.now) (drop skip q.1.now) bytes behind, p_fronted.number, q_fronted.number)

-- an entry whose text differs from that of the entry that is sorted after it has the text before it
before_next : (skip : ℕ) (p q : Entry) → IsFronted skip p → IsFronted skip q → take skip p.1.now ≡ take skip q.1.now → (p.1.now ≡ q.1.now → ⊥) → is_lt (entry_cmp q p) ≡ false → IsBefore p.1.now q.1.now
before_next skip p q p_fronted q_fronted alike differ in_order = by (IsBefore_cases p.1.now q.1.now)
  where
    no_after : IsBefore q.1.now p.1.now → (o : Ordering) → nat_cmp q.0 p.0 ≡ o → ⊥
    no_after after Less e = true≢false (sym (ap (λ o. is_lt (ordering_then (ordering_then o (text_cmp q.1.now p.1.now)) (nat_cmp q.2 p.2))) e) ∙ in_order)
    no_after after Equal e = true≢false (sym ((λ t. is_lt (ordering_then (ordering_then (e t) (after t)) (nat_cmp q.2 p.2)))) ∙ in_order)
    no_after after Greater e =
        let more : p.0 < q.0 = search (rules, e) in
        omega (arith, more, number-before skip q p q_fronted p_fronted (sym alike) after)

    by : IsBefore p.1.now q.1.now ⊎ ((p.1.now ≡ q.1.now) ⊎ IsBefore q.1.now p.1.now) → IsBefore p.1.now q.1.now
    by (inl before) = before
    by (inr (inl same)) = absurd (differ same)
    by (inr (inr after)) = absurd (no_after after (nat_cmp q.0 p.0) refl)

-- ---- the names that the entries give

module _ (set : List Text) (distinct : HasNoRepeats set) (entries : List Entry) (of : AreEntriesOf set entries) where
  length_texts_in : length (texts_in entries) ≡ length entries
  length_texts_in = length-map entries (λ entry. entry.1.now)

  -- the entry at an index has the text of the name there
  name_at : (k : ℕ) (entry : Entry) → slice_get entries k ≡ Some entry → slice_get (texts_in entries) k ≡ Some entry.1.now
  name_at k entry at = slice_get-map (λ (e : Entry). e.1.now) entries k ∙ ap (option_map (λ e. e.1.now)) at

  -- and of the place in it
  set_at : (k : ℕ) (entry : Entry) → slice_get entries k ≡ Some entry → slice_get set entry.2 ≡ Some (entry.1.now)
  set_at k entry at =
      subst (λ p. slice_get set p.2 ≡ Some p.1.now) (get_or_from_slice_get entries k entry entry at) (of.told k entry (slice_get_within entries k entry at))

  -- a entry stands at each index
  entry_at : (k : ℕ) → k < length entries → (entry : Entry) × (slice_get entries k ≡ Some entry)
  entry_at k within =
      elim (slice_get_cases entries k).1 [ inl at ↦ (at.0, at.2) | inr past ↦ absurd (omega (arith, past.0, within)) ]

  -- a entry has each place
  at_place : (place : ℕ) → place < length set → (k : ℕ) × (entry : Entry) × (slice_get entries k ≡ Some entry) × (entry.2 ≡ place)
  at_place place within =
      let stands = of.each place within in
      let k_in : stands.0 < length entries = omega (arith, length-map entries (λ entry. entry.2), stands.1) in
      let here = entry_at stands.0 k_in in (
        stands.0,
        here.0,
        here.1,
        ap (λ entry. entry.2) (sym (get_or_from_slice_get entries stands.0 here.0 here.0 here.1)) ∙ sym (get_or-map (λ entry. entry.2) entries stands.0 here.0 place k_in) ∙ stands.2,
      )

  pub within_set : All (λ entry. entry.2 < length entries) entries
  within_set k d k_in = omega (arith, of.as_many, slice_get_within set _ _ (of.told k d k_in))

  pub distinct_places : HasDistinctPlaces entries
  distinct_places i j d lt within same =
      let j_in : j < length (map (λ entry. entry.2) entries) = omega (arith, length-map entries (λ entry. entry.2), within) in
      let apart = apart_from_distinct nat_eq (map (λ entry. entry.2) entries) i j d.2 of.apart lt j_in in
      let one = get_or-map (λ entry. entry.2) entries i d d.2 (omega (arith, lt, within)) in
      let other = get_or-map (λ entry. entry.2) entries j d d.2 within in
      true≢false (sym (nat_eq_equiv.refl (get_or entries j d).2) ∙ (λ t. nat_eq (sym (one ∙ same) t) (sym other t)) ∙ apart)

  no_repeats : HasNoRepeats (texts_in entries)
  no_repeats i j d lt within same =
      let j_in : j < length entries = omega (arith, length_texts_in, within) in
      let one = entry_at i (omega (arith, lt, j_in)) in
      let other = entry_at j j_in in
      let p = one.0 in
      let q = other.0 in
      let bytes : p.1.now ≡ q.1.now =
      sym (get_or_from_slice_get (texts_in entries) i _ d (name_at i p one.1)) ∙ same ∙ get_or_from_slice_get (texts_in entries) j _ d (name_at j q other.1) in
      let here = set_at i p one.1 in
      let there = set_at j q other.1 in
      let places : p.2 ≡ q.2 =
      same_place set distinct p.2 q.2 d (slice_get_within set p.2 _ here) (slice_get_within set q.2 _ there)
      (get_or_from_slice_get set p.2 _ d here ∙ bytes ∙ sym (get_or_from_slice_get set q.2 _ d there)) in
      distinct_places i j p lt j_in
      (ap (λ entry. entry.2) (get_or_from_slice_get entries i p p one.1) ∙ places ∙ sym (ap (λ entry. entry.2) (get_or_from_slice_get entries j q p other.1)))

  -- sorted entries give names in byte order
  pub ascending : IsSorted entry_cmp entries → IsAscending (texts_in entries)
  ascending sorted i j d lt within =
      Less-from_sorted text_cmp (texts_in entries) i j d (sorted_from_all_adjacent nat_list_cmp_total (texts_in entries) d next) lt within
    where
      next : (k : ℕ) → k + 1 < length (texts_in entries) → text_cmp (get_or (texts_in entries) k d) (get_or (texts_in entries) (k + 1) d) ≡ Less
      next k k_in =
          let next_in : k + 1 < length entries = omega (arith, length_texts_in, k_in) in
          let one = entry_at k (omega (arith, next_in)) in
          let other = entry_at (k + 1) next_in in
          let p = one.0 in
          let q = other.0 in
          let here = get_or_from_slice_get (texts_in entries) k _ d (name_at k p one.1) in
          let there = get_or_from_slice_get (texts_in entries) (k + 1) _ d (name_at (k + 1) q other.1) in
          let at_p = get_or_from_slice_get entries k p p one.1 in
          let at_q = get_or_from_slice_get entries (k + 1) q p other.1 in
          let in_order : is_lt (entry_cmp q p) ≡ false = (λ t. is_lt (entry_cmp (sym at_q t) (sym at_p t))) ∙ sorted k p (omega arith) next_in in
          let p_fronted = subst (IsFronted of.skip) at_p (of.fronted k p (omega arith)) in
          let q_fronted = subst (IsFronted of.skip) at_q (of.fronted (k + 1) p next_in) in
          let starts = λ (entry : Entry). take of.skip entry.1.now ≡ of.start in
          let alike = subst starts at_p (of.starts k p (omega arith)) ∙ sym (subst starts at_q (of.starts (k + 1) p next_in)) in
          (λ t. text_cmp (here t) (there t)) ∙ before_next of.skip p q p_fronted q_fronted alike (λ same. no_repeats k (k + 1) d (omega arith) k_in (here ∙ same ∙ sym there)) in_order

  pub members : (text : Text) → has_name (texts_in entries) text ≡ has_name set text
  members text = same_test (has_name (texts_in entries) text) (has_name set text) in_set in_names
    where
      in_set : has_name (texts_in entries) text ≡ true → has_name set text ≡ true
      in_set named =
          let k = place_of (texts_in entries) text in
          let at = slice_get-place_of (texts_in entries) text named in
          let here = entry_at k (omega (arith, length_texts_in, place_of-lt (texts_in entries) text named)) in
          let entry = here.0 in
          has_name-slice_get set text entry.2 (set_at k entry here.1 ∙ sym (name_at k entry here.1) ∙ at)

      in_names : has_name set text ≡ true → has_name (texts_in entries) text ≡ true
      in_names named =
          let here = at_place (place_of set text) (place_of-lt set text named) in
          let k = here.0 in
          let entry = here.1 in
          has_name-slice_get (texts_in entries) text k (name_at k entry here.2 ∙ sym (set_at k entry here.2) ∙ ap (slice_get set) here.3 ∙ slice_get-place_of set text named)

  pub ranked : (ranks : List ℕ) → RanksFirst entries ranks (length entries) → (place : ℕ) → place < length set → slice_get (texts_in entries) (slice_index ranks place) ≡ slice_get set place
  ranked ranks first place within =
      let here = at_place place within in
      let k = here.0 in
      let entry = here.1 in
      let rank : slice_index ranks place ≡ k =
      ap (slice_index ranks) (sym (ap (λ p. p.2) (get_or_from_slice_get entries k entry entry here.2) ∙ here.3)) ∙ first k entry (slice_get_within entries k entry here.2) in
      ap (slice_get (texts_in entries)) rank ∙ name_at k entry here.2 ∙ sym (set_at k entry here.2) ∙ ap (slice_get set) here.3

  -- sorted entries and their ranks are the frozen set
  pub IsFrozen-sorted : IsSorted entry_cmp entries
      → (ranks : List ℕ) → length ranks ≡ length entries → RanksFirst entries ranks (length entries) → IsFrozen set (texts_in entries) ranks
  IsFrozen-sorted sorted ranks as_long first = record {
    distinct = distinct;
    members = members;
    as_many = length_texts_in ∙ of.as_many;
    ascending = ascending sorted;
    one_each = as_long ∙ of.as_many;
    ranked = ranked ranks first;
  }
