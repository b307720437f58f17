-- Numbers beside places and names: the table that is filled in number order, and from it the numbers of the names.
use Rattle.std.proofs.Common.{◌≡◌, ℕ, ◌+◌, ◌-◌, ◌<◌, ◌≤◌, inl, inr, List, map, set, length, length-set, get_or, get_or-set_same, get_or-set_other, Some, Ok, Err, sym, ap, subst, ◌∙◌, arith}
use Rattle.std.specs.List.{All, Contains}
use Rattle.std.specs.Ordering.{nat_cmp}
use Rattle.std.specs.List.Sorted.{IsStrictlyIncreasing, IsBinarySearchResult}
use Rattle.std.proofs.lemmas.Bool.{cases_lt, cases_eq}
use Rattle.std.proofs.lemmas.List.{get_or_default, get_or-map, length-map}
use Rattle.std.proofs.lemmas.List.Elements.{Contains-get_or}
use Rattle.std.proofs.lemmas.List.Sorted.{searched}
use Rattle.std.proofs.lemmas.Option.{slice_get-get_or, slice_get_within, get_or_from_slice_get}
use Rattle.dl_reach.specs.Digraph.{Digraph, max_nodes}
use Rattle.dl_numbers.specs.Numbers.{HasNumber, IsBelow}
use Rattle.dl_numbers.specs.DepthFirst.{IsDepthFirst}
use Rattle.dl_numbers.specs.Places.{places, Reaches}
use Rattle.dl_numbers.specs.Beside.{AreAtPlaces, AreBeside}
use Rattle.dl_numbers.proofs.NumberLemmas.{number_at, rises}
use Rattle.dl_numbers.proofs.RunLemmas.{number_of}
use Rattle.dl_numbers.proofs.PlaceLemmas.{in_places}
use Rattle.dl_numbers.proofs.GrowLemmas.{places_numbered, order_count}
use Rattle.dl_numbers.proofs.NameLemmas.{depth_first_names}
use Rattle.dl_numbers.proofs.LawLemmas.{numbered_each}

-- ---- the table of places

-- the numbers of the first so many places are in the table
pub record AreFilled (found : List ℕ) (i : ℕ) (numbers : List ℕ) : Type 0 where
  pub count : length numbers ≡ length found
  pub each : (k : ℕ) → k < i → HasNumber found (get_or found k 0) (get_or numbers (get_or found k 0) 0)

pub filled_more : (found : List ℕ) (i : ℕ) (numbers : List ℕ) (place : ℕ) → i < length found → get_or found i 0 ≡ place → place < length found
    → AreFilled found i numbers → AreFilled found (i + 1) (set numbers place (i + 1))
filled_more found i numbers place within here h are = record {
  count = let e = are.count in omega (arith, e, length-set numbers place (i + 1));
  each = λ k less. elim (cases_eq (get_or found k 0) place) [
    | inl same ↦ subst (λ x. HasNumber found x (get_or (set numbers place (i + 1)) x 0)) (sym same)
        (subst (HasNumber found place) (sym (get_or-set_same numbers place (i + 1) 0 (let e = are.count in omega (arith, e, h)))) (number_at found i place within here))
    | inr other ↦ subst (HasNumber found (get_or found k 0)) (sym (get_or-set_other numbers place (get_or found k 0) (i + 1) 0 other))
        (are.each k (before k less other))
  ];
}
  where
    before : (k : ℕ) → k < i + 1 → (get_or found k 0 ≡ place → ⊥) → k < i
    before k less other = elim (cases_lt k i) [
      | inl lt ↦ lt
      | inr le ↦ let e : k ≡ i = omega (arith, less, le) in absurd (other (ap (λ j. get_or found j 0) e ∙ here))
    ]

pub filled_all : (found : List ℕ) (i : ℕ) (numbers : List ℕ) → length found ≤ i → AreFilled found i numbers → AreAtPlaces found numbers
filled_all found i numbers all are = record {
  count = are.count;
  each = λ place c.
      let here : get_or found c.0 0 ≡ place = get_or_default found c.0 0 place c.1 ∙ c.2 in
      subst (λ x. HasNumber found x (get_or numbers x 0)) here (are.each c.0 (let h = c.1 in omega (arith, h, all)));
}

-- ---- from places to names

pub all_within : (order : Digraph) (found : List ℕ) → IsDepthFirst (places order.nodes) (Reaches order) found → All (λ place. place < order.nodes) found
all_within order found is k d h =
    let has = number_of found (get_or found k d) (Contains-get_or found k d h) in
    (in_places order.nodes (get_or found k d)).0 ((places_numbered order found is).only (get_or found k d) has.0 has.1)

module _ (names : List ℕ) (up : IsStrictlyIncreasing names) (order : Digraph) (long : length names ≡ order.nodes) (few : order.nodes ≤ max_nodes)
    (found : List ℕ) (is : IsDepthFirst (places order.nodes) (Reaches order) found) where
  abbrev numbered : List ℕ
  numbered = map (λ place. get_or names place 0) found

  by_names : IsDepthFirst names (IsBelow names order) numbered
  by_names = depth_first_names names up order long found is

  named : (place number : ℕ) → HasNumber found place number → HasNumber numbered (get_or names place 0) number
  named place number has = record {
    from_one = has.from_one;
    is = (let within = slice_get_within found (number - 1) place has.is in
        slice_get-get_or numbered (number - 1) 0 (subst (λ n. number - 1 < n) (sym (length-map found (λ k. get_or names k 0))) within)
        ∙ ap Some (get_or-map (λ k. get_or names k 0) found (number - 1) 0 0 within ∙ ap (λ k. get_or names k 0) (get_or_from_slice_get found (number - 1) place 0 has.is)));
  }

  pub found_beside : (numbers : List ℕ) → AreAtPlaces found numbers → AreBeside names numbers numbered
  found_beside numbers at =
      let of_places = places_numbered order found is in
      let of_names = numbered_each names up order numbered by_names in record {
        ascending = up;
        few = let c = of_names.count in omega (arith, c, long, few);
        count = let c = order_count order found is in let a = at.count in omega (arith, c, a, long);
        each = λ place h.
            let in_it = (in_places order.nodes place).1 (omega (arith, h, long)) in
            let has = of_places.each place in_it in
            named place (get_or numbers place 0) (at.each place (has.0 - 1, slice_get_within found (has.0 - 1) place has.1.is, get_or_from_slice_get found (has.0 - 1) place place has.1.is));
        are = of_names;
      }

  -- the same where lists are lent and kept anew
  pub built_beside : (one two kept numbers numbered' : List ℕ) → one ≡ found → two ≡ found → kept ≡ names → AreAtPlaces two numbers
      → numbered' ≡ map (λ place. get_or names place 0) one → AreBeside kept numbers numbered'
  built_beside one two kept numbers numbered' s t k at e =
      subst (λ xs. AreBeside xs numbers numbered') (sym k)
      (subst (AreBeside names numbers) (sym (e ∙ ap (map (λ place. get_or names place 0)) s))
      (found_beside numbers (subst (λ xs. AreAtPlaces xs numbers) t at)))

  pub built_numbered : (one numbered' : List ℕ) → one ≡ found → numbered' ≡ map (λ place. get_or names place 0) one → IsDepthFirst names (IsBelow names order) numbered'
  built_numbered one numbered' s e = subst (IsDepthFirst names (IsBelow names order)) (sym (e ∙ ap (map (λ place. get_or names place 0)) s)) by_names

-- ---- the search

module _ (names numbers numbered : List ℕ) (are : AreBeside names numbers numbered) (name : ℕ) where
  pub beside_found : (place : ℕ) → IsBinarySearchResult (λ y. nat_cmp y name) names (Ok place) → HasNumber numbered name (get_or numbers place 0)
  beside_found place found =
      let w = searched names name (Ok place) found (rises names are.ascending) in
      subst (λ x. HasNumber numbered x (get_or numbers place 0)) w.1 (are.each place w.0)

  pub beside_none : (place : ℕ) → IsBinarySearchResult (λ y. nat_cmp y name) names (Err place) → Contains numbered name → ⊥
  beside_none place found c = missing (are.are.only name (number_of numbered name c).0 (number_of numbered name c).1)
    where
      missing : Contains names name → ⊥
      missing d =
          let w = searched names name (Err place) found (rises names are.ascending) in
          let here = get_or_default names d.0 0 name d.1 ∙ d.2 in
          elim (cases_lt d.0 place) [
            | inl lt ↦ let b = w.1 d.0 lt in omega (arith, here, b)
            | inr le ↦ let b = w.2 d.0 le d.1 in omega (arith, here, b)
          ]

  pub number_few : (number : ℕ) → HasNumber numbered name number → number ≤ max_nodes
  number_few number has = let within = slice_get_within numbered (number - 1) name has.is in let few = are.few in omega (arith, within, few)
