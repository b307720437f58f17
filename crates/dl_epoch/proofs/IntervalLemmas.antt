-- The intervals of the numbers below one name: where these numbers are one run, they are one interval.
use Rattle.std.proofs.Common.{◌≡◌, ℕ, ◌+◌, ◌-◌, ◌<◌, ◌≤◌, ◌↔◌, List, [], ◌∷◌, length, get_or, sym, ap, subst, arith}
use Rattle.std.specs.List.{Contains}
use Rattle.std.proofs.lemmas.List.Elements.{All-nil, All-cons}
use Rattle.std.proofs.lemmas.Option.{slice_get-get_or, slice_get_within}
use Rattle.dl_terms.proofs.MemberLemmas.{Contains-first, Contains-one}
use Rattle.dl_hier.specs.Below.{AreThose}
use Rattle.dl_hier.proofs.QueryLemmas.{Any-of, Any-member}
use Rattle.dl_intervals.specs.Intervals.{Interval, IsWithin, Holds, IsIntervalList}
use Rattle.dl_intervals.proofs.Laws.{one_list}
use Rattle.dl_numbers.specs.Numbers.{HasNumber}
use Rattle.dl_numbers.specs.Runs.{AreNumbered, HasOneInterval}
use Rattle.dl_epoch.specs.Translating.{IsNumberOf, AreNumbersOf}

one_interval_list : (i : Interval) → i.0 ≤ i.1 → IsIntervalList (i ∷ [])
one_interval_list i le = record {
  inhabited = All-cons (λ j. j.0 ≤ j.1) i [] le (All-nil (λ j. j.0 ≤ j.1));
  apart = λ a b d lt within. absurd (omega (arith, lt, within));
}

module _ (names numbered : List ℕ) (are : AreNumbered names numbered) (Below : ℕ → ℕ → Type 0) (name : ℕ) (named : Contains names name)
    (same : Below name name) (members : List ℕ) (those : AreThose names (λ a. Below a name) members)
    (interval : HasOneInterval numbered (λ a. Below a name)) where
  -- the part of the interval where there are numbers
  first : ℕ
  first = 1 + (interval.first - 1)

  last : ℕ
  last = interval.last - (interval.last - length numbered)

  within : (a m : ℕ) → HasNumber numbered a m → (1 ≤ m) × (m ≤ length numbered)
  within a m has = let lt = slice_get_within numbered (m - 1) a has.is in let one = has.from_one in (one, omega (arith, lt, one))

  inhabited : first ≤ last
  unfolding first last
  inhabited =
      let n = are.each name named in
      let is = (interval.exact name n.0 n.1).0 same in
      let from = is.0 in
      let to = is.1 in
      let at = within name n.0 n.1 in
      let one = at.0 in
      let most = at.1 in
      omega (arith, from, to, one, most)

  numbers : (m : ℕ) → IsNumberOf numbered members m ↔ Holds ((first, last) ∷ []) m
  unfolding first last
  numbers m = (
    λ is.
        let between = (interval.exact is.name m is.has).0 ((those.exact is.name).0 is.member).1 in
        let from = between.0 in
        let to = between.1 in
        let at = within is.name m is.has in
        let one = at.0 in
        let most = at.1 in
        Any-of (IsWithin m) ((first, last) ∷ []) (first, last) (Contains-first (first, last) []) (omega (arith, from, to, one, most), omega (arith, from, to, one, most)),
    λ h.
        let i = Any-member (IsWithin m) ((first, last) ∷ []) h in
        let here : IsWithin m (first, last) = subst (IsWithin m) (sym (Contains-one (first, last) i.0 i.1)) i.2 in
        let from = here.0 in
        let to = here.1 in
        let lt : m - 1 < length numbered = omega (arith, from, to) in
        let has : HasNumber numbered (get_or numbered (m - 1) 0) m = record { from_one = omega (arith, from); is = slice_get-get_or numbered (m - 1) 0 lt } in
        record {
          name = get_or numbered (m - 1) 0;
          member = (those.exact (get_or numbered (m - 1) 0)).1
              (are.only (get_or numbered (m - 1) 0) m has, (interval.exact (get_or numbered (m - 1) 0) m has).1 (omega (arith, from, to), omega (arith, from, to)));
          has = has;
        },
  )

  pub one_range : (ranges : List Interval) → AreNumbersOf numbered members ranges → length ranges ≡ 1
  one_range ranges is =
      ap length (one_list ranges ((first, last) ∷ []) is.sorted (one_interval_list (first, last) inhabited)
      (λ m. ((λ h. (numbers m).0 ((is.exact m).0 h)), (λ h. (is.exact m).1 ((numbers m).1 h)))))
