-- How an interval list grows by one interval, and how two lists are merged.
use Rattle.std.proofs.Common.{◌≡◌, ◌≢◌, ℕ, ◌+◌, ◌-◌, ◌<◌, ◌≤◌, ◌^◌, max, ◌⊎◌, ◌↔◌, inl, inr, List, [], ◌∷◌, ◌++◌, take, length, get_or, set, refl, sym, ap, ◌∙◌, subst, arith}
use Rattle.std.proofs.lemmas.List.{get_or-set_same, get_or-set_other, get_or_default, length-set, get_or_append_left, get_or_push, length_push, take_more, take_all}
use Rattle.std.specs.List.{Any, AllPairs, Contains}
use Rattle.std.specs.List.Sorted.{IsStrictlyIncreasing}
use Rattle.std.proofs.lemmas.Bool.{cases_lt, cases_eq}
use Rattle.std.proofs.lemmas.List.Elements.{All-push, All-set, All-weaker, All-nil, Contains-append_left, Contains-push, Contains-push_cases}
use Rattle.std.proofs.lemmas.List.Quantifiers.{all_pairs_push}
use Rattle.dl_intervals.specs.Intervals.{Interval, IsWithin, Holds, IsIntervalList, EndBelow}
use Rattle.dl_intervals.specs.Growing.{BeginBy, Adds, Merges, IsNext}
use Rattle.dl_intervals.proofs.Lists.{Any-nil}

-- an element at an index of the list
at_index : {X : Type 0} (P : X → Type 0) (xs : List X) (k : ℕ) (d : X) → k < length xs → P (get_or xs k d) → Any P xs
at_index P xs k d h p = (k, get_or xs k d, h, get_or_default xs k (get_or xs k d) d h, p)

-- an element with P is one of the old ones or the one that was pushed
Any-push_cases : {X : Type 0} (P : X → Type 0) (xs : List X) (y : X) → Any P (xs ++ y ∷ []) → Any P xs ⊎ P y
Any-push_cases P xs y w =
    elim (cases_lt w.0 (length xs)) [
      | inl lt ↦ inl (w.0, w.1, lt, sym (get_or_append_left xs (y ∷ []) w.1 w.0 lt) ∙ w.3, w.4)
      | inr past ↦ (let n = length_push xs y in inr (subst P (sym (sym (get_or_push xs y w.1 w.0 (omega arith)) ∙ w.3)) w.4))
    ]

Any-push_old : {X : Type 0} (P : X → Type 0) (xs : List X) (y : X) → Any P xs → Any P (xs ++ y ∷ [])
Any-push_old P xs y w = (w.0, w.1, (let n = length_push xs y in omega arith), get_or_append_left xs (y ∷ []) w.1 w.0 w.2 ∙ w.3, w.4)

Any-push_new : {X : Type 0} (P : X → Type 0) (xs : List X) (y : X) → P y → Any P (xs ++ y ∷ [])
Any-push_new P xs y p = (length xs, y, (let n = length_push xs y in omega arith), get_or_push xs y y (length xs) refl, p)

-- what ends in the last interval ends below the gap before the next one
all_before : (xs : List Interval) (next : Interval) (k : ℕ) (d : Interval) → IsIntervalList xs → BeginBy next.0 xs → ((d : Interval) → 0 < length xs → (get_or xs (length xs - 1) d).1 + 1 < next.0) → k < length xs → (k ≡ length xs - 1) ⊎ (k ≡ length xs - 1 → ⊥) → (get_or xs k d).1 + 1 < next.0
all_before xs next k d s later before h (inl last) = rw last (before d (omega arith))
all_before xs next k d s later before h (inr earlier) =
    let below = s.apart k (length xs - 1) d (omega arith) (omega arith) in
    let begin = later (length xs - 1) d (omega arith) in
    omega arith

-- an interval after the gap goes to the end
pub Adds-push : (xs : List Interval) (next : Interval) → IsIntervalList xs → EndBelow (2 ^ 31) xs → BeginBy next.0 xs → next.0 ≤ next.1 → next.1 < 2 ^ 31 → ((d : Interval) → 0 < length xs → (get_or xs (length xs - 1) d).1 + 1 < next.0) → Adds xs next (xs ++ next ∷ [])
Adds-push xs next s small later inhabited next_small before = record {
  sorted = record {
    inhabited = All-push (λ i. i.0 ≤ i.1) xs next s.inhabited inhabited;
    apart = all_pairs_push (λ i j. i.1 + 1 < j.0) xs next s.apart (λ k d h. all_before xs next k d s later before h (cases_eq k (length xs - 1)));
  };
  small = All-push (λ i. i.1 < 2 ^ 31) xs next small next_small;
  begins = All-push (λ i. i.0 ≤ next.0) xs next later (omega arith);
  numbers = λ n. (Any-push_cases (IsWithin n) xs next, λ w. elim w [ inl h ↦ Any-push_old (IsWithin n) xs next h | inr h ↦ Any-push_new (IsWithin n) xs next h ]);
}

-- the elements at two indices of which the second may be the one that was written at the end
AllPairs-write_last : {X : Type 0} (R : X → X → Type 0) (xs : List X) (k : ℕ) (m : X) → k + 1 ≡ length xs → AllPairs R xs → ((i : ℕ) (d : X) → i < k → R (get_or xs i d) m) → AllPairs R (set xs k m)
AllPairs-write_last R xs k m hk all last = λ i j d lt h.
    let n = length-set xs k m in
    let other : i ≢ k = omega arith in
    rw (get_or-set_other xs k i m d other) (elim (cases_eq j k) [
      | inl same ↦ (let hk' : k < length xs = omega arith in rw (same, get_or-set_same xs k m d hk') (last i d (omega arith)))
      | inr differs ↦ rw (get_or-set_other xs k j m d differs) (all i j d lt (omega arith))
    ])

-- the numbers after the last interval was widened to the end of the next
widened_numbers : (xs : List Interval) (k : ℕ) (last next m : Interval) (n : ℕ) → k + 1 ≡ length xs → get_or xs k last ≡ last → last.0 ≤ next.0 → next.0 ≤ last.1 + 1 → m.0 ≡ last.0 → m.1 ≡ max last.1 next.1 → Holds (set xs k m) n → Holds xs n ⊎ IsWithin n next
widened_numbers xs k last next m n hk at begin touch m0 m1 w =
    let hk' : k < length xs = omega arith in
    let size = length-set xs k m in
    elim (cases_eq w.0 k) [
      | inl same ↦
          (let is_m : m ≡ w.1 = sym (get_or-set_same xs k m w.1 hk') ∙ (ap (λ j. get_or (set xs k m) j w.1) (sym same) ∙ w.3) in
          let low = ap (λ (j : Interval). j.0) is_m in
          let high = ap (λ (j : Interval). j.1) is_m in
          elim (cases_lt last.1 n) [
            | inl past ↦ inr (omega arith, omega arith)
            | inr before ↦ inl (k, last, hk', at, (omega arith, omega arith))
          ])
      | inr differs ↦ inl (w.0, w.1, omega arith, sym (get_or-set_other xs k w.0 m w.1 differs) ∙ w.3, w.4)
    ]

old_stay : (xs : List Interval) (k : ℕ) (last m : Interval) (n : ℕ) → k < length xs → get_or xs k last ≡ last → m.0 ≡ last.0 → last.1 ≤ m.1 → Holds xs n → Holds (set xs k m) n
old_stay xs k last m n hk at m0 m1 w =
    let size = length-set xs k m in
    elim (cases_eq w.0 k) [
      | inl same ↦
          (let is_last : last ≡ w.1 = sym at ∙ (get_or_default xs k last w.1 hk ∙ (ap (λ j. get_or xs j w.1) (sym same) ∙ w.3)) in
          let low = ap (λ (j : Interval). j.0) is_last in
          let high = ap (λ (j : Interval). j.1) is_last in
          (k, m, omega arith, get_or-set_same xs k m m hk, (omega arith, omega arith)))
      | inr differs ↦ (w.0, w.1, omega arith, get_or-set_other xs k w.0 m w.1 differs ∙ w.3, w.4)
    ]

-- an interval that begins in the last one or right after it goes into it
pub Adds-widen : (xs : List Interval) (k : ℕ) (last next m : Interval) → IsIntervalList xs → EndBelow (2 ^ 31) xs → BeginBy next.0 xs → next.0 ≤ next.1 → next.1 < 2 ^ 31 → k + 1 ≡ length xs → get_or xs k last ≡ last → next.0 ≤ last.1 + 1 → m.0 ≡ last.0 → m.1 ≡ max last.1 next.1 → Adds xs next (set xs k m)
Adds-widen xs k last next m s small later inhabited next_small hk at touch m0 m1 =
    let hk' : k < length xs = omega arith in
    let size = length-set xs k m in
    let last_small : last.1 < 2 ^ 31 = subst (λ (i : Interval). i.1 < 2 ^ 31) at (small k last hk') in
    let last_later : last.0 ≤ next.0 = subst (λ (i : Interval). i.0 ≤ next.0) at (later k last hk') in
    let last_inhabited : last.0 ≤ last.1 = subst (λ (i : Interval). i.0 ≤ i.1) at (s.inhabited k last hk') in
    record {
      sorted = record {
        inhabited = All-set (λ i. i.0 ≤ i.1) xs k m (omega arith) s.inhabited;
        apart = AllPairs-write_last (λ i j. i.1 + 1 < j.0) xs k m hk s.apart
            (λ i d lt.
            let below = s.apart i k d lt hk' in
            let is_last : get_or xs k d ≡ last = get_or_default xs k d last hk' ∙ at in
            let low = ap (λ (j : Interval). j.0) is_last in
            omega arith);
      };
      small = All-set (λ i. i.1 < 2 ^ 31) xs k m (omega arith) small;
      begins = All-set (λ i. i.0 ≤ next.0) xs k m (omega arith) later;
      numbers = λ n. (
        widened_numbers xs k last next m n hk at last_later touch m0 m1,
        λ w. elim w [
          | inl h ↦ old_stay xs k last m n hk' at m0 (omega arith) h
          | inr h ↦ (k, m, omega arith, get_or-set_same xs k m m hk', (omega arith, omega arith))
        ],
      );
    }

-- the list holds the first k of the numbers, and begins no later than what is left of them
pub record Collects (numbers : List ℕ) (k : ℕ) (is : List Interval) : Type 0 where
  pub sorted : IsIntervalList is
  pub small : EndBelow (2 ^ 31) is
  pub before : k < length numbers → BeginBy (get_or numbers k 0) is
  pub held : (n : ℕ) → Holds is n ↔ Contains (take k numbers) n

empty_list : IsIntervalList []
empty_list = record { inhabited = All-nil (λ i. i.0 ≤ i.1); apart = λ i j d lt h. absurd (omega arith) }

pub Collects-none : (numbers : List ℕ) → Collects numbers 0 []
Collects-none numbers = record {
  sorted = empty_list;
  small = All-nil (λ i. i.1 < 2 ^ 31);
  before = λ h. All-nil (λ i. i.0 ≤ get_or numbers 0 0);
  held = λ n. (λ w. absurd (Any-nil (IsWithin n) w), λ w. absurd (omega arith));
}

pub Collects-more : (numbers : List ℕ) (k x : ℕ) (is new : List Interval) → IsStrictlyIncreasing numbers → k < length numbers → x ≡ get_or numbers k 0 → Collects numbers k is → Adds is (x, x) new → Collects numbers (k + 1) new
Collects-more numbers k x is new rise hk here c a = record {
  sorted = a.sorted;
  small = a.small;
  before = λ h. let up = rise k h in All-weaker (λ i. i.0 ≤ x) (λ i. i.0 ≤ get_or numbers (k + 1) 0) (λ i le. omega arith) new a.begins;
  held = λ n. rw (take_more numbers k 0 hk, ← here) (
    λ w. elim ((a.numbers n).0 w) [
      | inl old ↦ Contains-append_left (take k numbers) (x ∷ []) n ((c.held n).0 old)
      | inr new ↦ (let same : x ≡ n = omega arith in rw (← same) (Contains-push (take k numbers) x))
    ],
    λ w. elim (Contains-push_cases (take k numbers) x n w) [
      | inl old ↦ (a.numbers n).1 (inl ((c.held n).1 old))
      | inr same ↦ (a.numbers n).1 (inr (omega arith, omega arith))
    ],
  );
}

pub Collects-all : (numbers : List ℕ) (k : ℕ) (is : List Interval) → length numbers ≤ k → Collects numbers k is → (n : ℕ) → Holds is n ↔ Contains numbers n
Collects-all numbers k is h c n = let e : take k numbers ≡ numbers = take_all k numbers h in rw e at c.held n

pub Merges-none : (left right : List Interval) → Merges left 0 right 0 []
Merges-none left right = record {
  sorted = empty_list;
  small = All-nil (λ i. i.1 < 2 ^ 31);
  before_left = λ d h. All-nil (λ i. i.0 ≤ (get_or left 0 d).0);
  before_right = λ d h. All-nil (λ i. i.0 ≤ (get_or right 0 d).0);
  numbers = λ n. (λ w. inl w, λ w. elim w [ inl h ↦ h | inr h ↦ h ]);
}

pub Merges-flip : (left right : List Interval) (i j : ℕ) (is : List Interval) → Merges left i right j is → Merges right j left i is
Merges-flip left right i j is m = record {
  sorted = m.sorted;
  small = m.small;
  before_left = m.before_right;
  before_right = m.before_left;
  numbers = λ n. (λ w. elim ((m.numbers n).0 w) [ inl h ↦ inr h | inr h ↦ inl h ], λ w. elim w [ inl h ↦ (m.numbers n).1 (inr h) | inr h ↦ (m.numbers n).1 (inl h) ]);
}

-- the next interval of the left list goes on, where that of the right list doesn't begin before it
pub Merges-more : (left right : List Interval) (i j : ℕ) (x : Interval) (is new : List Interval) → IsIntervalList left → x ≡ get_or left i x → IsNext left i right j → Merges left i right j is → Adds is x new → Merges left (i + 1) right j new
Merges-more left right i j x is new s here first m a =
    let hi : i < length left = first.inside in record {
      sorted = a.sorted;
      small = a.small;
      before_left = λ d h.
          let below = s.apart i (i + 1) d (omega arith) h in
          let held = s.inhabited i d hi in
          let start = ap (λ (k : Interval). k.0) (here ∙ get_or_default left i x d hi) in
          All-weaker (λ k. k.0 ≤ x.0) (λ k. k.0 ≤ (get_or left (i + 1) d).0) (λ k le. omega arith) new a.begins;
      before_right = λ d h.
          let le = subst (λ (k : Interval). k.0 ≤ (get_or right j d).0) (sym here) (first.first x d h) in
          All-weaker (λ k. k.0 ≤ x.0) (λ k. k.0 ≤ (get_or right j d).0) (λ k begin. omega arith) new a.begins;
      numbers = λ n. rw (take_more left i x hi, ← here) (
        λ w. elim ((a.numbers n).0 w) [
          | inl old ↦ elim ((m.numbers n).0 old) [
            | inl h ↦ inl (Any-push_old (IsWithin n) (take i left) x h)
            | inr h ↦ inr h
          ]
          | inr new ↦ inl (Any-push_new (IsWithin n) (take i left) x new)
        ],
        λ w. elim w [
          | inl h ↦ elim (Any-push_cases (IsWithin n) (take i left) x h) [
            | inl old ↦ (a.numbers n).1 (inl ((m.numbers n).1 (inl old)))
            | inr new ↦ (a.numbers n).1 (inr new)
          ]
          | inr h ↦ (a.numbers n).1 (inl ((m.numbers n).1 (inr h)))
        ],
      );
    }

pub Merges-end : (left right : List Interval) (i j : ℕ) (is : List Interval) → i ≡ length left → j ≡ length right → Merges left i right j is → Merges left (length left) right (length right) is
Merges-end left right i j is p q m = let e = subst (λ k. Merges left k right j is) p m in subst (λ k. Merges left (length left) right k is) q e

pub Merges-all : (left right is : List Interval) → Merges left (length left) right (length right) is → (n : ℕ) → Holds is n ↔ (Holds left n ⊎ Holds right n)
Merges-all left right is m n =
    let e : take (length left) left ≡ left = take_all (length left) left (omega arith) in
    let f : take (length right) right ≡ right = take_all (length right) right (omega arith) in
    rw (e, f) at m.numbers n
