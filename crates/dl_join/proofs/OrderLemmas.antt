-- The order of the variables, and needs turned to it.
use Rattle.std.proofs.Common.{◌≡◌, ◌≢◌, ℕ, ◌+◌, ◌<◌, ◌≤◌, ◌⊎◌, inl, inr, true, false, ◌==◌, if◌then◌else◌, List, [], ◌∷◌, ◌++◌, Some, length, map, drop, get_or, refl, sym, ap, subst, ◌∙◌, arith, true≢false}
use Rattle.std.specs.declared.cmp.Ordering.{Ordering}
use Rattle.std.specs.declared.cmp.Ordering.TheVariants.{Less, Equal, Greater}
use Rattle.std.specs.Ordering.{nat_cmp, ordering_then, is_lt, ordering_reverse}
use Rattle.std.specs.List.{Contains, swap_remove}
use Rattle.std.specs.List.Sorted.{IsSorted, IsStrictlySortedBy}
use Rattle.std.proofs.lemmas.Bool.{cases_eq}
use Rattle.std.proofs.lemmas.Bool.Decides.{nat_tests}
use Rattle.std.proofs.lemmas.Cmp.{ranked}
use Rattle.std.proofs.lemmas.List.{length-map, get_or-map, at_drop_more}
use Rattle.std.proofs.lemmas.List.Elements.{All-push, All-weaker}
use Rattle.std.proofs.lemmas.List.Sorted.{Contains-permutation, IsPermutation-swap_remove, sorted_far, ranks_by}
use Rattle.dl_terms.specs.Sets.{IsSetOf}
use Rattle.dl_terms.proofs.MemberLemmas.{Contains-cons}
use Rattle.dl_terms.proofs.OrderLemmas.{IsLinear, numbers_linear, pairs_linear}
use Rattle.dl_join.specs.declared.need.Need.{Need}
use Rattle.dl_join.specs.declared.need.Column.{Column}
use Rattle.dl_join.specs.declared.need.Column.TheVariants.{First}
use Rattle.dl_terms.specs.Order.{pair_cmp}
use Rattle.dl_join.specs.Needs.{in_column, AreAscending, Mentions, Fits}
use Rattle.dl_join.specs.Probing.{OrdersAll, AddsVariables, is_first, IsBackward, AreTurned, IsFitted, CanBeFitted}
use Rattle.dl_join.proofs.MergeLemmas.{sorted_at}

-- ---- the order

pub orders_more : (vars vars' : List ℕ) (needs : List Need) (need : Need) → OrdersAll vars needs → AddsVariables need vars vars' → OrdersAll vars' (needs ++ need ∷ [])
orders_more vars vars' needs need all adds =
    All-push (λ n. (v : ℕ) → Mentions v n → Contains vars' v) needs need
    (All-weaker (λ n. (v : ℕ) → Mentions v n → Contains vars v) (λ n. (v : ℕ) → Mentions v n → Contains vars' v) (λ n f v m. adds.kept v (f v m)) needs all) adds.there

-- each variable is in the order or waits
abbrev pub AreWaited : List ℕ → List ℕ → List ℕ → Type 0
AreWaited all order waiting = (v : ℕ) → Contains all v → Contains order v ⊎ Contains waiting v

pub waited_none : (all : List ℕ) → AreWaited all [] all
waited_none all v c = inr c

-- one that waited, at an index, was added to the order
pub waited_more : (all order order' waiting : List ℕ) (i v : ℕ) → AreWaited all order waiting → i < length waiting → v ≡ get_or waiting i v → Contains order' v
    → ((u : ℕ) → Contains order u → Contains order' u) → AreWaited all order' (swap_remove waiting i v)
waited_more all order order' waiting i v waited h is there kept = λ u c. elim (waited u c) [
  | inl old ↦ inl (kept u old)
  | inr waits ↦ elim (Contains-cons v u (swap_remove waiting i v) (Contains-permutation waiting (v ∷ swap_remove waiting i v) u (IsPermutation-swap_remove waiting i v h is) waits)) [
    | inl same ↦ inl (subst (Contains order') same there)
    | inr still ↦ inr still
  ]
]

pub orders_all : (all order waiting : List ℕ) (needs : List Need) → OrdersAll all needs → AreWaited all order waiting → length waiting ≡ 0 → OrdersAll order needs
orders_all all order waiting needs has waited none = λ k d h v m. elim (waited v (has k d h v m)) [
  | inl there ↦ there
  | inr waits ↦ (let inside = waits.1 in absurd (omega arith))
]

-- ---- which variable is first

pub first_more : (order : List ℕ) (i v w : ℕ) → i < length order
    → is_first (drop i order) v w ≡ (if get_or order i 0 == v then true else (if get_or order i 0 == w then false else is_first (drop (i + 1) order) v w))
first_more order i v w h = at_drop_more (λ xs. is_first xs v w) order i 0 h

contains_later : (v x : ℕ) (rest : List ℕ) → x ≢ v → Contains (x ∷ rest) v → Contains rest v
contains_later v x rest differs c = elim (Contains-cons x v rest c) [ inl same ↦ absurd (differs same) | inr there ↦ there ]

-- a need whose variable is first fits
pub first_fits : (order : List ℕ) (v : ℕ) (IsOther : ℕ → Type 0) → Contains order v → ((w : ℕ) → IsOther w → (w ≢ v) × Contains order w × (is_first order v w ≡ true)) → Fits order v IsOther
first_fits [] v IsOther c others = absurd (let inside = c.1 in omega arith)
first_fits (x ∷ rest) v IsOther c others = elim (cases_eq x v) [
  | inl same ↦ inl (sym same, λ w is. (let o = others w is in (rw same o.0, contains_later w x rest (λ e. o.0 (sym e ∙ same)) o.1)))
  | inr differs ↦
      (let b : (x == v) ≡ false = grind (arith, nat_tests) in
      inr (
        λ e. differs (sym e),
        λ w is e. (
            let o = others w is in
            let c : (x == w) ≡ true = grind (arith, nat_tests) in
            let f : false ≡ true = rw (b, c) at o.2 in
            true≢false (sym f)),
        first_fits rest v IsOther (contains_later v x rest differs c)
            (λ w is. (
            let o = others w is in
            elim (cases_eq x w) [
              | inl e ↦ (let c : (x == w) ≡ true = grind (arith, nat_tests) in let f : false ≡ true = rw (b, c) at o.2 in absurd (true≢false (sym f)))
              | inr apart ↦ (let c : (x == w) ≡ false = grind (arith, nat_tests) in (o.0, contains_later w x rest apart o.1, rw (b, c) at o.2))
            ])),
      ))
]

-- where one of two is not first, the other is
pub not_first : (order : List ℕ) (v w : ℕ) → w ≢ v → Contains order v → is_first order v w ≡ false → is_first order w v ≡ true
not_first [] v w apart c e = absurd (let inside = c.1 in omega arith)
not_first (x ∷ rest) v w apart c e = elim (cases_eq x v) [
  | inl same ↦ (let b : (x == v) ≡ true = grind (arith, nat_tests) in let f : true ≡ false = rw b at e in absurd (true≢false f))
  | inr differs ↦
      (let b : (x == v) ≡ false = grind (arith, nat_tests) in
      elim (cases_eq x w) [
        | inl same ↦ (let d : (x == w) ≡ true = grind (arith, nat_tests) in rw d refl)
        | inr other ↦
            (let d : (x == w) ≡ false = grind (arith, nat_tests) in
            let f : is_first rest v w ≡ false = rw (b, d) at e in
            rw (d, b) (not_first rest v w apart (contains_later v x rest differs c) f))
      ])
]

-- ---- pairs in order

pub pair_linear : IsLinear pair_cmp
pair_linear = pairs_linear numbers_linear numbers_linear

-- a pair that is not after another one has no greater first name, and with the same no greater second
not_after : (p q : ℕ × ℕ) → is_lt (pair_cmp q p) ≡ false → (p.0 ≤ q.0) × (p.0 ≡ q.0 → p.1 ≤ q.1)
not_after p q e = by (nat_cmp q.0 p.0) (nat_cmp q.1 p.1) refl refl e
  where
    by : (o s : Ordering) → nat_cmp q.0 p.0 ≡ o → nat_cmp q.1 p.1 ≡ s → is_lt (ordering_then o s) ≡ false → (p.0 ≤ q.0) × (p.0 ≡ q.0 → p.1 ≤ q.1)
    by Less s f g h = absurd (true≢false h)
    by Equal Less f g h = absurd (true≢false h)
    by Equal Equal f g h = (let a = ranked q.0 p.0 Equal (sym f) in let b = ranked q.1 p.1 Equal (sym g) in (omega arith, λ is. omega arith))
    by Equal Greater f g h = (let a = ranked q.0 p.0 Equal (sym f) in let b = ranked q.1 p.1 Greater (sym g) in (omega arith, λ is. omega arith))
    by Greater s f g h = (let a = ranked q.0 p.0 Greater (sym f) in (omega arith, λ is. absurd (omega arith)))

pub sorted_ascending : (pairs : List (ℕ × ℕ)) → IsSorted pair_cmp pairs → AreAscending First pairs
sorted_ascending pairs up =
    let far = sorted_far (λ (x : ℕ × ℕ) (y : ℕ × ℕ). is_lt (pair_cmp x y)) (ranks_by pair_linear.total (λ (x : ℕ × ℕ). x)) pairs up in
    record {
      names = λ i j d le h. (not_after (get_or pairs i d) (get_or pairs j d) (far i j d le h)).0;
      seconds = λ i j d le h e. (not_after (get_or pairs i d) (get_or pairs j d) (far i j d le h)).1 e;
    }

less_not_after : (p q : ℕ × ℕ) → pair_cmp p q ≡ Less → is_lt (pair_cmp q p) ≡ false
less_not_after p q e = ap is_lt (pair_linear.total.antisymm q p ∙ ap (λ o. ordering_reverse o) e)

pub set_ascending : (pairs : List (ℕ × ℕ)) → IsStrictlySortedBy pair_cmp pairs → AreAscending First pairs
set_ascending pairs up =
    let before : (i j : ℕ) (d : ℕ × ℕ) → i < j → j < length pairs → (get_or pairs i d).0 ≤ (get_or pairs j d).0 × ((get_or pairs i d).0 ≡ (get_or pairs j d).0 → (get_or pairs i d).1 ≤ (get_or pairs j d).1) =
    λ i j d lt h. not_after (get_or pairs i d) (get_or pairs j d) (less_not_after (get_or pairs i d) (get_or pairs j d) (sorted_at pair_cmp pairs i j d up lt h)) in
    record {
      names = λ i j d le h. elim (cases_eq i j) [
        | inl same ↦ rw same (omega arith)
        | inr differs ↦ (before i j d (omega arith) h).0
      ];
      seconds = λ i j d le h e. elim (cases_eq i j) [
        | inl same ↦ rw same (omega arith)
        | inr differs ↦ (before i j d (omega arith) h).1 e
      ];
    }

-- ---- turned pairs

abbrev pub swap_pair : ℕ × ℕ → ℕ × ℕ
swap_pair p = (p.1, p.0)

in_swapped : (pairs : List (ℕ × ℕ)) (p : ℕ × ℕ) → Contains (map swap_pair pairs) p → Contains pairs (swap_pair p)
in_swapped pairs p w =
    let size = length-map pairs swap_pair in
    let inside = w.1 in
    let place : w.0 < length pairs = omega arith in
    (w.0, place, ap swap_pair (sym (get_or-map swap_pair pairs w.0 (swap_pair p) p place) ∙ w.2))

of_swapped : (pairs : List (ℕ × ℕ)) (p : ℕ × ℕ) → Contains pairs p → Contains (map swap_pair pairs) (swap_pair p)
of_swapped pairs p w =
    let size = length-map pairs swap_pair in
    let inside = w.1 in
    (w.0, omega arith, get_or-map swap_pair pairs w.0 p (swap_pair p) w.1 ∙ ap swap_pair w.2)

pub turned_set : (pairs set : List (ℕ × ℕ)) → IsSetOf pair_cmp set (map swap_pair pairs) → AreTurned pairs set
turned_set pairs set is = record {
  ascending = set_ascending set is.ascending;
  same = λ a b. (λ c. in_swapped pairs (a, b) ((is.members (a, b)).0 c), λ c. (is.members (a, b)).1 (of_swapped pairs (b, a) c));
}

-- ---- needs that fit

pub fitted_itself : (order : List ℕ) (need : Need) → CanBeFitted need → ((v : ℕ) → Mentions v need → Contains order v)
    → ((w : ℕ) → need.other ≡ Some w → is_first order need.at w ≡ true) → IsFitted order need need
fitted_itself order need can has first = record {
  to = λ names h. h;
  from = λ names h. h;
  ascending = can.ascending;
  fits = first_fits order need.at (λ w. need.other ≡ Some w) (has need.at (inl refl)) (λ w some. (can.apart w some, has w (inr some), first w some));
  variables = λ v m. m;
}

pub fitted_turned : (order : List ℕ) (need turned : Need) (w : ℕ) → CanBeFitted need → ((v : ℕ) → Mentions v need → Contains order v) → IsBackward order need w
    → turned.at ≡ w → turned.other ≡ Some need.at → turned.column ≡ First → AreTurned need.pairs.now turned.pairs.now → IsFitted order need turned
fitted_turned order need turned w can has back at other column are =
    let some = back.0 in
    let first_column = can.column w some in
    record {
      to = λ names h.
          let one = ap (λ (c : Column). in_column c h.pair) (sym column) ∙ (h.here ∙ ap names at) in
          let two = h.there need.at other in
          record {
            pair = (h.pair.1, h.pair.0);
            among = (are.same h.pair.0 h.pair.1).0 h.among;
            here = ap (λ (c : Column). in_column c (h.pair.1, h.pair.0)) first_column ∙ two;
            there = λ u is. (let same : w ≡ u = cc (some, is) in one ∙ ap names same);
          };
      from = λ names h.
          let one = ap (λ (c : Column). in_column c h.pair) (sym first_column) ∙ h.here in
          let two = h.there w some in
          record {
            pair = (h.pair.1, h.pair.0);
            among = (are.same h.pair.1 h.pair.0).1 h.among;
            here = ap (λ (c : Column). in_column c (h.pair.1, h.pair.0)) column ∙ (two ∙ ap names (sym at));
            there = λ u is. (let same : need.at ≡ u = cc (other, is) in one ∙ ap names same);
          };
      ascending = rw column are.ascending;
      fits = rw at (first_fits order w (λ u. turned.other ≡ Some u) (has w (inr some))
          (λ u is. (let same : need.at ≡ u = cc (other, is) in (
            λ e. can.apart w some (sym (same ∙ e)),
            subst (Contains order) same (has need.at (inl refl)),
            subst (λ z. is_first order w z ≡ true) same (not_first order need.at w (can.apart w some) (has need.at (inl refl)) back.1),
          ))));
      variables = λ v m. elim m [ inl is ↦ inr (other ∙ ap Some is) | inr is ↦ inl (at ∙ cc (some, is)) ];
    }
