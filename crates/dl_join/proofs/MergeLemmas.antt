-- The union of two lists of tuples that ascend, one tuple after the other.
use Rattle.std.proofs.Common.{◌≡◌, ℕ, zero, suc, ◌+◌, ◌<◌, ◌≤◌, ◌⊎◌, inl, inr, List, [], ◌∷◌, ◌++◌, length, take, get_or, sym, ap, subst, ◌∙◌, arith, rules}
use Rattle.std.specs.declared.cmp.Ordering.{Ordering}
use Rattle.std.specs.declared.cmp.Ordering.TheVariants.{Less, Equal, Greater}
use Rattle.std.specs.Ordering.{ordering_reverse}
use Rattle.std.specs.List.{All, Contains}
use Rattle.std.specs.List.Sorted.{IsStrictlySortedBy}
use Rattle.std.proofs.lemmas.List.{get_or_default, length_push, take_more, take_all}
use Rattle.std.proofs.lemmas.List.Elements.{All-nil, All-push, All-weaker, All-from_recursion, recursion_from_All, Contains-get_or, Contains-append_left, Contains-push, Contains-push_cases}
use Rattle.dl_terms.specs.Answers.{AscendStrictly}
use Rattle.dl_terms.proofs.OrderLemmas.{IsLinear, lists_linear, numbers_linear}
use Rattle.dl_join.specs.Tuples.{AreExactly, AreMoreThan, tuple_cmp, StandsAt, IsBefore, IsNext, FitsWidth}

pub tuples_linear : IsLinear tuple_cmp
tuples_linear = lists_linear numbers_linear

-- ---- lists that ascend strictly

module _ {K : Type 0} (R : K → K → Ordering) where
  pub sorted_at : (xs : List K) (i j : ℕ) (d : K) → IsStrictlySortedBy R xs → i < j → j < length xs → R (get_or xs i d) (get_or xs j d) ≡ Less
  unfolding IsStrictlySortedBy
  sorted_at [] i j d up lt h = absurd (omega arith)
  sorted_at (x ∷ xs) zero zero d up lt h = absurd (omega arith)
  sorted_at (x ∷ xs) zero (suc j) d up lt h = All-from_recursion (λ y. R x y ≡ Less) xs up.0 j d (omega arith)
  sorted_at (x ∷ xs) (suc i) zero d up lt h = absurd (omega arith)
  sorted_at (x ∷ xs) (suc i) (suc j) d up lt h = sorted_at xs i j d up.1 (omega arith) (omega arith)

  pub sorted_push : (xs : List K) (y : K) → IsStrictlySortedBy R xs → All (λ x. R x y ≡ Less) xs → IsStrictlySortedBy R (xs ++ y ∷ [])
  unfolding IsStrictlySortedBy
  sorted_push [] y up below = (recursion_from_All (λ z. R y z ≡ Less) [] (All-nil _), up)
  sorted_push (x ∷ xs) y up below = (
    recursion_from_All (λ z. R x z ≡ Less) (xs ++ y ∷ []) (All-push (λ z. R x z ≡ Less) xs y (All-from_recursion (λ z. R x z ≡ Less) xs up.0) (below 0 x (omega arith))),
    sorted_push xs y up.1 (λ k d h. below (suc k) d (omega arith)),
  )

  pub sorted_nil : IsStrictlySortedBy R []
  unfolding IsStrictlySortedBy
  sorted_nil = search rules

before_trans : (x y z : List ℕ) → tuple_cmp x y ≡ Less → tuple_cmp y z ≡ Less → tuple_cmp x z ≡ Less
before_trans x y z = tuples_linear.total.trans x y z

-- ---- which tuple is next

pub width_by : (o : Ordering) (w v : ℕ) (left right : List ℕ) → length left ≡ w → length right ≡ v → FitsWidth o w v left right
width_by Less w v left right e f = e
width_by Equal w v left right e f = f
width_by Greater w v left right e f = f

pub next_by : (o : Ordering) (xs ys : List (List ℕ)) (i j : ℕ) (left right : List ℕ) → o ≡ tuple_cmp left right → StandsAt xs i left → StandsAt ys j right
    → IsNext o xs i ys j left right
next_by Less xs ys i j left right o x y = (x, λ h. rw y.is (sym o))
next_by Equal xs ys i j left right o x y = (subst (StandsAt xs i) (tuples_linear.equal left right (sym o)) x, y)
next_by Greater xs ys i j left right o x y = (y, λ h. rw x.is (tuples_linear.total.antisymm right left ∙ ap ordering_reverse (sym o)))

-- the union of the front of one list and the front of another, all of it before what comes next
pub record Merging (one two : List (List ℕ)) (i j : ℕ) (out : List (List ℕ)) : Type 0 where
  pub left_range : i ≤ length one
  pub right_range : j ≤ length two
  pub ascending : AscendStrictly out
  pub only : (t : List ℕ) → Contains out t → Contains one t ⊎ Contains two t
  pub left : (t : List ℕ) → Contains (take i one) t → Contains out t
  pub right : (t : List ℕ) → Contains (take j two) t → Contains out t
  pub before_left : All (IsBefore one i) out
  pub before_right : All (IsBefore two j) out

pub Merging-none : (one two : List (List ℕ)) → Merging one two 0 0 []
Merging-none one two = record {
  left_range = omega arith;
  right_range = omega arith;
  ascending = sorted_nil tuple_cmp;
  only = λ t w. absurd (omega (arith, w.1));
  left = λ t w. absurd (omega (arith, w.1));
  right = λ t w. absurd (omega (arith, w.1));
  before_left = All-nil _;
  before_right = All-nil _;
}

-- an index after a tuple: one on where the tuple stands there, or else before what stands there
pub data Passes (xs : List (List ℕ)) (i : ℕ) (t : List ℕ) : ℕ → Type 0 where
  passes : StandsAt xs i t → Passes xs i t (i + 1)
  waits : IsBefore xs i t → Passes xs i t i

passed_range : (xs : List (List ℕ)) (i i' : ℕ) (t : List ℕ) → i ≤ length xs → Passes xs i t i' → i' ≤ length xs
passed_range xs i i' t le (passes s) = let inside = s.inside in omega arith
passed_range xs i i' t le (waits b) = le

passed_front : (xs out : List (List ℕ)) (i i' : ℕ) (t : List ℕ) → ((s : List ℕ) → Contains (take i xs) s → Contains out s) → Passes xs i t i'
    → (s : List ℕ) → Contains (take i' xs) s → Contains (out ++ t ∷ []) s
passed_front xs out i i' t front (passes at) s w =
    elim (Contains-push_cases (take i xs) t s (rw (take_more xs i [] at.inside, at.is) at w)) [
      | inl old ↦ Contains-append_left out (t ∷ []) s (front s old)
      | inr same ↦ rw (← same) (Contains-push out t)
    ]
passed_front xs out i i' t front (waits b) s w = Contains-append_left out (t ∷ []) s (front s w)

-- what is before what stands at an index is before what stands after it
before_on : (xs : List (List ℕ)) (i : ℕ) (s t : List ℕ) → AscendStrictly xs → StandsAt xs i t → tuple_cmp s t ≡ Less → IsBefore xs (i + 1) s
before_on xs i s t up at lt h = before_trans s t (get_or xs (i + 1) []) lt (rw (← at.is) (sorted_at tuple_cmp xs i (i + 1) [] up (omega arith) h))

after_on : (xs : List (List ℕ)) (i : ℕ) (t : List ℕ) → AscendStrictly xs → StandsAt xs i t → IsBefore xs (i + 1) t
after_on xs i t up at h = rw (← at.is) (sorted_at tuple_cmp xs i (i + 1) [] up (omega arith) h)

passed_before : (xs out : List (List ℕ)) (i i' : ℕ) (t : List ℕ) → AscendStrictly xs → All (IsBefore xs i) out → All (λ s. tuple_cmp s t ≡ Less) out
    → Passes xs i t i' → All (IsBefore xs i') (out ++ t ∷ [])
passed_before xs out i i' t up before below (passes at) =
    All-push (IsBefore xs (i + 1)) out t (All-weaker (λ s. tuple_cmp s t ≡ Less) (IsBefore xs (i + 1)) (λ s lt. before_on xs i s t up at lt) out below) (after_on xs i t up at)
passed_before xs out i i' t up before below (waits b) = All-push (IsBefore xs i) out t before b

stands_in : (xs : List (List ℕ)) (i : ℕ) (t : List ℕ) → StandsAt xs i t → Contains xs t
stands_in xs i t at = (i, at.inside, get_or_default xs i t [] at.inside ∙ at.is)

all_before : (xs out : List (List ℕ)) (i : ℕ) (t : List ℕ) → StandsAt xs i t → All (IsBefore xs i) out → All (λ s. tuple_cmp s t ≡ Less) out
all_before xs out i t at before = All-weaker (IsBefore xs i) (λ s. tuple_cmp s t ≡ Less) (λ s b. rw at.is at (b at.inside)) out before

Merging-push : (one two : List (List ℕ)) (i i' j j' : ℕ) (out : List (List ℕ)) (t : List ℕ) → AscendStrictly one → AscendStrictly two → Merging one two i j out
    → Contains one t ⊎ Contains two t → All (λ s. tuple_cmp s t ≡ Less) out → Passes one i t i' → Passes two j t j' → Merging one two i' j' (out ++ t ∷ [])
Merging-push one two i i' j j' out t up up' m t_in below p q = record {
  left_range = passed_range one i i' t m.left_range p;
  right_range = passed_range two j j' t m.right_range q;
  ascending = sorted_push tuple_cmp out t m.ascending below;
  only = λ s w. elim (Contains-push_cases out t s w) [
    | inl old ↦ m.only s old
    | inr same ↦ subst (λ r. Contains one r ⊎ Contains two r) same t_in
  ];
  left = passed_front one out i i' t m.left p;
  right = passed_front two out j j' t m.right q;
  before_left = passed_before one out i i' t up m.before_left below p;
  before_right = passed_before two out j j' t up' m.before_right below q;
}

pub pushed_less : (one two : List (List ℕ)) (i j : ℕ) (out : List (List ℕ)) (left right : List ℕ) → AscendStrictly one → AscendStrictly two → Merging one two i j out
    → IsNext Less one i two j left right → Merging one two (i + 1) j (out ++ left ∷ [])
pushed_less one two i j out left right up up' m n =
    Merging-push one two i (i + 1) j j out left up up' m (inl (stands_in one i left n.0)) (all_before one out i left n.0 m.before_left) (passes n.0) (waits n.1)

pub pushed_equal : (one two : List (List ℕ)) (i j : ℕ) (out : List (List ℕ)) (left right : List ℕ) → AscendStrictly one → AscendStrictly two → Merging one two i j out
    → IsNext Equal one i two j left right → Merging one two (i + 1) (j + 1) (out ++ right ∷ [])
pushed_equal one two i j out left right up up' m n =
    Merging-push one two i (i + 1) j (j + 1) out right up up' m (inl (stands_in one i right n.0)) (all_before one out i right n.0 m.before_left) (passes n.0) (passes n.1)

pub pushed_greater : (one two : List (List ℕ)) (i j : ℕ) (out : List (List ℕ)) (left right : List ℕ) → AscendStrictly one → AscendStrictly two → Merging one two i j out
    → IsNext Greater one i two j left right → Merging one two i (j + 1) (out ++ right ∷ [])
pushed_greater one two i j out left right up up' m n =
    Merging-push one two i i j (j + 1) out right up up' m (inr (stands_in two j right n.0)) (all_before two out j right n.0 m.before_right) (waits n.1) (passes n.0)

-- one more than the limit
over : (one two : List (List ℕ)) (i j limit : ℕ) (out : List (List ℕ)) → Merging one two i j out → limit < length out
    → AreMoreThan limit (λ t. Contains one t ⊎ Contains two t)
over one two i j limit out m h = record {
  tuples = out;
  ascending = m.ascending;
  each = λ k d le. m.only (get_or out k d) (Contains-get_or out k d le);
  longer = h;
}

pub next_over : (o : Ordering) (one two : List (List ℕ)) (i j limit : ℕ) (out : List (List ℕ)) (left right : List ℕ) → AscendStrictly one → AscendStrictly two
    → Merging one two i j out → IsNext o one i two j left right → limit ≤ length out → AreMoreThan limit (λ t. Contains one t ⊎ Contains two t)
next_over Less one two i j limit out left right up up' m n le =
    let size = length_push out left in
    over one two (i + 1) j limit (out ++ left ∷ []) (pushed_less one two i j out left right up up' m n) (omega arith)
next_over Equal one two i j limit out left right up up' m n le =
    let size = length_push out right in
    over one two (i + 1) (j + 1) limit (out ++ right ∷ []) (pushed_equal one two i j out left right up up' m n) (omega arith)
next_over Greater one two i j limit out left right up up' m n le =
    let size = length_push out right in
    over one two i (j + 1) limit (out ++ right ∷ []) (pushed_greater one two i j out left right up up' m n) (omega arith)

pub Merging-all : (one two : List (List ℕ)) (i j : ℕ) (out : List (List ℕ)) → Merging one two i j out → length one ≤ i → length two ≤ j
    → AreExactly (λ t. Contains one t ⊎ Contains two t) out
Merging-all one two i j out m h h' = record {
  ascending = m.ascending;
  exact = λ t. (
    m.only t,
    λ w. elim w [
      | inl left ↦ m.left t (rw (take_all i one h) left)
      | inr right ↦ m.right t (rw (take_all j two h') right)
    ],
  );
}
