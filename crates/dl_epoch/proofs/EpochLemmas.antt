-- Numbers of names as intervals.
use Rattle.std.proofs.Common.{◌≡◌, ℕ, ◌-◌, ◌<◌, ◌≤◌, ◌^◌, List, [], ◌∷◌, ◌++◌, All, Contains, ◌↔◌, Result, Ok, Err, IfOk, sym, subst, ⊎_elim, arith}
use Rattle.std.specs.Ordering.{nat_cmp}
use Rattle.std.specs.List.Sorted.{IsStrictlyIncreasing}
use Rattle.std.proofs.lemmas.List.Elements.{All-nil, All-push, All-weaker, All-contains, All-contains_itself, Contains-append_left, Contains-push, Contains-push_cases}
use Rattle.std.proofs.lemmas.Map.Keys.{sorted_from_strictly_increasing, IsStrictlyIncreasing-from_sorted}
use Rattle.std.proofs.lemmas.Option.{slice_get_within, get_or_from_slice_get}
use Rattle.dl_terms.specs.Sets.{IsSetOf}
use Rattle.dl_terms.proofs.OrderLemmas.{numbers_linear}
use Rattle.dl_terms.proofs.MemberLemmas.{Contains-nil, sorted_unique}
use Rattle.dl_reach.specs.Digraph.{max_nodes}
use Rattle.dl_intervals.specs.Intervals.{Holds, IsIntervalList}
use Rattle.dl_numbers.specs.Numbers.{HasNumber}
use Rattle.dl_epoch.specs.Translating.{IsNumberOf, AreNumbersOf}

-- the set of names that ascend is their list
pub same_names : (set names : List ℕ) → IsSetOf nat_cmp set names → IsStrictlyIncreasing names → set ≡ names
same_names set names is up =
    sorted_unique numbers_linear set names is.ascending (sorted_from_strictly_increasing names up) (λ z c. (is.members z).0 c) (λ z c. (is.members z).1 c)

pub ok_weaker : {T E : Type 0} {P Q : T → Type 0} (r : Result T E) → IfOk r P → ((x : T) → P x → Q x) → IfOk r Q
ok_weaker (Ok x) p more = more x p
ok_weaker (Err e) p more = tt

-- ---- numbers of names, one after the other

pub record Gathers (numbered members numbers : List ℕ) : Type 0 where
  pub to : (n : ℕ) → Contains numbers n → IsNumberOf numbered members n
  pub from : (n : ℕ) → IsNumberOf numbered members n → Contains numbers n
  pub few : All (λ n. n ≤ max_nodes) numbers

pub Gathers-none : (numbered : List ℕ) → Gathers numbered [] []
Gathers-none numbered = record {
  to = λ n c. absurd (Contains-nil n c);
  from = λ n i. absurd (Contains-nil i.name i.member);
  few = All-nil (λ n. n ≤ max_nodes);
}

pub has_contains : (numbered : List ℕ) (name n : ℕ) → HasNumber numbered name n → Contains numbered name
has_contains numbered name n h =
    (n - 1, slice_get_within numbered (n - 1) name h.is, get_or_from_slice_get numbered (n - 1) name name h.is)

module _ (numbered members numbers : List ℕ) (name : ℕ) (g : Gathers numbered members numbers) where
  wider : (n : ℕ) → IsNumberOf numbered members n → IsNumberOf numbered (members ++ name ∷ []) n
  wider n i = record { name = i.name; member = Contains-append_left members (name ∷ []) i.name i.member; has = i.has }

  pub Gathers-skip : (Contains numbered name → ⊥) → Gathers numbered (members ++ name ∷ []) numbers
  Gathers-skip none = record {
    to = λ n c. wider n (g.to n c);
    from = λ n i. ⊎_elim (λ (old : Contains members i.name). g.from n (record { name = i.name; member = old; has = i.has }))
        (λ (same : name ≡ i.name). absurd (none (subst (Contains numbered) (sym same) (has_contains numbered i.name n i.has))))
        (Contains-push_cases members name i.name i.member);
    few = g.few;
  }

  pub Gathers-more : (n : ℕ) → HasNumber numbered name n → ((m : ℕ) → HasNumber numbered name m → m ≡ n) → n ≤ max_nodes
      → Gathers numbered (members ++ name ∷ []) (numbers ++ n ∷ [])
  Gathers-more n h only few = record {
    to = λ m c. ⊎_elim (λ (old : Contains numbers m). wider m (g.to m old))
        (λ (same : n ≡ m). record { name = name; member = Contains-push members name; has = subst (HasNumber numbered name) same h })
        (Contains-push_cases numbers n m c);
    from = λ m i. ⊎_elim (λ (old : Contains members i.name). Contains-append_left numbers (n ∷ []) m (g.from m (record { name = i.name; member = old; has = i.has })))
        (λ (same : name ≡ i.name). subst (Contains (numbers ++ n ∷ [])) (sym (only m (subst (λ x. HasNumber numbered x m) (sym same) i.has))) (Contains-push numbers n))
        (Contains-push_cases members name i.name i.member);
    few = All-push (λ k. k ≤ max_nodes) numbers n g.few few;
  }

-- ---- their set, as intervals

pub set_up : (set numbers : List ℕ) → IsSetOf nat_cmp set numbers → IsStrictlyIncreasing set
set_up set numbers is = IsStrictlyIncreasing-from_sorted set is.ascending

pub set_small : (set numbers : List ℕ) → IsSetOf nat_cmp set numbers → All (λ n. n ≤ max_nodes) numbers → All (λ n. n < 2 ^ 31) set
set_small set numbers is few =
    All-weaker (Contains set) (λ n. n < 2 ^ 31)
    (λ n c. (let h = All-contains (λ m. m ≤ max_nodes) numbers n few ((is.members n).0 c) in omega arith)) set (All-contains_itself set)

pub numbers_are : (numbered members set numbers slice : List ℕ) (ranges : List (ℕ × ℕ)) → IsSetOf nat_cmp set numbers → slice ≡ set
    → ((n : ℕ) → Contains numbers n ↔ IsNumberOf numbered members n) → IsIntervalList ranges → ((n : ℕ) → Holds ranges n ↔ Contains slice n)
    → AreNumbersOf numbered members ranges
numbers_are numbered members set numbers slice ranges is e gathered sorted exact = record {
  sorted = sorted;
  exact = λ n. (
    λ h. (gathered n).0 ((is.members n).0 (subst (λ xs. Contains xs n) e ((exact n).0 h))),
    λ i. (exact n).1 (subst (λ xs. Contains xs n) (sym e) ((is.members n).1 ((gathered n).1 i))),
  );
}
