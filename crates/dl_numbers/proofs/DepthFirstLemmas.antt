-- Depth-first numbers of an order that a test tells: there are some, each name has one, and in a forest the names below
-- one are those under its class.
use Rattle.std.proofs.Common.{◌≡◌, ℕ, zero, suc, ◌<◌, ◌⊎◌, inl, inr, Bool, true, false, filter, List, [], ◌∷◌, ◌++◌, length, refl, sym, subst, true≢false, arith}
use Rattle.std.specs.List.{Contains}
use Rattle.std.specs.List.Sorted.{IsStrictlyIncreasing}
use Rattle.dl_terms.proofs.MemberLemmas.{Contains-first, Contains-later}
use Rattle.dl_numbers.specs.DepthFirst.{IsLeast, AreEquivalent, IsStrictlyAbove, IsLeastAbove, IsParent, IsRoot, AreDepthFirst, IsDepthFirst, none, tree}
use Rattle.dl_numbers.specs.Runs.{IsForest}
use Rattle.dl_numbers.proofs.ListLemmas.{passes_one_more, IsLeastOf, least_of}
use Rattle.dl_numbers.proofs.TestLemmas.{Tells, is_equivalent, is_above, is_first_above, is_parent, is_root, is_child, tells_equivalent, tells_above, tells_first_above, tells_parent, members_are, children_are, roots_are}
use Rattle.dl_numbers.proofs.UnderLemmas.{IsUnder, inside, deeper, one_least, under_numbered}

fails : (P : Type 0) (t : Bool) → Tells t P → (P → ⊥) → t ≡ false
fails P true tells never = absurd (never (tells.1 refl))
fails P false tells never = refl

module _ (names : List ℕ) (up : IsStrictlyIncreasing names) (Below : ℕ → ℕ → Type 0) (same : (a : ℕ) → Contains names a → Below a a)
    (through : (a b c : ℕ) → Below a b → Below b c → Below a c) (below : ℕ → ℕ → Bool) (tells : (x y : ℕ) → Tells (below x y) (Below x y)) where
  -- how many are below, and how many above
  abbrev size : ℕ → ℕ
  size c = length (filter (λ n. below n c) names)

  abbrev height : ℕ → ℕ
  height b = length (filter (below b) names)

  larger : (b c : ℕ) → Contains names c → IsStrictlyAbove names Below c b → size b < size c
  larger b c hc above = passes_one_more (λ n. below n b) (λ n. below n c) names c
      (λ n h e. (tells n c).0 (through n b c ((tells n b).1 e) above.0)) hc (fails (Below c b) (below c b) (tells c b) above.1) ((tells c c).0 (same c hc))

  lower : (b c : ℕ) → Contains names b → IsStrictlyAbove names Below c b → height c < height b
  lower b c hb above = passes_one_more (below c) (below b) names b
      (λ n h e. (tells b n).0 (through b c n above.0 ((tells c n).1 e))) hb (fails (Below c b) (below c b) (tells c b) above.1) ((tells b b).0 (same b hb))

  -- ---- there are numbers

  abbrev members : ℕ → List ℕ
  members c = filter (is_equivalent names up Below below tells c) names

  abbrev children : ℕ → List ℕ
  children c = filter (is_child names up Below below tells c) names

  grown : (classes : List ℕ) → ((c : ℕ) → Contains classes c → (x : List ℕ) × AreDepthFirst names Below (children c) x)
      → (x : List ℕ) × AreDepthFirst names Below classes x
  grown [] each = ([], none)
  grown (c ∷ cs) each =
      let lower = each c (Contains-first c cs) in
      let others = grown cs (λ d h. each d (Contains-later c d cs h)) in (
        members c ++ lower.0 ++ others.0,
        tree c cs (members c) (children c) lower.0 others.0 (members_are names up Below below tells c)
            (children_are names up Below below tells c) lower.1 others.1,
      )

  children_ordered : (fuel c : ℕ) → size c < fuel → (x : List ℕ) × AreDepthFirst names Below (children c) x
  children_ordered zero c few = absurd (omega (arith, few))
  children_ordered (suc fuel) c few = grown (children c) (λ b h.
      let is = ((children_are names up Below below tells c).exact b).0 h in
      let less = larger b c is.1.parent.above.among is.1.parent.above.above in
      children_ordered fuel b (omega (arith, less, few)))

  pub numbers_exist : (numbered : List ℕ) × IsDepthFirst names Below numbered
  numbers_exist =
      let order = grown (filter (is_root names up Below below tells) names) (λ c h. children_ordered (suc (size c)) c (omega arith)) in (
        order.0,
        record {
          roots = filter (is_root names up Below below tells) names;
          are = roots_are names up Below below tells;
          order = order.1;
        },
      )

  -- ---- each name has one

  parent_least : (b p : ℕ) → IsParent names Below p b → IsLeast names Below p
  parent_least b p is = record {
    least = λ e he q. is.first e (record {
      among = he;
      above = (through b p e is.above.above.0 q.0, λ h. is.above.above.1 (through p e b q.0 h));
      least = λ d hd sd de. through e p d q.1 (is.above.least d hd sd (through d e p de q.1));
    });
  }

  parent_or_none : (b : ℕ) → ((p : ℕ) × IsParent names Below p b) ⊎ ((p : ℕ) → IsParent names Below p b → ⊥)
  parent_or_none b = elim (least_of (λ y. is_parent names up Below below tells y b) (λ y. y) names) [
    | inl found ↦ inl (found.0, (tells_parent names up Below below tells found.0 b).1 found.1.passes)
    | inr missing ↦ inr (λ p is. missing p is.above.among ((tells_parent names up Below below tells p b).0 is))
  ]

  abbrev HasRoot : ℕ → Type 0
  HasRoot n = (r : ℕ) × Contains names r × IsRoot names Below r × IsUnder names Below r n

  rooted : (fuel b n : ℕ) → Contains names b → IsLeast names Below b → IsUnder names Below b n → height b < fuel → HasRoot n
  rooted zero b n hb lb u few = absurd (omega (arith, few))
  rooted (suc fuel) b n hb lb u few = by (parent_or_none b) (rooted fuel)
    where
      by : ((p : ℕ) × IsParent names Below p b) ⊎ ((p : ℕ) → IsParent names Below p b → ⊥)
          → ((p m : ℕ) → Contains names p → IsLeast names Below p → IsUnder names Below p m → height p < fuel → HasRoot m) → HasRoot n
      by (inl p) higher =
          let less = lower b p.0 hb p.1.above.above in
          higher p.0 n p.1.above.among (parent_least b p.0 p.1) (deeper p.0 b n hb (record { least = lb; parent = p.1 }) u) (omega (arith, less, few))
      by (inr missing) higher = (b, hb, record { least = lb; no_parent = missing }, u)

  -- the least name of a class
  pub leader : (n : ℕ) → Contains names n → (l : ℕ) × Contains names l × IsLeast names Below l × AreEquivalent names Below l n
  leader n hn = elim (least_of (is_equivalent names up Below below tells n) (λ y. y) names) [
    | inl found ↦ let e = (tells_equivalent names up Below below tells n found.0).1 found.1.passes in (
      found.0,
      found.1.among,
      record {
        least = λ d hd q. found.1.least d hd ((tells_equivalent names up Below below tells n d).0 (through n found.0 d e.0 q.0, through d found.0 n q.1 e.1));
      },
      (e.1, e.0),
    )
    | inr missing ↦ absurd (missing n hn ((tells_equivalent names up Below below tells n n).0 (same n hn, same n hn)))
  ]

  pub all_numbered : (numbered : List ℕ) → IsDepthFirst names Below numbered → (n : ℕ) → Contains names n → Contains numbered n
  all_numbered numbered is n hn =
      let l = leader n hn in
      let r = rooted (suc (height l.0)) l.0 n l.1 l.2 (inside l.0 n hn l.3) (omega arith) in
      under_numbered names Below is.roots numbered is.order r.0 n ((is.are.exact r.0).1 (r.1, r.2)) r.3

  -- ---- where something is strictly above, there is a parent

  some_parent : (b c : ℕ) → Contains names c → IsStrictlyAbove names Below c b → (p : ℕ) × IsParent names Below p b
  some_parent b c hc above = by (least_of (λ y. is_above names up Below below tells y b) size names)
    where
      first : (m : ℕ) → IsLeastOf (λ y. is_above names up Below below tells y b) size names m → IsLeastAbove names Below m b
      first m is = record {
        among = is.among;
        above = (tells_above names up Below below tells m b).1 is.passes;
        least = λ d hd sd dm. at d hd sd dm (below m d) (tells m d);
      }
        where
          at : (d : ℕ) → Contains names d → IsStrictlyAbove names Below d b → Below d m → (t : Bool) → Tells t (Below m d) → Below m d
          at d hd sd dm true told = told.1 refl
          at d hd sd dm false told =
              let less = larger d m is.among (dm, λ h. true≢false (sym (told.0 h))) in
              let least = is.least d hd ((tells_above names up Below below tells d b).0 sd) in
              absurd (omega (arith, less, least))

      of_least : (m : ℕ) → IsLeastAbove names Below m b → (p : ℕ) × IsParent names Below p b
      of_least m is = elim (least_of (λ y. is_first_above names up Below below tells y b) (λ y. y) names) [
        | inl found ↦ (
          found.0,
          record {
            above = (tells_first_above names up Below below tells found.0 b).1 found.1.passes;
            first = λ d l. found.1.least d l.among ((tells_first_above names up Below below tells d b).0 l);
          },
        )
        | inr missing ↦ absurd (missing m is.among ((tells_first_above names up Below below tells m b).0 is))
      ]

      by : ((m : ℕ) × IsLeastOf (λ y. is_above names up Below below tells y b) size names m)
          ⊎ ((n : ℕ) → Contains names n → is_above names up Below below tells n b ≡ true → ⊥) → (p : ℕ) × IsParent names Below p b
      by (inl found) = of_least found.0 (first found.0 found.1)
      by (inr missing) = absurd (missing c hc ((tells_above names up Below below tells c b).0 above))

  -- ---- in a forest all that is below a class is under it

  module _ (forest : IsForest names Below) (c : ℕ) (hc : Contains names c) (lc : IsLeast names Below c) where
    reaches : (fuel b n : ℕ) → Contains names b → IsLeast names Below b → IsUnder names Below b n → Below b c → height b < fuel → IsUnder names Below c n
    reaches zero b n hb lb u le few = absurd (omega (arith, few))
    reaches (suc fuel) b n hb lb u le few = by (below c b) (tells c b) (reaches fuel)
      where
        by : (t : Bool) → Tells t (Below c b)
            → ((p m : ℕ) → Contains names p → IsLeast names Below p → IsUnder names Below p m → Below p c → height p < fuel → IsUnder names Below c m)
            → IsUnder names Below c n
        by true told higher = subst (λ x. IsUnder names Below x n) (one_least names Below b c hb hc lb lc (le, told.1 refl)) u
        by false told higher =
            let above : IsStrictlyAbove names Below c b = (le, λ h. true≢false (sym (told.0 h))) in
            let p = some_parent b c hc above in
            let less = lower b p.0 hb p.1.above.above in
            let on : Below p.0 c = elim (forest b p.0 c hb p.1.above.among hc p.1.above.above.0 le) [
              | inl q ↦ q
              | inr q ↦ p.1.above.least c hc above q
            ] in
            higher p.0 n p.1.above.among (parent_least b p.0 p.1) (deeper p.0 b n hb (record { least = lb; parent = p.1 }) u) on (omega (arith, less, few))

    pub below_under : (n : ℕ) → Contains names n → Below n c → IsUnder names Below c n
    below_under n hn le =
        let l = leader n hn in
        reaches (suc (height l.0)) l.0 n l.1 l.2 (inside l.0 n hn l.3) (through l.0 n c l.3.0 le) (omega arith)
