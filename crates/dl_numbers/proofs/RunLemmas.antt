-- The numbers of depth-first order: what is under a class stands in one run, and each name stands once.
use Rattle.std.proofs.Common.{◌≡◌, ℕ, zero, suc, ◌+◌, ◌-◌, ◌<◌, ◌≤◌, ◌↔◌, ◌⊎◌, inl, inr, Bool, List, [], ◌∷◌, ◌++◌, length, get_or, slice_get, Some, refl, sym, ap, subst, ◌∙◌, append_assoc, append-nil, length-append, arith}
use Rattle.std.specs.List.{Contains}
use Rattle.std.specs.List.Sorted.{IsStrictlyIncreasing}
use Rattle.std.proofs.lemmas.List.Elements.{Contains-append_cases}
use Rattle.std.proofs.lemmas.Option.{slice_get-get_or, slice_get_within, get_or_from_slice_get}
use Rattle.dl_terms.proofs.MemberLemmas.{Contains-nil, Contains-first, Contains-later, Contains-one}
use Rattle.dl_numbers.specs.Numbers.{HasNumber}
use Rattle.dl_numbers.specs.DepthFirst.{IsLeast, AreDepthFirst, IsDepthFirst, none, tree}
use Rattle.dl_numbers.specs.Runs.{AreNumbered, IsForest, HasOneInterval}
use Rattle.dl_numbers.proofs.ListLemmas.{IsDistinct, ascending_distinct, one_place, no_more}
use Rattle.dl_numbers.proofs.TestLemmas.{Tells}
use Rattle.dl_numbers.proofs.UnderLemmas.{IsUnder, one_least, numbered_under, under_numbered, under_named, under_below, depth_first_distinct}
use Rattle.dl_numbers.proofs.DepthFirstLemmas.{leader, all_numbered, below_under}

-- ---- a part of a list

-- a list as a part of it, with what stands before and behind
record HasPart (xs part : List ℕ) : Type 0 where
  before : List ℕ
  after : List ℕ
  whole : xs ≡ before ++ part ++ after

regroup : (m b r a o : List ℕ) → (m ++ (b ++ r ++ a)) ++ o ≡ (m ++ b) ++ r ++ (a ++ o)
regroup [] b r a o = append_assoc (b ++ r) a o
regroup (x ∷ m) b r a o = ap (λ zs. x ∷ zs) (regroup m b r a o)

regroup_behind : (m b r a : List ℕ) → m ++ (b ++ r ++ a) ≡ (m ++ b) ++ r ++ a
regroup_behind [] b r a = refl
regroup_behind (x ∷ m) b r a = ap (λ zs. x ∷ zs) (regroup_behind m b r a)

at_front : (r a : List ℕ) (i d : ℕ) → i < length r → get_or (r ++ a) i d ≡ get_or r i d
at_front [] a i d h = absurd (omega (arith, h))
at_front (x ∷ r) a zero d h = refl
at_front (x ∷ r) a (suc i) d h = at_front r a i d (omega (arith, h))

at_part : (b r a : List ℕ) (i d : ℕ) → length b ≤ i → i < length b + length r → get_or (b ++ r ++ a) i d ≡ get_or r (i - length b) d
at_part [] r a i d from to = let back : i - 0 ≡ i = omega arith in at_front r a i d (omega (arith, to)) ∙ ap (λ k. get_or r k d) (sym back)
at_part (x ∷ b) r a zero d from to = absurd (omega (arith, from))
at_part (x ∷ b) r a (suc i) d from to =
    let back : suc i - length (x ∷ b) ≡ i - length b = omega arith in
    at_part b r a i d (omega (arith, from)) (omega (arith, to)) ∙ ap (λ k. get_or r k d) (sym back)

-- ---- places as numbers

-- the place of a number
placed : (xs : List ℕ) (n number : ℕ) → HasNumber xs n number → (number - 1 < length xs) × (get_or xs (number - 1) n ≡ n)
placed xs n number has = (slice_get_within xs (number - 1) n has.is, get_or_from_slice_get xs (number - 1) n n has.is)

pub number_one : (xs : List ℕ) → IsDistinct xs → (name m n : ℕ) → HasNumber xs name m → HasNumber xs name n → m ≡ n
number_one xs once name m n p q =
    let i = placed xs name m p in
    let j = placed xs name n q in
    let e = one_place xs name (m - 1) (n - 1) once i.0 j.0 i.1 j.1 in
    let f = p.from_one in
    let g = q.from_one in
    omega (arith, e, f, g)

pub number_of : (xs : List ℕ) (name : ℕ) → Contains xs name → (number : ℕ) × HasNumber xs name number
number_of xs name c = (
  c.0 + 1,
  record {
    from_one = omega arith;
    is = (let back : c.0 + 1 - 1 ≡ c.0 = omega arith in ap (slice_get xs) back) ∙ slice_get-get_or xs c.0 name c.1 ∙ ap Some c.2;
  },
)

-- ---- runs

module _ (names : List ℕ) (Below : ℕ → ℕ → Type 0) where
  record HasRun (c : ℕ) (xs : List ℕ) : Type 0 where
    run : List ℕ
    part : HasPart xs run
    order : AreDepthFirst names Below (c ∷ []) run

  run_of : (classes xs : List ℕ) → AreDepthFirst names Below classes xs → ((d : ℕ) → Contains classes d → Contains names d × IsLeast names Below d)
      → (c : ℕ) → Contains names c → IsLeast names Below c → Contains xs c → HasRun c xs
  run_of classes xs none least c hc lc in_it = absurd (Contains-nil c in_it)
  run_of classes xs (tree class cs ms bs below others am ab d1 d2) least c hc lc in_it =
      by (Contains-append_cases (ms ++ below) others c in_it)
      (run_of bs below d1 (λ d h. let is = (ab.exact d).0 h in (is.0, is.1.least)) c hc lc)
      (run_of cs others d2 (λ d h. least d (Contains-later class d cs h)) c hc lc)
    where
      here : Contains ms c → HasRun c (ms ++ below ++ others)
      here m =
          let first = least class (Contains-first class cs) in
          let same = one_least names Below class c first.0 hc first.1 lc ((am.exact c).0 m).1 in
          record {
            run = ms ++ below ++ [];
            part = record { before = []; after = others; whole = ap (λ zs. zs ++ others) (sym (append-nil (ms ++ below))) };
            order = subst (λ x. AreDepthFirst names Below (x ∷ []) (ms ++ below ++ [])) same (tree class [] ms bs below [] am ab d1 none);
          }

      lower : HasRun c below → HasRun c (ms ++ below ++ others)
      lower r = record {
        run = r.run;
        part = record {
          before = ms ++ r.part.before;
          after = r.part.after ++ others;
          whole = ap (λ zs. ms ++ zs ++ others) r.part.whole ∙ regroup ms r.part.before r.run r.part.after others;
        };
        order = r.order;
      }

      later : HasRun c others → HasRun c (ms ++ below ++ others)
      later r = record {
        run = r.run;
        part = record {
          before = ms ++ below ++ r.part.before;
          after = r.part.after;
          whole = ap (λ zs. ms ++ below ++ zs) r.part.whole ∙ regroup_behind (ms ++ below) r.part.before r.run r.part.after;
        };
        order = r.order;
      }

      by : Contains (ms ++ below) c ⊎ Contains others c → (Contains below c → HasRun c below) → (Contains others c → HasRun c others) → HasRun c (ms ++ below ++ others)
      by (inl own) in_below in_others = elim (Contains-append_cases ms below c own) [ inl m ↦ here m | inr b ↦ lower (in_below b) ]
      by (inr further) in_below in_others = later (in_others further)

  -- what stands in the run of a class is under it
  in_run : (c : ℕ) (run : List ℕ) → AreDepthFirst names Below (c ∷ []) run → (n : ℕ) → Contains run n ↔ IsUnder names Below c n
  in_run c run order n = (
    λ h. let u = numbered_under names Below (c ∷ []) run order n h in subst (λ x. IsUnder names Below x n) (sym (Contains-one c u.0 u.1)) u.2,
    λ u. under_numbered names Below (c ∷ []) run order c n (Contains-first c []) u,
  )

  run_numbers : (xs : List ℕ) → IsDistinct xs → (c : ℕ) → HasRun c xs → HasOneInterval xs (IsUnder names Below c)
  run_numbers xs once c r = record {
    first = length r.part.before + 1;
    last = length r.part.before + length r.run;
    exact = λ n number has. (
      λ u. inside n number has ((in_run c r.run r.order n).1 u),
      λ h. (in_run c r.run r.order n).0 (back n number has h.0 h.1),
    );
  }
    where
      b : ℕ
      b = length r.part.before

      read : (i d : ℕ) → b ≤ i → i < b + length r.run → get_or xs i d ≡ get_or r.run (i - b) d
      read i d from to = ap (λ zs. get_or zs i d) r.part.whole ∙ at_part r.part.before r.run r.part.after i d from to

      long : length xs ≡ length r.part.before + length r.run + length r.part.after
      long = let e = ap length r.part.whole in omega (arith, e, length-append (r.part.before ++ r.run) r.part.after, length-append r.part.before r.run)

      inside : (n number : ℕ) → HasNumber xs n number → Contains r.run n → (b + 1 ≤ number) × (number ≤ b + length r.run)
      inside n number has h =
          let k = placed xs n number has in
          let there = number_of r.run n h in
          let at : get_or xs (b + h.0) n ≡ n = read (b + h.0) n (omega arith) (omega (arith, h.1)) ∙ (let e : b + h.0 - b ≡ h.0 = omega arith in ap (λ i. get_or r.run i n) e) ∙ h.2 in
          let whole = long in
          let place = one_place xs n (number - 1) (b + h.0) once k.0 (omega (arith, h.1, whole)) k.1 at in
          let one = has.from_one in
          let few = h.1 in
          (omega (arith, place, one, few), omega (arith, place, one, few))

      back : (n number : ℕ) → HasNumber xs n number → b + 1 ≤ number → number ≤ b + length r.run → Contains r.run n
      back n number has from to =
          let k = placed xs n number has in
          (number - 1 - b, omega (arith, from, to), sym (read (number - 1) n (omega (arith, from)) (omega (arith, from, to))) ∙ k.1)

module _ (names : List ℕ) (up : IsStrictlyIncreasing names) (Below : ℕ → ℕ → Type 0) (same : (a : ℕ) → Contains names a → Below a a)
    (through : (a b c : ℕ) → Below a b → Below b c → Below a c) (below : ℕ → ℕ → Bool) (tells : (x y : ℕ) → Tells (below x y) (Below x y)) where
  pub each_numbered : (xs : List ℕ) → IsDepthFirst names Below xs → AreNumbered names xs
  each_numbered xs is =
      let once = depth_first_distinct names Below through same xs is in
      let named : (n : ℕ) → Contains xs n → Contains names n =
      λ n h. let u = numbered_under names Below is.roots xs is.order n h in under_named names Below u.0 n u.2 in
      let all = all_numbered names up Below same through below tells xs is in
      let most = no_more xs names once named in
      let least = no_more names xs (ascending_distinct names up) all in record {
        each = λ n h. number_of xs n (all n h);
        only = λ n number has. let k = placed xs n number has in named n (number - 1, k.0, k.1);
        one = number_one xs once;
        count = omega (arith, most, least);
      }

  pub one_interval : IsForest names Below → (xs : List ℕ) → IsDepthFirst names Below xs → (name : ℕ) → Contains names name
      → HasOneInterval xs (λ a. Below a name)
  one_interval forest xs is name h =
      let c = leader names up Below same through below tells name h in
      let once = depth_first_distinct names Below through same xs is in
      let run = run_of names Below is.roots xs is.order (λ d m. let root = (is.are.exact d).0 m in (root.0, root.1.least)) c.0 c.1 c.2
      (all_numbered names up Below same through below tells xs is c.0 c.1) in
      let numbers = run_numbers names Below xs once c.0 run in
      let all = each_numbered xs is in record {
        first = numbers.first;
        last = numbers.last;
        exact = λ n number has. let e = numbers.exact n number has in (
          λ le. e.0 (below_under names up Below same through below tells forest c.0 c.1 c.2 n (all.only n number has) (through n name c.0 le c.3.1)),
          λ between. through n c.0 name (under_below names Below through c.0 n (e.1 between)) c.3.0,
        );
      }
