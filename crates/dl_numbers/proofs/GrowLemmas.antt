-- The loop that puts places in order: what is in order so far, and what the classes that wait give behind it, is the
-- whole order.
use Rattle.std.proofs.Common.{◌≡◌, ℕ, zero, suc, ◌<◌, ◌≤◌, ◌⊎◌, inl, inr, Bool, true, false, eqb, List, [], ◌∷◌, ◌++◌, reverse, length, length-append, get_or, Option, Some, None, MatchOption, refl, sym, ap, ap₂, subst, ◌∙◌, append_assoc, append-nil, true≢false, arith}
use Rattle.std.specs.List.{Contains}
use Rattle.std.specs.Option.{option_eq}
use Rattle.std.specs.List.Sorted.{IsStrictlyIncreasing}
use Rattle.std.proofs.lemmas.Bool.{eq-eqb, eqb-true}
use Rattle.std.proofs.lemmas.List.{reverse-append}
use Rattle.std.proofs.lemmas.List.Elements.{Contains-append_left, Contains-append_cases}
use Rattle.dl_terms.proofs.MemberLemmas.{Contains-nil, Contains-first, Contains-later, Contains-one, Contains-middle}
use Rattle.dl_reach.specs.Digraph.{Digraph, IsEdge, AreConnected}
use Rattle.dl_reach.proofs.Chains.{Chain-refl, Chain-trans}
use Rattle.dl_numbers.specs.DepthFirst.{AreExactly, AreEquivalent, IsParent, IsRoot, IsChild, AreDepthFirst, IsDepthFirst, none, tree}
use Rattle.dl_numbers.specs.Places.{places, Reaches, AreLeaders, AreParents}
use Rattle.dl_numbers.specs.Runs.{AreNumbered}
use Rattle.dl_numbers.proofs.TestLemmas.{Tells}
use Rattle.dl_numbers.proofs.OrderLemmas.{chain_decided}
use Rattle.dl_numbers.proofs.LawLemmas.{is_so, so_tells}
use Rattle.dl_numbers.proofs.DepthFirstLemmas as depth_first
use Rattle.dl_numbers.proofs.RunLemmas.{each_numbered}
use Rattle.dl_numbers.proofs.UnderLemmas.{exactly_one, one_parent}
use Rattle.dl_numbers.proofs.PlaceLemmas.{in_places, is_least, least_is, one_class, same_leader, rises_more}

-- ---- lists turned round

reverse_one : (x : ℕ) → reverse (x ∷ []) ≡ x ∷ []
reverse_one x = refl

pub reverse_front : (x : ℕ) (xs : List ℕ) → reverse (x ∷ xs) ≡ reverse xs ++ x ∷ []
reverse_front x xs = reverse-append (x ∷ []) xs

pub reverse_back : (xs : List ℕ) (x : ℕ) → reverse (xs ++ x ∷ []) ≡ x ∷ reverse xs
reverse_back xs x = reverse-append xs (x ∷ [])

pub reverse_twice : (xs : List ℕ) → reverse (reverse xs) ≡ xs
reverse_twice [] = refl
reverse_twice (x ∷ xs) = ap reverse (reverse_front x xs) ∙ reverse_back (reverse xs) x ∙ ap (λ zs. x ∷ zs) (reverse_twice xs)

in_reverse : (xs : List ℕ) (x : ℕ) → Contains (reverse xs) x → Contains xs x
in_reverse [] x c = absurd (Contains-nil x c)
in_reverse (y ∷ xs) x c = by (Contains-append_cases (reverse xs) (y ∷ []) x (subst (λ zs. Contains zs x) (reverse_front y xs) c)) (in_reverse xs x)
  where
    by : Contains (reverse xs) x ⊎ Contains (y ∷ []) x → (Contains (reverse xs) x → Contains xs x) → Contains (y ∷ xs) x
    by (inl left) rest = Contains-later y x xs (rest left)
    by (inr right) rest = subst (Contains (y ∷ xs)) (Contains-one y x right) (Contains-first y xs)

pub nothing : (xs : List ℕ) → length xs ≡ 0 → xs ≡ []
nothing [] e = refl
nothing (x ∷ xs) e = absurd (omega (arith, e))

pub option_same : (a b : Option ℕ) → option_eq eqb a b ≡ true → a ≡ b
option_same None None e = refl
option_same None (Some y) e = absurd (true≢false (sym e))
option_same (Some x) None e = absurd (true≢false (sym e))
option_same (Some x) (Some y) e = ap Some (eqb-true x y e)

option_itself : (a : Option ℕ) → option_eq eqb a a ≡ true
option_itself None = refl
option_itself (Some x) = eq-eqb x x refl

pub option_other : (a b : Option ℕ) → option_eq eqb a b ≡ false → a ≡ b → ⊥
option_other a b e same = true≢false (sym (option_itself a) ∙ ap (option_eq eqb a) same ∙ e)

abbrev tail : List ℕ → List ℕ
tail [] = []
tail (x ∷ xs) = xs

-- ---- the rule's lists by the tables

same_exactly : (names : List ℕ) (P Q : ℕ → Type 0) (xs : List ℕ) → AreExactly names P xs → ((k : ℕ) → Contains names k → P k → Q k)
    → ((k : ℕ) → Contains names k → Q k → P k) → AreExactly names Q xs
same_exactly names P Q xs are to back = record {
  ascending = are.ascending;
  exact = λ k. (λ c. let h = (are.exact k).0 c in (h.0, to k h.0 h.1), λ h. (are.exact k).1 (h.0, back k h.0 h.1));
}

module _ (order : Digraph) (leaders : List ℕ) (are : AreLeaders order leaders) where
  abbrev leader : ℕ → ℕ
  leader k = get_or leaders k 0

  pub members_told : (class : ℕ) → class < order.nodes → leader class ≡ class → (xs : List ℕ) → AreExactly (places (length leaders)) (λ k. leader k ≡ class) xs
      → AreExactly (places order.nodes) (AreEquivalent (places order.nodes) (Reaches order) class) xs
  members_told class h top xs told =
      same_exactly (places order.nodes) (λ k. leader k ≡ class) (AreEquivalent (places order.nodes) (Reaches order) class) xs
      (subst (λ m. AreExactly (places m) (λ k. leader k ≡ class) xs) are.count told)
      (λ k c e. one_class order leaders are class k h ((in_places order.nodes k).0 c) (top ∙ sym e))
      (λ k c e. let hk = (in_places order.nodes k).0 c in back k hk (e.1, e.0))
    where
      back : (k : ℕ) → k < order.nodes → AreConnected order k class → leader k ≡ class
      back k hk e = same_leader order leaders are k class hk h e ∙ top

  module _ (parents : List (Option ℕ)) (tell : AreParents order parents) where
    abbrev parent : ℕ → Option ℕ
    parent k = get_or parents k None

    told_at : (k : ℕ) → k < order.nodes → leader k ≡ k → (p : Option ℕ) → parent k ≡ p
        → MatchOption p ((q : ℕ) → IsParent (places order.nodes) (Reaches order) q k → ⊥) (λ q. IsParent (places order.nodes) (Reaches order) q k)
    told_at k h top p e = subst (λ o. MatchOption o ((q : ℕ) → IsParent (places order.nodes) (Reaches order) q k → ⊥) (λ q. IsParent (places order.nodes) (Reaches order) q k)) e
        (tell.each k h (is_least order leaders are k h top))

    pub roots_told : (xs : List ℕ) → AreExactly (places (length leaders)) (λ k. (leader k ≡ k) × (parent k ≡ None)) xs
        → AreExactly (places order.nodes) (IsRoot (places order.nodes) (Reaches order)) xs
    roots_told xs told =
        same_exactly (places order.nodes) (λ k. (leader k ≡ k) × (parent k ≡ None)) (IsRoot (places order.nodes) (Reaches order)) xs
        (subst (λ m. AreExactly (places m) (λ k. (leader k ≡ k) × (parent k ≡ None)) xs) are.count told)
        (λ k c e. let h = (in_places order.nodes k).0 c in record { least = is_least order leaders are k h e.0; no_parent = told_at k h e.0 None e.1 })
        (λ k c root. let h = (in_places order.nodes k).0 c in let top = least_is order leaders are k h root.least in (top, no_one k h top root (parent k) refl))
      where
        no_one : (k : ℕ) → k < order.nodes → leader k ≡ k → IsRoot (places order.nodes) (Reaches order) k → (p : Option ℕ) → parent k ≡ p → p ≡ None
        no_one k h top root None e = refl
        no_one k h top root (Some q) e = absurd (root.no_parent q (told_at k h top (Some q) e))

    pub children_told : (class : ℕ) (xs : List ℕ) → AreExactly (places (length leaders)) (λ k. (leader k ≡ k) × (parent k ≡ Some class)) xs
        → AreExactly (places order.nodes) (IsChild (places order.nodes) (Reaches order) class) xs
    children_told class xs told =
        same_exactly (places order.nodes) (λ k. (leader k ≡ k) × (parent k ≡ Some class)) (IsChild (places order.nodes) (Reaches order) class) xs
        (subst (λ m. AreExactly (places m) (λ k. (leader k ≡ k) × (parent k ≡ Some class)) xs) are.count told)
        (λ k c e. let h = (in_places order.nodes k).0 c in record { least = is_least order leaders are k h e.0; parent = told_at k h e.0 (Some class) e.1 })
        (λ k c child. let h = (in_places order.nodes k).0 c in let top = least_is order leaders are k h child.least in (top, that_one k h top child (parent k) refl))
      where
        that_one : (k : ℕ) → k < order.nodes → leader k ≡ k → IsChild (places order.nodes) (Reaches order) class k → (p : Option ℕ) → parent k ≡ p → p ≡ Some class
        that_one k h top child None e = absurd (told_at k h top None e class child.parent)
        that_one k h top child (Some q) e = ap Some (one_parent (places order.nodes) (Reaches order) k q class (told_at k h top (Some q) e) child.parent)

-- ---- the order so far

places_rise : (n : ℕ) → IsStrictlyIncreasing (places n)
places_rise zero k h = absurd (omega (arith, h))
places_rise (suc n) k h = rises_more (places n) n (places_rise n) (λ j c. (in_places n j).0 c) k h

length_places : (n : ℕ) → length (places n) ≡ n
length_places zero = refl
length_places (suc n) = let e = length_places n in omega (arith, e, length-append (places n) (n ∷ []))

module _ (order : Digraph) where
  test : ℕ → ℕ → Bool
  test a b = is_so (chain_decided order.edges a b)

  tells : (a b : ℕ) → Tells (test a b) (Reaches order a b)
  unfolding test
  tells a b = so_tells (Reaches order a b) (chain_decided order.edges a b)

  some_order : (xs : List ℕ) × IsDepthFirst (places order.nodes) (Reaches order) xs
  some_order = depth_first.numbers_exist (places order.nodes) (places_rise order.nodes) (Reaches order) (λ a c. Chain-refl (IsEdge order) a) (Chain-trans (IsEdge order)) test tells

  pub places_numbered : (xs : List ℕ) → IsDepthFirst (places order.nodes) (Reaches order) xs → AreNumbered (places order.nodes) xs
  places_numbered = each_numbered (places order.nodes) (places_rise order.nodes) (Reaches order) (λ a c. Chain-refl (IsEdge order) a) (Chain-trans (IsEdge order)) test tells

  pub order_count : (xs : List ℕ) → IsDepthFirst (places order.nodes) (Reaches order) xs → length xs ≡ order.nodes
  order_count xs is = (places_numbered xs is).count ∙ length_places order.nodes

  joined : (cs ds xs ys : List ℕ) → AreDepthFirst (places order.nodes) (Reaches order) cs xs → AreDepthFirst (places order.nodes) (Reaches order) ds ys
      → AreDepthFirst (places order.nodes) (Reaches order) (cs ++ ds) (xs ++ ys)
  joined cs ds xs ys none e = e
  joined cs ds xs ys (tree c cs' ms bs below others am ab d1 d2) e =
      subst (AreDepthFirst (places order.nodes) (Reaches order) (c ∷ (cs' ++ ds))) (sym (append_assoc (ms ++ below) others ys))
      (tree c (cs' ++ ds) ms bs below (others ++ ys) am ab d1 (joined cs' ds others ys d2 e))

  -- what is in order, and the classes that wait: the next one stands last
  pub record IsGrown (leaders waiting found : List ℕ) : Type 0 where
    pub rest : List ℕ
    pub waits : AreDepthFirst (places order.nodes) (Reaches order) (reverse waiting) rest
    pub whole : IsDepthFirst (places order.nodes) (Reaches order) (found ++ rest)
    pub firsts : (c : ℕ) → Contains waiting c → (c < order.nodes) × (get_or leaders c 0 ≡ c)

  module _ (leaders : List ℕ) (are : AreLeaders order leaders) (parents : List (Option ℕ)) (tell : AreParents order parents) where
    abbrev AreBehind : Option ℕ → List ℕ → Type 0
    AreBehind p xs = AreExactly (places (length leaders)) (λ k. (get_or leaders k 0 ≡ k) × (get_or parents k None ≡ p)) xs

    firsts_of : (p : Option ℕ) (xs : List ℕ) → AreBehind p xs → (c : ℕ) → Contains (reverse xs) c → (c < order.nodes) × (get_or leaders c 0 ≡ c)
    firsts_of p xs told c h = let is = (told.exact c).0 (in_reverse xs c h) in
        (subst (λ m. c < m) are.count ((in_places (length leaders) c).0 is.0), is.1.0)

    pub grown_start : (roots waiting found : List ℕ) → AreBehind None roots → waiting ≡ reverse roots → found ≡ [] → IsGrown leaders waiting found
    grown_start roots waiting found told w f =
        let all = some_order in
        let same = exactly_one (places order.nodes) (IsRoot (places order.nodes) (Reaches order)) all.1.roots roots all.1.are (roots_told order leaders are parents tell roots told) in
        record {
          rest = all.0;
          waits = subst (λ zs. AreDepthFirst (places order.nodes) (Reaches order) zs all.0) (same ∙ sym (reverse_twice roots) ∙ ap reverse (sym w)) all.1.order;
          whole = subst (λ zs. IsDepthFirst (places order.nodes) (Reaches order) (zs ++ all.0)) (sym f) all.1;
          firsts = λ c h. firsts_of None roots told c (subst (λ zs. Contains zs c) w h);
        }

    pub record IsStep (waiting found waiting' found' : List ℕ) : Type 0 where
      pub grown : IsGrown leaders waiting' found'
      pub more : length found < length found'
      pub within : length found' ≤ order.nodes

    step_by : (class : ℕ) (left found members children rest : List ℕ) → class < order.nodes → get_or leaders class 0 ≡ class
        → AreExactly (places (length leaders)) (λ k. get_or leaders k 0 ≡ class) members → AreBehind (Some class) children
        → ((c : ℕ) → Contains left c → (c < order.nodes) × (get_or leaders c 0 ≡ c))
        → (cs : List ℕ) → cs ≡ class ∷ reverse left → AreDepthFirst (places order.nodes) (Reaches order) cs rest → IsDepthFirst (places order.nodes) (Reaches order) (found ++ rest)
        → IsStep (left ++ class ∷ []) found (left ++ reverse children) (found ++ members)
    step_by class left found members children rest h top am ab firsts cs e none whole = absurd (let l = ap length e in omega (arith, l))
    step_by class left found members children rest h top am ab firsts cs e (tree c cs' ms bs below others am' ab' d1 d2) whole =
        let same : c ≡ class = ap (λ zs. get_or zs 0 0) e in
        let tails : cs' ≡ reverse left = ap tail e in
        let m = members_told order leaders are class h top members am in
        let b = children_told order leaders are parents tell class children ab in
        let ms_same : ms ≡ members = exactly_one (places order.nodes) (AreEquivalent (places order.nodes) (Reaches order) class) ms members
        (subst (λ x. AreExactly (places order.nodes) (AreEquivalent (places order.nodes) (Reaches order) x) ms) same am') m in
        let bs_same : bs ≡ children = exactly_one (places order.nodes) (IsChild (places order.nodes) (Reaches order) class) bs children
        (subst (λ x. AreExactly (places order.nodes) (IsChild (places order.nodes) (Reaches order) x) bs) same ab') b in
        let next = joined bs cs' below others d1 d2 in
        let classes : bs ++ cs' ≡ reverse (left ++ reverse children) =
        ap₂ (λ us vs. us ++ vs) bs_same tails ∙ ap (λ us. us ++ reverse left) (sym (reverse_twice children)) ∙ sym (reverse-append left (reverse children)) in
        let all : IsDepthFirst (places order.nodes) (Reaches order) ((found ++ members) ++ (below ++ others)) =
        subst (IsDepthFirst (places order.nodes) (Reaches order))
        (ap (λ us. found ++ (us ++ below ++ others)) ms_same ∙ ap (λ us. found ++ us) (append_assoc members below others) ∙ sym (append_assoc found members (below ++ others))) whole in
        let in_it : Contains members class = (am.exact class).1 ((in_places (length leaders) class).1 (subst (λ k. class < k) (sym are.count) h), top) in
        let count = order_count ((found ++ members) ++ (below ++ others)) all in
        record {
          grown = record {
            rest = below ++ others;
            waits = subst (λ zs. AreDepthFirst (places order.nodes) (Reaches order) zs (below ++ others)) classes next;
            whole = all;
            firsts = λ c h. elim (Contains-append_cases left (reverse children) c h) [
              | inl old ↦ firsts c old
              | inr new ↦ firsts_of (Some class) children ab c new
            ];
          };
          more = let k = in_it.1 in omega (arith, k, length-append found members);
          within = omega (arith, count, length-append (found ++ members) (below ++ others));
        }

    pub grown_step : (class : ℕ) (waiting left found members children : List ℕ) → IsGrown leaders waiting found → waiting ≡ left ++ class ∷ []
        → AreExactly (places (length leaders)) (λ k. get_or leaders k 0 ≡ class) members → AreBehind (Some class) children
        → (waiting' found' : List ℕ) → waiting' ≡ left ++ reverse children → found' ≡ found ++ members → IsStep waiting found waiting' found'
    grown_step class waiting left found members children grown e am ab waiting' found' w f =
        let top = grown.firsts class (subst (λ zs. Contains zs class) (sym e) (Contains-middle left [] class)) in
        let step = step_by class left found members children grown.rest top.0 top.1 am ab
        (λ c h. grown.firsts c (subst (λ zs. Contains zs c) (sym e) (Contains-append_left left (class ∷ []) c h)))
        (reverse waiting) (ap reverse e ∙ reverse_back left class) grown.waits grown.whole in
        record {
          grown = subst (λ zs. IsGrown leaders zs found') (sym w) (subst (IsGrown leaders (left ++ reverse children)) (sym f) step.grown);
          more = subst (λ zs. length found < length zs) (sym f) step.more;
          within = subst (λ zs. length zs ≤ order.nodes) (sym f) step.within;
        }

    -- the same where the tables are lent anew
    pub stepped : (class : ℕ) (waiting left found members children : List ℕ) → IsGrown leaders waiting found → waiting ≡ left ++ class ∷ []
        → (one two : List ℕ) (three : List (Option ℕ)) → one ≡ leaders → two ≡ leaders → three ≡ parents
        → AreExactly (places (length one)) (λ k. get_or one k 0 ≡ class) members
        → AreExactly (places (length two)) (λ k. (get_or two k 0 ≡ k) × (get_or three k None ≡ Some class)) children
        → (waiting' found' : List ℕ) → waiting' ≡ left ++ reverse children → found' ≡ found ++ members → IsStep waiting found waiting' found'
    stepped class waiting left found members children grown e one two three s t u am ab waiting' found' w f =
        grown_step class waiting left found members children grown e
        (subst (λ zs. AreExactly (places (length zs)) (λ k. get_or zs k 0 ≡ class) members) s am)
        (subst (λ ps. AreExactly (places (length leaders)) (λ k. (get_or leaders k 0 ≡ k) × (get_or ps k None ≡ Some class)) children) u
        (subst (λ zs. AreExactly (places (length zs)) (λ k. (get_or zs k 0 ≡ k) × (get_or three k None ≡ Some class)) children) t ab))
        waiting' found' w f

  pub grown_end : (leaders waiting found : List ℕ) → IsGrown leaders waiting found → waiting ≡ [] → IsDepthFirst (places order.nodes) (Reaches order) found
  grown_end leaders waiting found grown e = by grown.rest (subst (λ zs. AreDepthFirst (places order.nodes) (Reaches order) (reverse zs) grown.rest) e grown.waits) grown.whole
    where
      by : (rest : List ℕ) → AreDepthFirst (places order.nodes) (Reaches order) [] rest → IsDepthFirst (places order.nodes) (Reaches order) (found ++ rest)
          → IsDepthFirst (places order.nodes) (Reaches order) found
      by rest none whole = subst (IsDepthFirst (places order.nodes) (Reaches order)) (append-nil found) whole
