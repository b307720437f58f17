-- Numbers by the rule, of any order of names that is decided: there are some, and each name has one. And an order that a
-- graph tells place for place has the numbers of the graph. What stands above opens the rule no further than this.
use Rattle.std.proofs.Common.{◌≡◌, ℕ, ◌<◌, ◌⊎◌, ◌↔◌, Bool, List, length, get_or, slice_index_or, subst, sym, ◌∙◌}
use Rattle.std.specs.List.{Contains}
use Rattle.std.specs.List.Sorted.{IsStrictlyIncreasing}
use Rattle.std.proofs.lemmas.List.{get_or_default}
use Rattle.dl_reach.specs.Chain.{Chain}
use Rattle.dl_reach.specs.Digraph.{Digraph, IsEdge}
use Rattle.dl_numbers.specs.Numbers.{IsBelow}
use Rattle.dl_numbers.specs.Rule.{IsByRule}
use Rattle.dl_numbers.specs.Runs.{AreNumbered, IsForest, HasOneInterval}
use Rattle.dl_numbers.proofs.TestLemmas.{Tells}
use Rattle.dl_numbers.proofs.OrderLemmas.{IsDecided}
use Rattle.dl_numbers.proofs.LawLemmas.{is_so, so_tells}
use Rattle.dl_numbers.proofs.DepthFirstLemmas as depth_first
use Rattle.dl_numbers.proofs.NameLemmas.{below_at}
use Rattle.dl_numbers.proofs.ListLemmas.{IsDistinct}
use Rattle.dl_numbers.proofs.UnderLemmas.{depth_first_one, depth_first_distinct, numbered_under, under_named}
use Rattle.dl_numbers.proofs.RuleLemmas.{depth_first_agree, depth_first_members}
use Rattle.dl_numbers.proofs.RunLemmas.{each_numbered, one_interval}

-- the rule tells one list, and it looks at which names there are, not at how they are listed
pub rule_is_one : (names : List ℕ) (Below : ℕ → ℕ → Type 0) (one two : List ℕ) → IsByRule names Below one
    → IsByRule names Below two → one ≡ two
rule_is_one names Below = depth_first_one names Below

pub rule_members : (ns ms : List ℕ) (Below : ℕ → ℕ → Type 0) → ((n : ℕ) → Contains ns n ↔ Contains ms n) → (numbered : List ℕ)
    → IsByRule ns Below numbered → IsByRule ms Below numbered
rule_members = depth_first_members

module _ (names : List ℕ) (up : IsStrictlyIncreasing names) (Below : ℕ → ℕ → Type 0) where
  -- ---- decided orders

  module _ (same : (a : ℕ) → Below a a) (through : (a b c : ℕ) → Below a b → Below b c → Below a c)
      (decide : (a b : ℕ) → IsDecided (Below a b)) where
    test : ℕ → ℕ → Bool
    test a b = is_so (decide a b)

    tells : (a b : ℕ) → Tells (test a b) (Below a b)
    unfolding test
    tells a b = so_tells (Below a b) (decide a b)

    pub numbers_exist : (numbered : List ℕ) × IsByRule names Below numbered
    numbers_exist = depth_first.numbers_exist names up Below (λ a c. same a) through test tells

    pub rule_numbers : (numbered : List ℕ) → IsByRule names Below numbered → AreNumbered names numbered
    rule_numbers = each_numbered names up Below (λ a c. same a) through test tells

    pub rule_distinct : (numbered : List ℕ) → IsByRule names Below numbered → IsDistinct numbered
    rule_distinct = depth_first_distinct names Below through (λ a c. same a)

    pub rule_names : (numbered : List ℕ) → IsByRule names Below numbered → (n : ℕ) → Contains numbered n ↔ Contains names n
    rule_names numbered is n = (
      λ c. let u = numbered_under names Below is.roots numbered is.order n c in under_named names Below u.0 n u.2,
      λ c. depth_first.all_numbered names up Below (λ a h. same a) through test tells numbered is n c,
    )

    pub rule_interval : IsForest names Below → (numbered : List ℕ) → IsByRule names Below numbered
        → (name : ℕ) → Contains names name → HasOneInterval numbered (λ a. Below a name)
    rule_interval = one_interval names up Below (λ a c. same a) through test tells

  -- ---- orders that a graph tells

  module _ (order : Digraph) (long : order.nodes ≡ length names)
      (told : (i j : ℕ) → i < length names → j < length names
      → Chain (IsEdge order) i j ↔ Below (slice_index_or names i 0) (slice_index_or names j 0)) where
    same_below : (a b : ℕ) → Contains names a → Contains names b → IsBelow names order a b ↔ Below a b
    same_below a b ha hb =
        let first : get_or names ha.0 0 ≡ a = get_or_default names ha.0 0 a ha.1 ∙ ha.2 in
        let second : get_or names hb.0 0 ≡ b = get_or_default names hb.0 0 b hb.1 ∙ hb.2 in
        let at = below_at names up order (sym long) ha.0 hb.0 (subst (λ n. ha.0 < n) (sym long) ha.1) (subst (λ n. hb.0 < n) (sym long) hb.1) in
        let is = told ha.0 hb.0 ha.1 hb.1 in
        subst (λ x. IsBelow names order x b ↔ Below x b) first
        (subst (λ y. IsBelow names order (get_or names ha.0 0) y ↔ Below (get_or names ha.0 0) y) second
        ((λ d. is.0 (at.1 d)), (λ d. at.0 (is.1 d))))

    pub rule_by_order : (numbered : List ℕ) → IsByRule names (IsBelow names order) numbered → IsByRule names Below numbered
    rule_by_order = depth_first_agree names (IsBelow names order) Below same_below
