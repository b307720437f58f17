-- Classes and those below them by their chosen parents, in an order of names: a class has one parent, and nothing is
-- below two children of one class.
use Rattle.std.proofs.Common.{◌≡◌, ℕ, ◌⊎◌, inl, inr, List, ◌∷◌, ◌++◌, refl, sym, ap₂, subst, le_antisymm}
use Rattle.std.specs.List.{Contains}
use Rattle.std.proofs.lemmas.List.Elements.{Contains-append_left, Contains-append_right, Contains-append_cases}
use Rattle.std.proofs.lemmas.Map.Keys.{sorted_from_strictly_increasing}
use Rattle.dl_terms.proofs.OrderLemmas.{numbers_linear}
use Rattle.dl_terms.proofs.MemberLemmas.{sorted_unique, Contains-nil, Contains-cons, Contains-first, Contains-later}
use Rattle.dl_numbers.specs.DepthFirst.{AreExactly, AreEquivalent, IsLeast, IsParent, IsRoot, IsChild, AreDepthFirst, IsDepthFirst, none, tree}
use Rattle.dl_numbers.proofs.ListLemmas.{IsDistinct, ascending_distinct, append_distinct}

-- ---- the rule gives one list

pub exactly_one : (names : List ℕ) (IsThat : ℕ → Type 0) (xs ys : List ℕ) → AreExactly names IsThat xs → AreExactly names IsThat ys → xs ≡ ys
exactly_one names IsThat xs ys one two = sorted_unique numbers_linear xs ys (sorted_from_strictly_increasing xs one.ascending)
    (sorted_from_strictly_increasing ys two.ascending) (λ n c. (two.exact n).1 ((one.exact n).0 c)) (λ n c. (one.exact n).1 ((two.exact n).0 c))

module _ (names : List ℕ) (Below : ℕ → ℕ → Type 0) where
  order_one : (classes xs ys : List ℕ) → AreDepthFirst names Below classes xs → AreDepthFirst names Below classes ys → xs ≡ ys
  order_one classes xs ys none none = refl
  order_one classes xs ys (tree c cs ms bs below others am ab d1 d2) (tree c' cs' ms' bs' below' others' am' ab' d1' d2') =
      let members = exactly_one names (AreEquivalent names Below c) ms ms' am am' in
      let children = exactly_one names (IsChild names Below c) bs bs' ab ab' in
      let deeper = order_one bs below below' d1 (subst (λ zs. AreDepthFirst names Below zs below') (sym children) d1') in
      let further = order_one cs others others' d2 d2' in
      ap₂ (λ us vs. us ++ vs) (ap₂ (λ us vs. us ++ vs) members deeper) further

  pub depth_first_one : (xs ys : List ℕ) → IsDepthFirst names Below xs → IsDepthFirst names Below ys → xs ≡ ys
  depth_first_one xs ys one two =
      let roots = exactly_one names (IsRoot names Below) one.roots two.roots one.are two.are in
      order_one one.roots xs ys one.order (subst (λ zs. AreDepthFirst names Below zs ys) (sym roots) two.order)

  -- ---- what is below a class by parents

  -- a name of the class, or of one below it by parents
  pub data IsUnder : ℕ → ℕ → Type 0 where
    inside : (class name : ℕ) → Contains names name → AreEquivalent names Below class name → IsUnder class name
    deeper : (class child name : ℕ) → Contains names child → IsChild names Below class child → IsUnder child name → IsUnder class name

  -- the names in order are those under the classes
  pub numbered_under : (classes xs : List ℕ) → AreDepthFirst names Below classes xs → (n : ℕ) → Contains xs n
      → (class : ℕ) × Contains classes class × IsUnder class n
  numbered_under classes xs none n c = absurd (Contains-nil n c)
  numbered_under classes xs (tree class cs ms bs below others am ab d1 d2) n c =
      by (Contains-append_cases (ms ++ below) others n c) (numbered_under bs below d1 n) (numbered_under cs others d2 n)
    where
      by : Contains (ms ++ below) n ⊎ Contains others n → (Contains below n → (b : ℕ) × Contains bs b × IsUnder b n)
          → (Contains others n → (b : ℕ) × Contains cs b × IsUnder b n) → (b : ℕ) × Contains (class ∷ cs) b × IsUnder b n
      by (inl own) in_below in_others = elim (Contains-append_cases ms below n own) [
        | inl member ↦ let m = (am.exact n).0 member in (class, Contains-first class cs, inside class n m.0 m.1)
        | inr lower ↦ let u = in_below lower in let b = (ab.exact u.0).0 u.1 in
            (class, Contains-first class cs, deeper class u.0 n b.0 b.1 u.2)
      ]
      by (inr further) in_below in_others = let u = in_others further in (u.0, Contains-later class u.0 cs u.1, u.2)

  pub under_numbered : (classes xs : List ℕ) → AreDepthFirst names Below classes xs → (b n : ℕ) → Contains classes b → IsUnder b n → Contains xs n
  under_numbered classes xs none b n c u = absurd (Contains-nil b c)
  under_numbered classes xs (tree class cs ms bs below others am ab d1 d2) b n c u =
      by (Contains-cons class b cs c) (under_numbered bs below d1) (under_numbered cs others d2 b n)
    where
      head : IsUnder class n → ((d m : ℕ) → Contains bs d → IsUnder d m → Contains below m) → Contains (ms ++ below ++ others) n
      head (inside class' name m e) in_below =
          Contains-append_left (ms ++ below) others n (Contains-append_left ms below n ((am.exact n).1 (m, e)))
      head (deeper class' child name m is v) in_below = Contains-append_left (ms ++ below) others n
          (Contains-append_right ms below n (in_below child n ((ab.exact child).1 (m, is)) v))

      by : (class ≡ b) ⊎ Contains cs b → ((d m : ℕ) → Contains bs d → IsUnder d m → Contains below m)
          → (Contains cs b → IsUnder b n → Contains others n) → Contains (ms ++ below ++ others) n
      by (inl same) in_below in_others = head (subst (λ d. IsUnder d n) (sym same) u) in_below
      by (inr later) in_below in_others = Contains-append_right (ms ++ below) others n (in_others later u)

  -- ---- a class has one parent

  pub one_parent : (a b c : ℕ) → IsParent names Below b a → IsParent names Below c a → b ≡ c
  one_parent a b c p q = le_antisymm (p.first c q.above) (q.first b p.above)

  pub one_least : (a b : ℕ) → Contains names a → Contains names b → IsLeast names Below a → IsLeast names Below b → AreEquivalent names Below a b → a ≡ b
  one_least a b ha hb p q e = le_antisymm (p.least b hb e) (q.least a ha (e.1, e.0))

  pub under_named : (c n : ℕ) → IsUnder c n → Contains names n
  under_named c n (inside class name m e) = m
  under_named c n (deeper class child name m is u) = under_named child n u

  module _ (through : (a b c : ℕ) → Below a b → Below b c → Below a c) where
    pub under_below : (c n : ℕ) → IsUnder c n → Below n c
    under_below c n (inside class name m e) = e.1
    under_below c n (deeper class child name m is u) = through n child c (under_below child n u) is.parent.above.above.0

    -- what is under a class is so by each of its names
    same_under : (d n c : ℕ) → Contains names c → AreEquivalent names Below c n → IsUnder d n → IsUnder d c
    same_under d n c named e (inside class name m f) = inside d c named (through d n c f.0 e.1, through c n d e.0 f.1)
    same_under d n c named e (deeper class child name m is u) = deeper d child c m is (same_under child n c named e u)

    -- one level up
    climbs : (d b c : ℕ) → Contains names b → IsLeast names Below b → Contains names c → Below c c → IsParent names Below c b → IsUnder d b
        → AreEquivalent names Below d b ⊎ IsUnder d c
    climbs d b c hb lb hc same parent (inside class name m e) = inl e
    climbs d b c hb lb hc same parent (deeper class child name m is u) = by (climbs child b c hb lb hc same parent u)
      where
        by : AreEquivalent names Below child b ⊎ IsUnder child c → AreEquivalent names Below d b ⊎ IsUnder d c
        by (inl e) =
            let here = one_least child b m hb is.least lb e in
            let above = one_parent b d c (subst (IsParent names Below d) here is.parent) parent in
            inr (inside d c hc (subst (λ x. AreEquivalent names Below x c) (sym above) (same, same)))
        by (inr v) = inr (deeper d child c m is v)

    -- of two classes above one by parents, one is under the other
    meet : (c d n : ℕ) → ((a : ℕ) → Contains names a → Below a a) → Contains names c → Contains names d → IsLeast names Below c → IsLeast names Below d
        → IsUnder c n → IsUnder d n → IsUnder c d ⊎ IsUnder d c
    meet c d n same hc hd lc ld (inside class name m e) v = inr (same_under d n c hc e v)
    meet c d n same hc hd lc ld (deeper class b name m is u) v = by (meet b d n same m hd is.least ld u v)
      where
        by : IsUnder b d ⊎ IsUnder d b → IsUnder c d ⊎ IsUnder d c
        by (inl w) = inl (deeper c b d m is w)
        by (inr w) = elim (climbs d b c m is.least hc (same c hc) is.parent w) [
          | inl e ↦ inl (deeper c b d m is (inside b d hd (e.1, e.0)))
          | inr x ↦ inr x
        ]

    -- what is under a class is of it, or has a parent
    has_parent : (c d : ℕ) → Contains names d → IsLeast names Below d → IsUnder c d → AreEquivalent names Below c d ⊎ ((p : ℕ) × IsParent names Below p d)
    has_parent c d hd ld (inside class name m e) = inl e
    has_parent c d hd ld (deeper class child name m is u) = by (has_parent child d hd ld u)
      where
        by : AreEquivalent names Below child d ⊎ ((p : ℕ) × IsParent names Below p d) → AreEquivalent names Below c d ⊎ ((p : ℕ) × IsParent names Below p d)
        by (inl e) = inr (c, subst (IsParent names Below c) (one_least child d m hd is.least ld e) is.parent)
        by (inr p) = inr p

    -- ---- nothing is under two roots, or under two children of one class

    abbrev AreApart : List ℕ → Type 0
    AreApart classes = (c d n : ℕ) → Contains classes c → Contains classes d → (c ≡ d → ⊥) → IsUnder c n → IsUnder d n → ⊥

    module _ (same : (a : ℕ) → Contains names a → Below a a) where
      no_under_root : (c d : ℕ) → Contains names c → Contains names d → IsLeast names Below c → IsRoot names Below d → (c ≡ d → ⊥) → IsUnder c d → ⊥
      no_under_root c d hc hd lc root other u = elim (has_parent c d hd root.least u) [
        | inl e ↦ other (one_least c d hc hd lc root.least e)
        | inr p ↦ root.no_parent p.0 p.1
      ]

      pub roots_apart : (roots : List ℕ) → AreExactly names (IsRoot names Below) roots → AreApart roots
      roots_apart roots are c d n hc hd other u v =
          let rc = (are.exact c).0 hc in
          let rd = (are.exact d).0 hd in
          elim (meet c d n same rc.0 rd.0 rc.1.least rd.1.least u v) [
            | inl w ↦ no_under_root c d rc.0 rd.0 rc.1.least rd.1 other w
            | inr w ↦ no_under_root d c rd.0 rc.0 rd.1.least rc.1 (λ e. other (sym e)) w
          ]

      no_under_child : (p c d : ℕ) → Contains names c → Contains names d → IsChild names Below p c → IsChild names Below p d → (c ≡ d → ⊥) → IsUnder c d → ⊥
      no_under_child p c d hc hd ic id other u =
          let hp = id.parent.above.among in
          elim (climbs c d p hd id.least hp (same p hp) id.parent u) [
            | inl e ↦ other (one_least c d hc hd ic.least id.least e)
            | inr v ↦ ic.parent.above.above.1 (under_below c p v)
          ]

      pub children_apart : (p : ℕ) (children : List ℕ) → AreExactly names (IsChild names Below p) children → AreApart children
      children_apart p children are c d n hc hd other u v =
          let rc = (are.exact c).0 hc in
          let rd = (are.exact d).0 hd in
          elim (meet c d n same rc.0 rd.0 rc.1.least rd.1.least u v) [
            | inl w ↦ no_under_child p c d rc.0 rd.0 rc.1 rd.1 other w
            | inr w ↦ no_under_child p d c rd.0 rc.0 rd.1 rc.1 (λ e. other (sym e)) w
          ]

      -- so each name stands once
      pub order_distinct : (classes xs : List ℕ) → AreDepthFirst names Below classes xs → IsDistinct classes → AreApart classes → IsDistinct xs
      order_distinct classes xs none once apart = tt
      order_distinct classes xs (tree class cs ms bs below others am ab d1 d2) once apart =
          let members = ascending_distinct ms am.ascending in
          let lower = order_distinct bs below d1 (ascending_distinct bs ab.ascending) (children_apart class bs ab) in
          let further = order_distinct cs others d2 once.1 (λ c d n hc hd. apart c d n (Contains-later class c cs hc) (Contains-later class d cs hd)) in
          append_distinct (ms ++ below) others (append_distinct ms below members lower member_lower) further
          (λ n r q. elim (Contains-append_cases ms below n r) [ inl m ↦ member_other n m q | inr p ↦ lower_other n p q ])
        where
          other : (n : ℕ) → IsUnder class n → Contains others n → ⊥
          other n u q = let v = numbered_under cs others d2 n q in
              apart class v.0 n (Contains-first class cs) (Contains-later class v.0 cs v.1) (λ e. once.0 (subst (Contains cs) (sym e) v.1)) u v.2

          lower_other : (n : ℕ) → Contains below n → Contains others n → ⊥
          lower_other n p q = let u = numbered_under bs below d1 n p in let b = (ab.exact u.0).0 u.1 in
              other n (deeper class u.0 n b.0 b.1 u.2) q

          member_other : (n : ℕ) → Contains ms n → Contains others n → ⊥
          member_other n m q = let e = (am.exact n).0 m in other n (inside class n e.0 e.1) q

          member_lower : (n : ℕ) → Contains ms n → Contains below n → ⊥
          member_lower n m p =
              let e = (am.exact n).0 m in
              let u = numbered_under bs below d1 n p in
              let b = (ab.exact u.0).0 u.1 in
              b.1.parent.above.above.1 (through class n u.0 e.1.0 (under_below u.0 n u.2))

      pub depth_first_distinct : (xs : List ℕ) → IsDepthFirst names Below xs → IsDistinct xs
      depth_first_distinct xs is = order_distinct is.roots xs is.order (ascending_distinct is.roots is.are.ascending) (roots_apart is.roots is.are)
