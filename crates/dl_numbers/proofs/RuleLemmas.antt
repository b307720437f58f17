-- Depth-first order depends on how names relate to names alone, and on which names there are, not on how they are listed.
use Rattle.std.proofs.Common.{ℕ, ◌↔◌, List}
use Rattle.std.specs.List.{Contains}
use Rattle.dl_terms.proofs.MemberLemmas.{Contains-first, Contains-later}
use Rattle.dl_numbers.specs.DepthFirst.{AreExactly, AreEquivalent, IsLeast, IsStrictlyAbove, IsLeastAbove, IsParent, IsRoot, IsChild, AreDepthFirst, IsDepthFirst, none, tree}

module _ (ns ms : List ℕ) (same : (n : ℕ) → Contains ns n ↔ Contains ms n) (P Q : ℕ → ℕ → Type 0)
    (agree : (a b : ℕ) → Contains ns a → Contains ns b → P a b ↔ Q a b) where
  equivalent_too : (a b : ℕ) → Contains ns a → Contains ns b → AreEquivalent ns P a b ↔ AreEquivalent ms Q a b
  equivalent_too a b ha hb = (
    λ e. ((agree a b ha hb).0 e.0, (agree b a hb ha).0 e.1),
    λ e. ((agree a b ha hb).1 e.0, (agree b a hb ha).1 e.1),
  )

  above_too : (b a : ℕ) → Contains ns b → Contains ns a → IsStrictlyAbove ns P b a ↔ IsStrictlyAbove ms Q b a
  above_too b a hb ha = (
    λ s. ((agree a b ha hb).0 s.0, λ d. s.1 ((agree b a hb ha).1 d)),
    λ s. ((agree a b ha hb).1 s.0, λ d. s.1 ((agree b a hb ha).0 d)),
  )

  least_too : (a : ℕ) → Contains ns a → IsLeast ns P a ↔ IsLeast ms Q a
  least_too a ha = (
    λ is. record { least = λ b c e. let h = (same b).1 c in is.least b h ((equivalent_too a b ha h).1 e) },
    λ is. record { least = λ b h e. is.least b ((same b).0 h) ((equivalent_too a b ha h).0 e) },
  )

  least_above_too : (b a : ℕ) → Contains ns b → Contains ns a → IsLeastAbove ns P b a ↔ IsLeastAbove ms Q b a
  least_above_too b a hb ha = (
    λ is. record {
      among = (same b).0 hb;
      above = (above_too b a hb ha).0 is.above;
      least = λ c m s d. let h = (same c).1 m in (agree b c hb h).0 (is.least c h ((above_too c a h ha).1 s) ((agree c b h hb).1 d));
    },
    λ is. record {
      among = hb;
      above = (above_too b a hb ha).1 is.above;
      least = λ c h s d. (agree b c hb h).1 (is.least c ((same c).0 h) ((above_too c a h ha).0 s) ((agree c b h hb).0 d));
    },
  )

  parent_too : (b a : ℕ) → Contains ns b → Contains ns a → IsParent ns P b a ↔ IsParent ms Q b a
  parent_too b a hb ha = (
    λ is. record {
      above = (least_above_too b a hb ha).0 is.above;
      first = λ c l. is.first c ((least_above_too c a ((same c).1 l.among) ha).1 l);
    },
    λ is. record {
      above = (least_above_too b a hb ha).1 is.above;
      first = λ c l. is.first c ((least_above_too c a l.among ha).0 l);
    },
  )

  root_too : (a : ℕ) → Contains ns a → IsRoot ns P a ↔ IsRoot ms Q a
  root_too a ha = (
    λ is. record {
      least = (least_too a ha).0 is.least;
      no_parent = λ b p. is.no_parent b ((parent_too b a ((same b).1 p.above.among) ha).1 p);
    },
    λ is. record {
      least = (least_too a ha).1 is.least;
      no_parent = λ b p. is.no_parent b ((parent_too b a p.above.among ha).0 p);
    },
  )

  child_too : (b a : ℕ) → Contains ns b → Contains ns a → IsChild ns P b a ↔ IsChild ms Q b a
  child_too b a hb ha = (
    λ is. record { least = (least_too a ha).0 is.least; parent = (parent_too b a hb ha).0 is.parent },
    λ is. record { least = (least_too a ha).1 is.least; parent = (parent_too b a hb ha).1 is.parent },
  )

  exactly_too : (S T : ℕ → Type 0) (xs : List ℕ) → AreExactly ns S xs → ((a : ℕ) → Contains ns a → S a ↔ T a) → AreExactly ms T xs
  exactly_too S T xs are alike = record {
    ascending = are.ascending;
    exact = λ a. (
      λ c. let is = (are.exact a).0 c in ((same a).0 is.0, (alike a is.0).0 is.1),
      λ is. let h = (same a).1 is.0 in (are.exact a).1 (h, (alike a h).1 is.1),
    );
  }

  order_too : (classes xs : List ℕ) → ((c : ℕ) → Contains classes c → Contains ns c) → AreDepthFirst ns P classes xs → AreDepthFirst ms Q classes xs
  order_too classes xs among none = none
  order_too classes xs among (tree class cs members children below others am ab d1 d2) =
      let h = among class (Contains-first class cs) in
      tree class cs members children below others
      (exactly_too (AreEquivalent ns P class) (AreEquivalent ms Q class) members am (λ a. equivalent_too class a h))
      (exactly_too (IsChild ns P class) (IsChild ms Q class) children ab (λ a. child_too class a h))
      (order_too children below (λ c m. ((ab.exact c).0 m).0) d1)
      (order_too cs others (λ c m. among c (Contains-later class c cs m)) d2)

  depth_first_too : (numbered : List ℕ) → IsDepthFirst ns P numbered → IsDepthFirst ms Q numbered
  depth_first_too numbered is = record {
    roots = is.roots;
    are = exactly_too (IsRoot ns P) (IsRoot ms Q) is.roots is.are root_too;
    order = order_too is.roots numbered (λ c m. ((is.are.exact c).0 m).0) is.order;
  }

pub depth_first_agree : (names : List ℕ) (P Q : ℕ → ℕ → Type 0) → ((a b : ℕ) → Contains names a → Contains names b → P a b ↔ Q a b)
    → (numbered : List ℕ) → IsDepthFirst names P numbered → IsDepthFirst names Q numbered
depth_first_agree names P Q agree = depth_first_too names names (λ n. (λ c. c, λ c. c)) P Q agree

pub depth_first_members : (ns ms : List ℕ) (Below : ℕ → ℕ → Type 0) → ((n : ℕ) → Contains ns n ↔ Contains ms n)
    → (numbered : List ℕ) → IsDepthFirst ns Below numbered → IsDepthFirst ms Below numbered
depth_first_members ns ms Below same = depth_first_too ns ms same Below Below (λ a b ha hb. (λ d. d, λ d. d))
