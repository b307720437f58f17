-- Items of a list that were picked by their indexes, for private functions.
use Rattle.std.specs.Prelude.{ℕ, ◌↔◌, List, Contains, Any}
use Rattle.std.specs.declared.cmp.Ordering.{Ordering}
use Rattle.std.specs.List.Sorted.{IsStrictlySortedBy}
use Rattle.dl_reach.specs.Chain.{Chain}
use Rattle.dl_reach.specs.Digraph.{Digraph, IsEdge}
use Rattle.dl_hier.specs.Nodes.{StandsAt}

-- a chain leads from the node to one of the targets
abbrev pub LeadsToOneOf : Digraph → List ℕ → ℕ → Type 0
LeadsToOneOf graph targets node = Any (λ t. Chain (IsEdge graph) node t) targets

-- ascending, exactly the items at the indexes of which something holds
pub record ArePicked {A : Type 0} (cmp : A → A → Ordering) (items : List A) (IsThat : ℕ → Type 0) (found : List A)
    : Type 0 where
  pub ascending : IsStrictlySortedBy cmp found
  pub exact : (x : A) → Contains found x ↔ ((k : ℕ) × StandsAt items k x × IsThat k)

-- the targets are the nodes of those of the terms that are known
pub record AreTargets {A : Type 0} (known : List A) (terms : List A) (targets : List ℕ) : Type 0 where
  pub of_terms : (t : ℕ) → Contains targets t → (x : A) × Contains terms x × StandsAt known t x
  pub of_known : (x : A) → Contains terms x → Contains known x → (t : ℕ) × Contains targets t × StandsAt known t x
