-- Depth-first numbers (after the semantic index of Rodríguez-Muro and Calvanese; the rule, with one number for each
-- name and separate numbers for equivalent ones, is this project's own): the numbers of the names below any one name
-- are one interval where the order is a forest.
use Rattle.std.specs.Prelude.{ℕ, ◌≤◌, ◌↔◌, List, [], ◌∷◌, ◌++◌, Contains}
use Rattle.std.specs.List.Sorted.{IsStrictlyIncreasing}

-- ascending, exactly the names of which something holds
pub record AreExactly (names : List ℕ) (IsThat : ℕ → Type 0) (found : List ℕ) : Type 0 where
  pub ascending : IsStrictlyIncreasing found
  pub exact : (n : ℕ) → Contains found n ↔ (Contains names n × IsThat n)

module _ (names : List ℕ) (Below : ℕ → ℕ → Type 0) where
  -- names that are below each other form a class
  abbrev pub AreEquivalent : ℕ → ℕ → Type 0
  AreEquivalent a b = Below a b × Below b a

  -- a class goes by its least name
  pub record IsLeast (a : ℕ) : Type 0 where
    pub least : (b : ℕ) → Contains names b → AreEquivalent a b → a ≤ b

  abbrev pub IsStrictlyAbove : ℕ → ℕ → Type 0
  IsStrictlyAbove b a = Below a b × (Below b a → ⊥)

  -- of the classes strictly above a, one of the least
  pub record IsLeastAbove (b a : ℕ) : Type 0 where
    pub among : Contains names b
    pub above : IsStrictlyAbove b a
    pub least : (c : ℕ) → Contains names c → IsStrictlyAbove c a → Below c b → Below b c

  -- the parent of a class: of those the one whose least name is least, by that name
  pub record IsParent (b a : ℕ) : Type 0 where
    pub above : IsLeastAbove b a
    pub first : (c : ℕ) → IsLeastAbove c a → b ≤ c

  -- a class without a parent
  pub record IsRoot (a : ℕ) : Type 0 where
    pub least : IsLeast a
    pub no_parent : (b : ℕ) → IsParent b a → ⊥

  pub record IsChild (b a : ℕ) : Type 0 where
    pub least : IsLeast a
    pub parent : IsParent b a

  -- the names of classes in order, each class before its children and theirs: its own names ascend, and so do the
  -- least names of its children
  pub data AreDepthFirst : List ℕ → List ℕ → Type 0 where
    none : AreDepthFirst [] []
    tree : (class : ℕ) (classes members children below others : List ℕ)
        → AreExactly names (AreEquivalent class) members
        → AreExactly names (IsChild class) children
        → AreDepthFirst children below → AreDepthFirst classes others
        → AreDepthFirst (class ∷ classes) (members ++ below ++ others)

  -- the names in depth-first order, from the roots
  pub record IsDepthFirst (numbered : List ℕ) : Type 0 where
    pub roots : List ℕ
    pub are : AreExactly names IsRoot roots
    pub order : AreDepthFirst roots numbered
