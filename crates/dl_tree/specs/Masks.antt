-- Sets of existential variables as numbers: the i-th bit stands for the i-th variable.
use Rattle.std.specs.Prelude.{◌≡◌, ℕ, ◌<◌, ◌^◌, Bool, true, List, [], ◌∷◌, cond, length, nat_eq, bit_and, bit_or}
use Rattle.std.specs.Int.{bit_at}
use Rattle.std.specs.List.{Contains, list_any, position_or_len}
use Rattle.dl_terms.specs.Chain.{Chain}
use Rattle.dl_terms.specs.declared.query.Term.{Term}
use Rattle.dl_terms.specs.declared.query.Term.TheVariants.{Var, Name}
use Rattle.dl_terms.specs.declared.query.Atom.{Atom}
use Rattle.dl_terms.specs.declared.query.Atom.TheVariants.{Is, Link}
use Rattle.dl_terms.specs.declared.query.Query.{Query}
use Rattle.dl_tree.specs.Sets.{IsStepWithin}

-- the place of a variable among some, or their count
abbrev pub place : List ℕ → ℕ → ℕ
place ex v = position_or_len (nat_eq v) ex

abbrev pub set_of : List ℕ → ℕ → ℕ → Bool
set_of ex mask v = nat_eq (bit_at mask (place ex v)) 1

-- the bit of a term, where it is one of the variables
abbrev pub bit_of : List ℕ → Term → ℕ
bit_of ex (Var v) = cond (list_any (nat_eq v) ex) (2 ^ place ex v) 0
bit_of ex (Name a) = 0

-- the bits of the two terms of a role atom
abbrev pub atom_links : List ℕ → Atom → List (ℕ × ℕ)
atom_links ex (Is c u) = []
atom_links ex (Link p u w) = (bit_of ex u, bit_of ex w) ∷ []

-- the bits of the two terms of each role atom
pub record AreLinkMasks (q : Query) (ex : List ℕ) (links : List (ℕ × ℕ)) : Type 0 where
  pub to : (p : ℕ) (u w : Term) → Contains q.atoms (Link p u w) → Contains links (bit_of ex u, bit_of ex w)
  pub from : (e : ℕ × ℕ) → Contains links e
      → (p : ℕ) × (u : Term) × (w : Term) × Contains q.atoms (Link p u w) × (e ≡ (bit_of ex u, bit_of ex w))

-- both terms of a role atom are in the one set, and one of them is in the other
pub record TouchesBoth (e : ℕ × ℕ) (rest part : ℕ) : Type 0 where
  pub left : bit_and e.0 rest ≡ 0 → ⊥
  pub right : bit_and e.1 rest ≡ 0 → ⊥
  pub some : (bit_and e.0 part ≡ 0) × (bit_and e.1 part ≡ 0) → ⊥

-- no role atom leads out of the one set within the other
abbrev pub IsClosedMask : List (ℕ × ℕ) → ℕ → ℕ → Type 0
IsClosedMask links rest part =
    (e : ℕ × ℕ) → Contains links e → TouchesBoth e rest part → bit_or part (bit_or e.0 e.1) ≡ part

-- a set of variables to which chains within it lead from one of them
pub record IsReached (q : Query) (ex : List ℕ) (rest v part : ℕ) : Type 0 where
  pub fits : part < 2 ^ length ex
  pub within : (w : ℕ) → set_of ex part w ≡ true → set_of ex rest w ≡ true
  pub seed : set_of ex part v ≡ true
  pub chains : (w : ℕ) → set_of ex part w ≡ true → Chain (IsStepWithin q (set_of ex part)) v w
