-- The tuples of a disjunct over names: those that names for its variables give to its head while each of its
-- probes holds over its list. So it is a conjunctive query over stored pairs (Abiteboul, Hull, Vianu, Foundations of
-- Databases, 1995).
use Rattle.std.specs.Prelude.{◌≡◌, ℕ, ◌<◌, ◌⊎◌, List, [], length, map, slice_index_or}
use Rattle.std.specs.List.{All, Any, Contains}
use Rattle.std.specs.List.Sorted.{IsSorted}
use Rattle.dl_terms.specs.Order.{pair_cmp}
use Rattle.dl_terms.specs.declared.query.Term.{Term}
use Rattle.dl_terms.specs.declared.query.Term.TheVariants.{Var, Name}
use Rattle.dl_terms.specs.declared.query.Probe.{Probe}
use Rattle.dl_terms.specs.declared.query.Probe.TheVariants.{AnyOf, Joined}
use Rattle.dl_terms.specs.declared.query.Disjunct.{Disjunct}

-- what a term stands for: a variable for its name, a name for itself
abbrev pub name_of : (ℕ → ℕ) → Term → ℕ
name_of names (Var v) = names v
name_of names (Name a) = a

-- a probe holds over its list: the name is first in a pair of it, or the two names are a pair of it
abbrev pub ProbeHolds : (ℕ → ℕ) → List (ℕ × ℕ) → Probe → Type 0
ProbeHolds names pairs (AnyOf basics t) = (second : ℕ) × Contains pairs (name_of names t, second)
ProbeHolds names pairs (Joined role t u) = Contains pairs (name_of names t, name_of names u)

-- each probe holds over its list
abbrev pub AllHold : (ℕ → ℕ) → List Probe → List (List (ℕ × ℕ)) → Type 0
AllHold names probes lists = (k : ℕ) (p : Probe) → k < length probes
    → ProbeHolds names (slice_index_or lists k []) (slice_index_or probes k p)

-- a tuple of a disjunct over one list for each of its probes
pub record IsTuple (d : Disjunct) (lists : List (List (ℕ × ℕ))) (tuple : List ℕ) : Type 0 where
  pub names : ℕ → ℕ
  pub probes : AllHold names d.probes lists
  pub head : map (name_of names) d.head ≡ tuple

-- a variable of a probe
abbrev pub HasVariable : ℕ → Probe → Type 0
HasVariable v (AnyOf basics t) = t ≡ Var v
HasVariable v (Joined role t u) = (t ≡ Var v) ⊎ (u ≡ Var v)

-- each variable of the head is in a probe
abbrev pub IsSafe : Disjunct → Type 0
IsSafe d = (v : ℕ) → Contains d.head (Var v) → Any (HasVariable v) d.probes

-- each list is sorted
abbrev pub AreSorted : List (List (ℕ × ℕ)) → Type 0
AreSorted = All (IsSorted pair_cmp)
