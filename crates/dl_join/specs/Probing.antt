-- Probes as needs, the order of the variables, and needs turned to it.
use Rattle.std.specs.Prelude.{◌≡◌, ◌≢◌, ℕ, ◌<◌, ◌==◌, ◌⊎◌, ◌↔◌, Bool, true, false, if◌then◌else◌, filter, List, [], ◌∷◌, length, slice_index_or, Some}
use Rattle.std.specs.List.{All, Any, Contains}
use Rattle.dl_terms.specs.declared.query.Term.TheVariants.{Var, Name}
use Rattle.dl_terms.specs.declared.query.Probe.{Probe}
use Rattle.dl_terms.specs.declared.query.Probe.TheVariants.{AnyOf, Joined}
use Rattle.dl_join.specs.declared.need.Need.{Need}
use Rattle.dl_join.specs.declared.need.Column.TheVariants.{First}
use Rattle.dl_join.specs.Disjuncts.{ProbeHolds, HasVariable}
use Rattle.dl_join.specs.Needs.{NeedHolds, AreAscending, IsAscending, Mentions, FitsOrder}

-- a probe without variables
abbrev pub IsClosed : Probe → Type 0
IsClosed (AnyOf basics (Var v)) = ⊥
IsClosed (AnyOf basics (Name a)) = Unit {0}
IsClosed (Joined role (Var v) u) = ⊥
IsClosed (Joined role (Name a) (Var w)) = ⊥
IsClosed (Joined role (Name a) (Name b)) = Unit {0}

-- of the pairs of a probe, those with its name behind its variable, or with one name twice where it has its
-- variable twice
abbrev pub kept_pairs : List (ℕ × ℕ) → Probe → List (ℕ × ℕ)
kept_pairs pairs (AnyOf basics t) = []
kept_pairs pairs (Joined role (Name a) u) = []
kept_pairs pairs (Joined role (Var v) (Name b)) = filter (λ p. p.1 == b) pairs
kept_pairs pairs (Joined role (Var v) (Var w)) = if v == w then filter (λ p. p.0 == p.1) pairs else []

-- the need of a probe over its list
pub record IsNeedOf (probe : Probe) (pairs : List (ℕ × ℕ)) (need : Need) : Type 0 where
  pub to : (names : ℕ → ℕ) → NeedHolds names need → ProbeHolds names pairs probe
  pub from : (names : ℕ → ℕ) → ProbeHolds names pairs probe → NeedHolds names need
  pub ascending : IsAscending need
  pub apart : (w : ℕ) → need.other ≡ Some w → w ≢ need.at
  pub column : (w : ℕ) → need.other ≡ Some w → need.column ≡ First
  pub variables : (v : ℕ) → HasVariable v probe → Mentions v need

-- the lists of the pairs kept of each probe
pub record AreKept (probes : List Probe) (lists made : List (List (ℕ × ℕ))) : Type 0 where
  pub count : length made ≡ length probes
  pub each : (k : ℕ) (p : Probe) → k < length probes
      → slice_index_or made k [] ≡ kept_pairs (slice_index_or lists k []) (slice_index_or probes k p)

-- the needs of probes: each probe has one or no variable
pub record AreNeedsOf (probes : List Probe) (lists : List (List (ℕ × ℕ))) (needs : List Need) : Type 0 where
  pub to : (k : ℕ) (p : Probe) → k < length probes
      → IsClosed (slice_index_or probes k p)
      ⊎ Any (IsNeedOf (slice_index_or probes k p) (slice_index_or lists k [])) needs
  pub from : All (λ need. (k : ℕ) × (k < length probes)
      × ((p : Probe) → IsNeedOf (slice_index_or probes k p) (slice_index_or lists k []) need)) needs

-- an order has each variable of needs
abbrev pub OrdersAll : List ℕ → List Need → Type 0
OrdersAll order = All (λ need. (v : ℕ) → Mentions v need → Contains order v)

-- of two variables, the one that an order has first
abbrev pub is_first : List ℕ → ℕ → ℕ → Bool
is_first [] v w = false
is_first (u ∷ us) v w = if u == v then true else (if u == w then false else is_first us v w)

-- a need has another variable that an order has first
abbrev pub IsBackward : List ℕ → Need → ℕ → Type 0
IsBackward order need w = (need.other ≡ Some w) × (is_first order need.at w ≡ false)

-- sorted pairs that are others turned
pub record AreTurned (pairs turned : List (ℕ × ℕ)) : Type 0 where
  pub ascending : AreAscending First turned
  pub same : (a b : ℕ) → Contains turned (a, b) ↔ Contains pairs (b, a)

-- the turned lists of those needs that have to be turned
pub record AreTurnedLists (order : List ℕ) (needs : List Need) (lists : List (List (ℕ × ℕ))) : Type 0 where
  pub count : length lists ≡ length needs
  pub each : (k : ℕ) (d : Need) (w : ℕ) → k < length needs
      → IsBackward order (slice_index_or needs k d) w
      → AreTurned (slice_index_or needs k d).pairs.now (slice_index_or lists k [])

-- a need that holds where another does, and fits an order
pub record IsFitted (order : List ℕ) (need fitted : Need) : Type 0 where
  pub to : (names : ℕ → ℕ) → NeedHolds names fitted → NeedHolds names need
  pub from : (names : ℕ → ℕ) → NeedHolds names need → NeedHolds names fitted
  pub ascending : IsAscending fitted
  pub fits : FitsOrder order fitted
  pub variables : (v : ℕ) → Mentions v need → Mentions v fitted

pub record AreFitted (order : List ℕ) (needs fitted : List Need) : Type 0 where
  pub count : length fitted ≡ length needs
  pub each : (k : ℕ) (d : Need) → k < length needs
      → IsFitted order (slice_index_or needs k d) (slice_index_or fitted k d)

-- what a need has to be so that it can be fitted: in order, over pairs of two variables or names of one
pub record CanBeFitted (need : Need) : Type 0 where
  pub ascending : IsAscending need
  pub apart : (w : ℕ) → need.other ≡ Some w → w ≢ need.at
  pub column : (w : ℕ) → need.other ≡ Some w → need.column ≡ First

-- the variables of a need were added
pub record AddsVariables (need : Need) (old new : List ℕ) : Type 0 where
  pub there : (v : ℕ) → Mentions v need → Contains new v
  pub kept : (v : ℕ) → Contains old v → Contains new v
