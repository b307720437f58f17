use Rattle.std.proofs.Common.{ℕ, ◌+◌, ◌*◌, length, take}
use Rattle.std.specs.List.{All, Contains}
use Rattle.dl_models.specs.Meaning.{StandsFor, AtomHolds}
use Rattle.dl_models.specs.Structures.{finite}
use Rattle.dl_models.specs.Values.{Agrees}
use Rattle.dl_models.proofs.queries.+search.Given as goal

abbrev pub decreases-holds_from : goal.decreases-holds_from
decreases-holds_from l = 3 * length l.atoms.now

abbrev pub decreases-holds_in_class : goal.decreases-holds_in_class
decreases-holds_in_class l = 3 * length l.atoms.now + 2

abbrev pub decreases-holds_in_role : goal.decreases-holds_in_role
decreases-holds_in_role l = 3 * length l.atoms.now + 2

abbrev pub decreases-holds_with : goal.decreases-holds_with
decreases-holds_with l = 3 * length l.atoms.now + 1

-- no member of the class so far serves
abbrev pub invariant-holds_in_class-loop-known : goal.invariant-holds_in_class-loop-known
invariant-holds_in_class-loop-known l =
    (m : ℕ → ℕ) → Agrees m l.values → (x : ℕ) → Contains (take l.known-index l.known-items) (l.class, x) → StandsFor (finite l.model) m l.at x
    → ¬ All (AtomHolds (finite l.model) m) l.atoms

-- no pair of the role so far serves
abbrev pub invariant-holds_in_role-loop-known : goal.invariant-holds_in_role-loop-known
invariant-holds_in_role-loop-known l =
    (m : ℕ → ℕ) → Agrees m l.values → (x y : ℕ) → Contains (take l.known-index l.known-items) (l.role, x, y)
    → StandsFor (finite l.model) m l.ends.0 x → StandsFor (finite l.model) m l.ends.1 y → ¬ All (AtomHolds (finite l.model) m) l.atoms
