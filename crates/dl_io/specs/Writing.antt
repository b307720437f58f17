-- What a sink gets in a call. A sink tells the bytes that it got so far, or it tells nothing.
use Rattle.std.specs.Prelude.{ℕ, ◌≡◌, ◌≤◌, List, ◌++◌, length, take, Option, None, Some}

-- A sink that tells its bytes after the call told them before it, and got exactly these in the call.
abbrev pub Gets : Option (List ℕ) → Option (List ℕ) → List ℕ → Type 0
Gets before None bytes = Unit {0}
Gets None (Some now) bytes = ⊥
Gets (Some before) (Some now) bytes = now ≡ before ++ bytes

-- The sink got the first n of these bytes and nothing else, for some n.
abbrev pub GetsPrefix : Option (List ℕ) → Option (List ℕ) → List ℕ → Type 0
GetsPrefix before now bytes = (n : ℕ) × (n ≤ length bytes) × Gets before now (take n bytes)
