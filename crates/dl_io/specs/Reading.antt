-- What one read of a file gives.
use Rattle.std.specs.Prelude.{ℕ, ◌≡◌, ◌≤◌, ◌<◌, ◌↔◌, List, length, take, drop}

-- the first n bytes of the buffer are the n bytes of the file that stand from a place on
abbrev pub Copies : List ℕ → ℕ → ℕ → List ℕ → Type 0
Copies file from n buffer = take n buffer ≡ take n (drop from file)

-- a read into a buffer that isn't empty takes nothing exactly at the end of the file
abbrev pub EndsAt : List ℕ → ℕ → ℕ → List ℕ → Type 0
EndsAt file from n buffer = 0 < length buffer → ((n ≡ 0) ↔ (length file ≤ from))
