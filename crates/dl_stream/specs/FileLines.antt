-- The lines of a stream file. LF or CR LF ends a line, as in Rust's `str::lines`; the last one needs no end.
use Rattle.std.specs.Prelude.{ℕ, Bool, false, ◌&&◌, ◌==◌, List, [], ◌∷◌, if◌then◌else◌}

-- a byte more at the front of the first line
abbrev pub in_front : ℕ → List (List ℕ) → List (List ℕ)
in_front b [] = (b ∷ []) ∷ []
in_front b (line ∷ lines) = (b ∷ line) ∷ lines

-- a line feed stands next
abbrev pub is_line_feed_next : List ℕ → Bool
is_line_feed_next [] = false
is_line_feed_next (b ∷ bytes) = b == 10

-- the lines: a line feed ends one, and a carriage return right before it is no part of the line
abbrev pub lines_of : List ℕ → List (List ℕ)
lines_of [] = [] ∷ []
lines_of (b ∷ bytes) =
    if b == 10 then [] ∷ lines_of bytes
    else if (b == 13) && is_line_feed_next bytes then lines_of bytes
    else in_front b (lines_of bytes)
