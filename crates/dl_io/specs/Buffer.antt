-- A sink over a buffer of stated room.
use Rattle.std.specs.Prelude.{ℕ, ◌+◌, Bool, true, if◌then◌else◌, ◌||◌, nat_lt, List, ◌++◌, length, Option, None, Some}

-- the bytes that the buffer holds, its room, and whether a piece was lost
pub record Buffer : Type 0 where
  pub bytes : List ℕ
  pub room : ℕ
  pub lost : Bool

-- What the sink tells: the bytes, and after a loss nothing.
abbrev pub told_bytes : Buffer → Option (List ℕ)
told_bytes buffer = if buffer.lost then None else Some buffer.bytes

-- the buffer after a piece: a piece that doesn't fit any more is lost, and so are all later ones
abbrev pub after_piece : Buffer → List ℕ → Buffer
after_piece buffer piece =
    if buffer.lost || nat_lt buffer.room (length buffer.bytes + length piece)
    then record { bytes = buffer.bytes; room = buffer.room; lost = true }
    else record { bytes = buffer.bytes ++ piece; room = buffer.room; lost = buffer.lost }
