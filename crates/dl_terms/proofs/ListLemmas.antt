-- A list that is written over by a slice of its length.
use Rattle.std.proofs.Common.{◌≡◌, List, length, drop, ◌∙◌, arith}
use Rattle.std.specs.List.{refill}
use Rattle.std.proofs.lemmas.List.{take-append-le, take_all}

-- what the slice shows last is the whole list
pub refill_whole : {A : Type 0} (xs ws : List A) → length ws ≡ length xs → refill (length xs) xs ws ≡ ws
refill_whole xs ws as_long =
    take-append-le (length xs) ws (drop (length ws) xs) (omega arith) ∙ take_all (length xs) ws (omega arith)
