-- A buffer that has the first bytes of a file, and takes the next ones.
use Rattle.std.proofs.Common.{◌≡◌, ℕ, ◌+◌, ◌≤◌, ◌<◌, List, ◌++◌, length, take, drop, sym, ap, ◌∙◌, subst, arith, Option, None, Some, IfSome, length-take, take_all}
use Rattle.std.proofs.Math.Seq.{take-add}

-- more than is there can't have been taken
pub within_file : (buffer file : List ℕ) (len : ℕ) → len ≤ length buffer → take len buffer ≡ take len file → len ≤ length file
within_file buffer file len within front =
    omega (arith, length-take len buffer, length-take len file, ap length front)

-- the first bytes and then the next n are the first bytes
pub front_grows : (old new file : List ℕ) (len n : ℕ) → take len old ≡ take len file → take len new ≡ take len old → take n (drop len new) ≡ take n (drop len file) → take (len + n) new ≡ take (len + n) file
front_grows old new file len n front same next =
    take-add len n new ∙ ap (λ bytes. bytes ++ take n (drop len new)) (same ∙ front) ∙ ap (λ bytes. take len file ++ bytes) next ∙ sym (take-add len n file)

-- at the end of the file the front is the whole file
pub front_is_whole : (buffer file : List ℕ) (len : ℕ) → take len buffer ≡ take len file → length file ≤ len → take len buffer ≡ file
front_is_whole buffer file len front end = front ∙ take_all len file end

-- the same of what a library tells, before a read and after it
pub told_front_grows : (now before : Option (List ℕ → List ℕ)) (name old new : List ℕ) (len n : ℕ) → now ≡ before
    → IfSome before (λ file_of. take len old ≡ take len (file_of name))
    → take len new ≡ take len old
    → IfSome now (λ file_of. take n (drop len new) ≡ take n (drop len (file_of name)))
    → IfSome before (λ file_of. take (len + n) new ≡ take (len + n) (file_of name))
told_front_grows now None name old new len n same front kept next = tt
told_front_grows now (Some file_of) name old new len n same front kept next =
    let P : Option (List ℕ → List ℕ) → Type 0 = λ told. IfSome told (λ file_of. take n (drop len new) ≡ take n (drop len (file_of name))) in
    front_grows old new (file_of name) len n front kept (subst P same next)

-- where more than so many first bytes of a file are there, it is longer than that
pub told_longer : (told : Option (List ℕ → List ℕ)) (name buffer : List ℕ) (len most : ℕ) → len ≤ length buffer
    → IfSome told (λ file_of. take len buffer ≡ take len (file_of name)) → most < len
    → IfSome told (λ file_of. most < length (file_of name))
told_longer None name buffer len most within front more = tt
told_longer (Some file_of) name buffer len most within front more =
    omega (arith, within_file buffer (file_of name) len within front, more)
