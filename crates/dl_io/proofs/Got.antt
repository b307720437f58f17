-- Laws of what a sink gets: no bytes, the bytes of calls in a row, and prefixes of them.
use Rattle.std.proofs.Common.{ℕ, ◌+◌, List, [], ◌++◌, length, take, drop, Option, None, Some, sym, ap, subst, ◌∙◌, arith, append_assoc, take_all, length-append}
use Rattle.std.proofs.lemmas.List.{append-nil, take-append-le}
use Rattle.std.proofs.Math.Seq.{take-add, take-append-add}
use Rattle.dl_io.specs.Writing.{Gets, GetsPrefix}

-- a sink that stays as it was got nothing
pub Gets-nil : (sink : Option (List ℕ)) → Gets sink sink []
Gets-nil None = tt
Gets-nil (Some bytes) = sym (append-nil bytes)

-- first some bytes and then more
pub Gets-append : (before between now : Option (List ℕ)) (first more : List ℕ) → Gets before between first → Gets between now more → Gets before now (first ++ more)
Gets-append before between None first more gets gets_more = tt
Gets-append before None (Some now) first more gets gets_more = absurd gets_more
Gets-append None (Some between) (Some now) first more gets gets_more = absurd gets
Gets-append (Some before) (Some between) (Some now) first more gets gets_more =
    gets_more ∙ ap (λ bytes. bytes ++ more) gets ∙ append_assoc before first more

-- the first bytes up to a place and then the next n of them
pub Gets-next : (before between now : Option (List ℕ)) (bytes : List ℕ) (at n : ℕ) → Gets before between (take at bytes) → Gets between now (take n (drop at bytes)) → Gets before now (take (at + n) bytes)
Gets-next before between now bytes at n gets gets_more =
    subst (Gets before now) (sym (take-add at n bytes)) (Gets-append before between now (take at bytes) (take n (drop at bytes)) gets gets_more)

-- all of the bytes are a prefix of them
pub GetsPrefix-all : (before now : Option (List ℕ)) (bytes : List ℕ) → Gets before now bytes → GetsPrefix before now bytes
GetsPrefix-all before now bytes gets =
    (length bytes, omega arith, subst (Gets before now) (sym (take_all (length bytes) bytes (omega arith))) gets)

-- a prefix of the first part is a prefix of the whole
pub GetsPrefix-front : (before now : Option (List ℕ)) (first more : List ℕ) → GetsPrefix before now first → GetsPrefix before now (first ++ more)
GetsPrefix-front before now first more (n, within, gets) =
    (n, omega (arith, length-append first more), subst (Gets before now) (sym (take-append-le n first more within)) gets)

-- the whole first part and then a prefix of the second
pub GetsPrefix-append : (before between now : Option (List ℕ)) (first more : List ℕ) → Gets before between first → GetsPrefix between now more → GetsPrefix before now (first ++ more)
GetsPrefix-append before between now first more gets (n, within, gets_more) = (
  length first + n,
  omega (arith, length-append first more),
  subst (Gets before now) (sym (take-append-add first more n)) (Gets-append before between now first (take n more) gets gets_more),
)
