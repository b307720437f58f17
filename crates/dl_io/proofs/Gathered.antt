-- Laws of a sink that gathers: calls in a row, and what is left once nothing is gathered.
use Rattle.std.proofs.Common.{◌≡◌, ℕ, zero, suc, ◌+◌, ◌≤◌, List, [], ◌∷◌, ◌++◌, length, take, drop, Option, None, Some, sym, ap, subst, ◌∙◌, refl, arith, append_assoc, length-append, take_all}
use Rattle.std.proofs.lemmas.List.{append-nil, append_cancel_left, length-take-le, take-append-le, take-append-drop}
use Rattle.std.proofs.Math.Seq.{take-append-add, take-append_seam}
use Rattle.dl_io.specs.Writing.{Gets, GetsPrefix}
use Rattle.dl_io.specs.Gathering.{Gathered, with_gathered, Takes, TakesPrefix}
use Rattle.dl_io.proofs.Got.{Gets-append}

-- A prefix of some bytes, and then a prefix of what was left of them and of more.
module _ (a b c ga gb first more : List ℕ) (m n : ℕ) (fits : m ≤ length (ga ++ first)) (fits_more : n ≤ length (gb ++ more))
    (all : b ++ gb ≡ (a ++ ga) ++ first) (gets : b ≡ a ++ take m (ga ++ first)) (gets_more : c ≡ b ++ take n (gb ++ more)) where
  left : take m (ga ++ first) ++ gb ≡ ga ++ first
  left = append_cancel_left a _ _ (sym (append_assoc a (take m (ga ++ first)) gb) ∙ ap (λ x. x ++ gb) (sym gets) ∙ all ∙ append_assoc a ga first)

  len : length (take m (ga ++ first)) ≡ m
  len = length-take-le m (ga ++ first) fits

  whole : take m (ga ++ first) ++ (gb ++ more) ≡ ga ++ (first ++ more)
  whole = sym (append_assoc (take m (ga ++ first)) gb more) ∙ ap (λ x. x ++ more) left ∙ append_assoc ga first more

  pub both_parts : c ≡ a ++ take (m + n) (ga ++ (first ++ more))
  both_parts =
      gets_more ∙ ap (λ x. x ++ take n (gb ++ more)) gets ∙ append_assoc a (take m (ga ++ first)) (take n (gb ++ more))
      ∙ ap (λ x. a ++ x) (sym (take-append-add (take m (ga ++ first)) (gb ++ more) n) ∙ ap (λ k. take (k + n) (take m (ga ++ first) ++ (gb ++ more))) len
      ∙ ap (take (m + n)) whole)

  pub both_fit : m + n ≤ length (ga ++ (first ++ more))
  both_fit = omega (arith, len, ap length whole, length-append (take m (ga ++ first)) (gb ++ more))

-- first some bytes and then more
pub Takes-append : (before between now : Gathered) (first more : List ℕ) → Takes before between first → Takes between now more → Takes before now (first ++ more)
Takes-append before between now first more one two = record {
  all = Gets-append _ _ _ first more one.all two.all;
  handed = by before.got between.got now.got one.all one.handed two.handed;
}
  where
    by : (a b c : Option (List ℕ)) → Gets (with_gathered a before.gathered) (with_gathered b between.gathered) first
        → GetsPrefix a b (before.gathered ++ first) → GetsPrefix b c (between.gathered ++ more) → GetsPrefix a c (before.gathered ++ (first ++ more))
    by a b None all one two = (0, omega arith, tt)
    by a None (Some c) all one (n, within, gets) = absurd gets
    by None (Some b) (Some c) all (m, within, gets) two = absurd gets
    by (Some a) (Some b) (Some c) all (m, fits, gets) (n, fits_more, gets_more) = (
      m + n,
      both_fit a b c before.gathered between.gathered first more m n fits fits_more all gets gets_more,
      both_parts a b c before.gathered between.gathered first more m n fits fits_more all gets gets_more,
    )

-- some bytes, and then nothing more
pub Takes-done : (before between now : Gathered) (bytes : List ℕ) → Takes before between bytes → Takes between now [] → Takes before now bytes
Takes-done before between now bytes one two = subst (Takes before now) (append-nil bytes) (Takes-append before between now bytes [] one two)

-- all of the bytes are a prefix of them
pub TakesPrefix-all : (before now : Gathered) (bytes : List ℕ) → Takes before now bytes → TakesPrefix before now bytes
TakesPrefix-all before now bytes takes = (length bytes, omega arith, subst (Takes before now) (sym (take_all (length bytes) bytes (omega arith))) takes)

-- a prefix of the first part is a prefix of the whole
pub TakesPrefix-front : (before now : Gathered) (first more : List ℕ) → TakesPrefix before now first → TakesPrefix before now (first ++ more)
TakesPrefix-front before now first more (n, within, takes) =
    (n, omega (arith, length-append first more), subst (Takes before now) (sym (take-append-le n first more within)) takes)

-- the whole first part and then a prefix of the second
pub TakesPrefix-append : (before between now : Gathered) (first more : List ℕ) → Takes before between first → TakesPrefix between now more → TakesPrefix before now (first ++ more)
TakesPrefix-append before between now first more takes (n, within, takes_more) = (
  length first + n,
  omega (arith, length-append first more),
  subst (Takes before now) (sym (take-append-add first more n)) (Takes-append before between now first (take n more) takes takes_more),
)

-- what the sink itself gets, while nothing is gathered
pub Takes-direct : (before now : Option (List ℕ)) (bytes : List ℕ) → Gets before now bytes
    → Takes (record { got = before; gathered = [] }) (record { got = now; gathered = [] }) bytes
Takes-direct before None bytes gets = record { all = tt; handed = (0, omega arith, tt) }
Takes-direct None (Some now) bytes gets = absurd gets
Takes-direct (Some before) (Some now) bytes gets = record {
  all = append-nil now ∙ gets ∙ ap (λ x. x ++ bytes) (sym (append-nil before));
  handed = (length bytes, omega arith, gets ∙ ap (λ x. before ++ x) (sym (take_all (length bytes) bytes (omega arith))));
}

-- the first n of the bytes that are gathered are handed on
pub Takes-handed : (before now : Option (List ℕ)) (gathered : List ℕ) (n : ℕ) → n ≤ length gathered → Gets before now (take n gathered)
    → Takes (record { got = before; gathered = gathered }) (record { got = now; gathered = drop n gathered }) []
Takes-handed before None gathered n within gets = record { all = tt; handed = (0, omega arith, tt) }
Takes-handed None (Some now) gathered n within gets = absurd gets
Takes-handed (Some before) (Some now) gathered n within gets = record {
  all = ap (λ x. x ++ drop n gathered) gets ∙ append_assoc before (take n gathered) (drop n gathered)
      ∙ ap (λ x. before ++ x) (take-append-drop n gathered) ∙ sym (append-nil (before ++ gathered));
  handed = (n, omega (arith, length-append gathered []), gets ∙ ap (λ x. before ++ x) (sym (take-append-le n gathered [] within)));
}

-- Once nothing is gathered, the sink itself got what came since nothing was gathered.
pub Gets-gathered : (before now : Option (List ℕ)) (bytes : List ℕ)
    → Takes (record { got = before; gathered = [] }) (record { got = now; gathered = [] }) bytes → Gets before now bytes
Gets-gathered before None bytes takes = tt
Gets-gathered None (Some now) bytes takes = takes.all
Gets-gathered (Some before) (Some now) bytes takes = sym (append-nil now) ∙ takes.all ∙ ap (λ x. x ++ bytes) (append-nil before)

-- After room was sought and nothing is gathered, the sink itself gets the bytes.
pub Takes-past : (before : Gathered) (between now : Option (List ℕ)) (gathered bytes : List ℕ) → gathered ≡ []
    → Takes before (record { got = between; gathered = gathered }) [] → Gets between now bytes → Takes before (record { got = now; gathered = gathered }) bytes
Takes-past before between now gathered bytes none same gets =
    subst (λ g. Takes before (record { got = between; gathered = g }) [] → Takes before (record { got = now; gathered = g }) bytes) (sym none)
    (λ same. Takes-append before _ _ [] bytes same (Takes-direct between now bytes gets)) same

pub TakesPrefix-past : (before : Gathered) (between now : Option (List ℕ)) (gathered bytes : List ℕ) → gathered ≡ []
    → Takes before (record { got = between; gathered = gathered }) [] → GetsPrefix between now bytes → TakesPrefix before (record { got = now; gathered = gathered }) bytes
TakesPrefix-past before between now gathered bytes none same (n, within, gets) =
    (n, within, Takes-past before between now gathered (take n bytes) none same gets)

-- a front of a front
take_take : (m n : ℕ) (bytes : List ℕ) → m ≤ n → take m (take n bytes) ≡ take m bytes
take_take zero n bytes h = refl
take_take (suc m) zero bytes h = absurd (omega (arith, h))
take_take (suc m) (suc n) [] h = refl
take_take (suc m) (suc n) (b ∷ bytes) h = ap (λ rest. b ∷ rest) (take_take m n bytes (omega (arith, h)))

-- And at any time it got a prefix of that.
pub GetsPrefix-gathered : (before now : Option (List ℕ)) (gathered bytes : List ℕ)
    → TakesPrefix (record { got = before; gathered = [] }) (record { got = now; gathered = gathered }) bytes → GetsPrefix before now bytes
GetsPrefix-gathered before now gathered bytes (n, within, takes) =
    let m = takes.handed.0 in
    let fits : m ≤ n = omega (arith, takes.handed.1, length-take-le n bytes within) in
    (m, omega arith, subst (Gets before now) (take_take m n bytes fits) takes.handed.2)

-- ---- what was printed through a sink that gathers

-- once nothing is gathered, the sink itself got all
pub Gets-handed : (before now : Option (List ℕ)) (bytes : List ℕ) → Gets (with_gathered before []) (with_gathered now []) bytes → Gets before now bytes
Gets-handed before None bytes gets = tt
Gets-handed None (Some now) bytes gets = gets
Gets-handed (Some before) (Some now) bytes gets = sym (append-nil now) ∙ gets ∙ ap (λ x. x ++ bytes) (append-nil before)

-- a front of some bytes is as many first bytes of them
front_taken : (handed rest bytes : List ℕ) → handed ++ rest ≡ bytes → handed ≡ take (length handed) bytes
front_taken handed rest bytes is = sym (take-append_seam handed rest) ∙ ap (take (length handed)) is

-- and at any time it got some first bytes, where it only got more
pub GetsPrefix-handed : (before now : Option (List ℕ)) (gathered bytes : List ℕ) → GetsPrefix (with_gathered before []) (with_gathered now gathered) bytes
    → ((more : List ℕ) × Gets before now more) → GetsPrefix before now bytes
GetsPrefix-handed before None gathered bytes gets grows = (0, omega arith, tt)
GetsPrefix-handed None (Some now) gathered bytes (n, within, gets) grows = absurd gets
GetsPrefix-handed (Some before) (Some now) gathered bytes (n, within, gets) (more, grown) =
    let all : more ++ gathered ≡ take n bytes =
    append_cancel_left before _ _
    (sym (append_assoc before more gathered) ∙ ap (λ x. x ++ gathered) (sym grown) ∙ gets ∙ ap (λ x. x ++ take n bytes) (append-nil before)) in
    let fits : length more ≤ n = omega (arith, ap length all, length-append more gathered, length-take-le n bytes within) in
    (length more, omega arith, grown ∙ ap (λ x. before ++ x) (front_taken more gathered (take n bytes) all ∙ take_take (length more) n bytes fits))
