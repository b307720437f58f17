-- Who lent a sink what it hands on to, over several calls.
use Rattle.std.proofs.Common.{ℕ, List, [], ◌++◌, take, Option, None, Some, Result, Ok, Err, IfOk, OnErr, refl, ◌∙◌}
use Rattle.dl_io.specs.Lending.{Lender, StaysLent}
use Rattle.dl_io.specs.Writing.{Gets, GetsPrefix}
use Rattle.dl_io.proofs.Got.{Gets-nil, Gets-append}

-- a loan goes on over some bytes and then over others
pub grown : (before between now : Option (List ℕ)) → ((bytes : List ℕ) × Gets before between bytes) → ((bytes : List ℕ) × Gets between now bytes)
    → (bytes : List ℕ) × Gets before now bytes
grown before between now (first, gets) (more, gets_more) = (first ++ more, Gets-append before between now first more gets gets_more)

pub StaysLent-same : (lent : Option Lender) → StaysLent lent lent
StaysLent-same None = tt
StaysLent-same (Some lender) = record { same = refl; more = ([], Gets-nil lender.got) }

pub StaysLent-trans : (before between now : Option Lender) → StaysLent before between → StaysLent between now → StaysLent before now
StaysLent-trans None None None one two = tt
StaysLent-trans None None (Some now) one two = two
StaysLent-trans None (Some between) now one two = absurd one
StaysLent-trans (Some before) None now one two = absurd one
StaysLent-trans (Some before) (Some between) None one two = two
StaysLent-trans (Some before) (Some between) (Some now) one two = record {
  same = two.same ∙ one.same;
  more = grown before.got between.got now.got one.more two.more;
}

-- it goes on where some first bytes were handed on
pub grown-prefix : (before now : Option (List ℕ)) (bytes : List ℕ) → GetsPrefix before now bytes → (bytes : List ℕ) × Gets before now bytes
grown-prefix before now bytes (n, within, gets) = (take n bytes, gets)

-- and where a call answered, in whichever way, with what came of it
pub grown-answer : {A E : Type 0} (result : Result A E) (before now : Option (List ℕ)) (P : A → List ℕ) → IfOk result (λ a. Gets before now (P a)) → OnErr result (Gets before now [])
    → (bytes : List ℕ) × Gets before now bytes
grown-answer (Ok a) before now P gets none = (P a, gets)
grown-answer (Err e) before now P gets none = ([], none)
