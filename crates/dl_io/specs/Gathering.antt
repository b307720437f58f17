-- A sink with bytes that are gathered for it.
use Rattle.std.specs.Prelude.{ℕ, ◌≤◌, List, ◌++◌, length, take, Option, None, Some}
use Rattle.dl_io.specs.Lending.{Lender}
use Rattle.dl_io.specs.Writing.{Gets, GetsPrefix}
use Rattle.dl_io.specs.declared.gathering.GatheringSink.{GatheringSink}

-- what the sink itself got so far, where it tells it, and the bytes that are gathered for it
pub record Gathered : Type 0 where
  pub got : Option (List ℕ)
  pub gathered : List ℕ

-- what the sink got and, after it, the bytes that are gathered
abbrev pub with_gathered : Option (List ℕ) → List ℕ → Option (List ℕ)
with_gathered None gathered = None
with_gathered (Some got) gathered = Some (got ++ gathered)

-- In a call these bytes came behind what was gathered, and the sink itself got some first bytes of all that.
pub record Takes (before now : Gathered) (bytes : List ℕ) : Type 0 where
  pub all : Gets (with_gathered before.got before.gathered) (with_gathered now.got now.gathered) bytes
  pub handed : GetsPrefix before.got now.got (before.gathered ++ bytes)

-- The same of the first n of these bytes, for some n.
abbrev pub TakesPrefix : Gathered → Gathered → List ℕ → Type 0
TakesPrefix before now bytes = (n : ℕ) × (n ≤ length bytes) × Takes before now (take n bytes)

-- the state of a sink that gathers, where this is what the other sink tells
abbrev pub state_of : {S : Type 0} → (S → Option (List ℕ)) → GatheringSink S → Gathered
state_of got sink = record { got = got sink.sink.now; gathered = sink.gathered.now.items }

-- what a sink that gathers got: what the other sink tells that it got, and then what is gathered
abbrev pub all_got : {S : Type 0} → (S → Option (List ℕ)) → GatheringSink S → Option (List ℕ)
all_got got sink = with_gathered (got sink.sink.now) sink.gathered.now.items

-- who lent it the other sink
abbrev pub lender_of : {S : Type 0} → (S → Option (List ℕ)) → GatheringSink S → Option Lender
lender_of got sink = Some (record { name = sink.sink.ghost_name; got = got sink.sink.now })
