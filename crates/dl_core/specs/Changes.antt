-- What a commit changes: where the row of a fact stands, and which facts come and go. This is this project's own.
use Rattle.std.specs.Prelude.{◌≡◌, ◌↔◌, ℕ, ◌%◌, Bool, true, false, not, ◌&&◌, List, ◌++◌, map, slice_get, slice_index_or}
use Rattle.std.specs.List.{Contains, filter}
use Rattle.std.specs.declared.option.Option.TheVariants.{Some}
use Rattle.dl_terms.specs.Order.{fact_cmp}
use Rattle.dl_terms.specs.declared.axiom.Fact.{Fact}
use Rattle.dl_terms.specs.declared.axiom.Fact.TheVariants.{Is, Link}
use Rattle.dl_row.specs.Lists.{ordered, left_of}
use Rattle.dl_row.specs.Rows.{fact_in, fact_of, open_end, row_cmp}
use Rattle.dl_row.specs.declared.row.Kind.TheVariants.{Class}
use Rattle.dl_row.specs.declared.row.Row.{Row}
use Rattle.dl_epoch.specs.Frozen.{Frozen, from_version}
use Rattle.dl_edits.specs.Sets.{has}
use Rattle.dl_core.specs.Root.{Root, IsNumbered, EndsAgree, epochs, shard}
use Rattle.dl_core.specs.Next.{ended_at, root_facts}

-- the first end of a fact, which tells its shard
abbrev pub first_end : Fact → ℕ
first_end (Is c x) = x
first_end (Link p x y) = x

-- the number of the shard that a fact's row stands in
abbrev pub shard_of : Root → Fact → ℕ
shard_of root f = first_end f % root.shards

-- at a place of rows stands an open one that an epoch says to be of a fact
pub record OpensAt (rows : List Row) (e : Frozen) (f : Fact) (place : ℕ) : Type 0 where
  pub row : Row
  pub at : slice_get rows place ≡ Some row
  pub is_open : row.last ≡ open_end
  pub epoch : row.epoch ≡ e.id
  pub says : (first : ℕ) → fact_in row (Some (from_version first e)) ≡ Some f

-- no open row carries an epoch and is by it of a fact
pub record NoneOpens (rows : List Row) (e : Frozen) (f : Fact) : Type 0 where
  pub none : (first : ℕ) → IsNumbered (from_version first e) → (row : Row) → Contains rows row
      → row.last ≡ open_end → row.epoch ≡ e.id → EndsAgree row.kind row.s row.o
      → fact_in row (Some (from_version first e)) ≡ Some f → ⊥

-- the open row of a fact stands at a place of its shard
pub record StandsAt (root : Root) (f : Fact) (place : ℕ) : Type 0 where
  pub row : Row
  pub at : slice_get (shard root (shard_of root f)) place ≡ Some row
  pub is_open : row.last ≡ open_end
  pub stands : fact_of (epochs root) row ≡ Some f

-- a fact is to be there and wasn't, or isn't to be there and was
abbrev pub turns : Bool → Bool → Bool → Bool
turns true to had = to && not had
turns false to had = not to && had

-- of facts with whether they are to be there, those that come, or those that go
abbrev pub turned : Bool → List Fact → List (Fact × Bool) → List Fact
turned come before decided = map (λ d. d.0) (filter (λ d. turns come d.1 (has fact_cmp before d.0)) decided)

-- facts that were there and aren't among those of the next version
abbrev pub AreGone : Root → List Fact → List Fact → Type 0
AreGone root after gone =
    (f : Fact) → Contains gone f ↔ ((has fact_cmp (root_facts root) f ≡ true) × (has fact_cmp after f ≡ false))

-- at a place of a shard stands the open row of one of some facts
pub record IsPlaceIn (root : Root) (i : ℕ) (facts : List Fact) (place : ℕ) : Type 0 where
  pub fact : Fact
  pub among : Contains facts fact
  pub here : shard_of root fact ≡ i
  pub stands : StandsAt root fact place

-- a shard has the open row of a fact at one place, or doesn't have it
pub record OneHere (root : Root) (i : ℕ) (f : Fact) (place : ℕ) : Type 0 where
  pub here : shard_of root f ≡ i
  pub stands : StandsAt root f place
  pub only : (other : ℕ) → StandsAt root f other → other ≡ place

pub record NoneHere (root : Root) (i : ℕ) (f : Fact) : Type 0 where
  pub none : (place : ℕ) → shard_of root f ≡ i → StandsAt root f place → ⊥

-- a row that is read where there is none
abbrev pub blank : Row
blank = record { kind = Class; number = 0; epoch = 0; s = 0; o = 0; first = 0; last = 0 }

-- rows of which those at some places end at a version, together with new ones, in order
abbrev pub with_ended : ℕ → List ℕ → List Row → List Row → List Row
with_ended version places rows new =
    ordered row_cmp (left_of places rows ++ (map (λ p. ended_at version (slice_index_or rows p blank)) places ++ new))
