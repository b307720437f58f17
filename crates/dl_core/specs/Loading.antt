-- What a load is given, and what it gives. Loads, roots and shards are this project's own.
use Rattle.std.specs.Prelude.{◌≡◌, ℕ, ◌<◌, ◌≤◌, ◌⊎◌, List, [], ◌∷◌, length, slice_index_or}
use Rattle.std.specs.List.{Contains, filter}
use Rattle.std.specs.declared.option.Option.TheVariants.{Some, None}
use Rattle.dl_terms.specs.Order.{axiom_cmp, fact_cmp}
use Rattle.dl_terms.specs.Sets.{IsSetOf}
use Rattle.dl_terms.specs.declared.axiom.Axiom.{Axiom}
use Rattle.dl_terms.specs.declared.axiom.Fact.{Fact}
use Rattle.dl_terms.specs.declared.axiom.Fact.TheVariants.{Is, Link}
use Rattle.dl_terms.specs.declared.axiom.Signature.{Signature}
use Rattle.dl_normal.specs.Weight.{total_weight}
use Rattle.dl_hier.specs.Predicates.{max_predicates}
use Rattle.dl_row.specs.Lists.{ordered}
use Rattle.dl_row.specs.Rows.{row_cmp}
use Rattle.dl_row.specs.Shards.{max_rows}
use Rattle.dl_row.specs.declared.row.Row.{Row}
use Rattle.dl_epoch.specs.Known.{max_weight}
use Rattle.dl_epoch.specs.Frozen.{Frozen}
use Rattle.dl_epoch.specs.Covering.{Kept}
use Rattle.dl_edits.specs.Names.{predicates}
use Rattle.dl_core.specs.History.{Load}
use Rattle.dl_core.specs.Root.{Root, stands_in, StandsFor, IsLoad}
use Rattle.dl_core.specs.Next.{Numbering, GoesByRule, loaded, load_refused}
use Rattle.dl_core.specs.Legal.{IsLegal}
use Rattle.dl_core.specs.declared.book.Book.{Book}
use Rattle.dl_core.specs.declared.fault.LoadFault.{LoadFault}
use Rattle.dl_core.specs.declared.fault.LoadFault.TheVariants.{NoMemory}

-- the signature has the predicate of a fact
abbrev pub IsFactIn : Signature → Fact → Type 0
IsFactIn s (Is c a) = Contains s.classes c
IsFactIn s (Link p a b) = Contains s.roles p

-- the load of some lists of axioms and facts: each axiom and each fact once
pub record IsLoadOf (axioms : List Axiom) (signature : Signature) (facts : List Fact) (shards : ℕ) (l : Load)
    : Type 0 where
  pub axioms_are : IsSetOf axiom_cmp l.axioms axioms
  pub signature_is : l.signature ≡ signature
  pub facts_are : IsSetOf fact_cmp l.facts facts
  pub shards_are : l.shards ≡ shards

-- the root of a load that passes no limit: it stands for the empty history, which is legal, and it is the root of that
pub record IsLoaded (l : Load) (root : Root) : Type 0 where
  pub within : load_refused l ≡ None
  pub is_load : IsLoad l
  pub is : (numbering : Numbering) → GoesByRule numbering → root ≡ loaded numbering l
  pub legal : (numbering : Numbering) → IsLegal numbering l []
  pub stands : StandsFor l [] root

-- the first limit that a load passes, or want of memory
abbrev pub IsLoadFault : Load → LoadFault → Type 0
IsLoadFault l fault = (load_refused l ≡ Some fault) ⊎ (fault ≡ NoMemory)

-- ---- for private functions

-- of some rows, those of each shard, in their order
pub record AreParts (shards : ℕ) (rows : List Row) (parts : List (List Row)) : Type 0 where
  pub count : length parts ≡ shards
  pub each : (i : ℕ) → i < shards → slice_index_or parts i [] ≡ filter (stands_in shards i) rows

-- those of each shard, put in order
pub record AreOrderedParts (shards : ℕ) (rows : List Row) (parts : List (List Row)) : Type 0 where
  pub count : length parts ≡ shards
  pub each : (i : ℕ) → i < shards
      → slice_index_or parts i [] ≡ ordered row_cmp (filter (stands_in shards i) rows)

-- an epoch that covers every version from 1 on and is carried by so many rows, and the book that has it alone
abbrev pub first_entry : Frozen → ℕ → Kept
first_entry e rows = record { epoch = e; first = 1; rows = rows }

abbrev pub first_book : Frozen → ℕ → Book
first_book e rows = record { version = 1; epochs = first_entry e rows ∷ []; pins = []; rows = rows }

-- the load of these sets
abbrev pub load_with : List Axiom → Signature → List Fact → ℕ → Load
load_with axioms signature facts shards =
    record { axioms = axioms; signature = signature; facts = facts; shards = shards }

-- a load passes no limit
pub record IsLoadWithin (l : Load) : Type 0 where
  pub weights : total_weight l.axioms ≤ max_weight
  pub few : predicates l.axioms l.signature ≤ max_predicates
  pub kept : length l.facts ≤ max_rows
