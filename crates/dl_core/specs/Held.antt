-- What a root holds: a book and shards; and the root that these are. This is this project's own.
use Rattle.std.specs.Prelude.{◌≡◌, ℕ, List, [], ◌∷◌, map, length}
use Rattle.std.specs.List.{All, flat_map}
use Rattle.dl_row.specs.Lists.{Ascends, ordered}
use Rattle.dl_row.specs.Rows.{Epoch, row_cmp}
use Rattle.dl_row.specs.declared.row.Row.{Row}
use Rattle.dl_epoch.specs.Frozen.{IsFrozen}
use Rattle.dl_epoch.specs.Covering.{Kept, epoch_in}
use Rattle.dl_core.specs.History.{Load, Entry}
use Rattle.dl_core.specs.Root.{Root, AreInShards, StandsFor, epochs, rows_in}
use Rattle.dl_core.specs.declared.book.Book.{Book}

-- all but the last item of a list that begins with x, and the last one
abbrev pub before_last : {A : Type 0} → A → List A → List A
before_last x [] = []
before_last x (y ∷ ys) = x ∷ before_last y ys

abbrev pub last_of : {A : Type 0} → A → List A → A
last_of x [] = x
last_of x (y ∷ ys) = last_of y ys

-- an epoch of nothing
abbrev pub no_epoch : Epoch
no_epoch =
    record { id = 0; first = 0; axioms = []; signature = record { classes = []; roles = [] }; classes = []; roles = [] }

-- the last epoch of a list is the current one, and the others are older
abbrev pub current_of : List Epoch → Epoch
current_of [] = no_epoch
current_of (e ∷ es) = last_of e es

abbrev pub older_of : List Epoch → List Epoch
older_of [] = []
older_of (e ∷ es) = before_last e es

-- the rows of some shards, in order
abbrev pub rows_of : List (List Row) → List Row
rows_of shards = ordered row_cmp (flat_map (λ rows. rows) shards)

-- the root of a book and shards
abbrev pub root_over : Book → List (List Row) → Root
root_over book shards = record {
  version = book.version;
  older = older_of (map epoch_in book.epochs);
  current = current_of (map epoch_in book.epochs);
  pins = book.pins;
  shards = length shards;
  rows = rows_of shards;
}

-- a root that stands for some history
pub record IsSound (root : Root) : Type 0 where
  pub load : Load
  pub history : List Entry
  pub stands : StandsFor load history root

-- the rows that an entry counts are those that carry its epoch
abbrev pub CountsRows : Root → Kept → Type 0
CountsRows root e = e.rows ≡ rows_in root (epoch_in e)

-- a book says what a root has
pub record IsBookOf (root : Root) (book : Book) : Type 0 where
  pub version : book.version ≡ root.version
  pub epochs : map epoch_in book.epochs ≡ epochs root
  pub pins : book.pins ≡ root.pins
  pub rows : book.rows ≡ length root.rows
  pub counts : All (CountsRows root) book.epochs
  pub frozen : All (λ e. IsFrozen e.epoch) book.epochs

-- these are the shards of a root
pub record AreShardsOf (root : Root) (shards : List (List Row)) : Type 0 where
  pub count : length shards ≡ root.shards
  pub rows : rows_of shards ≡ root.rows
  pub placed : AreInShards root.shards 0 shards
  pub ascending : All (Ascends row_cmp) shards

-- a book and shards are those of a root, which stands for some history
pub record IsHeld (root : Root) (book : Book) (shards : List (List Row)) : Type 0 where
  pub tells : IsBookOf root book
  pub shards_are : AreShardsOf root shards
  pub sound : IsSound root

-- an entry with another count of rows
abbrev pub counting : ℕ → Kept → Kept
counting rows e = record { epoch = e.epoch; first = e.first; rows = rows }
