-- The rows of a load from scratch, which are those of a root that has moved all its rows. They are this project's own.
use Rattle.std.specs.Prelude.{◌≡◌, ℕ, List, [], ◌∷◌, map}
use Rattle.std.specs.List.{filter}
use Rattle.std.specs.Ordering.{nat_cmp}
use Rattle.std.specs.Cmp.Lexicographic.{slice_cmp}
use Rattle.dl_row.specs.Lists.{ordered}
use Rattle.dl_row.specs.Rows.{visible, kind_number}
use Rattle.dl_row.specs.declared.row.Row.{Row}
use Rattle.dl_core.specs.History.{Load, Entry, version_of, axioms_at, facts_at, signature_at}
use Rattle.dl_core.specs.Root.{Root}
use Rattle.dl_core.specs.Next.{Numbering, next, loaded}

-- what a history has at its version, as a load
abbrev pub reload : Load → List Entry → Load
reload l history = record {
  axioms = axioms_at l history (version_of history);
  signature = signature_at l history (version_of history);
  facts = facts_at l history (version_of history);
  shards = l.shards;
}

-- a row without its epoch and versions: kind, number and ends
abbrev pub bare : Row → List ℕ
bare r = kind_number r.kind ∷ r.number ∷ r.s ∷ r.o ∷ []

-- those of the rows that are visible at the current version, sorted
abbrev pub bare_rows : Root → List (List ℕ)
bare_rows root = ordered (slice_cmp nat_cmp) (map bare (filter (visible root.version) root.rows))

-- those of a load from scratch
abbrev pub scratch : Numbering → Load → List Entry → List (List ℕ)
scratch numbering l history = bare_rows (loaded numbering (reload l history))

-- no event of a list opens an epoch
abbrev pub NoneOpens : Numbering → Root → List Entry → Type 0
NoneOpens numbering root [] = Unit {0}
NoneOpens numbering root (e ∷ history) =
    ((next numbering root e.stream e.event).0.current.id ≡ root.current.id)
    × NoneOpens numbering (next numbering root e.stream e.event).0 history
