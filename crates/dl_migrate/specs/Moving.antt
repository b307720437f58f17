-- Rows that move to another epoch, and keep their facts. They are this project's own.
use Rattle.std.specs.Prelude.{◌≡◌, ℕ, Bool, not, List}
use Rattle.std.specs.List.{Contains}
use Rattle.std.specs.declared.option.Option.{Option}
use Rattle.std.specs.declared.option.Option.TheVariants.{Some, None}
use Rattle.dl_terms.specs.declared.axiom.Fact.{Fact}
use Rattle.dl_terms.specs.declared.axiom.Fact.TheVariants.{Is, Link}
use Rattle.dl_terms.specs.declared.axiom.Signature.{Signature}
use Rattle.dl_row.specs.Lists.{ordered}
use Rattle.dl_row.specs.Rows.{Epoch, number_of, fact_of, row_cmp}
use Rattle.dl_row.specs.declared.row.Row.{Row}
use Rattle.dl_migrate.specs.Lists.{change_first}
use Rattle.dl_migrate.specs.Tallies.{carries}

-- a row that carries another epoch than the one with an id
abbrev pub is_behind : ℕ → Row → Bool
is_behind id r = not (carries id r)

-- the row of a fact in an epoch, with the ends and versions of another row
abbrev pub numbered_in : Epoch → Row → Option Fact → Row
numbered_in e r None = r
numbered_in e r (Some (Is c x)) =
    record {
      kind = r.kind;
      number = number_of e.classes c;
      epoch = e.id;
      s = r.s;
      o = r.o;
      first = r.first;
      last = r.last;
    }
numbered_in e r (Some (Link p x y)) =
    record {
      kind = r.kind;
      number = number_of e.roles p;
      epoch = e.id;
      s = r.s;
      o = r.o;
      first = r.first;
      last = r.last;
    }

-- the row of the same fact in an epoch
abbrev pub renumbered : List Epoch → Epoch → Row → Row
renumbered epochs e r = numbered_in e r (fact_of epochs r)

-- the rows, of which the first n that carry another epoch have moved to this one
abbrev pub migrated_rows : ℕ → List Epoch → Epoch → List Row → List Row
migrated_rows n epochs e rows = ordered row_cmp (change_first n (is_behind e.id) (renumbered epochs e) rows)

-- a signature has the predicate of a fact
abbrev pub IsKnownTo : Signature → Fact → Type 0
IsKnownTo s (Is c x) = Contains s.classes c
IsKnownTo s (Link p x y) = Contains s.roles p

-- a row has its epoch among some, with its number, and so stands for a fact; a signature has the predicate
pub record CanMove (epochs : List Epoch) (s : Signature) (r : Row) : Type 0 where
  pub fact : Fact
  pub stands : fact_of epochs r ≡ Some fact
  pub known : IsKnownTo s fact

-- another row for the same fact, seen at the same versions, and in the same shard
pub record IsSameRow (epochs : List Epoch) (old new : Row) : Type 0 where
  pub fact : fact_of epochs new ≡ fact_of epochs old
  pub first : new.first ≡ old.first
  pub last : new.last ≡ old.last
  pub s : new.s ≡ old.s
