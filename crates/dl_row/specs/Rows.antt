-- Rows and epochs: which fact a row stands for, and at which versions it is visible. Rows are this project's own.
use Rattle.std.specs.Prelude.{ℕ, zero, suc, Bool, ◌&&◌, false, cond, ◌==◌, nat_le, nat_lt, List, [], ◌∷◌, slice_get}
use Rattle.std.specs.List.{find}
use Rattle.std.specs.declared.option.Option.{Option}
use Rattle.std.specs.declared.option.Option.TheVariants.{Some, None}
use Rattle.std.specs.declared.cmp.Ordering.{Ordering}
use Rattle.std.specs.Ordering.{nat_cmp, ordering_then, is_eq}
use Rattle.dl_terms.specs.Order.{fact_cmp}
use Rattle.dl_terms.specs.declared.axiom.Axiom.{Axiom}
use Rattle.dl_terms.specs.declared.axiom.Fact.{Fact}
use Rattle.dl_terms.specs.declared.axiom.Fact.TheVariants.{Is, Link}
use Rattle.dl_terms.specs.declared.axiom.Signature.{Signature}
use Rattle.dl_row.specs.Lists.{count, last_where}
use Rattle.dl_row.specs.declared.row.Kind.{Kind}
use Rattle.dl_row.specs.declared.row.Kind.TheVariants.{Class, Role}
use Rattle.dl_row.specs.declared.row.Row.{Row}

-- the end of a row that no version has ended
abbrev pub open_end : ℕ
open_end = 4294967295

abbrev pub visible : ℕ → Row → Bool
visible v r = nat_le r.first v && nat_lt v r.last

-- ---- the order of rows

abbrev pub kind_number : Kind → ℕ
kind_number Class = 0
kind_number Role = 1

abbrev pub row_cmp : Row → Row → Ordering
row_cmp q r =
    ordering_then (nat_cmp q.epoch r.epoch)
    (ordering_then (nat_cmp (kind_number q.kind) (kind_number r.kind))
    (ordering_then (nat_cmp q.number r.number)
    (ordering_then (nat_cmp q.s r.s)
    (ordering_then (nat_cmp q.o r.o) (ordering_then (nat_cmp q.first r.first) (nat_cmp q.last r.last))))))

-- ---- the facts of rows

-- an epoch with the first version that it covers: its axioms and signature, and its classes and roles in number order
pub record Epoch : Type 0 where
  pub id : ℕ
  pub first : ℕ
  pub axioms : List Axiom
  pub signature : Signature
  pub classes : List ℕ
  pub roles : List ℕ

-- the names of one kind, in number order
abbrev pub names_of : Kind → Epoch → List ℕ
names_of Class e = e.classes
names_of Role e = e.roles

-- numbers go from 1
abbrev pub name_at : List ℕ → ℕ → Option ℕ
name_at names zero = None
name_at names (suc n) = slice_get names n

abbrev pub number_from : ℕ → List ℕ → ℕ → ℕ
number_from n [] name = n
number_from n (x ∷ names) name = cond (x == name) n (number_from (suc n) names name)

abbrev pub number_of : List ℕ → ℕ → ℕ
number_of names name = number_from 1 names name

abbrev pub epoch_of : List Epoch → ℕ → Option Epoch
epoch_of epochs id = find (λ e. e.id == id) epochs

-- the fact of a name and a row's ends
abbrev pub fact_by : Kind → ℕ → ℕ → ℕ → Fact
fact_by Class s o name = Is name s
fact_by Role s o name = Link name s o

abbrev pub fact_named : Row → Option ℕ → Option Fact
fact_named r None = None
fact_named r (Some name) = Some (fact_by r.kind r.s r.o name)

abbrev pub fact_in : Row → Option Epoch → Option Fact
fact_in r None = None
fact_in r (Some e) = fact_named r (name_at (names_of r.kind e) r.number)

-- the fact that a row stands for: its predicate has the row's number in the row's own epoch
abbrev pub fact_of : List Epoch → Row → Option Fact
fact_of epochs r = fact_in r (epoch_of epochs r.epoch)

abbrev pub is_fact : Fact → Option Fact → Bool
is_fact f None = false
is_fact f (Some g) = is_eq (fact_cmp f g)

-- how many rows stand for a fact at a version
abbrev pub rows_for : List Epoch → List Row → ℕ → Fact → ℕ
rows_for epochs rows v f = count (λ r. visible v r && is_fact f (fact_of epochs r)) rows

-- the epoch that covers a version: the last one that begins at it or before
abbrev pub covering : List Epoch → ℕ → Option Epoch
covering epochs v = last_where (λ e. nat_le e.first v) epochs
