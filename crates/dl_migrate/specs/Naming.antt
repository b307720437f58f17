-- The name of a row's number in one epoch, which another one numbers too.
use Rattle.std.specs.Prelude.{◌≡◌, ℕ, List}
use Rattle.std.specs.List.{Contains}
use Rattle.std.specs.declared.option.Option.TheVariants.{Some}
use Rattle.dl_terms.specs.declared.axiom.Signature.{Signature}
use Rattle.dl_row.specs.Rows.{name_at}
use Rattle.dl_row.specs.declared.row.Kind.{Kind}
use Rattle.dl_row.specs.declared.row.Kind.TheVariants.{Class, Role}
use Rattle.dl_epoch.specs.Frozen.{Frozen}

-- the names of one kind, in number order
abbrev pub names_by : Kind → Frozen → List ℕ
names_by Class e = e.classes
names_by Role e = e.roles

-- and those of a signature
abbrev pub signed_by : Kind → Signature → List ℕ
signed_by Class s = s.classes
signed_by Role s = s.roles

-- a number has a name among some that are numbered, and the name is among others
pub record HasName (numbered others : List ℕ) (number : ℕ) : Type 0 where
  pub name : ℕ
  pub is : name_at numbered number ≡ Some name
  pub known : Contains others name
