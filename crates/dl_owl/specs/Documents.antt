-- How a reader of an ontology document goes on.
use Rattle.std.specs.Prelude.{◌≡◌, true, Result, Ok, Err, List}
use Rattle.dl_names.specs.NameList.{Text}
use Rattle.dl_owl.specs.declared.fault.OwlFault.{OwlFault}
use Rattle.dl_owl.specs.declared.document.Document.{Document}
use Rattle.dl_owl.specs.declared.prologue.Known.{Known}
use Rattle.dl_owl.specs.declared.prologue.Known.TheVariants.{New, Same, Differs}
use Rattle.dl_owl.specs.Causes.{syntax}
use Rattle.dl_owl.specs.Symbols.{Placed}
use Rattle.dl_owl.specs.Expected.{Expected, prologue, finish, close_then, Move, goes, declares, refuses}
use Rattle.dl_owl.specs.Reading.{gives, outcome}
use Rattle.dl_owl.specs.Walk.{Here, met_of, FromToken, Goes, Faults}

-- where this is expected here, that is expected there; or reading comes to a fault
abbrev pub Leads : Expected → Expected → Here → Here → Result (Unit {0}) OwlFault → Type 0
Leads e later from to (Ok _) = Goes e from later to
Leads e later from to (Err fault) = Faults e from to.names fault

-- what the IRI of a prefix declaration does, by what is known of the prefix name
abbrev pub known_move : Known → Text → Text → Move
known_move New name iri = declares name iri (close_then prologue)
known_move Same name iri = goes (close_then prologue)
known_move Differs name iri = refuses syntax

-- where this is expected here, the text may end there with a document; or reading comes to a fault
abbrev pub Finishes : Expected → Here → Here → Result Document OwlFault → Type 0
Finishes e from to (Ok document) = Goes e from (finish document) to
Finishes e from to (Err fault) = Faults e from to.names fault

-- where this is expected here, reading gives this document, and these names; or it comes to a fault
pub record GivesBy (e : Expected) (from : Here) (names : List Text) (document : Document) : Type 0 where
  pub tokens : List Placed
  pub are : FromToken from.spot.bytes true from.spot.token tokens
  pub comes : outcome e (met_of from) tokens ≡ gives document names

abbrev pub Ends : Expected → Here → List Text → Result Document OwlFault → Type 0
Ends e from names (Ok document) = GivesBy e from names document
Ends e from names (Err fault) = Faults e from names fault
