-- Individuals of a DifferentIndividuals that are read one after another. The set of those before has no order.
use Rattle.std.specs.Prelude.{◌≡◌, Result, Ok, Err, List, ◌∷◌}
use Rattle.dl_names.specs.NameList.{Text, has_name}
use Rattle.dl_owl.specs.declared.fault.OwlFault.{OwlFault}
use Rattle.dl_owl.specs.Expected.{Expected}
use Rattle.dl_owl.specs.Steps.{different_next, move_of}
use Rattle.dl_owl.specs.Walk.{symbol_at, Here, Goes, Faults}

-- the same texts
abbrev pub HaveSame : List Text → List Text → Type 0
HaveSame xs ys = (text : Text) → has_name xs text ≡ has_name ys text

-- where an individual is expected that is none of those before, it is read, up to another place, and then one of them
abbrev pub ReadsDifferent : Here → Here → List Text → List Text → Result (Unit {0}) OwlFault → Type 0
ReadsDifferent from to old new (Ok _) =
    (before : List Text) → HaveSame before old → (text : Text) × HaveSame (text ∷ before) new
    × ((e : Expected) (k : List Text → Expected)
    → move_of from.prefixes e (symbol_at from.spot) ≡ different_next from.prefixes before k (symbol_at from.spot)
    → Goes e from (k (text ∷ before)) to)
ReadsDifferent from to old new (Err fault) =
    (before : List Text) → HaveSame before old → (e : Expected) (k : List Text → Expected)
    → move_of from.prefixes e (symbol_at from.spot) ≡ different_next from.prefixes before k (symbol_at from.spot)
    → Faults e from to.names fault
