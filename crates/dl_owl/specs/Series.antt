-- Readers that put what they read behind the items of a list.
use Rattle.std.specs.Prelude.{◌≡◌, ◌++◌, Result, Ok, Err, List, [], ◌∷◌}
use Rattle.dl_owl.specs.declared.fault.OwlFault.{OwlFault}
use Rattle.dl_owl.specs.Expected.{Expected}
use Rattle.dl_owl.specs.Walk.{Here, Goes, Faults}

-- where items are expected, one of them is read, up to another place
abbrev pub ReadsOne : {V : Type 0} → ((List V → Expected) → Expected) → Here → Here → Result V OwlFault → Type 0
ReadsOne {V} e from to (Ok v) = (k : List V → Expected) → Goes (e k) from (k (v ∷ [])) to
ReadsOne {V} e from to (Err fault) = (k : List V → Expected) → Faults (e k) from to.names fault

-- where items are expected, they are read, up to another place, and put behind those before
abbrev pub Appends : {V : Type 0} → ((List V → Expected) → Expected) → Here → Here → List V → List V
    → Result (Unit {0}) OwlFault → Type 0
Appends {V} e from to before after (Ok _) =
    (more : List V) × (after ≡ before ++ more) × ((k : List V → Expected) → Goes (e k) from (k more) to)
Appends {V} e from to before after (Err fault) = (k : List V → Expected) → Faults (e k) from to.names fault
