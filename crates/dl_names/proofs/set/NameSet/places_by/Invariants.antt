use Rattle.std.proofs.Common.{◌≡◌, map, take}
use Rattle.dl_names.specs.NameList.{place_of}
use Rattle.dl_names.proofs.set.NameSet.places_by.Given as goal

abbrev pub invariant-loop-index : goal.invariant-loop-index
invariant-loop-index l = l.places.items ≡ map (λ text. place_of l.self text.now) (take l.index l.texts)
