-- What the keyword of an entity does, where a declaration is read.
use Rattle.dl_owl.specs.declared.item.Item.{Item}
use Rattle.dl_owl.specs.declared.item.Item.TheVariants as items
use Rattle.dl_owl.specs.declared.entity.EntityKind.{EntityKind}
use Rattle.dl_owl.specs.declared.entity.EntityKind.TheVariants.{Class, Property, Other, Unknown}
use Rattle.dl_owl.specs.Causes.{syntax}
use Rattle.dl_owl.specs.Expected.{Expected, open_then, close_then, iri_then, property_then, declared_class, Move, goes, refuses}
use Rattle.dl_owl.specs.Steps.{class_declared}

-- what it does: by what it declares
abbrev pub entity_move : EntityKind → (Item → Expected) → Move
entity_move Class k = goes (open_then (declared_class (λ c. close_then (k (class_declared c)))))
entity_move Property k = goes (open_then (property_then (λ n. close_then (k (items.Role n)))))
entity_move Other k = goes (open_then (iri_then (close_then (k items.NoEffect))))
entity_move Unknown k = refuses syntax
