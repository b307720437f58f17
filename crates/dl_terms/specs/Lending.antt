-- What a list ends as, where a `&mut` to its items is returned.
use Rattle.std.specs.Prelude.{List, length}
use Rattle.std.specs.List.{refill}
use Rattle.std.specs.Borrow.{Fml, RattleType, MutBor, Array, Lends}
use Rattle.dl_terms.specs.contracts.list.List.{the_row}

-- the list ends with the items that the slice shows last, as many as before
abbrev pub LendsItems : (T : RattleType) → MutBor (List T.Denot) → MutBor (List T.Denot) → Fml
LendsItems T list slice = Lends (the_row T) (Array T 0) list slice (λ items. refill (length list.now) list.now items)
