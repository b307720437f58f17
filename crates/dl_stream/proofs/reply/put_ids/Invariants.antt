-- The texts so far are printed.
use Rattle.std.proofs.Common.{◌∷◌, take}
use Rattle.std.specs.List.{flat_map}
use Rattle.std.specs.Fmt.{decimal}
use Rattle.dl_io.proofs.PrintLemmas.{Printed}
use Rattle.dl_stream.proofs.reply.put_ids.Given as goal

abbrev pub invariant-loop-id : goal.invariant-loop-id
invariant-loop-id g l =
    Printed g.S.Sink.got g.S.Sink.faults g.S.Sink.lent l.initial.sink l.sink
    (flat_map (λ id. 32 ∷ decimal id) (take l.id-index l.ids))
