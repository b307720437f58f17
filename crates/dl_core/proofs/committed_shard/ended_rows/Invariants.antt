use Rattle.std.proofs.Common.{◌≡◌, take, map}
use Rattle.std.specs.List.{slice_index_or}
use Rattle.dl_core.specs.Next.{ended_at}
use Rattle.dl_core.specs.Changes.{blank}
use Rattle.dl_core.proofs.committed_shard.ended_rows.Given as goal

abbrev pub invariant-loop-place : goal.invariant-loop-place
invariant-loop-place l = l.rows ≡ map (λ p. ended_at l.version (slice_index_or l.shard p blank))
    (take l.place-index l.places)
