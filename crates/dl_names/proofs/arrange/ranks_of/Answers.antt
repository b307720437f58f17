use Rattle.std.proofs.Common.{◌≡◌, ◌<◌, length, vec_len, get_or, slice_get, Some, sym, ap, subst, arith}
use Rattle.std.proofs.lemmas.Option.{slice_get-get_or}
use Rattle.dl_names.proofs.ArrangeLemmas.{blank, RanksFirst-more}
use Rattle.dl_names.proofs.arrange.ranks_of.Goals as goal

pub index_mut-requires : goal.index_mut-requires
index_mut-requires c =
    let same = c.deref-entry-items.ensures.value in
    let within = c.requires.within c.loop-rank.rank blank (omega (arith, c.loop-rank-test.true, ap length same)) in
    let read = subst (λ l. (get_or l c.loop-rank.rank blank).2 < vec_len c.args.entries.now) (sym same) within in
    omega (arith, read, c.loop-rank.invariant.0)

pub loop-rank-preserved : goal.loop-rank-preserved
loop-rank-preserved c =
    let entries = c.args.entries.now.items in
    let rank = c.loop-rank.rank in
    let rank_in : rank < length entries = omega (arith, c.loop-rank-test.true, ap length c.deref-entry-items.ensures.value) in
    let entry = get_or c.deref-entry-items.result.now rank blank in
    let at : slice_get entries rank ≡ Some entry =
    subst (λ l. slice_get entries rank ≡ Some (get_or l rank blank)) (sym c.deref-entry-items.ensures.value) (slice_get-get_or entries rank blank rank_in) in
    let read = subst (λ l. (get_or l rank blank).2 < vec_len c.args.entries.now) (sym c.deref-entry-items.ensures.value) (c.requires.within rank blank rank_in) in
    let in_ranks : entry.2 < length c.loop-rank.ranks.items = omega (arith, read, c.loop-rank.invariant.0, c.loop-rank.ranks.ok.0) in
    (c.loop-rank.invariant.0, RanksFirst-more entries c.loop-rank.ranks.items rank entry c.requires.distinct at in_ranks c.loop-rank.invariant.1)
