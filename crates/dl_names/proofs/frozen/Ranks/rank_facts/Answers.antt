use Rattle.std.proofs.Common.{◌<◌, length, add-one, arith, slice_index}
use Rattle.dl_terms.specs.Renamed.{renamed_fact}
use Rattle.dl_names.proofs.RankLemmas.{get_or-changed, set-changed}
use Rattle.dl_names.proofs.frozen.Ranks.rank_facts.Goals as goal

pub loop-fact-preserved : goal.loop-fact-preserved
loop-fact-preserved c =
    let i = c.loop-fact.fact-index in
    let f = renamed_fact (slice_index c.args.self.now) in
    let i_in : i < length c.args.facts.now = omega arith in
    rw (c.ranked_fact.ensures, c.loop-fact.invariant, get_or-changed f c.args.facts.now, add-one) (set-changed f c.args.facts.now i _ i_in)
