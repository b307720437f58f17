use Rattle.std.proofs.Common.{◌≡◌, length, drop, arith}
use Rattle.std.proofs.lemmas.List.{take_at}
use Rattle.dl_reach.proofs.closure.chain_bits.Goals as goal

pub returns-clause-chains : goal.returns-clause-chains
returns-clause-chains c =
    let long : length c.fill.new.words ≡ c.in_ok-words.words.len = omega (arith, c.fill.auto.words, c.deref_mut.ensures.len, c.in_ok-words.words.ok.0) in
    rw (take_at c.fill.new.words (drop (length c.fill.new.words) c.in_ok-words.words.items) c.in_ok-words.words.len long) c.fill.ensures
