use Rattle.std.proofs.Common.{◌≡◌, ◌*◌, ◌≤◌, length, get_or, drop, ◌∙◌, arith}
use Rattle.std.proofs.lemmas.List.{take_at}
use Rattle.dl_reach.specs.Chain.{Chain}
use Rattle.dl_reach.specs.Digraph.{IsEdge}
use Rattle.dl_reach.proofs.Chains.{Chain-refl, Chain-trans}
use Rattle.dl_reach.proofs.BitPairs.{order_has_chains, order_chains}
use Rattle.dl_reach.proofs.closure.Closure.turned.Goals as goal

pub invariant_of-result : goal.invariant_of-result
invariant_of-result c =
    let long : length c.turn_rows.new.words ≡ c.in_ok-words.words.len = omega (arith, c.turn_rows.auto.words, c.deref_mut.ensures.len, c.in_ok-words.words.ok.0) in
    let wide : length c.args.nodes.now ≤ 64 * c.div_ceil-width.result = omega (arith, c.div_ceil-width.ensures) in
    let rows : length c.turn_rows.new.words ≡ length c.args.nodes.now * c.div_ceil-width.result =
    c.turn_rows.auto.words ∙ c.deref_mut.ensures.len ∙ c.in_ok-words.ensures.len in
    rw (take_at c.turn_rows.new.words (drop (length c.turn_rows.new.words) c.in_ok-words.words.items) c.in_ok-words.words.len long) record {
      few = c.requires.few;
      wide = wide;
      len = rows;
      chains = order_has_chains c.turn_rows.new.words c.div_ceil-width.result (length c.args.nodes.now) wide
          (λ a b. Chain (IsEdge c.args.self.now) (get_or c.args.nodes.now b 0) (get_or c.args.nodes.now a 0))
          (λ a. Chain-refl (IsEdge c.args.self.now) (get_or c.args.nodes.now a 0))
          (λ a b d one two. Chain-trans (IsEdge c.args.self.now) (get_or c.args.nodes.now d 0) (get_or c.args.nodes.now b 0)
          (get_or c.args.nodes.now a 0) two one)
          c.turn_rows.ensures;
    }

pub returns-clause-chains : goal.returns-clause-chains
returns-clause-chains c =
    let long : length c.turn_rows.new.words ≡ c.in_ok-words.words.len = omega (arith, c.turn_rows.auto.words, c.deref_mut.ensures.len, c.in_ok-words.words.ok.0) in
    let wide : length c.args.nodes.now ≤ 64 * c.div_ceil-width.result = omega (arith, c.div_ceil-width.ensures) in
    rw (take_at c.turn_rows.new.words (drop (length c.turn_rows.new.words) c.in_ok-words.words.items) c.in_ok-words.words.len long)
    (order_chains c.turn_rows.new.words c.div_ceil-width.result (length c.args.nodes.now) wide
    (λ a b. Chain (IsEdge c.args.self.now) (get_or c.args.nodes.now b 0) (get_or c.args.nodes.now a 0))
    (λ a. Chain-refl (IsEdge c.args.self.now) (get_or c.args.nodes.now a 0))
    (λ a b d one two. Chain-trans (IsEdge c.args.self.now) (get_or c.args.nodes.now d 0) (get_or c.args.nodes.now b 0)
    (get_or c.args.nodes.now a 0) two one)
    c.turn_rows.ensures)
