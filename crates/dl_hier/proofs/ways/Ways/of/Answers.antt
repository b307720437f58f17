use Rattle.std.proofs.Common.{ℕ, ◌+◌, ◌<◌, ◌≤◌, get_or, sym, subst, refl, ◌∙◌}
use Rattle.std.proofs.lemmas.List.Elements.{All-contains, Contains-get_or}
use Rattle.dl_reach.specs.Digraph.{max_nodes}
use Rattle.dl_hier.proofs.QueryLemmas.{then}
use Rattle.dl_hier.proofs.WayLemmas.{edges_back, kept_ends, same_members}
use Rattle.dl_hier.proofs.ways.Ways.of.Goals as goal

pub closure_of-requires-clause-ends : goal.closure_of-requires-clause-ends
closure_of-requires-clause-ends c =
    kept_ends c.args.first c.args.rest c.requires.even c.args.edges.now c.deref.result.now c.requires.ends
    (same_members (c.deref.ensures.value ∙ c.in_ok-kept.ensures))

pub invariant_of-result : goal.invariant_of-result
invariant_of-result c =
    let ends = kept_ends c.args.first c.args.rest c.requires.even c.args.edges.now c.deref.result.now c.requires.ends
    (same_members (c.deref.ensures.value ∙ c.in_ok-kept.ensures)) in
    let nodes = c.in_ok-closure.ensures.nodes in
    let few = c.requires.few in
    record {
      nodes = nodes;
      few = subst (λ n. n ≤ max_nodes) (sym nodes) few;
      even = c.requires.even;
      ends = λ k d within.
          let e : ℕ × ℕ = get_or c.in_ok-closure.closure.edges k d in
          All-contains (λ x. (x.0 < c.args.first + c.args.rest) × (x.1 < c.args.first + c.args.rest)) c.deref.result.now e ends
          ((c.in_ok-closure.ensures.edges e.0 e.1).0 (Contains-get_or c.in_ok-closure.closure.edges k d within));
    }

pub returns : goal.returns
returns c = record {
  first_is = refl;
  rest_is = refl;
  nodes = c.in_ok-closure.ensures.nodes;
  same = edges_back c.args.first c.args.rest c.requires.even c.args.edges.now c.in_ok-closure.closure.edges c.requires.ends
      (λ a b. then (c.in_ok-closure.ensures.edges a b) (same_members (c.deref.ensures.value ∙ c.in_ok-kept.ensures) a b));
}
