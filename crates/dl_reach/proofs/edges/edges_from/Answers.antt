use Rattle.std.proofs.Common.{◌≤◌, arith}
use Rattle.dl_reach.proofs.SortedEdges.{Contains-part, start_le_end}
use Rattle.dl_reach.proofs.edges.edges_from.Goals as goal

pub slice_bounds-result-count : goal.slice_bounds-result-count
slice_bounds-result-count c = start_le_end c.args.edges.now c.first_from-start.result c.first_from-end.result c.args.node c.first_from-start.ensures.bound c.first_from-start.ensures.before c.first_from-end.ensures.after

pub slice_bounds-result-start : goal.slice_bounds-result-start
slice_bounds-result-start c =
    let before : c.first_from-start.result ≤ c.first_from-end.result = start_le_end c.args.edges.now c.first_from-start.result c.first_from-end.result c.args.node c.first_from-start.ensures.bound c.first_from-start.ensures.before c.first_from-end.ensures.after in
    omega arith

pub returns : goal.returns
returns c = Contains-part c.args.edges.now c.first_from-start.result c.first_from-end.result c.args.node c.first_from-end.ensures.bound c.first_from-start.ensures.before c.first_from-start.ensures.after c.first_from-end.ensures.before c.first_from-end.ensures.after
