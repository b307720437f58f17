use Rattle.std.proofs.Common.{◌≡◌, ◌%◌, sym, subst}
use Rattle.dl_hier.proofs.RowLemmas.{roles-even}
use Rattle.dl_hier.proofs.edges.ways.Goals as goal

pub of-requires-2-clause-even : goal.of-requires-2-clause-even
of-requires-2-clause-even c = subst (λ n. n % 2 ≡ 0) (sym c.role_count-2.ensures) (roles-even c.args.nodes.now)
