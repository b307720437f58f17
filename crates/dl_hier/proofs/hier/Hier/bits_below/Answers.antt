use Rattle.std.proofs.Common.{refl, arith}
use Rattle.dl_hier.proofs.RowLemmas.{says_below, says_below_none}
use Rattle.dl_hier.proofs.hier.Hier.bits_below.Goals as goal

pub row-requires : goal.row-requires
row-requires c = omega (arith, c.in-Some.ensures.within, c.self.invariant.graphs.role_nodes)

pub returns-in-Some : goal.returns-in-Some
returns-in-Some c = λ axioms of.
    says_below c.self.inside.nodes c.self.inside.roles c.self.inside.role_ways c.self.inside.basic_ways c.self.invariant c.args.self.now
    c.self.view_is axioms of c.args.role c.in-Some.node c.in-Some.ensures c.row.result.now c.row.ensures

pub returns-in-None : goal.returns-in-None
returns-in-None c = λ axioms of.
    says_below_none c.self.inside.nodes c.self.inside.roles c.self.inside.role_ways c.self.inside.basic_ways c.self.invariant c.args.self.now
    c.self.view_is axioms of c.args.role c.in-None.ensures _ refl
