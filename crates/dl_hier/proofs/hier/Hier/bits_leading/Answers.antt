use Rattle.std.proofs.Common.{refl, arith}
use Rattle.dl_hier.proofs.RowLemmas.{says_leading, says_leading_none}
use Rattle.dl_hier.proofs.hier.Hier.bits_leading.Goals as goal

pub row-requires : goal.row-requires
row-requires c = omega (arith, c.in-Some.ensures.within, c.self.invariant.graphs.basic_nodes)

pub returns-in-Some : goal.returns-in-Some
returns-in-Some c = λ axioms of.
    says_leading c.self.inside.nodes c.self.inside.roles c.self.inside.role_ways c.self.inside.basic_ways c.self.invariant c.args.self.now
    c.self.view_is axioms of c.args.basic c.in-Some.node c.in-Some.ensures c.row.result.now c.row.ensures

pub returns-in-None : goal.returns-in-None
returns-in-None c = λ axioms of.
    says_leading_none c.self.inside.nodes c.self.inside.roles c.self.inside.role_ways c.self.inside.basic_ways c.self.invariant c.args.self.now
    c.self.view_is axioms of c.args.basic c.in-None.ensures _ refl
