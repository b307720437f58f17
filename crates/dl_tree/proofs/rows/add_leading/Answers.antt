use Rattle.std.proofs.Common.{length}
use Rattle.dl_hier.specs.Predicates.{roles}
use Rattle.dl_tree.specs.Below.{MayFollow}
use Rattle.dl_tree.specs.Rows.{role_at}
use Rattle.dl_tree.proofs.RowLemmas.{joined_tells}
use Rattle.dl_tree.proofs.rows.add_leading.Goals as goal

pub returns-clause-told : goal.returns-clause-told
returns-clause-told c = λ axioms of.
    let rs = roles c.args.hier.now.predicates in
    joined_tells (length rs) (λ i. MayFollow axioms (role_at rs i) c.args.to) c.args.row.now.items c.bits_leading.result.now c.join.new.row.items c.requires
    c.join.ensures.len c.join.ensures.bits (c.bits_leading.ensures axioms of)
