use Rattle.std.proofs.Common.{rules}
use Rattle.dl_edits.proofs.AxiomEditLemmas.{key_added, key_removed}
use Rattle.dl_edits.proofs.axiom_edits.make_edit.Goals as goal

pub returns-then-not-edit-clause-ok : goal.returns-then-not-edit-clause-ok
returns-then-not-edit-clause-ok c =
    key_removed c.axioms_are_ordered.ensures.derived c.args.set.now.keys c.remove.new.self.keys c.args.edit.now.add c.args.edit.now.item
    c.in-Axiom.axiom (search rules) c.in-Axiom.is c.requires c.remove.ensures.keys

pub returns-clause-ok : goal.returns-clause-ok
returns-clause-ok c =
    key_added c.axioms_are_ordered.ensures.derived c.args.set.now.keys c.insert.new.self.keys c.args.edit.now.add c.args.edit.now.item
    c.in-Axiom.axiom c.in_ok-copy.copy (search rules) c.in-Axiom.is c.in_ok-copy.ensures c.requires c.in-Ok.ensures.keys
