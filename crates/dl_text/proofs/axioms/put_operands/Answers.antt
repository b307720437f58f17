use Rattle.std.proofs.Common.{length, ap}
use Rattle.dl_terms.specs.Occurring.{basic_names, role_names, axiom_names}
use Rattle.dl_text.proofs.TextLemmas.{items_below}
use Rattle.dl_text.proofs.axioms.put_operands.Goals as goal

pub put_joined-requires : goal.put_joined-requires
put_joined-requires g c =
    items_below basic_names (length c.args.names.now) (axiom_names c.args.stated.now) c.in-EquivalentClasses.basics c.as_slice-in-EquivalentClasses.result.now
    (ap axiom_names c.in-EquivalentClasses.is) c.as_slice-in-EquivalentClasses.ensures c.requires

pub put_joined-requires-in-DisjointClasses : goal.put_joined-requires-in-DisjointClasses
put_joined-requires-in-DisjointClasses g c =
    items_below basic_names (length c.args.names.now) (axiom_names c.args.stated.now) c.in-DisjointClasses.basics c.as_slice-in-DisjointClasses.result.now
    (ap axiom_names c.in-DisjointClasses.is) c.as_slice-in-DisjointClasses.ensures c.requires

pub put_joined-requires-in-EquivalentRoles : goal.put_joined-requires-in-EquivalentRoles
put_joined-requires-in-EquivalentRoles g c =
    items_below role_names (length c.args.names.now) (axiom_names c.args.stated.now) c.in-EquivalentRoles.roles c.as_slice-in-EquivalentRoles.result.now
    (ap axiom_names c.in-EquivalentRoles.is) c.as_slice-in-EquivalentRoles.ensures c.requires

pub put_joined-requires-in-DisjointRoles : goal.put_joined-requires-in-DisjointRoles
put_joined-requires-in-DisjointRoles g c =
    items_below role_names (length c.args.names.now) (axiom_names c.args.stated.now) c.in-DisjointRoles.roles c.as_slice-in-DisjointRoles.result.now
    (ap axiom_names c.in-DisjointRoles.is) c.as_slice-in-DisjointRoles.ensures c.requires
