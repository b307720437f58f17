use Rattle.dl_row.specs.declared.row.Kind.TheVariants.{Role}
use Rattle.dl_migrate.proofs.NameLemmas.{same_number, frozen-once}
use Rattle.dl_migrate.proofs.number.role_in.Goals as goal

pub returns : goal.returns
returns c = λ name e.
    same_number c.args.from.now.roles c.args.to.now.roles c.args.number c.role_name.result c.in-Some.number name
    (frozen-once c.args.to.now c.requires.frozen Role) c.role_name.ensures c.in-Some.ensures e
