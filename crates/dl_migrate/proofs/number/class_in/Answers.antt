use Rattle.dl_row.specs.declared.row.Kind.TheVariants.{Class}
use Rattle.dl_migrate.proofs.NameLemmas.{same_number, frozen-once}
use Rattle.dl_migrate.proofs.number.class_in.Goals as goal

pub returns : goal.returns
returns c = λ name e.
    same_number c.args.from.now.classes c.args.to.now.classes c.args.number c.class_name.result c.in-Some.number name
    (frozen-once c.args.to.now c.requires.frozen Class) c.class_name.ensures c.in-Some.ensures e
