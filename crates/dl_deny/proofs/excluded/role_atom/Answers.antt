use Rattle.dl_deny.proofs.ExcludedLemmas.{inverse-atom}
use Rattle.dl_deny.proofs.excluded.role_atom.Goals as goal

pub returns-then-role : goal.returns-then-role
returns-then-role c =
    inverse-atom c.args.role c.role_name-name.result c.args.from c.args.to c.if-role.true c.role_name-name.ensures
