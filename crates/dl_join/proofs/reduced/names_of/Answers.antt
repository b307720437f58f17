use Rattle.dl_join.proofs.NarrowLemmas.{no_need}
use Rattle.dl_join.proofs.DirectLemmas.{lone_names}
use Rattle.dl_join.proofs.reduced.names_of.Goals as goal

pub returns-then-lone : goal.returns-then-lone
returns-then-lone c = lone_names c.args.var c.args.needs.now no_need (c.requires.lone c.if-lone.true) c.requires.needs
