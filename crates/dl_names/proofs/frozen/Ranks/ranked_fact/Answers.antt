use Rattle.dl_names.proofs.frozen.Ranks.ranked_fact.Goals as goal

pub returns-in-Link : goal.returns-in-Link
returns-in-Link c = rw (c.in-Link.is, c.of-in-Link.ensures, c.of-in-Link-2.ensures, c.of-in-Link-3.ensures)
