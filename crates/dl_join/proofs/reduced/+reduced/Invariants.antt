use Rattle.dl_join.proofs.reduced.+reduced.Given as goal

abbrev pub decreases-reduced : goal.decreases-reduced
decreases-reduced l = l.most
