use Rattle.dl_answer.proofs.uneven.which_has_fewer.Goals as goal

pub returns-then-one-two-clause-kept : goal.returns-then-one-two-clause-kept
returns-then-one-two-clause-kept g c = c.is_to_sift.ensures

pub returns-then-two-one-clause-kept : goal.returns-then-two-one-clause-kept
returns-then-two-one-clause-kept g c = c.is_to_sift-then-two-one.ensures
