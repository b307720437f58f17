use Rattle.std.proofs.lemmas.Map.Keys.{IsStrictlyIncreasing-from_sorted}
use Rattle.dl_core.proofs.committed_shard.places_in.Goals as goal

pub returns-clause-ascending : goal.returns-clause-ascending
returns-clause-ascending c = IsStrictlyIncreasing-from_sorted c.set_of.result c.set_of.ensures.ascending

pub returns-clause-exact : goal.returns-clause-exact
returns-clause-exact c = λ p. (
  λ h. (c.in_ok-places.ensures p).0 ((c.set_of.ensures.members p).0 h),
  λ s. (c.set_of.ensures.members p).1 ((c.in_ok-places.ensures p).1 s),
)
