-- The shape of a disjunct of a query.
use Rattle.std.specs.Prelude.{◌≡◌, ℕ, ◌<◌, length}
use Rattle.std.specs.List.{Contains}
use Rattle.dl_terms.specs.declared.query.Query.{Query}
use Rattle.dl_terms.specs.declared.query.Probe.{Probe}
use Rattle.dl_terms.specs.declared.query.Disjunct.{Disjunct}
use Rattle.dl_join.specs.Disjuncts.{HasVariable, IsSafe}

-- its head is as long as the query's, the variables of its probes are below its number of variables, and each variable
-- of its head is in a probe
pub record IsShapedFor (q : Query) (d : Disjunct) : Type 0 where
  pub head : length d.head ≡ length q.head
  pub below : (v : ℕ) (p : Probe) → Contains d.probes p → HasVariable v p → v < d.vars
  pub safe : IsSafe d
