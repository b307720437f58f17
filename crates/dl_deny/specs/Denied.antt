-- The denials of negatives: the query of each beside its axiom (Calvanese et al. 2007).
use Rattle.std.specs.Prelude.{List, map}
use Rattle.std.specs.declared.option.Option.{Option}
use Rattle.dl_terms.specs.Broken.{query_of}
use Rattle.dl_terms.specs.declared.role.Negative.{Negative}
use Rattle.dl_terms.specs.declared.axiom.Axiom.{Axiom}
use Rattle.dl_deny.specs.declared.denial.Denial.{Denial}

-- a negative as a denial: its query, which nothing in a model matches
abbrev pub denial_of : Option Axiom × Negative → Denial
denial_of n = record { «axiom» = n.0; query = query_of n.1 }

-- each of a list, in its order
abbrev pub denials_of : List (Option Axiom × Negative) → List Denial
denials_of ns = map denial_of ns
