-- The facts that rows stand for at a version, and the pairs of those below what is asked.
use Rattle.std.specs.Prelude.{◌≡◌, ℕ, List, filter}
use Rattle.std.specs.List.{Contains, filter_map}
use Rattle.dl_terms.specs.declared.axiom.Fact.{Fact}
use Rattle.dl_terms.specs.declared.axiom.Fact.TheVariants.{Is, Link}
use Rattle.dl_hier.specs.declared.below.Below.{Below}
use Rattle.dl_row.specs.Rows.{Epoch, fact_of, visible}
use Rattle.dl_row.specs.declared.row.Row.{Row}

-- the facts of the rows that are visible at a version, each by its own epoch; a row that stands for none gives none
abbrev pub visible_facts : List Epoch → ℕ → List Row → List Fact
visible_facts epochs version rows = filter_map (fact_of epochs) (filter (visible version) rows)

-- the pair of a fact whose predicate is below what is asked: of a class fact its individual twice, of a role fact
-- its two ends, turned where the inverse of its role is below
pub data IsPairBelow (facts : List Fact) (below : Below) (p : ℕ × ℕ) : Type 0 where
  member : {c : ℕ} → Contains below.classes c → Contains facts (Is c p.0) → p.0 ≡ p.1 → IsPairBelow facts below p
  plain : {r : ℕ} → Contains below.forward r → Contains facts (Link r p.0 p.1) → IsPairBelow facts below p
  turned : {r : ℕ} → Contains below.backward r → Contains facts (Link r p.1 p.0) → IsPairBelow facts below p
