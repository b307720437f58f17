-- Lists that are kept of probes.
use Rattle.std.specs.Prelude.{ℕ, ◌<◌, List, [], length, slice_index_or}
use Rattle.std.specs.List.{All}
use Rattle.std.specs.declared.option.Option.{Option}
use Rattle.std.specs.declared.option.Option.TheVariants.{Some, None}
use Rattle.dl_terms.specs.declared.axiom.Axiom.{Axiom}
use Rattle.dl_terms.specs.declared.axiom.Fact.{Fact}
use Rattle.dl_terms.specs.declared.query.Probe.{Probe}
use Rattle.dl_answer.specs.Probes.{HoldAlike}
use Rattle.dl_answer.specs.declared.slots.Kept.{Kept}
use Rattle.dl_answer.specs.declared.slots.KeptLists.{KeptLists}

-- over a kept list its probe holds as over axioms and facts
abbrev pub IsKept : List Axiom → List Fact → Kept → Type 0
IsKept axioms facts kept = HoldAlike axioms facts kept.probe kept.pairs

-- what is in a slot, if anything, is such a list
abbrev pub IsSlotKept : List Axiom → List Fact → Option Kept → Type 0
IsSlotKept axioms facts None = Unit {0}
IsSlotKept axioms facts (Some kept) = IsKept axioms facts kept

-- each kept list is one
abbrev pub AreKept : List Axiom → List Fact → KeptLists → Type 0
AreKept axioms facts kept = All (IsSlotKept axioms facts) kept.slots.items

-- over each of some lists the probe at its place holds as over axioms and facts
abbrev pub AreFirst : List Axiom → List Fact → List Probe → List (List (ℕ × ℕ)) → Type 0
AreFirst axioms facts probes lists = (k : ℕ) (p : Probe) → k < length lists
    → HoldAlike axioms facts (slice_index_or probes k p) (slice_index_or lists k [])
