use Rattle.std.proofs.Common.{◌≡◌, List, All, MatchResult, sym, subst, ◌∙◌}
use Rattle.std.specs.List.Sorted.{IsStrictlySortedBy}
use Rattle.dl_terms.specs.Order.{fact_cmp}
use Rattle.dl_terms.specs.Sets.{IsSetOf}
use Rattle.dl_terms.specs.declared.axiom.Fact.{Fact}
use Rattle.dl_core.specs.Loading.{IsFactIn, IsLoadOf, IsLoaded, IsLoadFault}
use Rattle.dl_edits.proofs.SetOfLemmas.{set_all}
use Rattle.dl_core.proofs.LoadLemmas.{ascending_load, facts_in_set}
use Rattle.dl_core.proofs.first_root.load_axioms.Goals as goal

-- the set of a copy of the facts is theirs
of_copy : (set copies facts : List Fact) → copies ≡ facts → IsSetOf fact_cmp set copies
    → IsSetOf fact_cmp set facts
of_copy set copies facts same is = subst (IsSetOf fact_cmp set) same is

pub load_sets-requires-2-clause-facts : goal.load_sets-requires-2-clause-facts
load_sets-requires-2-clause-facts c =
    let s = c.args.signature.now in
    subst (All (IsFactIn s)) (sym c.as_slice.ensures)
    (set_all (IsFactIn s) c.fact_set-set.result c.args.facts.now
    (of_copy _ _ _ (c.of-copies.ensures ∙ c.in_ok-from_slice.ensures.items) c.fact_set-set.ensures) c.requires.facts)

pub returns-then-facts_ascend : goal.returns-then-facts_ascend
returns-then-facts_ascend c =
    λ l is.
    subst (λ m. MatchResult c.load_sets.result (IsLoaded m) (IsLoadFault m))
    (ascending_load c.args.axioms.now c.args.signature.now c.args.facts.now c.args.shards l c.requires.ascending
    c.if-facts_ascend.ensures is)
    c.load_sets.ensures

pub returns : goal.returns
returns c =
    λ l is.
    let s = c.args.signature.now in
    let axioms = c.args.axioms.now in
    let set = c.fact_set-set.result in
    let value = c.as_slice.ensures in
    let of_set = facts_in_set s c.args.shards l axioms set c.args.facts.now
    (of_copy _ _ _ (c.of-copies.ensures ∙ c.in_ok-from_slice.ensures.items) c.fact_set-set.ensures) is in
    subst (λ m. MatchResult c.load_sets-2.result (IsLoaded m) (IsLoadFault m))
    (ascending_load axioms s c.as_slice.result.now c.args.shards l c.requires.ascending
    (subst (IsStrictlySortedBy fact_cmp) (sym value) c.fact_set-set.ensures.ascending)
    (subst (λ facts. IsLoadOf axioms s facts c.args.shards l) (sym value) of_set))
    c.load_sets-2.ensures
