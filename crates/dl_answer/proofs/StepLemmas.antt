-- What the functions of this crate need, step by step: lists of probes, and tuples.
use Rattle.std.proofs.Common.{◌≡◌, ℕ, Result, Ok, Err, ◌+◌, ◌<◌, ◌≤◌, ◌↔◌, List, [], length, get_or, refl, ap, subst, ◌∙◌, arith}
use Rattle.std.specs.Ordering.{is_lt, ordering_reverse}
use Rattle.std.specs.List.{All}
use Rattle.std.specs.List.Sorted.{IsSorted, IsStrictlySortedBy}
use Rattle.std.proofs.lemmas.List.Elements.{All-weaker, Contains-get_or}
use Rattle.std.specs.Prelude.{IfOk}
use Rattle.dl_terms.specs.Table.{Table}
use Rattle.dl_terms.specs.declared.axiom.Axiom.{Axiom}
use Rattle.dl_terms.specs.declared.axiom.Fact.{Fact}
use Rattle.dl_terms.specs.declared.query.Probe.{Probe}
use Rattle.dl_terms.specs.declared.query.Probe.TheVariants.{AnyOf, Joined}
use Rattle.dl_terms.specs.declared.query.Disjunct.{Disjunct}
use Rattle.dl_hier.specs.Hierarchy.{Hierarchy}
use Rattle.dl_hier.specs.declared.below.Below.{Below}
use Rattle.dl_join.specs.Disjuncts.{name_of, IsTuple, IsSafe}
use Rattle.dl_terms.specs.Order.{pair_cmp}
use Rattle.dl_join.specs.Tuples.{AreExactly, AreMoreThan}
use Rattle.dl_join.specs.declared.fault.JoinFault.{JoinFault}
use Rattle.dl_join.specs.declared.fault.JoinFault.TheVariants.{TooMany, NoMemory}
use Rattle.dl_join.proofs.MergeLemmas.{sorted_at}
use Rattle.dl_join.proofs.OrderLemmas.{pair_linear}
use Rattle.dl_scan.specs.Pairs.{IsPairBelow}
use Rattle.dl_rewrite.specs.OverNames.{ProbeHolds, HasOverNames}
use Rattle.dl_answer.specs.OverNames.{HoldsAlike, AreBelow}
use Rattle.dl_answer.specs.Probes.{AreBelowProbe, AreBehind, ArePairsBelow}
use Rattle.dl_answer.specs.Facts.{HasPredicate}
use Rattle.dl_answer.specs.Sifted.{HoldTogether}
use Rattle.dl_answer.specs.Replies.{AreOver, GivesTuples}
use Rattle.dl_answer.proofs.BelowLemmas.{holds_by_pair, pair_of_held, joins_by_pair, pair_of_joined}
use Rattle.dl_answer.proofs.TupleLemmas.{exactly_exists, over_exactly}

-- ---- a probe over its pairs

-- a set of pairs is sorted
pub pairs_sorted : (pairs : List (ℕ × ℕ)) → IsStrictlySortedBy pair_cmp pairs → IsSorted pair_cmp pairs
pairs_sorted pairs up = λ k d low h.
    let less = sorted_at pair_cmp pairs k (k + 1) d up (omega arith) h in
    ap is_lt (pair_linear.total.antisymm (get_or pairs (k + 1) d) (get_or pairs k d) ∙ ap ordering_reverse less)

-- a pair of which something holds whose names are those of a probe's terms
abbrev pub HasPair : (ℕ × ℕ → Type 0) → (ℕ → ℕ) → Probe → Type 0
HasPair P names (AnyOf basics t) = (second : ℕ) × P (name_of names t, second)
HasPair P names (Joined role t u) = P (name_of names t, name_of names u)

-- a probe holds over axioms and facts exactly where it has a pair of the facts below it
pub pair_holds : (axioms : List Axiom) (facts : List Fact) (h : Hierarchy)
    → All (HasPredicate h.predicates.classes h.predicates.properties) facts → (below : Below) (probe : Probe)
    → AreBelowProbe axioms h.predicates probe below → (names : ℕ → ℕ)
    → HasPair (IsPairBelow facts below) names probe ↔ ProbeHolds axioms facts names probe
pair_holds axioms facts h known below (AnyOf basics t) is names = (
  λ w. holds_by_pair axioms facts h.predicates.classes h.predicates.properties known below basics is.0 is.1 is.2
      (name_of names t, w.0) w.1,
  λ w. pair_of_held axioms facts h.predicates.classes h.predicates.properties known below basics is.0 is.1 is.2
      (name_of names t) w.basic w.is_one w.holds,
)
pair_holds axioms facts h known below (Joined role t u) is names = (
  λ b. joins_by_pair axioms facts h.predicates.classes h.predicates.properties known below role is.0 is.1 is.2
      (name_of names t, name_of names u) b,
  λ j. pair_of_joined axioms facts h.predicates.classes h.predicates.properties known below role is.0 is.1 is.2
      (name_of names t) (name_of names u) j,
)

-- over the pairs of the facts below it a probe holds exactly where it holds over axioms and facts
module _ (axioms : List Axiom) (facts : List Fact) (h : Hierarchy) (behind : AreBehind h axioms facts) (below : Below)
    (pairs : List (ℕ × ℕ)) (are : ArePairsBelow facts below pairs) where
  pub holds_alike : (probe : Probe) → AreBelowProbe axioms h.predicates probe below
      → HoldsAlike axioms facts probe pairs
  holds_alike (AnyOf basics t) is names =
      let held = pair_holds axioms facts h behind.known below (AnyOf basics t) is names in (
        λ w. held.0 (w.0, (are (name_of names t, w.0)).0 w.1),
        λ w. let p = held.1 w in (p.0, (are (name_of names t, p.0)).1 p.1),
      )
  holds_alike (Joined role t u) is names =
      let held = pair_holds axioms facts h behind.known below (Joined role t u) is names in (
        λ c. held.0 ((are (name_of names t, name_of names u)).0 c),
        λ j. (are (name_of names t, name_of names u)).1 (held.1 j),
      )

-- ---- tuples

-- what exactly one thing holds of, exactly another does that is the same
pub exactly_same : (P Q : List ℕ → Type 0) → ((t : List ℕ) → P t ↔ Q t) → (tuples : List (List ℕ))
    → AreExactly P tuples → AreExactly Q tuples
exactly_same P Q same tuples is = record {
  ascending = is.ascending;
  exact = λ t. (λ c. (same t).0 ((is.exact t).0 c), λ h. (is.exact t).1 ((same t).1 h));
}

module _ (d : Disjunct) (lists : List (List (ℕ × ℕ))) (axioms : List Axiom) (facts : List Fact)
    (together : HoldTogether axioms facts d.probes lists) where
  -- the tuples over the lists are those over axioms and facts
  tuple_over : (tuple : List ℕ) → IsTuple d lists tuple ↔ HasOverNames axioms facts d tuple
  tuple_over tuple = (
    λ t. record { names = t.names; is_head = t.head; probes = (together t.names).0 t.probes },
    λ t. record { names = t.names; probes = (together t.names).1 t.probes; head = t.is_head },
  )

  tuples_over : (tuples : List (List ℕ)) → AreExactly (IsTuple d lists) tuples
      → AreExactly (HasOverNames axioms facts d) tuples
  tuples_over = exactly_same (IsTuple d lists) (HasOverNames axioms facts d) tuple_over

-- where each probe holds alike, all hold together
module _ (d : Disjunct) (lists : List (List (ℕ × ℕ))) (axioms : List Axiom) (facts : List Fact)
    (each : (k : ℕ) (p : Probe) → k < length d.probes → HoldsAlike axioms facts (get_or d.probes k p)
    (get_or lists k [])) where
  pub all_together : HoldTogether axioms facts d.probes lists
  all_together names = (
    λ all p c. subst (ProbeHolds axioms facts names) c.2 ((each c.0 p c.1 names).0 (all c.0 p c.1)),
    λ all k p lt. (each k p lt names).1 (all (get_or d.probes k p) (Contains-get_or d.probes k p lt)),
  )

  pub exactly_over : (tuples : List (List ℕ)) → AreExactly (IsTuple d lists) tuples
      → AreExactly (HasOverNames axioms facts d) tuples
  exactly_over = tuples_over d lists axioms facts all_together

-- more tuples than a limit are over it, where all have a list
pub over_more : (limit : ℕ) (P Q : List ℕ → Type 0) → ((t : List ℕ) → P t → Q t) → AreMoreThan limit P
    → (tuples : List (List ℕ)) × AreExactly Q tuples → AreOver limit Q
over_more limit P Q within more all = record {
  tuples = all.0;
  exact = all.1;
  longer = over_exactly limit Q all.0 all.1 record {
    tuples = more.tuples;
    ascending = more.ascending;
    each = All-weaker P Q within more.tuples more.each;
    longer = more.longer;
  };
}

-- what a join gives is what a disjunct has
pub gives_together : (d : Disjunct) (lists : List (List (ℕ × ℕ))) (limit : ℕ) (result : Result Table JoinFault)
    → length lists ≡ length d.probes → AreBelow d.vars d.probes → IsSafe d
    → IfOk result (λ t. AreExactly (IsTuple d lists) t.tuples) → IfOk result (λ t. length t.tuples ≤ limit)
    → (result ≡ Err TooMany → AreMoreThan limit (IsTuple d lists))
    → (axioms : List Axiom) (facts : List Fact) → HoldTogether axioms facts d.probes lists
    → GivesTuples (HasOverNames axioms facts d) limit result
gives_together d lists limit (Ok t) count few safe exact within more axioms facts together =
    (tuples_over d lists axioms facts together t.tuples exact, within)
gives_together d lists limit (Err TooMany) count few safe exact within more axioms facts together =
    let all = exactly_exists d.vars d lists count few safe in
    over_more limit (IsTuple d lists) (HasOverNames axioms facts d) (λ t. (tuple_over d lists axioms facts together t).0)
    (more refl) (all.0, tuples_over d lists axioms facts together all.0 all.1)
gives_together d lists limit (Err NoMemory) count few safe exact within more axioms facts together = tt
