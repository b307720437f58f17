-- Lists of probes, by what is behind them.
use Rattle.std.proofs.Common.{◌≡◌, ℕ, ◌<◌, Bool, true, Result, Ok, Err, List, [], ◌∷◌, ◌++◌, length, get_or, sym, subst, arith}
use Rattle.std.proofs.lemmas.List.Elements.{All-nil}
use Rattle.std.specs.Prelude.{IfOk}
use Rattle.std.specs.List.{All}
use Rattle.std.specs.List.Sorted.{IsSorted}
use Rattle.dl_terms.specs.declared.axiom.Axiom.{Axiom}
use Rattle.dl_terms.specs.declared.axiom.Fact.{Fact}
use Rattle.dl_terms.specs.declared.query.Probe.{Probe}
use Rattle.dl_hier.specs.Hierarchy.{Hierarchy, IsHierarchyOf}
use Rattle.dl_hier.specs.declared.below.Below.{Below}
use Rattle.dl_terms.specs.declared.query.Probe.TheVariants.{AnyOf, Joined}
use Rattle.dl_terms.proofs.MemberLemmas.{Contains-nil}
use Rattle.dl_join.specs.Disjuncts as join
use Rattle.dl_join.specs.Disjuncts.{AreSorted}
use Rattle.dl_terms.specs.Order.{pair_cmp}
use Rattle.dl_scan.specs.Sieves.{passes}
use Rattle.dl_answer.specs.Probes.{AreBelowProbe, AreBehind, ArePairsBelow, IsListOf}
use Rattle.dl_answer.specs.Kept.{AreFirst}
use Rattle.dl_answer.specs.Sifted.{ArePairsSifted, IsListAmong}
use Rattle.dl_answer.specs.Searches.{AreFirstLists}
use Rattle.dl_answer.proofs.StepLemmas.{holds_alike}
use Rattle.dl_answer.proofs.KeptLemmas.{below_alike, first_none, first_push, sorted_more}
use Rattle.dl_answer.proofs.SiftedLemmas.{held_among}

-- the pairs of facts below a probe are its list
pub listed : {E : Type 0} (h : Hierarchy) (probe : Probe) (below : Below) (Has : List Fact → Type 0)
    (result : Result (List (ℕ × ℕ)) E)
    → ((axioms : List Axiom) → IsHierarchyOf h axioms → AreBelowProbe axioms h.predicates probe below)
    → IfOk result (IsSorted pair_cmp)
    → ((facts : List Fact) → Has facts → IfOk result (ArePairsBelow facts below))
    → IfOk result (IsListOf (λ axioms facts. Has facts × AreBehind h axioms facts) probe)
listed h probe below Has (Ok pairs) is sorted are = record {
  sorted = sorted;
  alike = λ axioms facts behind q alike.
      holds_alike axioms facts h behind.1 below pairs (are facts behind.0) q
      (below_alike axioms h.predicates probe q below alike (is axioms behind.1.hierarchy));
}
listed h probe below Has (Err e) is sorted are = tt

-- those that pass are its list among some others
pub listed_among : {E : Type 0} (h : Hierarchy) (probe : Probe) (below : Below) (marks : List Bool)
    (others : List (ℕ × ℕ)) (Has : List Fact → Type 0) (result : Result (List (ℕ × ℕ)) E)
    → ((axioms : List Axiom) → IsHierarchyOf h axioms → AreBelowProbe axioms h.predicates probe below)
    → All (λ p. passes marks p.0 ≡ true) others → IfOk result (IsSorted pair_cmp)
    → ((facts : List Fact) → Has facts → IfOk result (ArePairsSifted facts below marks))
    → IfOk result (IsListAmong (λ axioms facts. Has facts × AreBehind h axioms facts) probe others)
listed_among h probe below marks others Has (Ok pairs) is pass sorted are = record {
  sorted = sorted;
  among = λ axioms facts behind.
      held_among h probe below marks others pairs is pass axioms facts behind.1 (are facts behind.0);
}
listed_among h probe below marks others Has (Err e) is pass sorted are = tt

-- beside no pair, none is needed
pub among_none : (Behind : List Axiom → List Fact → Type 0) (probe : Probe) (others pairs : List (ℕ × ℕ))
    → length others ≡ 0 → pairs ≡ [] → IsListAmong Behind probe others pairs
among_none Behind probe others pairs nothing none =
    subst (IsListAmong Behind probe others) (sym none) (record {
      sorted = λ k d low h. absurd (omega (arith, h));
      among = λ axioms facts behind. record {
        sound = λ names holds. absurd (fails names probe holds);
        complete = λ names first holds. let inside = first.1.1 in absurd (omega (arith, inside, nothing));
      };
    })
  where
    fails : (names : ℕ → ℕ) (q : Probe) → join.ProbeHolds names [] q → ⊥
    fails names (AnyOf basics t) w = Contains-nil _ w.1
    fails names (Joined role t u) c = Contains-nil _ c

-- a list by whatever is behind it is one by what is so
module _ (Behind Other : List Axiom → List Fact → Type 0)
    (so : (axioms : List Axiom) (facts : List Fact) → Other axioms facts → Behind axioms facts) (probe : Probe) where
  pub list_by : (pairs : List (ℕ × ℕ)) → IsListOf Behind probe pairs → IsListOf Other probe pairs
  list_by pairs is = record {
    sorted = is.sorted;
    alike = λ axioms facts other. is.alike axioms facts (so axioms facts other);
  }

  pub made_by : {E : Type 0} (result : Result (List (ℕ × ℕ)) E) → IfOk result (IsListOf Behind probe)
      → IfOk result (IsListOf Other probe)
  made_by (Ok pairs) is = list_by pairs is
  made_by (Err e) is = tt

  pub among_by : (others pairs : List (ℕ × ℕ)) → IsListAmong Behind probe others pairs
      → IsListAmong Other probe others pairs
  among_by others pairs is = record {
    sorted = is.sorted;
    among = λ axioms facts other. is.among axioms facts (so axioms facts other);
  }

-- ---- lists of the first of some probes

module _ (Behind : List Axiom → List Fact → Type 0) (probes : List Probe) where
  pub no_lists : (lists : List (List (ℕ × ℕ))) → lists ≡ [] → AreFirstLists Behind probes lists
  no_lists lists none = record {
    sorted = subst AreSorted (sym none) (All-nil (IsSorted pair_cmp));
    first = λ axioms facts behind. first_none axioms facts probes lists none;
  }

-- one more, which was made by what is behind it now, beside the lists before
pub more_lists : (Behind Now : List Axiom → List Fact → Type 0) (probes : List Probe) (i : ℕ) (probe : Probe)
    (old lent new : List (List (ℕ × ℕ))) (pairs : List (ℕ × ℕ)) → i < length probes → probe ≡ get_or probes i probe
    → length old ≡ i → lent ≡ old → new ≡ old ++ pairs ∷ []
    → ((axioms : List Axiom) (facts : List Fact) → Behind axioms facts → Now axioms facts)
    → AreFirstLists Behind probes old
    → IsListOf (λ axioms facts. AreFirst axioms facts probes lent × Now axioms facts) probe pairs
    → AreFirstLists Behind probes new
more_lists Behind Now probes i probe old lent new pairs inside at size same grown so lists is = record {
  sorted = sorted_more old new pairs lists.sorted is.sorted grown;
  first = λ axioms facts behind.
      let first = lists.first axioms facts behind in
      first_push axioms facts probes i probe old new pairs inside at size first
      (is.alike axioms facts (subst (AreFirst axioms facts probes) (sym same) first, so axioms facts behind)) grown;
}
