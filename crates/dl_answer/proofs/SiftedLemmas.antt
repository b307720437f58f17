-- Two probes of one term: of the pairs of the one, those that are needed beside the list of the other.
use Rattle.std.proofs.Common.{◌≡◌, ℕ, zero, suc, ◌↔◌, inl, inr, Bool, true, List, [], ◌∷◌, get_or, refl, sym, ap, subst, ◌∙◌, arith}
use Rattle.std.specs.List.{All, Contains}
use Rattle.std.specs.List.Sorted.{IsSorted}
use Rattle.std.proofs.lemmas.List.Elements.{All-nil, All-cons, All-contains}
use Rattle.dl_terms.specs.declared.axiom.Axiom.{Axiom}
use Rattle.dl_terms.specs.declared.axiom.Fact.{Fact}
use Rattle.dl_terms.specs.declared.role.Basic.{Basic}
use Rattle.dl_terms.specs.declared.query.Term.{Term}
use Rattle.dl_terms.specs.declared.query.Probe.{Probe}
use Rattle.dl_terms.specs.declared.query.Probe.TheVariants.{AnyOf, Joined}
use Rattle.dl_terms.proofs.MemberLemmas.{Contains-nil, Contains-cons, Contains-first, Contains-later}
use Rattle.dl_hier.specs.Hierarchy.{Hierarchy, IsHierarchyOf}
use Rattle.dl_hier.specs.declared.below.Below.{Below}
use Rattle.dl_join.specs.Disjuncts as join
use Rattle.dl_join.specs.Disjuncts.{name_of, AllHold, AreSorted}
use Rattle.dl_terms.specs.Order.{pair_cmp}
use Rattle.dl_scan.specs.Pairs.{IsPairBelow}
use Rattle.dl_scan.specs.Sieves.{passes}
use Rattle.dl_rewrite.specs.OverNames.{ProbeHolds}
use Rattle.dl_answer.specs.Probes.{AreBelowProbe, AreBehind, IsListOf, ArePairsBelow}
use Rattle.dl_answer.specs.Sifted.{AreOfOneTerm, ArePairsSifted, IsFirst, first_term, HoldsAmong, IsListAmong, AreTogether}
use Rattle.dl_answer.proofs.StepLemmas.{HasPair, pair_holds}

-- where every name passes, no pair is left out
pub every_pair : (facts : List Fact) (below : Below) (marks : List Bool) (pairs : List (ℕ × ℕ))
    → ((name : ℕ) → passes marks name ≡ true) → ArePairsSifted facts below marks pairs → ArePairsBelow facts below pairs
every_pair facts below marks pairs every are p = (λ c. ((are p).0 c).0, λ b. (are p).1 (b, every p.0))

-- the pairs that pass are those of a probe among some others whose first names pass
module _ (h : Hierarchy) (probe : Probe) (below : Below) (marks : List Bool) (others pairs : List (ℕ × ℕ))
    (is : (axioms : List Axiom) → IsHierarchyOf h axioms → AreBelowProbe axioms h.predicates probe below)
    (pass : All (λ p. passes marks p.0 ≡ true) others) (axioms : List Axiom) (facts : List Fact)
    (behind : AreBehind h axioms facts) (are : ArePairsSifted facts below marks pairs) where
  module _ (names : ℕ → ℕ) where
    held : HasPair (IsPairBelow facts below) names probe ↔ ProbeHolds axioms facts names probe
    held = pair_holds axioms facts h behind.known below probe (is axioms behind.hierarchy) names

    to_pairs : (a b : ℕ) → IsFirst others a → IsPairBelow facts below (a, b) → Contains pairs (a, b)
    to_pairs a b first below_it =
        (are (a, b)).1 (below_it, All-contains (λ p. passes marks p.0 ≡ true) others (a, first.0) pass first.1)

    as_pair : (q : Probe) → join.ProbeHolds names pairs q → HasPair (IsPairBelow facts below) names q
    as_pair (AnyOf basics t) w = (w.0, ((are (name_of names t, w.0)).0 w.1).0)
    as_pair (Joined role t u) c = ((are (name_of names t, name_of names u)).0 c).0

    of_pair : (q : Probe) → IsFirst others (name_of names (first_term q)) → HasPair (IsPairBelow facts below) names q
        → join.ProbeHolds names pairs q
    of_pair (AnyOf basics t) first w = (w.0, to_pairs (name_of names t) w.0 first w.1)
    of_pair (Joined role t u) first b = to_pairs (name_of names t) (name_of names u) first b

  pub held_among : HoldsAmong axioms facts probe others pairs
  held_among = record {
    sound = λ names holds. (held names).0 (as_pair names probe holds);
    complete = λ names first holds. of_pair names probe first ((held names).1 holds);
  }

-- ---- two probes of one term

module _ (Behind : List Axiom → List Fact → Type 0) (ones others : List Basic) (t : Term) where
  module _ (few many : List (ℕ × ℕ)) where
    two_sorted : (a b : List (ℕ × ℕ)) → IsSorted pair_cmp a → IsSorted pair_cmp b → AreSorted (a ∷ b ∷ [])
    two_sorted a b up down =
        All-cons (IsSorted pair_cmp) a (b ∷ []) up (All-cons (IsSorted pair_cmp) b [] down (All-nil (IsSorted pair_cmp)))

    module _ (a b : List (ℕ × ℕ)) (axioms : List Axiom) (facts : List Fact) (names : ℕ → ℕ) where
      -- both hold over their lists exactly where they do over axioms and facts
      two_hold : (join.ProbeHolds names a (AnyOf ones t) × join.ProbeHolds names b (AnyOf others t)
          → ProbeHolds axioms facts names (AnyOf ones t) × ProbeHolds axioms facts names (AnyOf others t))
          → (ProbeHolds axioms facts names (AnyOf ones t) × ProbeHolds axioms facts names (AnyOf others t)
          → join.ProbeHolds names a (AnyOf ones t) × join.ProbeHolds names b (AnyOf others t))
          → AllHold names (AnyOf ones t ∷ AnyOf others t ∷ []) (a ∷ b ∷ [])
          ↔ ((p : Probe) → Contains (AnyOf ones t ∷ AnyOf others t ∷ []) p → ProbeHolds axioms facts names p)
      two_hold to from = (
        λ all p c.
            let both = to (all 0 (AnyOf ones t) (omega arith), all 1 (AnyOf ones t) (omega arith)) in
            elim (Contains-cons (AnyOf ones t) p (AnyOf others t ∷ []) c) [
              | inl same ↦ subst (ProbeHolds axioms facts names) same both.0
              | inr later ↦ elim (Contains-cons (AnyOf others t) p [] later) [
                | inl same ↦ subst (ProbeHolds axioms facts names) same both.1
                | inr none ↦ absurd (Contains-nil p none)
              ]
            ],
        λ all.
            let both = from (
              all (AnyOf ones t) (Contains-first (AnyOf ones t) (AnyOf others t ∷ [])),
              all (AnyOf others t) (Contains-later (AnyOf ones t) (AnyOf others t) (AnyOf others t ∷ [])
                  (Contains-first (AnyOf others t) [])),
            ) in
            at both,
      )
        where
          at : join.ProbeHolds names a (AnyOf ones t) × join.ProbeHolds names b (AnyOf others t)
              → AllHold names (AnyOf ones t ∷ AnyOf others t ∷ []) (a ∷ b ∷ [])
          at both zero p lt = both.0
          at both (suc zero) p lt = both.1
          at both (suc (suc k)) p lt = absurd (omega (arith, lt))

    first_together : IsListOf Behind (AnyOf ones t) few → IsListAmong Behind (AnyOf others t) few many
        → AreTogether Behind (AnyOf ones t ∷ AnyOf others t ∷ []) (few ∷ many ∷ [])
    first_together of among = record {
      count = refl;
      sorted = two_sorted few many of.sorted among.sorted;
      together = λ axioms facts behind names.
          let same = of.alike axioms facts behind (AnyOf ones t) refl names in
          two_hold few many axioms facts names
          (λ both. (same.0 both.0, (among.among axioms facts behind).sound names both.1))
          (λ both. let there = same.1 both.0 in (there, (among.among axioms facts behind).complete names there both.1));
    }

    second_together : IsListOf Behind (AnyOf others t) few → IsListAmong Behind (AnyOf ones t) few many
        → AreTogether Behind (AnyOf ones t ∷ AnyOf others t ∷ []) (many ∷ few ∷ [])
    second_together of among = record {
      count = refl;
      sorted = two_sorted many few among.sorted of.sorted;
      together = λ axioms facts behind names.
          let same = of.alike axioms facts behind (AnyOf others t) refl names in
          two_hold many few axioms facts names
          (λ both. ((among.among axioms facts behind).sound names both.0, same.0 both.1))
          (λ both. let there = same.1 both.1 in ((among.among axioms facts behind).complete names there both.0, there));
    }

-- by the two probes as they stand in a list
module _ (Behind : List Axiom → List Fact → Type 0) (probes : List Probe) (few many : List (ℕ × ℕ)) (two : AreOfOneTerm probes)
    (p q : Probe) where
  pub by_first : p ≡ get_or probes 0 p → q ≡ get_or probes 1 q → IsListOf Behind p few → IsListAmong Behind q few many
      → AreTogether Behind probes (few ∷ many ∷ [])
  by_first first second of among =
      subst (λ ps. AreTogether Behind ps (few ∷ many ∷ [])) (sym two.are)
      (first_together Behind two.ones two.others two.term few many
      (subst (λ x. IsListOf Behind x few) (first ∙ ap (λ ps. get_or ps 0 p) two.are) of)
      (subst (λ x. IsListAmong Behind x few many) (second ∙ ap (λ ps. get_or ps 1 q) two.are) among))

  pub by_second : p ≡ get_or probes 1 p → q ≡ get_or probes 0 q → IsListOf Behind p few → IsListAmong Behind q few many
      → AreTogether Behind probes (many ∷ few ∷ [])
  by_second second first of among =
      subst (λ ps. AreTogether Behind ps (many ∷ few ∷ [])) (sym two.are)
      (second_together Behind two.ones two.others two.term few many
      (subst (λ x. IsListOf Behind x few) (second ∙ ap (λ ps. get_or ps 1 p) two.are) of)
      (subst (λ x. IsListAmong Behind x few many) (first ∙ ap (λ ps. get_or ps 0 q) two.are) among))
