-- What is below what is decided: so each probe has a list of its pairs, and each disjunct one of its tuples.
use Rattle.std.proofs.Common.{◌≡◌, ℕ, zero, suc, ◌<◌, ◌⊎◌, inl, inr, List, [], ◌∷◌, length, get_or, refl, sym, ap, subst, arith}
use Rattle.std.specs.List.{All}
use Rattle.std.proofs.lemmas.List.Elements.{All-head, All-tail}
use Rattle.std.proofs.lemmas.Map.Keys.{IsStrictlyIncreasing-from_sorted}
use Rattle.dl_terms.specs.Roles.{named, inverse_of}
use Rattle.dl_terms.specs.Below.{RoleBelow, ConceptBelow}
use Rattle.dl_terms.specs.declared.role.Basic.{Basic}
use Rattle.dl_terms.specs.declared.role.Basic.TheVariants.{Class, SomeOf}
use Rattle.dl_terms.specs.declared.axiom.Axiom.{Axiom}
use Rattle.dl_terms.specs.declared.axiom.Fact.{Fact}
use Rattle.dl_terms.specs.declared.query.Probe.{Probe}
use Rattle.dl_terms.specs.declared.query.Probe.TheVariants.{AnyOf, Joined}
use Rattle.dl_terms.specs.declared.query.Query.{Query}
use Rattle.dl_terms.specs.declared.query.Disjunct.{Disjunct}
use Rattle.dl_terms.proofs.OrderLemmas.{numbers_linear}
use Rattle.dl_terms.proofs.MemberLemmas.{Contains-nil, Contains-first, Contains-later, Contains-cons}
use Rattle.dl_hier.specs.Hierarchy.{Hierarchy}
use Rattle.dl_hier.specs.Below.{IsBelowOneOf, AreThose}
use Rattle.dl_hier.specs.declared.below.Below.{Below}
use Rattle.dl_hier.proofs.DecidedLemmas.{role_decided, concept_decided}
use Rattle.dl_join.specs.Tuples.{AreExactly}
use Rattle.dl_join.proofs.OrderLemmas.{pair_linear}
use Rattle.dl_rewrite.specs.OverNames.{HasOverNames, SomeHasOverNames}
use Rattle.dl_rewrite.specs.Shape.{IsShapedFor}
use Rattle.dl_answer.specs.OverNames.{HoldsAlike}
use Rattle.dl_answer.specs.Probes.{AreBelowProbe, AreBehind}
use Rattle.dl_answer.proofs.FactLemmas.{pairs_exist}
use Rattle.dl_answer.proofs.TupleLemmas.{Decided, picked, some_decided, set_exists, exactly_exists, exactly_none, union_exists}
use Rattle.dl_answer.proofs.StepLemmas.{holds_alike, exactly_over, exactly_same}

-- ---- what is below a probe

module _ (axioms : List Axiom) (h : Hierarchy) where
  one_of_decided : (basics : List Basic) (b : Basic) → Decided (IsBelowOneOf axioms basics b)
  one_of_decided basics b = elim (some_decided (λ c. ConceptBelow axioms b c) (λ c. concept_decided axioms b c) basics) [
    | inl w ↦ inl (w.1.0, w.0, w.1.1, w.1.2, w.2)
    | inr none ↦ inr (λ some. none (some.1, (some.0, some.2, some.3), some.4))
  ]

  those_exist : (names : List ℕ) (P : ℕ → Type 0) → ((n : ℕ) → Decided (P n)) → (found : List ℕ) × AreThose names P found
  those_exist names P decide =
      let those = picked P decide names in
      let set = set_exists numbers_linear those.0 in (
        set.0,
        record {
          ascending = IsStrictlyIncreasing-from_sorted set.0 set.1;
          exact = λ n. (λ c. (those.1 n).0 ((set.2 n).0 c), λ w. (set.2 n).1 ((those.1 n).1 w));
        },
      )

  below_exists : (probe : Probe) → (below : Below) × AreBelowProbe axioms h.predicates probe below
  below_exists (AnyOf basics t) =
      let classes = those_exist h.predicates.classes (λ c. IsBelowOneOf axioms basics (Class c))
      (λ c. one_of_decided basics (Class c)) in
      let forward = those_exist h.predicates.properties (λ r. IsBelowOneOf axioms basics (SomeOf (named r)))
      (λ r. one_of_decided basics (SomeOf (named r))) in
      let backward = those_exist h.predicates.properties
      (λ r. IsBelowOneOf axioms basics (SomeOf (inverse_of (named r))))
      (λ r. one_of_decided basics (SomeOf (inverse_of (named r)))) in
      let below : Below = record { classes = classes.0; forward = forward.0; backward = backward.0 } in
      (below, (classes.1, forward.1, backward.1))
  below_exists (Joined role t u) =
      let forward = those_exist h.predicates.properties (λ r. RoleBelow axioms (named r) (named role))
      (λ r. role_decided axioms (named r) (named role)) in
      let backward = those_exist h.predicates.properties (λ r. RoleBelow axioms (inverse_of (named r)) (named role))
      (λ r. role_decided axioms (inverse_of (named r)) (named role)) in
      let below : Below = record { classes = []; forward = forward.0; backward = backward.0 } in
      (below, (refl, forward.1, backward.1))

-- ---- lists of pairs, and of tuples

module _ (axioms : List Axiom) (facts : List Fact) (h : Hierarchy) (behind : AreBehind h axioms facts)
  where
    list_exists : (probe : Probe) → (pairs : List (ℕ × ℕ)) × HoldsAlike axioms facts probe pairs
    list_exists probe =
        let below = below_exists axioms h probe in
        let all = pairs_exist facts below.0 in
        let set = set_exists pair_linear all.0 in (
          set.0,
          holds_alike axioms facts h behind below.0 set.0
              (λ p. (λ c. (all.1 p).0 ((set.2 p).0 c), λ b. (set.2 p).1 ((all.1 p).1 b))) probe below.1,
        )

    lists_exist : (probes : List Probe) → (lists : List (List (ℕ × ℕ))) × (length lists ≡ length probes)
        × ((k : ℕ) (p : Probe) → k < length probes → HoldsAlike axioms facts (get_or probes k p) (get_or lists k []))
    lists_exist [] = ([], refl, λ k p lt. absurd (omega (arith, lt)))
    lists_exist (p ∷ ps) = by (list_exists p) (lists_exist ps)
      where
        by : (pairs : List (ℕ × ℕ)) × HoldsAlike axioms facts p pairs
            → (lists : List (List (ℕ × ℕ))) × (length lists ≡ length ps)
            × ((k : ℕ) (q : Probe) → k < length ps → HoldsAlike axioms facts (get_or ps k q) (get_or lists k []))
            → (lists : List (List (ℕ × ℕ))) × (length lists ≡ length (p ∷ ps))
            × ((k : ℕ) (q : Probe) → k < length (p ∷ ps) → HoldsAlike axioms facts (get_or (p ∷ ps) k q) (get_or lists k []))
        by first rest = (first.0 ∷ rest.0, ap suc rest.1, each)
          where
            each : (k : ℕ) (q : Probe) → k < length (p ∷ ps)
                → HoldsAlike axioms facts (get_or (p ∷ ps) k q) (get_or (first.0 ∷ rest.0) k [])
            each zero q lt = first.1
            each (suc k) q lt = rest.2 k q (omega (arith, lt))

    -- the tuples of a disjunct over names are those of some list
    pub disjunct_exists : (q : Query) (d : Disjunct) → IsShapedFor q d
        → (tuples : List (List ℕ)) × AreExactly (HasOverNames axioms facts d) tuples
    disjunct_exists q d shaped =
        let lists = lists_exist d.probes in
        let all = exactly_exists d.vars d lists.0 lists.1 shaped.below shaped.safe in
        (all.0, exactly_over d lists.0 axioms facts lists.2 all.0 all.1)

    -- and so are those of some disjuncts together
    pub some_exist : (q : Query) (ds : List Disjunct) → All (IsShapedFor q) ds
        → (tuples : List (List ℕ)) × AreExactly (SomeHasOverNames axioms facts ds) tuples
    some_exist q [] shaped = (
      [],
      exactly_none (SomeHasOverNames axioms facts [])
          (λ t h. Contains-nil h.disjunct h.is_one),
    )
    some_exist q (d ∷ ds) shaped =
        let one = disjunct_exists q d (All-head (IsShapedFor q) d ds shaped) in
        let rest = some_exist q ds (All-tail (IsShapedFor q) d ds shaped) in
        let all = union_exists (HasOverNames axioms facts d) (SomeHasOverNames axioms facts ds) one.0 rest.0 one.1 rest.1 in
        (all.0, exactly_same _ _ (λ t. (first_or_rest t, one_of t)) all.0 all.1)
      where
        first_or_rest : (t : List ℕ) → HasOverNames axioms facts d t ⊎ SomeHasOverNames axioms facts ds t
            → SomeHasOverNames axioms facts (d ∷ ds) t
        first_or_rest t (inl has) = record { disjunct = d; is_one = Contains-first d ds; has = has }
        first_or_rest t (inr some) =
            record { disjunct = some.disjunct; is_one = Contains-later d some.disjunct ds some.is_one; has = some.has }

        one_of : (t : List ℕ) → SomeHasOverNames axioms facts (d ∷ ds) t
            → HasOverNames axioms facts d t ⊎ SomeHasOverNames axioms facts ds t
        one_of t some = elim (Contains-cons d some.disjunct ds some.is_one) [
          | inl same ↦ inl (subst (λ e. HasOverNames axioms facts e t) (sym same) some.has)
          | inr there ↦ inr record { disjunct = some.disjunct; is_one = there; has = some.has }
        ]
