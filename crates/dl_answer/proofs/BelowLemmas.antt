-- What holds at names is what the facts below it say, as the hierarchy lists them: of any probe.
use Rattle.std.proofs.Common.{◌≡◌, ℕ, Result, Ok, Err, List, [], refl, sym, subst}
use Rattle.std.specs.Prelude.{IfOk}
use Rattle.std.specs.List.{All, Contains}
use Rattle.std.proofs.lemmas.List.Elements.{All-contains}
use Rattle.dl_terms.specs.Roles.{named, inverse_of}
use Rattle.dl_terms.specs.Below.{RoleBelow, ConceptBelow}
use Rattle.dl_terms.specs.Structure.{HoldsAtName, individual, Joins}
use Rattle.dl_terms.specs.Structure.HoldsAtName.{by_class, by_source, by_target}
use Rattle.dl_terms.specs.Structure.Joins.{by_fact, by_fact_turned, to_child, from_child}
use Rattle.dl_terms.specs.declared.role.Basic.{Basic}
use Rattle.dl_terms.specs.declared.role.Basic.TheVariants.{Class, SomeOf}
use Rattle.dl_terms.specs.declared.axiom.Axiom.{Axiom}
use Rattle.dl_terms.specs.declared.axiom.Fact.{Fact}
use Rattle.dl_terms.specs.declared.axiom.Fact.TheVariants.{Is, Link}
use Rattle.dl_terms.specs.declared.query.Term.{Term}
use Rattle.dl_terms.specs.declared.query.Probe.{Probe}
use Rattle.dl_terms.specs.declared.query.Probe.TheVariants.{AnyOf, Joined}
use Rattle.dl_terms.proofs.MemberLemmas.{Contains-nil}
use Rattle.dl_terms.proofs.StructureLemmas.{individual-child}
use Rattle.dl_hier.specs.Hierarchy.{Hierarchy, IsHierarchyOf}
use Rattle.dl_hier.specs.Below.{IsBelowOneOf, AreThose}
use Rattle.dl_hier.specs.declared.below.Below.{Below}
use Rattle.dl_scan.specs.Pairs.{IsPairBelow, member, plain, turned}
use Rattle.dl_answer.specs.Facts.{HasPredicate}
use Rattle.dl_rewrite.specs.OverNames.{HoldsOneOf}
use Rattle.dl_answer.specs.Probes.{AreBelowProbe}

module _ (axioms : List Axiom) (facts : List Fact) (classes roles : List ℕ)
    (known : All (HasPredicate classes roles) facts) (below : Below) where
  class_known : (c a : ℕ) → Contains facts (Is c a) → Contains classes c
  class_known c a h = All-contains (HasPredicate classes roles) facts (Is c a) known h

  role_known : (r a b : ℕ) → Contains facts (Link r a b) → Contains roles r
  role_known r a b h = All-contains (HasPredicate classes roles) facts (Link r a b) known h

  module _ (basics : List Basic) (of_classes : AreThose classes
      (λ c. IsBelowOneOf axioms basics (Class c)) below.classes)
      (of_forward : AreThose roles (λ r. IsBelowOneOf axioms basics (SomeOf (named r))) below.forward)
      (of_backward : AreThose roles (λ r. IsBelowOneOf axioms basics (SomeOf (inverse_of (named r))))
      below.backward) where
    one_of : (a : ℕ) (b : Basic) → IsBelowOneOf axioms basics b
        → ((c : Basic) → ConceptBelow axioms b c → HoldsAtName axioms facts c a) → HoldsOneOf axioms facts basics a
    one_of a b some holds = record { basic = some.1; is_one = (some.0, some.2, some.3); holds = holds some.1 some.4 }

    below_one : (b c : Basic) → Contains basics c → ConceptBelow axioms b c → IsBelowOneOf axioms basics b
    below_one b c there chain = (there.0, c, there.1, there.2, chain)

    -- one of the basic concepts holds at the name that is first in a pair below them
    pub holds_by_pair : (p : ℕ × ℕ) → IsPairBelow facts below p → HoldsOneOf axioms facts basics p.0
    holds_by_pair p (member {c = c} listed fact same) =
        one_of p.0 (Class c) ((of_classes.exact c).0 listed).1 (λ b chain. by_class fact chain)
    holds_by_pair p (plain {r = r} listed fact) =
        one_of p.0 (SomeOf (named r)) ((of_forward.exact r).0 listed).1 (λ b chain. by_source fact chain)
    holds_by_pair p (turned {r = r} listed fact) =
        one_of p.0 (SomeOf (inverse_of (named r))) ((of_backward.exact r).0 listed).1 (λ b chain. by_target fact chain)

    -- where one holds at a name, the name is first in such a pair
    pub pair_of_held : (a : ℕ) (b : Basic) → Contains basics b → HoldsAtName axioms facts b a
        → (second : ℕ) × IsPairBelow facts below (a, second)
    pair_of_held a b there (by_class {c = c} fact chain) =
        (a, member ((of_classes.exact c).1 (class_known c a fact, below_one (Class c) b there chain)) fact refl)
    pair_of_held a b there (by_source {p = r} {o = o} fact chain) =
        (o, plain ((of_forward.exact r).1 (role_known r a o fact, below_one (SomeOf (named r)) b there chain)) fact)
    pair_of_held a b there (by_target {p = r} {o = o} fact chain) = (
      o,
      turned ((of_backward.exact r).1
          (role_known r o a fact, below_one (SomeOf (inverse_of (named r))) b there chain)) fact,
    )

  module _ (role : ℕ) (no_class : below.classes ≡ [])
      (of_forward : AreThose roles (λ r. RoleBelow axioms (named r) (named role)) below.forward)
      (of_backward : AreThose roles (λ r. RoleBelow axioms (inverse_of (named r)) (named role)) below.backward) where
    -- the role joins the two names of a pair below it
    pub joins_by_pair : (p : ℕ × ℕ) → IsPairBelow facts below p
        → Joins axioms facts (named role) (individual p.0) (individual p.1)
    joins_by_pair p (member {c = c} listed fact same) = absurd
        (Contains-nil c (subst (λ l. Contains l c) no_class listed))
    joins_by_pair p (plain {r = r} listed fact) = by_fact refl refl fact ((of_forward.exact r).0 listed).1
    joins_by_pair p (turned {r = r} listed fact) = by_fact_turned refl refl fact ((of_backward.exact r).0 listed).1

    -- the names that it joins are such a pair
    pub pair_of_joined : (a b : ℕ) → Joins axioms facts (named role) (individual a) (individual b)
        → IsPairBelow facts below (a, b)
    pair_of_joined a b (by_fact {p = r} e f fact chain) = plain
        ((of_forward.exact r).1 (role_known r a b fact, chain)) fact
    pair_of_joined a b (by_fact_turned {p = r} e f fact chain) = turned
        ((of_backward.exact r).1 (role_known r b a fact, chain)) fact
    pair_of_joined a b (to_child {r = r} e chain) = absurd (individual-child b (individual a) r e)
    pair_of_joined a b (from_child {r = r} e chain) = absurd (individual-child a (individual b) r e)

-- ---- what is below a probe, as the hierarchy gives it

module _ {E : Type 0} (h : Hierarchy) (probe : Probe) (result : Result Below E) where
  abbrev pub Gives : (List Axiom → Below → Type 0) → Type 0
  Gives P = IfOk result (λ below. (axioms : List Axiom) → IsHierarchyOf h axioms → P axioms below)

pub below_any : {E : Type 0} (h : Hierarchy) (probe : Probe) (basics : List Basic) (t : Term)
    (result : Result Below E) → probe ≡ AnyOf basics t
    → Gives h probe result (λ axioms below. AreThose h.predicates.classes
    (λ c. IsBelowOneOf axioms basics (Class c)) below.classes)
    → Gives h probe result (λ axioms below. AreThose h.predicates.properties
    (λ r. IsBelowOneOf axioms basics (SomeOf (named r))) below.forward)
    → Gives h probe result (λ axioms below. AreThose h.predicates.properties
    (λ r. IsBelowOneOf axioms basics (SomeOf (inverse_of (named r)))) below.backward)
    → Gives h probe result (λ axioms below. AreBelowProbe axioms h.predicates probe below)
below_any h probe basics t (Ok below) is one two three = λ axioms of.
    subst (λ p. AreBelowProbe axioms h.predicates p below) (sym is) (one axioms of, two axioms of, three axioms of)
below_any h probe basics t (Err e) is one two three = tt

pub below_role : {E : Type 0} (h : Hierarchy) (probe : Probe) (role : ℕ) (t u : Term) (result : Result Below E)
    → probe ≡ Joined role t u
    → IfOk result (λ below. below.classes ≡ [])
    → Gives h probe result (λ axioms below. AreThose h.predicates.properties
    (λ r. RoleBelow axioms (named r) (named role)) below.forward)
    → Gives h probe result (λ axioms below. AreThose h.predicates.properties
    (λ r. RoleBelow axioms (inverse_of (named r)) (named role)) below.backward)
    → Gives h probe result (λ axioms below. AreBelowProbe axioms h.predicates probe below)
below_role h probe role t u (Ok below) is one two three = λ axioms of.
    subst (λ p. AreBelowProbe axioms h.predicates p below) (sym is) (one, two axioms of, three axioms of)
below_role h probe role t u (Err e) is one two three = tt
