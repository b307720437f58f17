-- What is built from axioms within the limits: their normal form, and the predicates of their hierarchy.
use Rattle.std.proofs.Common.{◌≡◌, ◌+◌, ◌<◌, ◌≤◌, ◌^◌, List, [], ◌∷◌, length, refl, arith}
use Rattle.std.specs.List.{All}
use Rattle.std.proofs.lemmas.List.Sums.{sum_by-cons}
use Rattle.std.proofs.lemmas.List.Elements.{All-weaker}
use Rattle.dl_terms.specs.declared.role.Normal.{Normal}
use Rattle.dl_terms.specs.declared.axiom.Axiom.{Axiom}
use Rattle.dl_terms.specs.declared.axiom.Fact.{Fact}
use Rattle.dl_terms.specs.declared.axiom.Fact.TheVariants.{Is, Link}
use Rattle.dl_terms.specs.declared.axiom.Signature.{Signature}
use Rattle.dl_normal.specs.Indexed.{IsNormalForm}
use Rattle.dl_normal.specs.Weight.{axiom_weight, total_weight}
use Rattle.dl_hier.specs.Predicates.{Predicates}
use Rattle.dl_hier.specs.Hierarchy.{Hierarchy}
use Rattle.dl_hier.specs.Rows.{HasInclusions, ArePredicatesOf}
use Rattle.dl_rewrite.proofs.KnownLemmas.{roles_had}
use Rattle.dl_answer.specs.Facts.{HasPredicate}
use Rattle.dl_epoch.specs.Known.{IsAxiomIn, max_weight}
use Rattle.dl_epoch.specs.Frozen.{Frozen, IsHierarchyIn}
use Rattle.dl_epoch.proofs.KnownLemmas.{has_names}
use Rattle.dl_answer.specs.Replies.{normal_form}
use Rattle.dl_answer.specs.Probes.{AreBehind}
use Rattle.dl_core.specs.Loading.{IsFactIn}

-- axioms of a weight are no more than it
pub length_by_weight : (axioms : List Axiom) → length axioms ≤ total_weight axioms
length_by_weight [] = omega arith
length_by_weight (a ∷ axioms) =
    let least : 1 ≤ axiom_weight a = omega arith in
    let sum : total_weight (a ∷ axioms) ≡ axiom_weight a + total_weight axioms = sum_by-cons axiom_weight a axioms in
    omega (arith, least, sum, length_by_weight axioms)

pub few_axioms : (axioms : List Axiom) → total_weight axioms ≤ max_weight → length axioms < 2 ^ 32
few_axioms axioms h = omega (arith, length_by_weight axioms)

is_normal : (axioms : List Axiom) → IsNormalForm axioms (normal_form axioms)
is_normal axioms = record { roles = refl; concepts = refl; negatives = refl }

inclusions_of : (axioms : List Axiom) (normal : Normal) → IsNormalForm axioms normal → HasInclusions axioms normal
inclusions_of axioms normal is = record { roles = is.roles; concepts = is.concepts }

-- the predicates of the facts are those of the hierarchy
known_predicates : (signature : Signature) (normal : Normal) (p : Predicates) (facts : List Fact)
    → ArePredicatesOf signature normal p → All (IsFactIn signature) facts
    → All (HasPredicate p.classes p.properties) facts
known_predicates signature normal p facts of known =
    All-weaker (IsFactIn signature) (HasPredicate p.classes p.properties) each facts known
  where
    each : (f : Fact) → IsFactIn signature f → HasPredicate p.classes p.properties f
    each (Is c a) h = (of.classes.members c).1 h
    each (Link r a b) h = (of.properties.members r).1 h

-- what an epoch tells of its axioms, and of facts whose predicates are in its signature
pub epoch_behind : (e : Frozen) (h : Hierarchy) (facts : List Fact) → IsHierarchyIn e h → All (IsAxiomIn e.signature) e.axioms
    → All (IsFactIn e.signature) facts → AreBehind h e.axioms facts
epoch_behind e h facts hierarchy known predicates =
    let normal = normal_form e.axioms in
    let are = hierarchy.predicates normal (is_normal e.axioms) in record {
      hierarchy = hierarchy.below;
      has_roles = roles_had e.axioms e.signature normal h.predicates (inclusions_of e.axioms normal (is_normal e.axioms))
          (has_names e.signature e.axioms normal known (is_normal e.axioms)) are;
      known = known_predicates e.signature normal h.predicates facts are predicates;
    }
