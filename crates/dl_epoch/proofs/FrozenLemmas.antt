-- What was built from axioms and a signature is a frozen epoch with its hierarchy.
use Rattle.std.proofs.Common.{◌≡◌, ℕ, List, sym, ap, subst, ◌∙◌}
use Rattle.std.specs.List.{All}
use Rattle.std.specs.List.Sorted.{IsStrictlySortedBy}
use Rattle.dl_terms.specs.Auxiliaries.{HasNoAuxiliary}
use Rattle.dl_terms.specs.Order.{axiom_cmp}
use Rattle.dl_terms.specs.Below.{RoleBelow, ConceptBelow}
use Rattle.dl_terms.specs.Roles.{named}
use Rattle.dl_terms.specs.declared.role.Basic.TheVariants.{Class}
use Rattle.dl_terms.specs.declared.axiom.Axiom.{Axiom}
use Rattle.dl_terms.specs.declared.axiom.Signature.{Signature}
use Rattle.dl_terms.specs.declared.role.Normal.{Normal}
use Rattle.dl_normal.specs.Indexed.{IsNormalForm}
use Rattle.dl_hier.specs.Hierarchy.{Hierarchy, IsHierarchyOf}
use Rattle.dl_hier.specs.Predicates.{Predicates}
use Rattle.dl_hier.specs.Rows.{ArePredicatesOf}
use Rattle.dl_numbers.specs.Rule.{IsByRule}
use Rattle.dl_epoch.specs.Known.{IsSignature, IsAxiomIn}
use Rattle.dl_epoch.specs.Frozen.{frozen, IsFrozen, IsHierarchyIn}

-- axioms have one normal form
one_normal : (axioms : List Axiom) (one other : Normal) → IsNormalForm axioms one → IsNormalForm axioms other → one ≡ other
one_normal axioms one other a b = λ i. record {
  roles = (a.roles ∙ sym b.roles) i;
  concepts = (a.concepts ∙ sym b.concepts) i;
  negatives = (a.negatives ∙ sym b.negatives) i;
}

pub predicates_of : (s : Signature) (axioms : List Axiom) (rows : Normal) (p : Predicates) → IsNormalForm axioms rows → ArePredicatesOf s rows p
    → (normal : Normal) → IsNormalForm axioms normal → ArePredicatesOf s normal p
predicates_of s axioms rows p is are normal other = subst (λ n. ArePredicatesOf s n p) (one_normal axioms rows normal is other) are

module _ (id : ℕ) (axioms copied : List Axiom) (s signature : Signature) (classes roles : List ℕ)
    (same_axioms : copied ≡ axioms) (same_signature : signature ≡ s) where
  pub built_frozen : IsStrictlySortedBy axiom_cmp axioms → All HasNoAuxiliary axioms → All (IsAxiomIn s) axioms → IsSignature s
      → IsByRule s.classes (λ c d. ConceptBelow axioms (Class c) (Class d)) classes
      → IsByRule s.roles (λ p q. RoleBelow axioms (named p) (named q)) roles → IsFrozen (frozen id copied signature classes roles)
  built_frozen up plain known names c r = record {
    ascending = subst (IsStrictlySortedBy axiom_cmp) (sym same_axioms) up;
    no_auxiliary = subst (All HasNoAuxiliary) (sym same_axioms) plain;
    known = subst (λ z. All (IsAxiomIn z) copied) (sym same_signature) (subst (All (IsAxiomIn s)) (sym same_axioms) known);
    signature = subst IsSignature (sym same_signature) names;
    class_numbers =
        subst (λ z. IsByRule z.classes (λ c d. ConceptBelow copied (Class c) (Class d)) classes) (sym same_signature)
        (subst (λ z. IsByRule s.classes (λ c d. ConceptBelow z (Class c) (Class d)) classes) (sym same_axioms) c);
    role_numbers =
        subst (λ z. IsByRule z.roles (λ p q. RoleBelow copied (named p) (named q)) roles) (sym same_signature)
        (subst (λ z. IsByRule s.roles (λ p q. RoleBelow z (named p) (named q)) roles) (sym same_axioms) r);
  }

  pub built_hierarchy : (h : Hierarchy) → IsHierarchyOf h axioms → h.predicates.classes ≡ s.classes → h.predicates.properties ≡ s.roles
      → ((normal : Normal) → IsNormalForm axioms normal → ArePredicatesOf s normal h.predicates)
      → IsHierarchyIn (frozen id copied signature classes roles) h
  built_hierarchy h below c r p = record {
    below = subst (IsHierarchyOf h) (sym same_axioms) below;
    classes = c ∙ ap (λ (z : Signature). z.classes) (sym same_signature);
    roles = r ∙ ap (λ (z : Signature). z.roles) (sym same_signature);
    predicates = λ normal is.
        subst (λ z. ArePredicatesOf z normal h.predicates) (sym same_signature)
        (p normal (subst (λ z. IsNormalForm z normal) same_axioms is));
  }
