-- An epoch: an ontology with its signature, and a number for each name of it. Epochs are this project's own.
use Rattle.std.specs.Prelude.{◌≡◌, ℕ, List}
use Rattle.std.specs.List.{All}
use Rattle.std.specs.List.Sorted.{IsStrictlySortedBy}
use Rattle.dl_terms.specs.Below.{RoleBelow, ConceptBelow}
use Rattle.dl_terms.specs.Auxiliaries.{HasNoAuxiliary}
use Rattle.dl_terms.specs.Order.{axiom_cmp}
use Rattle.dl_terms.specs.Roles.{named}
use Rattle.dl_terms.specs.declared.role.Basic.TheVariants as basic
use Rattle.dl_terms.specs.declared.axiom.Axiom.{Axiom}
use Rattle.dl_terms.specs.declared.axiom.Signature.{Signature}
use Rattle.dl_terms.specs.declared.role.Normal.{Normal}
use Rattle.dl_normal.specs.Indexed.{IsNormalForm}
use Rattle.dl_hier.specs.Hierarchy.{Hierarchy, IsHierarchyOf}
use Rattle.dl_hier.specs.Rows.{ArePredicatesOf}
use Rattle.dl_numbers.specs.Rule.{IsByRule}
use Rattle.dl_row.specs.Rows.{Epoch}
use Rattle.dl_epoch.specs.Known.{IsSignature, IsAxiomIn}

-- an epoch as clauses see it: its id, its axioms and signature, and its classes and roles in number order
pub record Frozen : Type 0 where
  pub id : ℕ
  pub axioms : List Axiom
  pub signature : Signature
  pub classes : List ℕ
  pub roles : List ℕ

abbrev pub frozen : ℕ → List Axiom → Signature → List ℕ → List ℕ → Frozen
frozen id axioms signature classes roles =
    record { id = id; axioms = axioms; signature = signature; classes = classes; roles = roles }

-- what an epoch needs to be built again: its axioms ascend strictly, have no auxiliary role, and name what is in its
-- signature; and its numbers are the rule's
pub record IsFrozen (e : Frozen) : Type 0 where
  pub ascending : IsStrictlySortedBy axiom_cmp e.axioms
  pub no_auxiliary : All HasNoAuxiliary e.axioms
  pub known : All (IsAxiomIn e.signature) e.axioms
  pub signature : IsSignature e.signature
  pub class_numbers :
      IsByRule e.signature.classes (λ c d. ConceptBelow e.axioms (basic.Class c) (basic.Class d)) e.classes
  pub role_numbers : IsByRule e.signature.roles (λ p q. RoleBelow e.axioms (named p) (named q)) e.roles

-- its hierarchy is that of its axioms, over the names of its signature and the auxiliary roles of the normal form
pub record IsHierarchyIn (e : Frozen) (h : Hierarchy) : Type 0 where
  pub below : IsHierarchyOf h e.axioms
  pub classes : h.predicates.classes ≡ e.signature.classes
  pub roles : h.predicates.properties ≡ e.signature.roles
  pub predicates : (normal : Normal) → IsNormalForm e.axioms normal → ArePredicatesOf e.signature normal h.predicates

-- the epoch of rows that covers versions from a first one on
abbrev pub from_version : ℕ → Frozen → Epoch
from_version first e =
    record {
      id = e.id;
      first = first;
      axioms = e.axioms;
      signature = e.signature;
      classes = e.classes;
      roles = e.roles;
    }
