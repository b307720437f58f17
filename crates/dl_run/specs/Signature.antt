-- The signature of a load: the classes and object properties that are declared, or that an axiom or a fact uses
-- (OWL 2 Structural Specification, 3.1 and 5).
use Rattle.std.specs.Prelude.{ℕ, List, ◌++◌}
use Rattle.std.specs.List.{flat_map}
use Rattle.std.specs.Ordering.{nat_cmp}
use Rattle.dl_terms.specs.Sets.{IsSetOf}
use Rattle.dl_terms.specs.declared.axiom.Axiom.{Axiom}
use Rattle.dl_terms.specs.declared.axiom.Fact.{Fact}
use Rattle.dl_terms.specs.declared.axiom.Signature.{Signature}
use Rattle.dl_epoch.specs.Predicates.{axiom_classes, axiom_properties, fact_classes, fact_properties}

-- the signature of axioms, facts and declared classes and object properties
pub record IsSignatureOf (axioms : List Axiom) (facts : List Fact) (classes roles : List ℕ) (signature : Signature)
    : Type 0 where
  pub classes_are : IsSetOf nat_cmp signature.classes
      ((classes ++ flat_map axiom_classes axioms) ++ flat_map fact_classes facts)
  pub roles_are : IsSetOf nat_cmp signature.roles
      ((roles ++ flat_map axiom_properties axioms) ++ flat_map fact_properties facts)
