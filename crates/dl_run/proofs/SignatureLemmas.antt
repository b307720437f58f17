-- A signature has the names of the axioms and of the facts.
use Rattle.std.proofs.Common.{ℕ, List, ◌++◌, flat_map, All, Contains, refl, arith}
use Rattle.std.proofs.lemmas.List.Elements.{All-weaker, All-contains_itself, Contains-append_left, Contains-append_right}
use Rattle.std.proofs.lemmas.Map.Keys.{IsStrictlyIncreasing-from_sorted}
use Rattle.dl_terms.specs.declared.axiom.Axiom.{Axiom}
use Rattle.dl_terms.specs.declared.axiom.Fact.{Fact}
use Rattle.dl_terms.specs.declared.axiom.Fact.TheVariants as fact
use Rattle.dl_terms.specs.declared.axiom.Signature.{Signature}
use Rattle.dl_hier.proofs.MemberLemmas.{Contains-flat_map_of}
use Rattle.dl_epoch.specs.Known.{IsSignature, IsAxiomIn}
use Rattle.dl_core.specs.Loading.{IsFactIn}
use Rattle.dl_epoch.specs.Predicates.{axiom_classes, axiom_properties, fact_classes, fact_properties}
use Rattle.dl_epoch.proofs.PredicateLemmas.{two_give, axiom_is_in}
use Rattle.dl_run.specs.Signature.{IsSignatureOf}

-- ---- what a signature has

module _ (axioms : List Axiom) (facts : List Fact) (classes roles : List ℕ) (signature : Signature)
    (is : IsSignatureOf axioms facts classes roles signature) where
  class_in : (c : ℕ) → Contains ((classes ++ flat_map axiom_classes axioms) ++ flat_map fact_classes facts) c → Contains signature.classes c
  class_in c h = (is.classes_are.members c).1 h

  role_in_signature : (r : ℕ) → Contains ((roles ++ flat_map axiom_properties axioms) ++ flat_map fact_properties facts) r
      → Contains signature.roles r
  role_in_signature r h = (is.roles_are.members r).1 h

  axiom_classes_in : All (Contains signature.classes) (flat_map axiom_classes axioms)
  axiom_classes_in =
      All-weaker (Contains (flat_map axiom_classes axioms)) (Contains signature.classes)
      (λ c h. class_in c
      (Contains-append_left (classes ++ flat_map axiom_classes axioms) (flat_map fact_classes facts) c
      (Contains-append_right classes (flat_map axiom_classes axioms) c h)))
      (flat_map axiom_classes axioms) (All-contains_itself (flat_map axiom_classes axioms))

  axiom_properties_in : All (Contains signature.roles) (flat_map axiom_properties axioms)
  axiom_properties_in =
      All-weaker (Contains (flat_map axiom_properties axioms)) (Contains signature.roles)
      (λ r h. role_in_signature r
      (Contains-append_left (roles ++ flat_map axiom_properties axioms) (flat_map fact_properties facts) r
      (Contains-append_right roles (flat_map axiom_properties axioms) r h)))
      (flat_map axiom_properties axioms) (All-contains_itself (flat_map axiom_properties axioms))

  pub axioms_known : All (IsAxiomIn signature) axioms
  axioms_known =
      two_give (Contains signature.classes) (Contains signature.roles) (IsAxiomIn signature) axiom_classes axiom_properties
      (axiom_is_in signature) axioms axiom_classes_in axiom_properties_in

  pub ascends : IsSignature signature
  ascends = record {
    classes = IsStrictlyIncreasing-from_sorted signature.classes is.classes_are.ascending;
    roles = IsStrictlyIncreasing-from_sorted signature.roles is.roles_are.ascending;
  }

  fact_in : (f : Fact) → Contains facts f → IsFactIn signature f
  fact_in (fact.Is c a) h =
      class_in c
      (Contains-append_right (classes ++ flat_map axiom_classes axioms) (flat_map fact_classes facts) c
      (Contains-flat_map_of fact_classes facts (fact.Is c a) c h (0, omega arith, refl)))
  fact_in (fact.Link p a b) h =
      role_in_signature p
      (Contains-append_right (roles ++ flat_map axiom_properties axioms) (flat_map fact_properties facts) p
      (Contains-flat_map_of fact_properties facts (fact.Link p a b) p h (0, omega arith, refl)))

  pub facts_known : All (IsFactIn signature) facts
  facts_known = All-weaker (Contains facts) (IsFactIn signature) fact_in facts (All-contains_itself facts)
