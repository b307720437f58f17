-- The rows of a normal form from which a hierarchy is built, and what they name. The steps are the inclusions of
-- DL-Lite_R; auxiliary roles are this project's own.
use Rattle.std.specs.Prelude.{◌≡◌, ℕ, ◌+◌, ◌≤◌, List, [], ◌∷◌, ◌++◌, map, length, All, Contains}
use Rattle.std.specs.List.{flat_map}
use Rattle.std.specs.Ordering.{nat_cmp}
use Rattle.dl_terms.specs.Order.{base_cmp}
use Rattle.dl_terms.specs.Roles.{inverse_of}
use Rattle.dl_terms.specs.Sets.{IsSetOf}
use Rattle.dl_terms.specs.NormalForm.{role_inclusions, concept_inclusions}
use Rattle.dl_terms.specs.declared.role.Base.{Base}
use Rattle.dl_terms.specs.declared.role.Base.TheVariants.{Named, Auxiliary}
use Rattle.dl_terms.specs.declared.role.Role.{Role}
use Rattle.dl_terms.specs.declared.role.Basic.{Basic}
use Rattle.dl_terms.specs.declared.role.Basic.TheVariants.{Class, SomeOf}
use Rattle.dl_terms.specs.declared.role.Negative.{Negative}
use Rattle.dl_terms.specs.declared.role.Negative.TheVariants.{Basics, Roles, NoLoop}
use Rattle.dl_terms.specs.declared.role.Normal.{Normal}
use Rattle.dl_terms.specs.declared.axiom.Axiom.{Axiom}
use Rattle.dl_terms.specs.declared.axiom.Signature.{Signature}
use Rattle.dl_hier.specs.Predicates.{Predicates, max_predicates}

-- the inclusions of the normal form of the axioms are these rows
pub record HasInclusions (axioms : List Axiom) (normal : Normal) : Type 0 where
  pub roles : normal.roles ≡ role_inclusions axioms
  pub concepts : normal.concepts ≡ concept_inclusions axioms

-- the name is among these; an auxiliary role needs none
abbrev pub IsNamedIn : List ℕ → Base → Type 0
IsNamedIn properties (Named p) = Contains properties p
IsNamedIn properties (Auxiliary p i c) = Unit {0}

abbrev pub IsBasicIn : List ℕ → List ℕ → Basic → Type 0
IsBasicIn classes properties (Class c) = Contains classes c
IsBasicIn classes properties (SomeOf r) = IsNamedIn properties r.base

-- the signature has the names of the inclusions
pub record HasNames (signature : Signature) (normal : Normal) : Type 0 where
  pub roles : All (λ p. IsNamedIn signature.roles p.0.base × IsNamedIn signature.roles p.1.base) normal.roles
  pub concepts :
      All (λ p. IsBasicIn signature.classes signature.roles p.0 × IsBasicIn signature.classes signature.roles p.1)
      normal.concepts

-- the auxiliary roles among role names
abbrev pub base_auxiliaries : Base → List Base
base_auxiliaries (Named p) = []
base_auxiliaries (Auxiliary p i c) = Auxiliary p i c ∷ []

abbrev pub role_auxiliaries : Role → List Base
role_auxiliaries r = base_auxiliaries r.base

abbrev pub basic_auxiliaries : Basic → List Base
basic_auxiliaries (Class c) = []
basic_auxiliaries (SomeOf r) = role_auxiliaries r

abbrev pub negative_auxiliaries : Negative → List Base
negative_auxiliaries (Basics b c) = basic_auxiliaries b ++ basic_auxiliaries c
negative_auxiliaries (Roles r s) = role_auxiliaries r ++ role_auxiliaries s
negative_auxiliaries (NoLoop r) = role_auxiliaries r

-- the auxiliary roles that a normal form names, as often as it names them
abbrev pub normal_auxiliaries : Normal → List Base
normal_auxiliaries normal =
    flat_map (λ p. role_auxiliaries p.0 ++ role_auxiliaries p.1) normal.roles
    ++ flat_map (λ p. basic_auxiliaries p.0 ++ basic_auxiliaries p.1) normal.concepts
    ++ flat_map (λ p. negative_auxiliaries p.1) normal.negatives

-- classes, object properties and auxiliary roles together are few: some list has each auxiliary role
pub record AreFew (signature : Signature) (normal : Normal) : Type 0 where
  pub auxiliaries : List Base
  pub each : All (Contains auxiliaries) (normal_auxiliaries normal)
  pub few : length signature.classes + length signature.roles + length auxiliaries ≤ max_predicates

-- the predicates are those of the signature, and the auxiliary roles that the normal form names
pub record ArePredicatesOf (signature : Signature) (normal : Normal) (p : Predicates) : Type 0 where
  pub classes : IsSetOf nat_cmp p.classes signature.classes
  pub properties : IsSetOf nat_cmp p.properties signature.roles
  pub auxiliaries : IsSetOf base_cmp p.auxiliaries (normal_auxiliaries normal)

-- the steps of role inclusions: each as it stands, and with both sides inverted
abbrev pub role_steps : List (Role × Role) → List (Role × Role)
role_steps rows = flat_map (λ p. p ∷ (inverse_of p.0, inverse_of p.1) ∷ []) rows

-- the steps between basic concepts: the concept inclusions, and from "some r" to "some s" for each step from r to s
abbrev pub concept_steps : List (Role × Role) → List (Basic × Basic) → List (Basic × Basic)
concept_steps steps rows = rows ++ map (λ p. (SomeOf p.0, SomeOf p.1)) steps
