-- What can be said of structures where an axiom is broken: those that satisfy what the axioms include, and the first
-- axiom that one of them refuses.
use Rattle.std.specs.Prelude.{◌≡◌, List, ◌∷◌, ◌++◌}
use Rattle.std.specs.List.{All, Contains}
use Rattle.dl_terms.specs.NormalForm.{role_inclusions, concept_inclusions}
use Rattle.dl_terms.specs.declared.role.Role.{Role}
use Rattle.dl_terms.specs.declared.role.Basic.{Basic}
use Rattle.dl_terms.specs.declared.axiom.Axiom.{Axiom}
use Rattle.dl_models.specs.Meaning.{Structure, IsWithin, RoleIsWithin, Accepts}

-- a structure satisfies the positive inclusions of axioms (Calvanese et al. 2007), whatever else they exclude
pub record SatisfiesInclusions (i : Structure) (axioms : List Axiom) : Type 0 where
  pub roles : (r s : Role) → Contains (role_inclusions axioms) (r, s) → RoleIsWithin i r s
  pub concepts : (b c : Basic) → Contains (concept_inclusions axioms) (b, c) → IsWithin i b c

-- the first of some axioms that a structure doesn't accept
pub record IsFirstRefused (i : Structure) (axioms : List Axiom) (refused_axiom : Axiom) : Type 0 where
  pub before : List Axiom
  pub after : List Axiom
  pub is_there : axioms ≡ before ++ refused_axiom ∷ after
  pub accepted : All (Accepts i) before
  pub refused : ¬ Accepts i refused_axiom
