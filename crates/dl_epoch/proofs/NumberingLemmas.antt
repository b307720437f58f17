-- Numbers of the classes and of the roles by axioms: which of them is below which is decided, so there are such numbers,
-- each name has one, and an order that a hierarchy hands on gives them.
use Rattle.std.proofs.Common.{ℕ, List, Option, Some, None, MatchOption}
use Rattle.std.specs.List.{Contains}
use Rattle.std.specs.List.Sorted.{IsStrictlyIncreasing}
use Rattle.dl_terms.specs.Chain.{empty}
use Rattle.dl_terms.specs.Below.{RoleBelow, ConceptBelow}
use Rattle.dl_terms.specs.Roles.{named}
use Rattle.dl_terms.specs.declared.role.Basic.TheVariants.{Class}
use Rattle.dl_terms.specs.declared.axiom.Axiom.{Axiom}
use Rattle.dl_terms.proofs.BelowLemmas.{Chain-trans}
use Rattle.dl_hier.proofs.DecidedLemmas.{role_decided, concept_decided}
use Rattle.dl_numbers.specs.Rule.{IsByRule}
use Rattle.dl_numbers.specs.Runs.{AreNumbered, IsForest, HasOneInterval}
use Rattle.dl_epoch.proofs.EpochLemmas.{has_contains}
use Rattle.dl_numbers.proofs.ByRuleLemmas.{numbers_exist, rule_numbers, rule_interval}

module _ (axioms : List Axiom) where
  -- which class, and which role, is below which
  abbrev pub IsClassBelow : ℕ → ℕ → Type 0
  IsClassBelow c d = ConceptBelow axioms (Class c) (Class d)

  abbrev pub IsRoleBelow : ℕ → ℕ → Type 0
  IsRoleBelow p q = RoleBelow axioms (named p) (named q)

  module _ (names : List ℕ) (up : IsStrictlyIncreasing names) where
    pub classes_exist : (numbered : List ℕ) × IsByRule names IsClassBelow numbered
    classes_exist = numbers_exist names up IsClassBelow (λ a. empty) (λ a b c. Chain-trans) (λ a b. concept_decided axioms (Class a) (Class b))

    pub classes_numbered : (numbered : List ℕ) → IsByRule names IsClassBelow numbered → AreNumbered names numbered
    classes_numbered = rule_numbers names up IsClassBelow (λ a. empty) (λ a b c. Chain-trans) (λ a b. concept_decided axioms (Class a) (Class b))

    pub class_interval : IsForest names IsClassBelow → (numbered : List ℕ) → IsByRule names IsClassBelow numbered
        → (name : ℕ) → Contains names name → HasOneInterval numbered (λ a. IsClassBelow a name)
    class_interval = rule_interval names up IsClassBelow (λ a. empty) (λ a b c. Chain-trans) (λ a b. concept_decided axioms (Class a) (Class b))

    pub roles_exist : (numbered : List ℕ) × IsByRule names IsRoleBelow numbered
    roles_exist = numbers_exist names up IsRoleBelow (λ a. empty) (λ a b c. Chain-trans) (λ a b. role_decided axioms (named a) (named b))

    pub roles_numbered : (numbered : List ℕ) → IsByRule names IsRoleBelow numbered → AreNumbered names numbered
    roles_numbered = rule_numbers names up IsRoleBelow (λ a. empty) (λ a b c. Chain-trans) (λ a b. role_decided axioms (named a) (named b))

    pub role_interval : IsForest names IsRoleBelow → (numbered : List ℕ) → IsByRule names IsRoleBelow numbered
        → (name : ℕ) → Contains names name → HasOneInterval numbered (λ a. IsRoleBelow a name)
    role_interval = rule_interval names up IsRoleBelow (λ a. empty) (λ a b c. Chain-trans) (λ a b. role_decided axioms (named a) (named b))

-- ---- what a search for a number says

pub never_named : (names numbered : List ℕ) → AreNumbered names numbered → (name : ℕ) (found : Option ℕ) (P : ℕ → Type 0)
    → MatchOption found (Contains numbered name → ⊥) P → MatchOption found (Contains names name → ⊥) P
never_named names numbered are name None P never = λ h. let n = are.each name h in never (has_contains numbered name n.0 n.1)
never_named names numbered are name (Some n) P is = is
