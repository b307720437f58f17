-- A rewriting: a disjunct for each set of existential variables that may stand at elements without a name.
use Rattle.std.specs.Prelude.{ℕ, ◌⊎◌, Bool, List, map}
use Rattle.std.specs.List.{Contains}
use Rattle.dl_terms.specs.declared.role.Role.{Role}
use Rattle.dl_terms.specs.declared.axiom.Axiom.{Axiom}
use Rattle.dl_terms.specs.declared.axiom.Fact.{Fact}
use Rattle.dl_terms.specs.declared.query.Term.{Term}
use Rattle.dl_terms.specs.declared.query.Query.{Query}
use Rattle.dl_terms.specs.declared.query.Disjunct.{Disjunct}
use Rattle.dl_rewrite.specs.Parts.{AreParts, HoldsWhere, AreExistential}
use Rattle.dl_rewrite.specs.Unifiers.{IsMostGeneralUnifier}
use Rattle.dl_rewrite.specs.Disjuncts.{Part, IsPart, AreToUnify, IsDisjunctOf}

-- a disjunct of a set, by its parts and by the terms that are put for variables
pub record IsDisjunctFor (axioms : List Axiom) (roles : List Role) (q : Query) (s : ℕ → Bool) (d : Disjunct)
    : Type 0 where
  pub parts : List Part
  pub cut : AreParts q s (map (λ c. c.set) parts)
  pub are_parts : (c : Part) → Contains parts c → IsPart axioms roles q c
  pub pairs : List (Term × Term)
  pub to_unify : AreToUnify q parts pairs
  pub to : ℕ → Term
  pub unifies : IsMostGeneralUnifier pairs to
  pub is_disjunct : IsDisjunctOf q s parts to d

-- a set that makes no disjunct: whatever the facts, no names fit it
pub record HasNoDisjunct (axioms : List Axiom) (roles : List Role) (q : Query) (s : ℕ → Bool) : Type 0 where
  pub parts : List (ℕ → Bool)
  pub cut : AreParts q s parts
  pub none : (facts : List Fact) (names : ℕ → ℕ) → HoldsWhere axioms facts roles q s parts names → ⊥

pub record IsRewriting (axioms : List Axiom) (roles : List Role) (q : Query) (ds : List Disjunct) : Type 0 where
  pub each : (s : ℕ → Bool) → AreExistential q s
      → ((d : Disjunct) × Contains ds d × IsDisjunctFor axioms roles q s d) ⊎ HasNoDisjunct axioms roles q s
  pub only : (d : Disjunct) → Contains ds d → (s : ℕ → Bool) × AreExistential q s × IsDisjunctFor axioms roles q s d
