-- What is below is within, in each structure that satisfies the inclusions of the axioms.
use Rattle.std.proofs.Common.{◌≡◌, Some, List, subst}
use Rattle.std.specs.List.{All, Contains}
use Rattle.std.specs.Option.{MatchOption}
use Rattle.std.proofs.lemmas.List.Elements.{All-contains}
use Rattle.dl_terms.specs.Chain.{empty, step}
use Rattle.dl_terms.specs.Below.{RoleStep, RoleBelow, ConceptStep, ConceptBelow}
use Rattle.dl_terms.specs.NormalForm.{Row, role_in, concept_in, never, axiom_rows, rows_of, as_role_in, as_concept_in, as_negative, role_inclusions, concept_inclusions}
use Rattle.dl_terms.specs.Auxiliaries.{HasNoAuxiliary}
use Rattle.dl_terms.specs.declared.role.Role.{Role}
use Rattle.dl_terms.specs.declared.role.Basic.{Basic}
use Rattle.dl_terms.specs.declared.role.Negative.{Negative}
use Rattle.dl_terms.specs.declared.axiom.Axiom.{Axiom}
use Rattle.dl_models.specs.Meaning.{Structure, IsWithin, RoleIsWithin, Accepts}
use Rattle.dl_models.specs.Inclusions.{SatisfiesInclusions}
use Rattle.dl_models.proofs.ListLemmas.{All-flat_map, Contains-picked}
use Rattle.dl_models.proofs.RowLemmas.{inverse-links, NegativeHolds, RowHolds, rows_hold}

module _ (i : Structure) where
  role_part : (row : Row) → RowHolds i row → MatchOption (as_role_in row) (Unit {0}) (λ p. RoleIsWithin i p.0 p.1)
  role_part (role_in r s) h = h
  role_part (concept_in b c) h = tt
  role_part (never n) h = tt

  concept_part : (row : Row) → RowHolds i row → MatchOption (as_concept_in row) (Unit {0}) (λ p. IsWithin i p.0 p.1)
  concept_part (role_in r s) h = tt
  concept_part (concept_in b c) h = h
  concept_part (never n) h = tt

  negative_part : (row : Row) → RowHolds i row → MatchOption (as_negative row) (Unit {0}) (NegativeHolds i)
  negative_part (role_in r s) h = tt
  negative_part (concept_in b c) h = tt
  negative_part (never n) h = h

  -- a negative of an accepted axiom holds
  pub negative_holds : (a : Axiom) → HasNoAuxiliary a → Accepts i a → (row : Row) → Contains (axiom_rows a) row → (n : Negative) → as_negative row ≡ Some n
      → NegativeHolds i n
  negative_holds a named h row c n e =
      subst (λ o. MatchOption o (Unit {0}) (NegativeHolds i)) e
      (negative_part row (All-contains (RowHolds i) (axiom_rows a) row (rows_hold i a named h) c))

  module _ (axioms : List Axiom) (named : All HasNoAuxiliary axioms) (accepted : All (Accepts i) axioms) where
    row_holds : (row : Row) → Contains (rows_of axioms) row → RowHolds i row
    row_holds row c =
        All-contains (RowHolds i) (rows_of axioms) row
        (All-flat_map (RowHolds i) axiom_rows axioms (λ k d within. rows_hold i _ (named k d within) (accepted k d within))) c

    role_included : (r s : Role) → Contains (role_inclusions axioms) (r, s) → RoleIsWithin i r s
    role_included r s c =
        let w = Contains-picked as_role_in (rows_of axioms) (r, s) c in
        subst (λ o. MatchOption o (Unit {0}) (λ p. RoleIsWithin i p.0 p.1)) w.2 (role_part w.0 (row_holds w.0 w.1))

    concept_included : (b c : Basic) → Contains (concept_inclusions axioms) (b, c) → IsWithin i b c
    concept_included b c h =
        let w = Contains-picked as_concept_in (rows_of axioms) (b, c) h in
        subst (λ o. MatchOption o (Unit {0}) (λ p. IsWithin i p.0 p.1)) w.2 (concept_part w.0 (row_holds w.0 w.1))

    -- who accepts axioms satisfies what they include
    pub satisfied : SatisfiesInclusions i axioms
    satisfied = record { roles = role_included; concepts = concept_included }

  module _ (axioms : List Axiom) (is : SatisfiesInclusions i axioms) where
    role_step : (r s : Role) → RoleStep axioms r s → RoleIsWithin i r s
    role_step r s (RoleStep.inclusion c) = is.roles r s c
    role_step r s (RoleStep.inverted c) =
        λ x y e f k. (inverse-links i s y x).0 (is.roles _ _ c y x f e ((inverse-links i r y x).1 k))

    pub role_below : {r s : Role} → RoleBelow axioms r s → RoleIsWithin i r s
    role_below empty = λ x y e f k. k
    role_below (step h c) = let rest = role_below c in λ x y e f k. rest x y e f (role_step _ _ h x y e f k)

    concept_step : (b c : Basic) → ConceptStep axioms b c → IsWithin i b c
    concept_step b c (ConceptStep.inclusion h) = is.concepts b c h
    concept_step b c (ConceptStep.some_of d) = λ x e k. (k.0, k.1, role_below d x k.0 e k.1 k.2)

    pub concept_below : {b c : Basic} → ConceptBelow axioms b c → IsWithin i b c
    concept_below empty = λ x e k. k
    concept_below (step h c) = let rest = concept_below c in λ x e k. rest x e (concept_step _ _ h x e k)
