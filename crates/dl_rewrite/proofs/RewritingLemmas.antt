-- A rewriting has exactly the certain answers, whatever the facts.
use Rattle.std.proofs.Common.{ℕ, Bool, List, map, ◌⊎◌, ◌↔◌, inl, inr}
use Rattle.std.specs.List.{Contains}
use Rattle.dl_terms.specs.Structure.{HoldsAtName}
use Rattle.dl_terms.specs.Answers.{IsCertain}
use Rattle.dl_terms.specs.Queries.{IsWellFormed}
use Rattle.dl_terms.specs.declared.role.Role.{Role}
use Rattle.dl_terms.specs.declared.role.Basic.TheVariants.{SomeOf}
use Rattle.dl_terms.specs.declared.axiom.Axiom.{Axiom}
use Rattle.dl_terms.specs.declared.axiom.Fact.{Fact}
use Rattle.dl_terms.specs.declared.query.Query.{Query}
use Rattle.dl_terms.specs.declared.query.Disjunct.{Disjunct}
use Rattle.dl_rewrite.specs.OverNames.{SomeHasOverNames}
use Rattle.dl_rewrite.specs.Rewriting.{IsDisjunctFor, HasNoDisjunct, IsRewriting}
use Rattle.dl_rewrite.proofs.CertainLemmas.{certain_of, answer_of, unnamed_variables, unnamed_existential}
use Rattle.dl_rewrite.proofs.DisjunctLemmas as disjuncts

module _ (axioms : List Axiom) (roles : List Role) (q : Query) (ds : List Disjunct) (is : IsRewriting axioms roles q ds) (well : IsWellFormed q)
    (facts : List Fact) (known : (t : Role) (a : ℕ) → HoldsAtName axioms facts (SomeOf t) a → Contains roles t) (tuple : List ℕ) where
  to_disjunct : IsCertain axioms facts q tuple → SomeHasOverNames axioms facts ds tuple
  to_disjunct c = by (is.each (unnamed_variables axioms facts roles q tuple c.elements) (unnamed_existential axioms facts roles q tuple c))
    where
      s : ℕ → Bool
      s = unnamed_variables axioms facts roles q tuple c.elements

      by : ((d : Disjunct) × Contains ds d × IsDisjunctFor axioms roles q s d) ⊎ HasNoDisjunct axioms roles q s → SomeHasOverNames axioms facts ds tuple
      by (inl h) = record {
        disjunct = h.0;
        is_one = h.1;
        has = disjuncts.names_of axioms facts roles q s h.2.parts h.2.pairs h.2.to h.2.are_parts h.2.to_unify h.2.unifies h.0 h.2.is_disjunct tuple
            (answer_of axioms facts roles q tuple well known c (map (λ c. c.set) h.2.parts) h.2.cut);
      }
      by (inr h) =
          let a = answer_of axioms facts roles q tuple well known c h.parts h.cut in
          absurd (h.none facts a.names a.holds)

  from_disjunct : SomeHasOverNames axioms facts ds tuple → IsCertain axioms facts q tuple
  from_disjunct h =
      let o = is.only h.disjunct h.is_one in
      certain_of axioms facts roles q tuple o.0 (map (λ c. c.set) o.2.parts) o.1 o.2.cut
      (disjuncts.answer_of axioms facts roles q o.0 o.2.parts o.2.pairs o.2.to o.2.are_parts o.2.to_unify o.2.unifies h.disjunct o.2.is_disjunct tuple h.has)

  pub Certain-Rewriting : IsCertain axioms facts q tuple ↔ SomeHasOverNames axioms facts ds tuple
  Certain-Rewriting = (to_disjunct, from_disjunct)
