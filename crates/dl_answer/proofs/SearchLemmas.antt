-- What a search for tuples finds: no tuple, exactly some tuples, or a fault.
use Rattle.std.proofs.Common.{◌≡◌, ℕ, Result, Ok, Err, ◌≤◌, List, [], length, sym, ap, subst, arith}
use Rattle.std.specs.Prelude.{IfOk}
use Rattle.std.proofs.lemmas.Result.{IfOk-weaker}
use Rattle.dl_terms.specs.Answers.{AscendStrictly}
use Rattle.dl_terms.specs.Table.{Table}
use Rattle.dl_terms.specs.declared.axiom.Axiom.{Axiom}
use Rattle.dl_terms.specs.declared.axiom.Fact.{Fact}
use Rattle.dl_join.specs.Tuples.{AreExactly, tuple_cmp}
use Rattle.dl_join.specs.declared.fault.JoinFault.{JoinFault}
use Rattle.dl_join.proofs.MergeLemmas.{sorted_nil}
use Rattle.dl_answer.specs.Replies.{GivesTuples}
use Rattle.dl_answer.specs.Searches.{FindsTuples}

module _ (Behind : List Axiom → List Fact → Type 0) (P : List Axiom → List Fact → List ℕ → Type 0) (columns limit : ℕ)
  where
    -- what a search that ends gives, by whatever axioms and facts are behind it
    abbrev Gives : Result Table JoinFault → Type 0
    Gives result =
        (axioms : List Axiom) (facts : List Fact) → Behind axioms facts → GivesTuples (P axioms facts) limit result

    pub finds_fault : (result : Result Table JoinFault) (fault : JoinFault) → result ≡ Err fault → Gives (Err fault)
        → FindsTuples Behind P columns limit result
    finds_fault result fault is gives =
        subst (FindsTuples Behind P columns limit) (sym is)
        (record { ascending = tt; width = tt; within = tt; tuples = gives })

    pub finds_none : (table : Table) → table.tuples ≡ [] → table.width ≡ columns → Gives (Ok table)
        → FindsTuples Behind P columns limit (Ok table)
    finds_none table none width gives = record {
      ascending = subst AscendStrictly (sym none) (sorted_nil tuple_cmp);
      width = width;
      within = omega (arith, ap length none);
      tuples = gives;
    }

    -- exactly the tuples of which a property holds
    pub finds_exactly : (result : Result Table JoinFault) (Q : List ℕ → Type 0)
        → IfOk result (λ table. AreExactly Q table.tuples) → IfOk result (λ table. table.width ≡ columns)
        → IfOk result (λ table. length table.tuples ≤ limit) → Gives result → FindsTuples Behind P columns limit result
    finds_exactly result Q exact width within gives = record {
      ascending =
          IfOk-weaker result (λ table. AreExactly Q table.tuples) (λ table. AscendStrictly table.tuples)
          (λ table is. is.ascending) exact;
      width = width;
      within = within;
      tuples = gives;
    }

-- what is found by whatever is behind, is found by what is so
pub finds_by : (Behind Other : List Axiom → List Fact → Type 0) (P : List Axiom → List Fact → List ℕ → Type 0)
    (columns limit : ℕ) (result : Result Table JoinFault)
    → ((axioms : List Axiom) (facts : List Fact) → Other axioms facts → Behind axioms facts)
    → FindsTuples Behind P columns limit result → FindsTuples Other P columns limit result
finds_by Behind Other P columns limit result is finds = record {
  ascending = finds.ascending;
  width = finds.width;
  within = finds.within;
  tuples = λ axioms facts other. finds.tuples axioms facts (is axioms facts other);
}
