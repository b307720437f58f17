-- What the text of a third file says is determined.
use Rattle.std.proofs.Common.{◌≡◌, ℕ, List, ap}
use Rattle.dl_names.specs.NameList.{Text}
use Rattle.dl_terms.specs.declared.query.Query.{Query}
use Rattle.dl_query.specs.Queries.{IsValue}
use Rattle.dl_query.proofs.ResultLemmas.{value-one, fault-one, not-both}
use Rattle.dl_run.specs.Stops.{stop_of_query}
use Rattle.dl_run.specs.ThirdFile.{ThirdFile, HasQueryFault, query_file}
use Rattle.dl_run.specs.declared.stop.Refusal.{Refusal}
use Rattle.dl_run.specs.declared.stop.Stop.{Stop}
use Rattle.dl_run.specs.declared.stop.Stop.TheVariants.{Refused}

-- a text has one value or one fault at most, behind given names
pub record IsDetermined (third : ThirdFile) : Type 0 where
  pub one_value : (bytes : List ℕ) (names : List Text) (v w : third.Value) (after later : List Text) → third.IsValue bytes names v after
      → third.IsValue bytes names w later → (v ≡ w) × (after ≡ later)
  pub one_fault : (bytes : List ℕ) (names : List Text) (r s : Refusal) → third.HasFault bytes names r → third.HasFault bytes names s → r ≡ s
  pub not_both : (bytes : List ℕ) (names : List Text) (v : third.Value) (after : List Text) (r : Refusal) → third.IsValue bytes names v after
      → third.HasFault bytes names r → ⊥

pub same_refusal : {one two : Refusal} (a b : Stop) → a ≡ Refused one → b ≡ Refused two → a ≡ b → one ≡ two
same_refusal a b x y z = cc

query_fault : (bytes : List ℕ) (names : List Text) (r s : Refusal) → HasQueryFault bytes names r → HasQueryFault bytes names s → r ≡ s
query_fault bytes names r s (f, after, first, is) (g, later, second, also) =
    same_refusal _ _ is also (ap stop_of_query (fault-one bytes names f g after later first second).0)

query_not_both : (bytes : List ℕ) (names : List Text) (v : Query) (after : List Text) (r : Refusal) → IsValue bytes names v after
    → HasQueryFault bytes names r → ⊥
query_not_both bytes names v after r value (f, later, first, is) = not-both bytes names v f after later value first

pub query_determined : IsDetermined query_file
query_determined = record {
  one_value = λ bytes names v w after later one two. value-one bytes names v w after later one two;
  one_fault = query_fault;
  not_both = query_not_both;
}
