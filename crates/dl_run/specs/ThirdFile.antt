-- The third file of an input, behind ontology and data: a query, or streams. Files of an input are this project's own.
use Rattle.std.specs.Prelude.{◌≡◌, ℕ, List}
use Rattle.dl_names.specs.NameList.{Text}
use Rattle.dl_terms.specs.Renamed.{renamed_query}
use Rattle.dl_terms.specs.declared.query.Query.{Query}
use Rattle.dl_query.specs.Queries as queries
use Rattle.dl_query.specs.declared.fault.QueryFault.{QueryFault}
use Rattle.dl_run.specs.Stops.{stop_of_query}
use Rattle.dl_run.specs.declared.stop.InputFile.{InputFile}
use Rattle.dl_run.specs.declared.stop.InputFile.TheVariants as file
use Rattle.dl_run.specs.declared.stop.Refusal.{Refusal}
use Rattle.dl_run.specs.declared.stop.Stop.TheVariants.{Refused}

-- what a third file is
pub record ThirdFile : Type 1 where
  -- its name in refusals
  pub file : InputFile
  -- what its text says
  pub Value : Type 0
  -- the bytes say this, behind these names, with the names after them; each name stands for its place among these
  pub IsValue : (bytes : List ℕ) (names : List Text) → Value → (after : List Text) → Type 0
  -- the fault of the bytes, behind these names, as it is refused
  pub HasFault : (bytes : List ℕ) (names : List Text) → Refusal → Type 0
  -- the same with other numbers for its names
  pub renamed : (ℕ → ℕ) → Value → Value

-- a fault of a query, as it is refused
abbrev pub HasQueryFault : List ℕ → List Text → Refusal → Type 0
HasQueryFault bytes names refusal =
    (fault : QueryFault) × (after : List Text) × queries.HasFault bytes names fault after
    × (stop_of_query fault ≡ Refused refusal)

-- the file of a query
abbrev pub query_file : ThirdFile
query_file = record {
  file = file.Query;
  Value = Query;
  IsValue = queries.IsValue;
  HasFault = HasQueryFault;
  renamed = renamed_query;
}
