-- What the private readers do with the terms of a triple and with a line.
use Rattle.std.specs.Prelude.{◌≡◌, ◌≢◌, ℕ, ◌+◌, List, ◌++◌, Option, take}
use Rattle.dl_names.specs.NameList.{Text}
use Rattle.dl_names.specs.declared.fault.NameFault.{NameFault}
use Rattle.dl_names.specs.declared.fault.NameFault.TheVariants as name_faults
use Rattle.dl_terms.specs.declared.axiom.Fact.{Fact}
use Rattle.dl_triples.specs.declared.meaning.Meaning.{Meaning}
use Rattle.dl_triples.specs.declared.meaning.Meaning.TheVariants as meanings
use Rattle.dl_triples.specs.declared.fault.TripleFault.{TripleFault}
use Rattle.dl_triples.specs.declared.fault.TripleFault.TheVariants.{Reserved, TooManyNames, NoMemory}
use Rattle.dl_triples.specs.declared.reading.Triples.{Triples}
use Rattle.dl_triples.specs.Meaning.{meaning_of, names_of, facts_of, triple_names, skips, all_named}
use Rattle.dl_triples.specs.Reading.{Gives, Overflows}

-- some first ones of these texts were named
pub record NamesFirst (names texts after : List Text) : Type 0 where
  pub count : ℕ
  pub is : after ≡ all_named names (take count texts)

-- the fault of a name in a line with this number
abbrev pub fault_at : ℕ → NameFault → TripleFault
fault_at n name_faults.Full = TooManyNames n
fault_at n name_faults.NoMemory = NoMemory

-- the fact of these terms was added, and its names were named
pub record AddsFact (meaning : Meaning) (subject predicate : Text) (object : Option Text)
    (names after : List Text) (facts added : List Fact) : Type 0 where
  pub named : after ≡ all_named names (names_of meaning subject predicate object)
  pub is : added ≡ facts ++ facts_of meaning subject predicate object after

-- a triple of these terms was read
pub record AddsTriple (subject predicate : Text) (object : Option Text) (names after : List Text)
    (triples added : Triples) : Type 0 where
  pub free : meaning_of subject predicate object ≢ meanings.Reserved
  pub fact : AddsFact (meaning_of subject predicate object) subject predicate object names after
      triples.facts added.facts
  pub counted : added.skipped ≡ triples.skipped + skips (meaning_of subject predicate object)

-- the fault of a triple of these terms
pub data HasTripleFault (subject predicate : Text) (object : Option Text) (names : List Text)
    (n : ℕ) : TripleFault → Type 0 where
  reserved : meaning_of subject predicate object ≡ meanings.Reserved
      → HasTripleFault subject predicate object names n (Reserved n)
  full : meaning_of subject predicate object ≢ meanings.Reserved
      → Overflows names (all_named names (triple_names subject predicate object))
      → HasTripleFault subject predicate object names n (TooManyNames n)

-- a line was read
pub record AddsLine (line : List ℕ) (names after : List Text) (triples added : Triples)
    : Type 0 where
  pub facts : List Fact
  pub skipped : ℕ
  pub gives : Gives line names facts skipped after
  pub is : added.facts ≡ triples.facts ++ facts
  pub counted : added.skipped ≡ triples.skipped + skipped
