-- The value of a text of N-Triples, and its first fault.
use Rattle.std.specs.Prelude.{◌≡◌, ◌≢◌, ℕ, ◌+◌, ◌<◌, List, [], ◌∷◌, ◌++◌, Option, length, take}
use Rattle.dl_names.specs.NameList.{Text, max_names}
use Rattle.dl_terms.specs.declared.axiom.Fact.{Fact}
use Rattle.dl_triples.specs.declared.meaning.Meaning.TheVariants as meanings
use Rattle.dl_triples.specs.declared.fault.TripleFault.{TripleFault}
use Rattle.dl_triples.specs.declared.fault.TripleFault.TheVariants.{Line, Blank, Reserved, TooManyNames}
use Rattle.dl_triples.specs.Lines.{AreLines}
use Rattle.dl_triples.specs.Terms.{IsNothing, IsTriple, HasNode}
use Rattle.dl_triples.specs.Meaning.{meaning_of, triple_names, triple_facts, skips, all_named}

-- the names grow, and past the most that a run may have
abbrev pub Overflows : List Text → List Text → Type 0
Overflows names after = (length names < length after) × (max_names < length after)

-- a triple without a fault, behind these names: what it adds to the facts and to the count of those
-- skipped, and the names after it
pub record GivesTriple (line : List ℕ) (names : List Text) (facts : List Fact) (skipped : ℕ)
    (after : List Text) : Type 0 where
  pub subject : Text
  pub predicate : Text
  pub object : Option Text
  pub triple : IsTriple line subject predicate object
  pub free : meaning_of subject predicate object ≢ meanings.Reserved
  pub named : after ≡ all_named names (triple_names subject predicate object)
  pub fits : Overflows names after → ⊥
  pub is : facts ≡ triple_facts subject predicate object after
  pub counted : skipped ≡ skips (meaning_of subject predicate object)

-- a line without a fault
pub data Gives (line : List ℕ) (names : List Text) : List Fact → ℕ → List Text → Type 0 where
  nothing : IsNothing line → Gives line names [] 0 names
  triple : {facts : List Fact} {skipped : ℕ} {after : List Text}
      → GivesTriple line names facts skipped after → Gives line names facts skipped after

-- a triple whose fact is named, but the names don't fit
pub record HasNoRoom (line : List ℕ) (names : List Text) : Type 0 where
  pub subject : Text
  pub predicate : Text
  pub object : Option Text
  pub triple : IsTriple line subject predicate object
  pub free : meaning_of subject predicate object ≢ meanings.Reserved
  pub full : Overflows names (all_named names (triple_names subject predicate object))

-- the fault of a line with this number, behind these names
pub data HasFault (line : List ℕ) (names : List Text) (n : ℕ) : TripleFault → Type 0 where
  neither : (IsNothing line → ⊥)
      → ((subject predicate : Text) (object : Option Text) → IsTriple line subject predicate object → ⊥)
      → (HasNode line → ⊥) → HasFault line names n (Line n)
  blank : HasNode line → HasFault line names n (Blank n)
  reserved : {subject predicate : Text} {object : Option Text}
      → IsTriple line subject predicate object
      → meaning_of subject predicate object ≡ meanings.Reserved → HasFault line names n (Reserved n)
  full : HasNoRoom line names → HasFault line names n (TooManyNames n)

-- the lines have no fault: their facts in order, how many triples are skipped, and the names after
-- them
pub data AreRead : List (List ℕ) → List Text → List Fact → ℕ → List Text → Type 0 where
  none : {names : List Text} → AreRead [] names [] 0 names
  line : {line : List ℕ} {lines : List (List ℕ)} {names middle after : List Text}
      {facts more : List Fact} {skipped count : ℕ}
      → Gives line names facts skipped middle → AreRead lines middle more count after
      → AreRead (line ∷ lines) names (facts ++ more) (skipped + count) after

-- the fault of the first line that has one; the first of these lines has this number
pub data FirstFault : List (List ℕ) → List Text → ℕ → TripleFault → Type 0 where
  here : {line : List ℕ} {lines : List (List ℕ)} {names : List Text} {n : ℕ} {fault : TripleFault}
      → HasFault line names n fault → FirstFault (line ∷ lines) names n fault
  later : {line : List ℕ} {lines : List (List ℕ)} {names middle : List Text} {facts : List Fact}
      {skipped n : ℕ} {fault : TripleFault}
      → Gives line names facts skipped middle → FirstFault lines middle (n + 1) fault
      → FirstFault (line ∷ lines) names n fault

-- the value of the bytes, behind these names: facts, how many triples are skipped, and the names after
-- them
pub record IsValue (bytes : List ℕ) (names : List Text) (facts : List Fact) (skipped : ℕ)
    (after : List Text) : Type 0 where
  pub lines : List (List ℕ)
  pub cut : AreLines bytes lines
  pub read : AreRead lines names facts skipped after

-- the first fault of the bytes, behind these names; lines are numbered from 1
pub record IsFirstFault (bytes : List ℕ) (names : List Text) (fault : TripleFault) : Type 0 where
  pub lines : List (List ℕ)
  pub cut : AreLines bytes lines
  pub first : FirstFault lines names 1 fault

-- what a set of names may hold after a fault at a line: the names before it, and maybe the first ones of
-- its fact
pub data HoldsFirst (line : List ℕ) (names : List Text) : List Text → Type 0 where
  none : HoldsFirst line names names
  some : {subject predicate : Text} {object : Option Text} (count : ℕ)
      → IsTriple line subject predicate object
      → HoldsFirst line names (all_named names (take count (triple_names subject predicate object)))

-- what a set of names may hold after a fault: the names of some first lines, and maybe the first ones of
-- the fact of the next
pub record HoldsPart (bytes : List ℕ) (names now : List Text) : Type 0 where
  pub done : List (List ℕ)
  pub line : List ℕ
  pub more : List (List ℕ)
  pub cut : AreLines bytes (done ++ line ∷ more)
  pub facts : List Fact
  pub skipped : ℕ
  pub middle : List Text
  pub read : AreRead done names facts skipped middle
  pub first : HoldsFirst line middle now
