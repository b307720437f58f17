-- What the text of an edit says: a triple of RDF 1.1 N-Triples, or an axiom of OWL 2 in functional-style syntax. Edits
-- are this project's own.
use Rattle.std.specs.Prelude.{◌≡◌, ℕ, Bool, true, false, ◌||◌, cond, nat_eq, List, [], ◌++◌, map, codes}
use Rattle.std.specs.List.{starts_with}
use Rattle.dl_names.specs.NameList.{Text}
use Rattle.dl_terms.specs.declared.axiom.Fact.{Fact}
use Rattle.dl_event.specs.declared.event.Edit.{Edit}
use Rattle.dl_event.specs.declared.event.Item.{Item}
use Rattle.dl_event.specs.declared.event.Item.TheVariants as item
use Rattle.dl_triples.specs.declared.fault.TripleFault.{TripleFault}
use Rattle.dl_triples.specs.declared.fault.TripleFault.TheVariants as triple_fault
use Rattle.dl_triples.specs.Lines.{IsLine}
use Rattle.dl_triples.specs.Reading as triples
use Rattle.dl_owl.specs.declared.document.Document.{Document}
use Rattle.dl_owl.specs.declared.fault.OwlFault.{OwlFault}
use Rattle.dl_owl.specs.declared.fault.OwlFault.TheVariants as owl_fault
use Rattle.dl_owl.specs.Expected.{lone_axiom}
use Rattle.dl_owl.specs.Reading as owl
use Rattle.dl_stream.specs.declared.fault.Kind.{Kind}
use Rattle.dl_stream.specs.declared.fault.Kind.TheVariants as kind

-- an item is added, or it is removed
abbrev pub edit : Bool → Item → Edit
edit add i = record { add = add; item = i }

-- the edits of facts
abbrev pub fact_edits : Bool → List Fact → List Edit
fact_edits add facts = map (λ f. edit add (item.Fact f)) facts

-- the edits of what an axiom says, which is one item at most: a removed declaration makes none
abbrev pub document_edits : Bool → Document → List Edit
document_edits add document =
    map (λ a. edit add (item.Axiom a)) document.axioms
    ++ (fact_edits add document.facts
    ++ cond add
    (map (λ c. edit true (item.Class c)) document.classes ++ map (λ p. edit true (item.Property p)) document.roles)
    [])

-- a text that begins so is a triple, and another one an axiom
abbrev pub is_triple_text : List ℕ → Bool
is_triple_text text = starts_with nat_eq text (codes "<") || starts_with nat_eq text (codes "_:")

-- the text has these edits, behind these names, and the names after it; a triple stands in one line
pub data GivesEdits (add : Bool) (text : List ℕ) (names : List Text) : List Edit → List Text → Type 0 where
  of_triple : {facts : List Fact} {skipped : ℕ} {after : List Text} → is_triple_text text ≡ true → IsLine text
      → triples.IsValue text names facts skipped after → GivesEdits add text names (fact_edits add facts) after
  of_axiom : {document : Document} {after : List Text} → is_triple_text text ≡ false
      → owl.ReadsValue text lone_axiom names document after
      → GivesEdits add text names (document_edits add document) after

-- the kind of a fault that the reader of a part tells
abbrev pub triple_kind : TripleFault → Kind
triple_kind (triple_fault.TooManyNames n) = kind.TooManyNames
triple_kind _ = kind.Triple

abbrev pub axiom_kind : OwlFault → Kind
axiom_kind (owl_fault.TooManyNames at) = kind.TooManyNames
axiom_kind _ = kind.Axiom

-- the fault of the text, behind these names
pub data HasEditFault (text : List ℕ) (names : List Text) : Kind → Type 0 where
  in_lines : is_triple_text text ≡ true → (IsLine text → ⊥) → HasEditFault text names kind.Triple
  in_triple : {fault : TripleFault} → is_triple_text text ≡ true → IsLine text
      → triples.IsFirstFault text names fault → HasEditFault text names (triple_kind fault)
  in_axiom : {fault : OwlFault} → is_triple_text text ≡ false → owl.IsFault text lone_axiom names fault
      → HasEditFault text names (axiom_kind fault)
