-- Annotations (OWL 2 Functional-Style Syntax, 10.1). They have no value here.
use Rattle.std.specs.Prelude.{List, ◌∷◌}
use Rattle.dl_lex.specs.declared.keyword.Keyword.TheVariants.{Annotation}
use Rattle.dl_names.specs.NameList.{Text}
use Rattle.dl_owl.specs.Symbols.{Symbol, opening, closing, caret, string, language, node, keyword}
use Rattle.dl_owl.specs.Prefixes.{Prefixes}
use Rattle.dl_owl.specs.NamesNext.{IsIri}

-- the value of an annotation stands next, and then the rest: an IRI, a blank node, or a literal, which
-- is a string, a string in a language, or a string of a datatype
pub data ValueThen (p : Prefixes) : List Symbol → List Symbol → Type 0 where
  iri : {s : Symbol} {text : Text} {rest : List Symbol} → IsIri p s text → ValueThen p (s ∷ rest) rest
  blank : {rest : List Symbol} → ValueThen p (node ∷ rest) rest
  plain : {rest : List Symbol} → ValueThen p (string ∷ rest) rest
  in_language : {rest : List Symbol} → ValueThen p (string ∷ language ∷ rest) rest
  of_datatype : {s : Symbol} {text : Text} {rest : List Symbol} → IsIri p s text
      → ValueThen p (string ∷ caret ∷ s ∷ rest) rest

-- any number of annotations stand next, and then the rest
pub data AnnotationsThen (p : Prefixes) : List Symbol → List Symbol → Type 0 where
  none : {rest : List Symbol} → AnnotationsThen p rest rest
  one : {inner «value» more rest : List Symbol} {s : Symbol} {text : Text}
      → AnnotationsThen p inner (s ∷ «value») → IsIri p s text → ValueThen p «value» (closing ∷ more)
      → AnnotationsThen p more rest → AnnotationsThen p (keyword Annotation ∷ opening ∷ inner) rest
