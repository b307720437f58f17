-- Ontology documents (OWL 2 Functional-Style Syntax, 3.7).
use Rattle.std.specs.Prelude.{◌≡◌, Some, None, List, [], ◌∷◌, ◌++◌}
use Rattle.dl_lex.specs.declared.keyword.Keyword.TheVariants.{Prefix, Ontology}
use Rattle.dl_names.specs.NameList.{Text}
use Rattle.dl_owl.specs.declared.document.Document.{Document}
use Rattle.dl_owl.specs.Symbols.{Symbol, opening, closing, equals, full_iri, short_iri, keyword, ending}
use Rattle.dl_owl.specs.Prefixes.{Prefixes, predefined, prefix_of, local_of, declared_iri}
use Rattle.dl_owl.specs.NamesNext.{IsIri}
use Rattle.dl_owl.specs.Annotations.{AnnotationsThen}
use Rattle.dl_owl.specs.declared.item.Item.{Item}
use Rattle.dl_owl.specs.Items.{empty_document, with_item}
use Rattle.dl_owl.specs.Axioms.{AxiomThen}

-- the prefix declarations stand next, and then the rest; what is declared after them. A prefix may be
-- declared again only with the same IRI
pub data PrefixesThen : Prefixes → List Symbol → Prefixes → List Symbol → Type 0 where
  none : {p : Prefixes} {rest : List Symbol} → PrefixesThen p rest p rest
  new : {p q : Prefixes} {name iri : Text} {more rest : List Symbol}
      → local_of name ≡ [] → declared_iri p (prefix_of name) ≡ None
      → PrefixesThen (p ++ (prefix_of name, iri) ∷ []) more q rest
      → PrefixesThen p (keyword Prefix ∷ opening ∷ short_iri name ∷ equals ∷ full_iri iri ∷ closing ∷ more) q rest
  again : {p q : Prefixes} {name iri : Text} {more rest : List Symbol}
      → local_of name ≡ [] → declared_iri p (prefix_of name) ≡ Some iri → PrefixesThen p more q rest
      → PrefixesThen p (keyword Prefix ∷ opening ∷ short_iri name ∷ equals ∷ full_iri iri ∷ closing ∷ more) q rest

-- the IRI and the version IRI of an ontology, which it need not have, and then the rest
pub data TitleThen (p : Prefixes) : List Symbol → List Symbol → Type 0 where
  none : {rest : List Symbol} → TitleThen p rest rest
  iri : {s : Symbol} {text : Text} {rest : List Symbol} → IsIri p s text → TitleThen p (s ∷ rest) rest
  version : {s t : Symbol} {one two : Text} {rest : List Symbol} → IsIri p s one → IsIri p t two
      → TitleThen p (s ∷ t ∷ rest) rest

-- axioms stand next, and then the rest; the document with what they add
pub data AxiomsThen (p : Prefixes) : Document → List Text → List Symbol → Document → List Symbol → List Text
    → Type 0 where
  none : {d : Document} {names : List Text} {rest : List Symbol} → AxiomsThen p d names rest d rest names
  more : {d whole : Document} {names one after : List Text} {first others rest : List Symbol} {item : Item}
      → AxiomThen p names first item others one → AxiomsThen p (with_item d item) one others whole rest after
      → AxiomsThen p d names first whole rest after

-- the tokens are an ontology document of this value
pub record IsOntology (names : List Text) (symbols : List Symbol) (document : Document) (after : List Text)
    : Type 0 where
  pub prefixes : Prefixes
  pub title : List Symbol
  pub annotations : List Symbol
  pub axioms : List Symbol
  pub declared : PrefixesThen predefined symbols prefixes (keyword Ontology ∷ opening ∷ title)
  pub titled : TitleThen prefixes title annotations
  pub annotated : AnnotationsThen prefixes annotations axioms
  pub read : AxiomsThen prefixes empty_document names axioms document (closing ∷ ending ∷ []) after

-- the tokens are one axiom of this value
pub record IsLoneAxiom (names : List Text) (symbols : List Symbol) (document : Document) (after : List Text)
    : Type 0 where
  pub item : Item
  pub read : AxiomThen predefined names symbols item (ending ∷ []) after
  pub is : document ≡ with_item empty_document item
