-- What each expectation means in the plain grammar: which tokens may stand next, up to the end of the text.
use Rattle.std.proofs.Common.{◌≡◌, ℕ, suc, zero, ◌≤◌, true, ◌⊎◌, Some, None, List, [], ◌∷◌, ◌++◌, length}
use Rattle.dl_lex.specs.declared.keyword.Keyword.TheVariants.{Ontology, Annotation}
use Rattle.dl_names.specs.NameList.{Text, names_after, place_of}
use Rattle.dl_terms.specs.declared.axiom.Part.{Part}
use Rattle.dl_terms.specs.declared.axiom.Part.TheVariants as part
use Rattle.dl_owl.specs.declared.document.Document.{Document}
use Rattle.dl_owl.specs.Symbols.{Symbol, opening, closing, equals, full_iri, short_iri, string, node, keyword, ending}
use Rattle.dl_owl.specs.Prefixes.{Prefixes, prefix_of, local_of, declared_iri}
use Rattle.dl_owl.specs.NamesNext.{owl_thing, owl_top_object_property, IsIri, IsNameOf}
use Rattle.dl_names.specs.Iris.{is_free, may_be_class}
use Rattle.dl_owl.specs.Annotations.{ValueThen, AnnotationsThen}
use Rattle.dl_owl.specs.Expressions.{RoleThen, SubThen, SupThen, SupsThen, RolesThen, SubsThen}
use Rattle.dl_owl.specs.declared.item.Item.{Item}
use Rattle.dl_owl.specs.Items.{empty_document, with_item}
use Rattle.dl_owl.specs.Axioms.{EntityThen, DifferentThen, AxiomThen}
use Rattle.dl_owl.specs.Ontologies.{PrefixesThen, AxiomsThen}
use Rattle.dl_owl.specs.Expected.{Expected, prologue, prefix_name, prefix_equals, prefix_iri, title, annotations_first, items, lone_axiom, finish, done, open_then, close_then, annotations_then, iri_then, subject_then, value_then, value_end, property_then, role_then, first_role, second_role, sub_then, sup_then, thing_then, filler_then, roles_close, subs_close, sups_close, individual_then, unnamed_then, different_close, class_then, declared_class, entity_then, Move, goes, takes_name, declares, refuses}

-- a value stands next, and the rest is as it is to be after that
pub record Then {V : Type 0} (R : V → List Symbol → List Text → Type 0) (K : V → List Text → List Symbol → Type 0) : Type 0 where
  pub «value» : V
  pub rest : List Symbol
  pub after : List Text
  pub is : R «value» rest after
  pub so : K «value» after rest

-- the next token is such a one, or this one, and the rest is as it is to be after that
pub record Sees (P : Symbol → List Symbol → Type 0) (ss : List Symbol) : Type 0 where
  pub token : Symbol
  pub rest : List Symbol
  pub is : ss ≡ token ∷ rest
  pub so : P token rest

pub record SeesThis (token : Symbol) (P : List Symbol → Type 0) (ss : List Symbol) : Type 0 where
  pub rest : List Symbol
  pub is : ss ≡ token ∷ rest
  pub so : P rest

-- no annotation begins there
abbrev pub NoAnnotation : List Symbol → Type 0
NoAnnotation ss = (rest : List Symbol) → ss ≡ keyword Annotation ∷ rest → ⊥

-- so many IRIs at most, and then the rest
pub data TitleUpTo (p : Prefixes) : ℕ → List Symbol → List Symbol → Type 0 where
  no_iri : {n : ℕ} {rest : List Symbol} → TitleUpTo p n rest rest
  an_iri : {n : ℕ} {s : Symbol} {text : Text} {more rest : List Symbol} → IsIri p s text → TitleUpTo p n more rest
      → TitleUpTo p (suc n) (s ∷ more) rest

-- so many class expressions of right sides at least
abbrev pub SupsAtLeast : Prefixes → ℕ → List Text → List Symbol → List Part → List Symbol → List Text → Type 0
SupsAtLeast p zero names ss ps rest after = SupsThen p names ss ps rest after
SupsAtLeast p (suc n) names ss ps rest after =
    Then (λ qs others one. SupThen p names ss qs others one)
    (λ qs one others. (rs : List Part) × (ps ≡ qs ++ rs) × SupsAtLeast p n one others rs rest after)

module _ (document : Document) (final : List Text) where
  -- what stands behind the axioms so far
  abbrev pub AxiomsMean : Prefixes → Document → List Text → List Symbol → Type 0
  AxiomsMean p d names ss = AxiomsThen p d names ss document (closing ∷ ending ∷ []) final

  abbrev pub FirstMean : Prefixes → List Text → List Symbol → Type 0
  FirstMean p names ss = (rest : List Symbol) × (AnnotationsThen p ss rest × AxiomsMean p empty_document names rest)

  abbrev pub TitleMeans : Prefixes → ℕ → List Text → List Symbol → Type 0
  TitleMeans p n names ss = (rest : List Symbol) × (TitleUpTo p n ss rest × FirstMean p names rest)

  -- a text from its prefix declarations on
  pub record PrologueMeans (p : Prefixes) (names : List Text) (ss : List Symbol) : Type 0 where
    pub prefixes : Prefixes
    pub rest : List Symbol
    pub declared : PrefixesThen p ss prefixes (keyword Ontology ∷ opening ∷ rest)
    pub then : TitleMeans prefixes 2 names rest

  -- the IRI of a prefix declaration and its closing parenthesis, and a text from there on
  abbrev pub PrefixMeans : Prefixes → Text → List Text → List Symbol → Type 0
  PrefixMeans p name names ss =
      Sees (λ s rest. (iri : Text) × ((s ≡ full_iri iri)
      × (((declared_iri p name ≡ None) × SeesThis closing (λ more. PrologueMeans (p ++ (name, iri) ∷ []) names more) rest)
      ⊎ ((declared_iri p name ≡ Some iri) × SeesThis closing (λ more. PrologueMeans p names more) rest)))) ss

  pub record LoneMeans (p : Prefixes) (names : List Text) (ss : List Symbol) : Type 0 where
    pub item : Item
    pub read : AxiomThen p names ss item (ending ∷ []) final
    pub is : document ≡ with_item empty_document item

  -- nothing more, and this value
  abbrev pub DoneMeans : Document → List Text → List Symbol → Type 0
  DoneMeans d names ss = (ss ≡ []) × (d ≡ document) × (names ≡ final)

  abbrev pub Means : Prefixes → Expected → List Text → List Symbol → Type 0
  Means p prologue names ss = PrologueMeans p names ss
  Means p prefix_name names ss =
      Sees (λ s rest. (short : Text) × ((s ≡ short_iri short) × (local_of short ≡ [])
      × SeesThis equals (λ more. PrefixMeans p (prefix_of short) names more) rest)) ss
  Means p (prefix_equals name) names ss = SeesThis equals (λ more. PrefixMeans p name names more) ss
  Means p (prefix_iri name) names ss = PrefixMeans p name names ss
  Means p (title n) names ss = TitleMeans p n names ss
  Means p annotations_first names ss = FirstMean p names ss
  Means p (items d) names ss = AxiomsMean p d names ss
  Means p lone_axiom names ss = LoneMeans p names ss
  Means p (finish d) names ss = SeesThis ending (λ rest. DoneMeans d names rest) ss
  Means p (done d) names ss = DoneMeans d names ss
  Means p (open_then e) names ss = SeesThis opening (λ rest. Means p e names rest) ss
  Means p (close_then e) names ss = SeesThis closing (λ rest. Means p e names rest) ss
  Means p (annotations_then e) names ss =
      (rest : List Symbol) × (AnnotationsThen p ss rest × NoAnnotation rest × Means p e names rest)
  Means p (iri_then e) names ss = Sees (λ s rest. (text : Text) × (IsIri p s text × Means p e names rest)) ss
  Means p (subject_then e) names ss =
      Sees (λ s rest. ((s ≡ node) ⊎ ((text : Text) × IsIri p s text)) × Means p e names rest) ss
  Means p (value_then e) names ss = (rest : List Symbol) × (ValueThen p ss (closing ∷ rest) × Means p e names rest)
  Means p (value_end e) names ss = (rest : List Symbol) × (ValueThen p (string ∷ ss) (closing ∷ rest) × Means p e names rest)
  Means p (property_then k) names ss =
      Sees (λ s rest. (n : ℕ) × ((after : List Text) × (IsNameOf p is_free names s n after × Means p (k n) after rest))) ss
  Means p (role_then k) names ss =
      Then (λ r rest after. RoleThen p names ss r rest after) (λ r after rest. Means p (k r) after rest)
  Means p (first_role k) names ss =
      Then (λ r rest after. RoleThen p names ss r rest after) (λ r after rest. Means p (k r) after rest)
  Means p (second_role k e) names ss =
      Then (λ r rest after. RoleThen p names ss r rest after) (λ r after rest. Means p (k r) after rest)
      ⊎ Sees (λ s rest. IsIri p s owl_top_object_property × Means p e names rest) ss
  Means p (sub_then k) names ss =
      Then (λ b rest after. SubThen p names ss b rest after) (λ b after rest. Means p (k b) after rest)
  Means p (sup_then k) names ss =
      Then (λ ps rest after. SupThen p names ss ps rest after) (λ ps after rest. Means p (k ps) after rest)
  Means p (thing_then e) names ss = Sees (λ s rest. IsIri p s owl_thing × Means p e names rest) ss
  Means p (filler_then r k) names ss =
      Sees (λ s rest. (IsIri p s owl_thing × Means p (k (part.Any r)) names rest)
      ⊎ ((n : ℕ) × ((after : List Text) × (IsNameOf p may_be_class names s n after × Means p (k (part.Fill r n)) after rest)))) ss
  Means p (roles_close n before k) names ss =
      Then (λ rs rest after. RolesThen p names ss rs (closing ∷ rest) after × (n ≤ length rs))
      (λ rs after rest. Means p (k (before ++ rs)) after rest)
  Means p (subs_close n before k) names ss =
      Then (λ bs rest after. SubsThen p names ss bs (closing ∷ rest) after × (n ≤ length bs))
      (λ bs after rest. Means p (k (before ++ bs)) after rest)
  Means p (sups_close n before k) names ss =
      Then (λ ps rest after. SupsAtLeast p n names ss ps (closing ∷ rest) after)
      (λ ps after rest. Means p (k (before ++ ps)) after rest)
  Means p (individual_then k) names ss =
      Sees (λ s rest. (n : ℕ) × ((after : List Text) × (IsNameOf p is_free names s n after × Means p (k n) after rest))) ss
  Means p (unnamed_then e) names ss =
      Sees (λ s rest. (text : Text) × (IsIri p s text × (is_free text ≡ true) × Means p e names rest)) ss
  Means p (different_close n before e) names ss =
      (count : ℕ) × ((rest : List Symbol)
      × (DifferentThen p before ss count (closing ∷ rest) × (n ≤ count) × Means p e names rest))
  Means p (class_then k) names ss =
      Sees (λ s rest. (IsIri p s owl_thing × Means p (k None) names rest)
      ⊎ ((n : ℕ) × ((after : List Text) × (IsNameOf p may_be_class names s n after × Means p (k (Some n)) after rest)))) ss
  Means p (declared_class k) names ss =
      Sees (λ s rest. (IsIri p s owl_thing × Means p (k None) names rest)
      ⊎ ((n : ℕ) × ((after : List Text) × (IsNameOf p may_be_class names s n after × Means p (k (Some n)) after rest)))) ss
  Means p (entity_then k) names ss =
      Then (λ i rest after. EntityThen p names ss i rest after) (λ i after rest. Means p (k i) after rest)

  -- what a move means for the tokens behind it
  abbrev pub Comes : Prefixes → Move → List Text → List Symbol → Type 0
  Comes p (goes e) names ss = Means p e names ss
  Comes p (takes_name text k) names ss =
      Means p (k (place_of (names_after names text) text)) (names_after names text) ss
  Comes p (declares name iri e) names ss = Means (p ++ (name, iri) ∷ []) e names ss
  Comes p (refuses cause) names ss = ⊥
