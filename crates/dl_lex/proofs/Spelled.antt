-- A search in the table of keywords finds the keyword that is written as a text.
use Rattle.std.proofs.Common.{◌≡◌, ℕ, Bool, true, false, Option, Some, None, MatchOption, List, [], ◌∷◌, refl, sym, ap, ◌∙◌, subst, cond}
use Rattle.std.proofs.lemmas.Slice.Eq.{bytes_eq-Decides}
use Rattle.std.specs.List.{find}
use Rattle.std.specs.Str.{bytes_eq}
use Rattle.dl_lex.specs.declared.keyword.Keyword.{Keyword}
use Rattle.dl_lex.specs.declared.keyword.Keyword.TheVariants.{SubClassOf, ObjectSomeValuesFrom, ClassAssertion, ObjectPropertyAssertion, Declaration, Class, NamedIndividual, ObjectInverseOf, ObjectProperty, SubObjectPropertyOf, ObjectPropertyDomain, ObjectPropertyRange, AnnotationAssertion, Annotation, ObjectIntersectionOf, ObjectComplementOf, EquivalentClasses, DisjointClasses, InverseObjectProperties, EquivalentObjectProperties, DisjointObjectProperties, SymmetricObjectProperty, AsymmetricObjectProperty, IrreflexiveObjectProperty, DifferentIndividuals, AnnotationProperty, Datatype, DataProperty, SubAnnotationPropertyOf, AnnotationPropertyDomain, AnnotationPropertyRange, Prefix, Ontology, Import, DataPropertyAssertion, DataSomeValuesFrom, SubDataPropertyOf, EquivalentDataProperties, DisjointDataProperties, DataPropertyDomain, DataPropertyRange, ReflexiveObjectProperty, DatatypeDefinition, FunctionalObjectProperty, InverseFunctionalObjectProperty, TransitiveObjectProperty, FunctionalDataProperty, DisjointUnion, HasKey, SameIndividual, NegativeObjectPropertyAssertion, NegativeDataPropertyAssertion, ObjectPropertyChain, ObjectUnionOf, ObjectOneOf, ObjectAllValuesFrom, ObjectHasValue, ObjectHasSelf, ObjectMinCardinality, ObjectMaxCardinality, ObjectExactCardinality, DataAllValuesFrom, DataHasValue, DataMinCardinality, DataMaxCardinality, DataExactCardinality, DataIntersectionOf, DataUnionOf, DataComplementOf, DataOneOf, DatatypeRestriction}
use Rattle.dl_lex.specs.declared.keyword.TheConstants.{KEYWORDS}
use Rattle.dl_lex.specs.Keywords.{keyword_text, NoKeyword}

-- the keyword that a search for a text finds in the table
unfoldable pub keyword_of : List ℕ → Option Keyword
keyword_of text = find (λ k. bytes_eq (keyword_text k) text) KEYWORDS

-- it finds each keyword by its text
keyword_spelled : (k : Keyword) → keyword_of (keyword_text k) ≡ Some k
unfolding keyword_text keyword_of
keyword_spelled SubClassOf = refl
keyword_spelled ObjectSomeValuesFrom = refl
keyword_spelled ClassAssertion = refl
keyword_spelled ObjectPropertyAssertion = refl
keyword_spelled Declaration = refl
keyword_spelled Class = refl
keyword_spelled NamedIndividual = refl
keyword_spelled ObjectInverseOf = refl
keyword_spelled ObjectProperty = refl
keyword_spelled SubObjectPropertyOf = refl
keyword_spelled ObjectPropertyDomain = refl
keyword_spelled ObjectPropertyRange = refl
keyword_spelled AnnotationAssertion = refl
keyword_spelled Annotation = refl
keyword_spelled ObjectIntersectionOf = refl
keyword_spelled ObjectComplementOf = refl
keyword_spelled EquivalentClasses = refl
keyword_spelled DisjointClasses = refl
keyword_spelled InverseObjectProperties = refl
keyword_spelled EquivalentObjectProperties = refl
keyword_spelled DisjointObjectProperties = refl
keyword_spelled SymmetricObjectProperty = refl
keyword_spelled AsymmetricObjectProperty = refl
keyword_spelled IrreflexiveObjectProperty = refl
keyword_spelled DifferentIndividuals = refl
keyword_spelled AnnotationProperty = refl
keyword_spelled Datatype = refl
keyword_spelled DataProperty = refl
keyword_spelled SubAnnotationPropertyOf = refl
keyword_spelled AnnotationPropertyDomain = refl
keyword_spelled AnnotationPropertyRange = refl
keyword_spelled Prefix = refl
keyword_spelled Ontology = refl
keyword_spelled Import = refl
keyword_spelled DataPropertyAssertion = refl
keyword_spelled DataSomeValuesFrom = refl
keyword_spelled SubDataPropertyOf = refl
keyword_spelled EquivalentDataProperties = refl
keyword_spelled DisjointDataProperties = refl
keyword_spelled DataPropertyDomain = refl
keyword_spelled DataPropertyRange = refl
keyword_spelled ReflexiveObjectProperty = refl
keyword_spelled DatatypeDefinition = refl
keyword_spelled FunctionalObjectProperty = refl
keyword_spelled InverseFunctionalObjectProperty = refl
keyword_spelled TransitiveObjectProperty = refl
keyword_spelled FunctionalDataProperty = refl
keyword_spelled DisjointUnion = refl
keyword_spelled HasKey = refl
keyword_spelled SameIndividual = refl
keyword_spelled NegativeObjectPropertyAssertion = refl
keyword_spelled NegativeDataPropertyAssertion = refl
keyword_spelled ObjectPropertyChain = refl
keyword_spelled ObjectUnionOf = refl
keyword_spelled ObjectOneOf = refl
keyword_spelled ObjectAllValuesFrom = refl
keyword_spelled ObjectHasValue = refl
keyword_spelled ObjectHasSelf = refl
keyword_spelled ObjectMinCardinality = refl
keyword_spelled ObjectMaxCardinality = refl
keyword_spelled ObjectExactCardinality = refl
keyword_spelled DataAllValuesFrom = refl
keyword_spelled DataHasValue = refl
keyword_spelled DataMinCardinality = refl
keyword_spelled DataMaxCardinality = refl
keyword_spelled DataExactCardinality = refl
keyword_spelled DataIntersectionOf = refl
keyword_spelled DataUnionOf = refl
keyword_spelled DataComplementOf = refl
keyword_spelled DataOneOf = refl
keyword_spelled DatatypeRestriction = refl

found_by : {X : Type 0} (p : X → Bool) (b : Bool) (x k : X) (rest : Option X) → p x ≡ b → cond b (Some x) rest ≡ Some k → (rest ≡ Some k → p k ≡ true) → p k ≡ true
found_by p true x k rest test e later = (let same : x ≡ k = cc in subst (λ y. p y ≡ true) same test)
found_by p false x k rest test e later = later e

-- what a search finds passes its test
found_passes : {X : Type 0} (p : X → Bool) (xs : List X) (k : X) → find p xs ≡ Some k → p k ≡ true
found_passes p [] k e = cc
found_passes p (x ∷ xs) k e = found_by p (p x) x k (find p xs) refl e (found_passes p xs k)

-- it finds a keyword only by its text
keyword_alone : (text : List ℕ) (k : Keyword) → keyword_of text ≡ Some k → keyword_text k ≡ text
unfolding keyword_of
keyword_alone text k e = (bytes_eq-Decides (keyword_text k) text).0 (found_passes (λ w. bytes_eq (keyword_text w) text) KEYWORDS k e)

some_same : (j k : Keyword) → (let a : Option Keyword = Some j in a) ≡ (let b : Option Keyword = Some k in b) → j ≡ k
some_same j k e = cc

pub keyword_unique : (j k : Keyword) → keyword_text j ≡ keyword_text k → j ≡ k
keyword_unique j k same = some_same j k (sym (keyword_spelled j) ∙ (ap keyword_of same ∙ keyword_spelled k))

none_is_some : (k : Keyword) → (let o : Option Keyword = None in o) ≡ Some k → ⊥
none_is_some k e = cc

keyword_found_by : (text : List ℕ) (o : Option Keyword) → keyword_of text ≡ o → MatchOption o (NoKeyword text) (λ k. text ≡ keyword_text k)
keyword_found_by text None e = λ k same. none_is_some k (sym e ∙ (ap keyword_of same ∙ keyword_spelled k))
keyword_found_by text (Some k) e = sym (keyword_alone text k e)

-- it finds the keyword that is written as the text, if one is
pub keyword_found : (text : List ℕ) → MatchOption (keyword_of text) (NoKeyword text) (λ k. text ≡ keyword_text k)
keyword_found text = keyword_found_by text (keyword_of text) refl
