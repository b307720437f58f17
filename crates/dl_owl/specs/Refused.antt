-- Keywords that may not stand at a place where an axiom or a class expression is expected: which of them begin
-- constructs that are not in OWL 2 QL, and which begin constructs that are left out. The lists are this project's own.
use Rattle.std.specs.Prelude.{Bool, true, false}
use Rattle.dl_lex.specs.declared.keyword.Keyword.{Keyword}
use Rattle.dl_lex.specs.declared.keyword.Keyword.TheVariants.{FunctionalObjectProperty, InverseFunctionalObjectProperty, TransitiveObjectProperty, FunctionalDataProperty, DisjointUnion, HasKey, SameIndividual, NegativeObjectPropertyAssertion, NegativeDataPropertyAssertion, ReflexiveObjectProperty, DatatypeDefinition, SubDataPropertyOf, EquivalentDataProperties, DisjointDataProperties, DataPropertyDomain, DataPropertyRange, DataPropertyAssertion, ObjectUnionOf, ObjectOneOf, ObjectAllValuesFrom, ObjectHasValue, ObjectHasSelf, ObjectMinCardinality, ObjectMaxCardinality, ObjectExactCardinality, DataAllValuesFrom, DataHasValue, DataMinCardinality, DataMaxCardinality, DataExactCardinality, DataSomeValuesFrom, ObjectIntersectionOf, ObjectComplementOf, ObjectSomeValuesFrom}
use Rattle.dl_owl.specs.Causes.{Cause, syntax, not_ql, left_out}
use Rattle.dl_owl.specs.declared.fault.Construct.TheVariants as construct

-- the construct of a keyword is left out
abbrev pub keyword_left_out : Keyword → Cause
keyword_left_out k = left_out (construct.Keyword k)

-- where an axiom is expected
abbrev pub refused_axiom : Keyword → Cause
refused_axiom FunctionalObjectProperty = not_ql FunctionalObjectProperty
refused_axiom InverseFunctionalObjectProperty = not_ql InverseFunctionalObjectProperty
refused_axiom TransitiveObjectProperty = not_ql TransitiveObjectProperty
refused_axiom FunctionalDataProperty = not_ql FunctionalDataProperty
refused_axiom DisjointUnion = not_ql DisjointUnion
refused_axiom HasKey = not_ql HasKey
refused_axiom SameIndividual = not_ql SameIndividual
refused_axiom NegativeObjectPropertyAssertion = not_ql NegativeObjectPropertyAssertion
refused_axiom NegativeDataPropertyAssertion = not_ql NegativeDataPropertyAssertion
refused_axiom ReflexiveObjectProperty = keyword_left_out ReflexiveObjectProperty
refused_axiom DatatypeDefinition = keyword_left_out DatatypeDefinition
refused_axiom SubDataPropertyOf = keyword_left_out SubDataPropertyOf
refused_axiom EquivalentDataProperties = keyword_left_out EquivalentDataProperties
refused_axiom DisjointDataProperties = keyword_left_out DisjointDataProperties
refused_axiom DataPropertyDomain = keyword_left_out DataPropertyDomain
refused_axiom DataPropertyRange = keyword_left_out DataPropertyRange
refused_axiom DataPropertyAssertion = keyword_left_out DataPropertyAssertion
refused_axiom _ = syntax

-- where a class expression of a right side is expected
abbrev pub refused_sup : Keyword → Cause
refused_sup ObjectUnionOf = not_ql ObjectUnionOf
refused_sup ObjectOneOf = not_ql ObjectOneOf
refused_sup ObjectAllValuesFrom = not_ql ObjectAllValuesFrom
refused_sup ObjectHasValue = not_ql ObjectHasValue
refused_sup ObjectHasSelf = not_ql ObjectHasSelf
refused_sup ObjectMinCardinality = not_ql ObjectMinCardinality
refused_sup ObjectMaxCardinality = not_ql ObjectMaxCardinality
refused_sup ObjectExactCardinality = not_ql ObjectExactCardinality
refused_sup DataAllValuesFrom = not_ql DataAllValuesFrom
refused_sup DataHasValue = not_ql DataHasValue
refused_sup DataMinCardinality = not_ql DataMinCardinality
refused_sup DataMaxCardinality = not_ql DataMaxCardinality
refused_sup DataExactCardinality = not_ql DataExactCardinality
refused_sup DataSomeValuesFrom = keyword_left_out DataSomeValuesFrom
refused_sup _ = syntax

-- where one of a left side is expected
abbrev pub refused_sub : Keyword → Cause
refused_sub ObjectIntersectionOf = not_ql ObjectIntersectionOf
refused_sub ObjectComplementOf = not_ql ObjectComplementOf
refused_sub k = refused_sup k

-- whether a keyword begins a class expression of OWL 2
abbrev pub begins_class : Keyword → Bool
begins_class ObjectIntersectionOf = true
begins_class ObjectUnionOf = true
begins_class ObjectComplementOf = true
begins_class ObjectOneOf = true
begins_class ObjectSomeValuesFrom = true
begins_class ObjectAllValuesFrom = true
begins_class ObjectHasValue = true
begins_class ObjectHasSelf = true
begins_class ObjectMinCardinality = true
begins_class ObjectMaxCardinality = true
begins_class ObjectExactCardinality = true
begins_class DataSomeValuesFrom = true
begins_class DataAllValuesFrom = true
begins_class DataHasValue = true
begins_class DataMinCardinality = true
begins_class DataMaxCardinality = true
begins_class DataExactCardinality = true
begins_class _ = false
