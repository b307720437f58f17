-- The text of an axiom, in the functional-style syntax. That it is this one text is this project's own.
use Rattle.std.specs.Prelude.{ℕ, List, [], ◌∷◌, ◌++◌, map, codes, slice_get, unwrap_or, if◌then◌else◌}
use Rattle.std.specs.List.{flat_map}
use Rattle.std.specs.Str.{bytes_eq}
use Rattle.dl_lex.specs.declared.keyword.Keyword.{Keyword}
use Rattle.dl_lex.specs.declared.keyword.Keyword.TheVariants as keyword
use Rattle.dl_lex.specs.Keywords.{keyword_text}
use Rattle.dl_names.specs.NameList.{Text}
use Rattle.dl_names.specs.Iris.{owl_nothing}
use Rattle.dl_terms.specs.Broken.{role_name}
use Rattle.dl_terms.specs.declared.role.Role.{Role}
use Rattle.dl_terms.specs.declared.role.Basic.{Basic}
use Rattle.dl_terms.specs.declared.role.Basic.TheVariants as basic
use Rattle.dl_terms.specs.declared.axiom.Part.{Part}
use Rattle.dl_terms.specs.declared.axiom.Part.TheVariants as part
use Rattle.dl_terms.specs.declared.axiom.Axiom.{Axiom}
use Rattle.dl_terms.specs.declared.axiom.Axiom.TheVariants.{SubClass, EquivalentClasses, DisjointClasses, SubRole, EquivalentRoles, DisjointRoles, InverseRoles, Domain, Range, Symmetric, Asymmetric, Irreflexive}
use Rattle.dl_text.specs.NameText.{name_text}

-- the object property of a role, which is no auxiliary role here
abbrev pub property_of : Role → ℕ
property_of r = role_name r.base

abbrev pub axiom_keyword : Axiom → Keyword
axiom_keyword (SubClass b ps) = keyword.SubClassOf
axiom_keyword (EquivalentClasses bs) = keyword.EquivalentClasses
axiom_keyword (DisjointClasses bs) = keyword.DisjointClasses
axiom_keyword (SubRole r s) = keyword.SubObjectPropertyOf
axiom_keyword (EquivalentRoles rs) = keyword.EquivalentObjectProperties
axiom_keyword (DisjointRoles rs) = keyword.DisjointObjectProperties
axiom_keyword (InverseRoles r s) = keyword.InverseObjectProperties
axiom_keyword (Domain r ps) = keyword.ObjectPropertyDomain
axiom_keyword (Range r ps) = keyword.ObjectPropertyRange
axiom_keyword (Symmetric r) = keyword.SymmetricObjectProperty
axiom_keyword (Asymmetric r) = keyword.AsymmetricObjectProperty
axiom_keyword (Irreflexive r) = keyword.IrreflexiveObjectProperty

-- texts with one space between them
abbrev pub joined : List Text → Text
joined [] = []
joined (text ∷ texts) = text ++ flat_map (λ t. 32 ∷ t) texts

-- what a keyword begins, with its operands in parentheses
abbrev pub construct_text : Keyword → List Text → Text
construct_text k operands = keyword_text k ++ (40 ∷ joined operands ++ 41 ∷ [])

module _ (names : List Text) where
  abbrev pub class_text : ℕ → Text
  class_text n =
      if bytes_eq owl_nothing (unwrap_or (slice_get names n) []) then codes "owl:Nothing" else name_text names n

  abbrev pub role_text : Role → Text
  role_text r =
      if r.inverse then construct_text keyword.ObjectInverseOf (name_text names (property_of r) ∷ [])
      else name_text names (property_of r)

  -- what has a neighbour by a role, in the class of this text
  abbrev pub some_text : Role → Text → Text
  some_text r class = construct_text keyword.ObjectSomeValuesFrom (role_text r ∷ class ∷ [])

  abbrev pub basic_text : Basic → Text
  basic_text (basic.Class n) = class_text n
  basic_text (basic.SomeOf r) = some_text r (codes "owl:Thing")

  abbrev pub part_text : Part → Text
  part_text part.Thing = codes "owl:Thing"
  part_text (part.Class n) = class_text n
  part_text (part.Any r) = some_text r (codes "owl:Thing")
  part_text (part.Fill r n) = some_text r (class_text n)
  part_text (part.Not b) = construct_text keyword.ObjectComplementOf (basic_text b ∷ [])

  -- several parts are one intersection
  abbrev pub parts_text : List Part → Text
  parts_text (p ∷ []) = part_text p
  parts_text ps = construct_text keyword.ObjectIntersectionOf (map part_text ps)

  abbrev pub operand_texts : Axiom → List Text
  operand_texts (SubClass b ps) = basic_text b ∷ parts_text ps ∷ []
  operand_texts (EquivalentClasses bs) = map basic_text bs
  operand_texts (DisjointClasses bs) = map basic_text bs
  operand_texts (SubRole r s) = role_text r ∷ role_text s ∷ []
  operand_texts (EquivalentRoles rs) = map role_text rs
  operand_texts (DisjointRoles rs) = map role_text rs
  operand_texts (InverseRoles r s) = role_text r ∷ role_text s ∷ []
  operand_texts (Domain r ps) = role_text r ∷ parts_text ps ∷ []
  operand_texts (Range r ps) = role_text r ∷ parts_text ps ∷ []
  operand_texts (Symmetric r) = role_text r ∷ []
  operand_texts (Asymmetric r) = role_text r ∷ []
  operand_texts (Irreflexive r) = role_text r ∷ []

  abbrev pub axiom_text : Axiom → Text
  axiom_text a = construct_text (axiom_keyword a) (operand_texts a)
