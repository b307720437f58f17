-- Object property expressions and class expressions of OWL 2 QL (OWL 2 Profiles, 3.2.3 and 3.2.4), in the
-- functional-style syntax. The names after them are those before and the ones that they are the first to name.
use Rattle.std.specs.Prelude.{ℕ, List, [], ◌∷◌, ◌++◌}
use Rattle.dl_lex.specs.declared.keyword.Keyword.TheVariants.{ObjectInverseOf, ObjectSomeValuesFrom, ObjectIntersectionOf, ObjectComplementOf}
use Rattle.dl_names.specs.NameList.{Text}
use Rattle.dl_terms.specs.declared.role.Role.{Role}
use Rattle.dl_terms.specs.declared.role.Basic.{Basic}
use Rattle.dl_terms.specs.declared.role.Basic.TheVariants as basic
use Rattle.dl_terms.specs.declared.axiom.Part.{Part}
use Rattle.dl_terms.specs.declared.axiom.Part.TheVariants as part
use Rattle.dl_terms.specs.Roles.{named, inverse_of}
use Rattle.dl_owl.specs.Symbols.{Symbol, opening, closing, keyword}
use Rattle.dl_owl.specs.Prefixes.{Prefixes}
use Rattle.dl_owl.specs.NamesNext.{owl_thing, IsIri, IsNameOf}
use Rattle.dl_names.specs.Iris.{is_free, may_be_class}

module _ (p : Prefixes) where
  -- a role stands next, and then the rest
  pub data RoleThen : List Text → List Symbol → Role → List Symbol → List Text → Type 0 where
    plain : {names after : List Text} {s : Symbol} {n : ℕ} {rest : List Symbol}
        → IsNameOf p is_free names s n after → RoleThen names (s ∷ rest) (named n) rest after
    inverse : {names after : List Text} {s : Symbol} {n : ℕ} {rest : List Symbol}
        → IsNameOf p is_free names s n after
        → RoleThen names (keyword ObjectInverseOf ∷ opening ∷ s ∷ closing ∷ rest) (inverse_of (named n)) rest after

  -- a class expression of a left side: a class, or what has a neighbour by a role
  pub data SubThen : List Text → List Symbol → Basic → List Symbol → List Text → Type 0 where
    class : {names after : List Text} {s : Symbol} {n : ℕ} {rest : List Symbol}
        → IsNameOf p may_be_class names s n after → SubThen names (s ∷ rest) (basic.Class n) rest after
    some : {names after : List Text} {inner rest : List Symbol} {r : Role} {thing : Symbol}
        → RoleThen names inner r (thing ∷ closing ∷ rest) after → IsIri p thing owl_thing
        → SubThen names (keyword ObjectSomeValuesFrom ∷ opening ∷ inner) (basic.SomeOf r) rest after

  mutual
    -- a class expression of a right side, as its parts from left to right
    pub data SupThen : List Text → List Symbol → List Part → List Symbol → List Text → Type 0 where
      thing : {names : List Text} {s : Symbol} {rest : List Symbol}
          → IsIri p s owl_thing → SupThen names (s ∷ rest) (part.Thing ∷ []) rest names
      class : {names after : List Text} {s : Symbol} {n : ℕ} {rest : List Symbol}
          → IsNameOf p may_be_class names s n after → SupThen names (s ∷ rest) (part.Class n ∷ []) rest after
      any : {names after : List Text} {inner rest : List Symbol} {r : Role} {s : Symbol}
          → RoleThen names inner r (s ∷ closing ∷ rest) after → IsIri p s owl_thing
          → SupThen names (keyword ObjectSomeValuesFrom ∷ opening ∷ inner) (part.Any r ∷ []) rest after
      fill : {names between after : List Text} {inner rest : List Symbol} {r : Role} {s : Symbol} {n : ℕ}
          → RoleThen names inner r (s ∷ closing ∷ rest) between → IsNameOf p may_be_class between s n after
          → SupThen names (keyword ObjectSomeValuesFrom ∷ opening ∷ inner) (part.Fill r n ∷ []) rest after
      complement : {names after : List Text} {inner rest : List Symbol} {b : Basic}
          → SubThen names inner b (closing ∷ rest) after
          → SupThen names (keyword ObjectComplementOf ∷ opening ∷ inner) (part.Not b ∷ []) rest after
      intersection : {names one two after : List Text} {first second others rest : List Symbol} {ps qs rs : List Part}
          → SupThen names first ps second one → SupThen one second qs others two
          → SupsThen two others rs (closing ∷ rest) after
          → SupThen names (keyword ObjectIntersectionOf ∷ opening ∷ first) (ps ++ (qs ++ rs)) rest after

    -- any number of them, and all their parts
    pub data SupsThen : List Text → List Symbol → List Part → List Symbol → List Text → Type 0 where
      none : {names : List Text} {rest : List Symbol} → SupsThen names rest [] rest names
      more : {names one after : List Text} {first others rest : List Symbol} {ps qs : List Part}
          → SupThen names first ps others one → SupsThen one others qs rest after
          → SupsThen names first (ps ++ qs) rest after

  -- any number of roles, and of class expressions of left sides
  pub data RolesThen : List Text → List Symbol → List Role → List Symbol → List Text → Type 0 where
    none : {names : List Text} {rest : List Symbol} → RolesThen names rest [] rest names
    more : {names one after : List Text} {first others rest : List Symbol} {r : Role} {rs : List Role}
        → RoleThen names first r others one → RolesThen one others rs rest after
        → RolesThen names first (r ∷ rs) rest after

  pub data SubsThen : List Text → List Symbol → List Basic → List Symbol → List Text → Type 0 where
    none : {names : List Text} {rest : List Symbol} → SubsThen names rest [] rest names
    more : {names one after : List Text} {first others rest : List Symbol} {b : Basic} {bs : List Basic}
        → SubThen names first b others one → SubsThen one others bs rest after
        → SubsThen names first (b ∷ bs) rest after
