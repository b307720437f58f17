-- What a reader of an ontology expects next, and what it expects behind that. The grammar is LL(1) (Aho, Lam, Sethi,
-- Ullman: Compilers, 4.4): what is expected and the next token alone say how it goes on, or that it can't.
use Rattle.std.specs.Prelude.{ℕ, Option, List}
use Rattle.dl_names.specs.NameList.{Text}
use Rattle.dl_terms.specs.declared.role.Role.{Role}
use Rattle.dl_terms.specs.declared.role.Basic.{Basic}
use Rattle.dl_terms.specs.declared.axiom.Part.{Part}
use Rattle.dl_owl.specs.declared.document.Document.{Document}
use Rattle.dl_owl.specs.declared.item.Item.{Item}
use Rattle.dl_owl.specs.Causes.{Cause}

pub data Expected : Type 0 where
  -- a prefix declaration or the ontology; the prefix name, the = and the IRI of a prefix declaration
  prologue : Expected
  prefix_name : Expected
  prefix_equals : Text → Expected
  prefix_iri : Text → Expected
  -- in an ontology: as many IRIs as this or what follows, an annotation or what follows, an axiom or )
  title : ℕ → Expected
  annotations_first : Expected
  items : Document → Expected
  -- one axiom alone; the end of the text; nothing more
  lone_axiom : Expected
  finish : Document → Expected
  done : Document → Expected
  -- a parenthesis, and then
  open_then : Expected → Expected
  close_then : Expected → Expected
  -- annotations, as many as there are, and then; an IRI; an IRI or a blank node
  annotations_then : Expected → Expected
  iri_then : Expected → Expected
  subject_then : Expected → Expected
  -- the value of an annotation and ), and then; what may stand behind a string, and )
  value_then : Expected → Expected
  value_end : Expected → Expected
  -- an object property, a role, the first role of a SubObjectPropertyOf, its second one
  property_then : (ℕ → Expected) → Expected
  role_then : (Role → Expected) → Expected
  first_role : (Role → Expected) → Expected
  second_role : (Role → Expected) → Expected → Expected
  -- class expressions of a left and of a right side, and the fillers of a left and of a right side
  sub_then : (Basic → Expected) → Expected
  sup_then : (List Part → Expected) → Expected
  thing_then : Expected → Expected
  filler_then : Role → (Part → Expected) → Expected
  -- at least so many more of them and ), behind those before
  roles_close : ℕ → List Role → (List Role → Expected) → Expected
  subs_close : ℕ → List Basic → (List Basic → Expected) → Expected
  sups_close : ℕ → List Part → (List Part → Expected) → Expected
  -- an individual; one that is not named by it; at least so many different ones and )
  individual_then : (ℕ → Expected) → Expected
  unnamed_then : Expected → Expected
  different_close : ℕ → List Text → Expected → Expected
  -- the class of an assertion and a declared class, none where it is owl:Thing; the entity of a declaration
  class_then : (Option ℕ → Expected) → Expected
  declared_class : (Option ℕ → Expected) → Expected
  entity_then : (Item → Expected) → Expected

-- what a token does
pub data Move : Type 0 where
  -- it fits, and this is expected then
  goes : Expected → Move
  -- it is a name, and at its place this is expected then
  takes_name : Text → (ℕ → Expected) → Move
  -- it declares that a prefix stands for an IRI
  declares : Text → Text → Expected → Move
  -- reading can't go on, and why
  refuses : Cause → Move
