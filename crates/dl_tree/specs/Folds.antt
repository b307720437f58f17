-- Tree witnesses (Kikot, Kontchakov, Zakharyaschev: Conjunctive Query Answering with OWL 2 QL, 2012): sets of variables
-- that fold into the tree that a role generates, here for connected sets, which is this project's own. The words of
-- a tree follow the rules of the canonical structure; its root is the empty word.
use Rattle.std.specs.Prelude.{◌≡◌, ℕ, Bool, true, false, List, [], ◌∷◌, ◌++◌}
use Rattle.std.specs.List.{Contains}
use Rattle.dl_terms.specs.Roles.{named, inverse_of}
use Rattle.dl_terms.specs.Below.{RoleBelow, ConceptBelow}
use Rattle.dl_terms.specs.Structure.{Follows}
use Rattle.dl_terms.specs.declared.role.Role.{Role}
use Rattle.dl_terms.specs.declared.role.Basic.{Basic}
use Rattle.dl_terms.specs.declared.role.Basic.TheVariants.{Class, SomeOf}
use Rattle.dl_terms.specs.declared.axiom.Axiom.{Axiom}
use Rattle.dl_terms.specs.declared.query.Term.{Term}
use Rattle.dl_terms.specs.declared.query.Term.TheVariants.{Var, Name}
use Rattle.dl_terms.specs.declared.query.Atom.{Atom}
use Rattle.dl_terms.specs.declared.query.Atom.TheVariants.{Is, Link}
use Rattle.dl_terms.specs.declared.query.Query.{Query}
use Rattle.dl_tree.specs.Sets.{touches}

-- a basic concept holds at a word: by its last role
pub record HoldsAtWord (axioms : List Axiom) (b : Basic) (word : List Role) : Type 0 where
  pub front : List Role
  pub last : Role
  pub is_last : word ≡ front ++ last ∷ []
  pub below : ConceptBelow axioms (SomeOf (inverse_of last)) b

-- a role joins two words of a tree: one is the other with a role at its end
pub data JoinsWords (axioms : List Axiom) (s : Role) (x y : List Role) : Type 0 where
  to_longer : {r : Role} → y ≡ x ++ r ∷ [] → RoleBelow axioms r s → JoinsWords axioms s x y
  to_shorter : {r : Role} → x ≡ y ++ r ∷ [] → RoleBelow axioms r (inverse_of s) → JoinsWords axioms s x y

-- the word of a term: a name stands at the root
abbrev pub word_of : (ℕ → List Role) → Term → List Role
word_of words (Var v) = words v
word_of words (Name a) = []

abbrev pub AtomHoldsAtWords : List Axiom → (ℕ → List Role) → Atom → Type 0
AtomHoldsAtWords axioms words (Is c t) = HoldsAtWord axioms (Class c) (word_of words t)
AtomHoldsAtWords axioms words (Link p t u) = JoinsWords axioms (named p) (word_of words t) (word_of words u)

-- a word of the tree of a role: it begins with the role, and each role may follow the one before it
pub record IsInTree (axioms : List Axiom) (t : Role) (word : List Role) : Type 0 where
  pub rest : List Role
  pub is_first : word ≡ t ∷ rest
  pub follows : Follows axioms t rest

-- a set is a tree witness that a role generates: its members stand at words of the role's tree, all else at the root,
-- and each atom with a member holds
pub record IsTreeWitness (axioms : List Axiom) (q : Query) (s : ℕ → Bool) (t : Role) (words : ℕ → List Role)
    : Type 0 where
  pub outside : (v : ℕ) → s v ≡ false → words v ≡ []
  pub inside : (v : ℕ) → s v ≡ true → IsInTree axioms t (words v)
  pub atoms : (a : Atom) → Contains q.atoms a → touches s a ≡ true → AtomHoldsAtWords axioms words a

-- a generating role of a set: one of the hierarchy that generates it as a tree witness
pub record IsGeneratingRole (axioms : List Axiom) (roles : List Role) (q : Query) (s : ℕ → Bool) (t : Role)
    : Type 0 where
  pub in_hierarchy : Contains roles t
  pub words : ℕ → List Role
  pub folds : IsTreeWitness axioms q s t words
