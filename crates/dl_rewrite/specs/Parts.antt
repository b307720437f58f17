-- What a query asks over names where the variables of a set stand at elements without a name.
use Rattle.std.specs.Prelude.{◌≡◌, ℕ, Bool, true, false, List, [], ◌∷◌, map}
use Rattle.std.specs.List.{Contains, AllByRecursion}
use Rattle.dl_terms.specs.Structure.{HoldsAtName, individual}
use Rattle.dl_terms.specs.Answers.{AtomHolds}
use Rattle.dl_terms.specs.Queries.{is_existential}
use Rattle.dl_terms.specs.declared.role.Role.{Role}
use Rattle.dl_terms.specs.declared.role.Basic.TheVariants.{SomeOf}
use Rattle.dl_terms.specs.declared.axiom.Axiom.{Axiom}
use Rattle.dl_terms.specs.declared.axiom.Fact.{Fact}
use Rattle.dl_terms.specs.declared.query.Atom.{Atom}
use Rattle.dl_terms.specs.declared.query.Atom.TheVariants.{Is, Link}
use Rattle.dl_terms.specs.declared.query.Query.{Query}
use Rattle.dl_tree.specs.Sets.{touches, IsConnected}
use Rattle.dl_tree.specs.Folds.{IsGeneratingRole}
use Rattle.dl_join.specs.Disjuncts.{name_of}
use Rattle.dl_tree.specs.Below.{minus, IsClosedIn}

-- the parts of a set: each is connected, and no role atom links one to another
abbrev pub AreParts : Query → (ℕ → Bool) → List (ℕ → Bool) → Type 0
AreParts q s [] = (v : ℕ) → s v ≡ false
AreParts q s (c ∷ cs) = IsConnected q c × IsClosedIn q c s × AreParts q (minus s c) cs

-- the terms of an atom stand for one name
abbrev pub TermsAre : (ℕ → ℕ) → ℕ → Atom → Type 0
TermsAre names a (Is c u) = name_of names u ≡ a
TermsAre names a (Link p u w) = (name_of names u ≡ a) × (name_of names w ≡ a)

-- a part folds below a name: one of its roles has an unnamed neighbour there, and each term that shares an atom with a
-- member, so each outside neighbour, stands for that name
pub record PartHas (axioms : List Axiom) (facts : List Fact) (roles : List Role) (q : Query) (names : ℕ → ℕ)
    (c : ℕ → Bool) : Type 0 where
  pub root : ℕ
  pub role : Role
  pub is_role : IsGeneratingRole axioms roles q c role
  pub holds : HoldsAtName axioms facts (SomeOf role) root
  pub terms : (a : Atom) → Contains q.atoms a → touches c a ≡ true → TermsAre names root a

-- names for the terms outside the set: the atoms without a member hold of them, and each part folds below one
pub record HoldsWhere (axioms : List Axiom) (facts : List Fact) (roles : List Role) (q : Query) (s : ℕ → Bool)
    (parts : List (ℕ → Bool)) (names : ℕ → ℕ) : Type 0 where
  pub atoms : (a : Atom) → Contains q.atoms a → touches s a ≡ false
      → AtomHolds axioms facts (λ v. individual (names v)) a
  pub each_part : AllByRecursion (PartHas axioms facts roles q names) parts

-- a tuple that is an answer where exactly the variables of a set of existential ones stand at elements without a name
pub record IsAnswerWhere (axioms : List Axiom) (facts : List Fact) (roles : List Role) (q : Query) (s : ℕ → Bool)
    (parts : List (ℕ → Bool)) (tuple : List ℕ) : Type 0 where
  pub names : ℕ → ℕ
  pub is_head : map names q.head ≡ tuple
  pub holds : HoldsWhere axioms facts roles q s parts names

-- a set of existential variables
abbrev pub AreExistential : Query → (ℕ → Bool) → Type 0
AreExistential q s = (v : ℕ) → s v ≡ true → is_existential q v ≡ true
