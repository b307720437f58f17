-- What the steps of rewriting give: parts as numbers, pairs of terms that have to be one, terms put for variables, and
-- probes. For private functions.
use Rattle.std.specs.Prelude.{◌≡◌, ℕ, ◌<◌, ◌^◌, Bool, List, [], ◌∷◌, ◌++◌, cond, map, length, slice_index_or}
use Rattle.std.specs.List.{All, Contains, flat_map}
use Rattle.dl_terms.specs.declared.role.Role.{Role}
use Rattle.dl_terms.specs.declared.query.Term.{Term}
use Rattle.dl_terms.specs.declared.query.Term.TheVariants.{Var, Name}
use Rattle.dl_terms.specs.declared.query.Atom.{Atom}
use Rattle.dl_terms.specs.declared.query.Atom.TheVariants.{Is, Link}
use Rattle.dl_terms.specs.declared.query.Query.{Query}
use Rattle.dl_terms.specs.declared.query.Probe.{Probe}
use Rattle.dl_tree.specs.Sets.{touches}
use Rattle.dl_tree.specs.Masks.{set_of}
use Rattle.dl_rewrite.specs.Parts.{AreParts}
use Rattle.dl_rewrite.specs.Unifiers.{AreUnified, IsMostGeneralUnifier, probe_of}
use Rattle.dl_rewrite.specs.Disjuncts.{Part, part_probe}

-- the first of some variables that is in a set
abbrev pub first_in : (ℕ → Bool) → List ℕ → ℕ
first_in s [] = 0
first_in s (v ∷ vs) = cond (s v) v (first_in s vs)

-- the variable that stands for a part
abbrev pub member_of : List ℕ → ℕ → ℕ
member_of ex mask = first_in (set_of ex mask) ex

-- the part of a number, with its row of a table
abbrev pub part_at : List ℕ → List (List Role) → ℕ → Part
part_at ex rows mask = record { set = set_of ex mask; member = member_of ex mask; roles = slice_index_or rows mask [] }

-- numbers of the parts of a set
pub record ArePartsOf (q : Query) (ex : List ℕ) (set : ℕ) (parts : List ℕ) : Type 0 where
  pub cut : AreParts q (set_of ex set) (map (set_of ex) parts)
  pub fit : All (λ m. m < 2 ^ length ex) parts

abbrev pub atom_terms : Atom → List Term
atom_terms (Is c u) = u ∷ []
atom_terms (Link p u w) = u ∷ w ∷ []

-- the variable of a part, with each term of an atom that touches the part
abbrev pub atom_pairs : List ℕ → ℕ → Atom → List (Term × Term)
atom_pairs ex mask a =
    cond (touches (set_of ex mask) a) (map (λ t. (Var (member_of ex mask), t)) (atom_terms a)) []

abbrev pub part_pairs : List ℕ → List Atom → ℕ → List (Term × Term)
part_pairs ex atoms mask = flat_map (atom_pairs ex mask) atoms

abbrev pub pairs_of : List ℕ → List Atom → List ℕ → List (Term × Term)
pairs_of ex atoms parts = flat_map (part_pairs ex atoms) parts

-- the term that a list puts for a variable: itself, past the end
abbrev pub term_at : List Term → ℕ → Term
term_at to v = slice_index_or to v (Var v)

-- a term without a variable from so many on
abbrev pub IsTermBelow : ℕ → Term → Type 0
IsTermBelow n (Var v) = v < n
IsTermBelow n (Name a) = Unit {0}

-- a list of terms for so many variables that is a most general unifier of some pairs
pub record AreMostGeneralUnifier (n : ℕ) (pairs : List (Term × Term)) (to : List Term) : Type 0 where
  pub as_many : length to ≡ n
  pub below : All (IsTermBelow n) to
  pub unifies : IsMostGeneralUnifier pairs (term_at to)

-- no assignment of names unifies the pairs
abbrev pub HaveNoUnifier : List (Term × Term) → Type 0
HaveNoUnifier pairs = (names : ℕ → ℕ) → ((e : Term × Term) → Contains pairs e → AreUnified names e) → ⊥

abbrev pub AreTermsBelow : ℕ → List (Term × Term) → Type 0
AreTermsBelow n pairs = All (λ e. IsTermBelow n e.0 × IsTermBelow n e.1) pairs

-- the probe of an atom without a member
abbrev pub outside_probe : List ℕ → ℕ → List Term → Atom → List Probe
outside_probe ex set to a = cond (touches (set_of ex set) a) [] (probe_of (term_at to) a ∷ [])

-- the probes of a set: of the atoms without a member, and of the parts
abbrev pub probes_of : List ℕ → List (List Role) → List Atom → ℕ → List ℕ → List Term → List Probe
probes_of ex rows atoms set parts to =
    flat_map (outside_probe ex set to) atoms ++ map (λ m. part_probe (term_at to) (part_at ex rows m)) parts
