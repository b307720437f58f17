-- The disjunct of a set of variables at elements without a name.
use Rattle.std.specs.Prelude.{◌≡◌, ℕ, ◌⊎◌, ◌↔◌, Bool, true, false, List, map}
use Rattle.std.specs.List.{Contains}
use Rattle.dl_terms.specs.declared.role.Role.{Role}
use Rattle.dl_terms.specs.declared.role.Basic.TheVariants.{SomeOf}
use Rattle.dl_terms.specs.declared.axiom.Axiom.{Axiom}
use Rattle.dl_terms.specs.declared.query.Term.{Term}
use Rattle.dl_terms.specs.declared.query.Term.TheVariants.{Var}
use Rattle.dl_terms.specs.declared.query.Atom.{Atom}
use Rattle.dl_terms.specs.declared.query.Atom.TheVariants.{Is, Link}
use Rattle.dl_terms.specs.declared.query.Query.{Query}
use Rattle.dl_terms.specs.declared.query.Probe.{Probe}
use Rattle.dl_terms.specs.declared.query.Probe.TheVariants.{AnyOf}
use Rattle.dl_terms.specs.declared.query.Disjunct.{Disjunct}
use Rattle.dl_tree.specs.Sets.{touches}
use Rattle.dl_tree.specs.Folds.{IsGeneratingRole}
use Rattle.dl_rewrite.specs.Unifiers.{probe_of}

-- a part, one of its members, and its roles
pub record Part : Type 0 where
  pub set : ℕ → Bool
  pub member : ℕ
  pub roles : List Role

-- a term of an atom
abbrev pub IsTermOf : Term → Atom → Type 0
IsTermOf t (Is c u) = t ≡ u
IsTermOf t (Link p u w) = (t ≡ u) ⊎ (t ≡ w)

-- the roles of a part are those that generate it as a tree witness; its member is in it and in an atom
pub record IsPart (axioms : List Axiom) (roles : List Role) (q : Query) (c : Part) : Type 0 where
  pub exact : (t : Role) → Contains c.roles t ↔ IsGeneratingRole axioms roles q c.set t
  pub is_member : c.set c.member ≡ true
  pub atom : Atom
  pub is_atom : Contains q.atoms atom
  pub is_term : IsTermOf (Var c.member) atom

-- the pairs of terms to unify: the member of each part, with each term that shares an atom with the part
pub record AreToUnify (q : Query) (parts : List Part) (pairs : List (Term × Term)) : Type 0 where
  pub each : (c : Part) (a : Atom) (t : Term) → Contains parts c → Contains q.atoms a
      → touches c.set a ≡ true → IsTermOf t a → Contains pairs (Var c.member, t)
  pub only : (e : Term × Term) → Contains pairs e
      → (c : Part) × (a : Atom) × Contains parts c × Contains q.atoms a × (touches c.set a ≡ true) × IsTermOf e.1 a
      × (e.0 ≡ Var c.member)

-- the probe of a part: one of its roles has an unnamed neighbour at its name
abbrev pub part_probe : (ℕ → Term) → Part → Probe
part_probe to c = AnyOf (map SomeOf c.roles) (to c.member)

-- the disjunct of a set: a probe for each atom without a member, and one for each part
pub record IsDisjunctOf (q : Query) (s : ℕ → Bool) (parts : List Part) (to : ℕ → Term) (d : Disjunct) : Type 0 where
  pub head : d.head ≡ map to q.head
  pub each_atom : (a : Atom) → Contains q.atoms a → touches s a ≡ false → Contains d.probes (probe_of to a)
  pub each_part : (c : Part) → Contains parts c → Contains d.probes (part_probe to c)
  pub only : (p : Probe) → Contains d.probes p
      → ((a : Atom) × Contains q.atoms a × (touches s a ≡ false) × (p ≡ probe_of to a))
      ⊎ ((c : Part) × Contains parts c × (p ≡ part_probe to c))
