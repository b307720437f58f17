-- Terms that have to stand for one name, and the disjunct that says so by putting one term for another.
use Rattle.std.specs.Prelude.{◌≡◌, ℕ, List, [], ◌∷◌, cond, nat_eq}
use Rattle.std.specs.List.{Contains}
use Rattle.dl_terms.specs.declared.role.Basic.TheVariants.{Class}
use Rattle.dl_terms.specs.declared.query.Term.{Term}
use Rattle.dl_terms.specs.declared.query.Term.TheVariants.{Var, Name}
use Rattle.dl_terms.specs.declared.query.Atom.{Atom}
use Rattle.dl_terms.specs.declared.query.Atom.TheVariants.{Is, Link}
use Rattle.dl_terms.specs.declared.query.Probe.{Probe}
use Rattle.dl_terms.specs.declared.query.Probe.TheVariants.{AnyOf, Joined}
use Rattle.dl_join.specs.Disjuncts.{name_of}

-- the term that stands for a term
abbrev pub put_for : (ℕ → Term) → Term → Term
put_for to (Var v) = to v
put_for to (Name a) = Name a

-- one term in the place of a variable
abbrev pub replaced : ℕ → Term → Term → Term
replaced v r (Var w) = cond (nat_eq w v) r (Var w)
replaced v r (Name a) = Name a

-- an assignment of names unifies two terms
abbrev pub AreUnified : (ℕ → ℕ) → Term × Term → Type 0
AreUnified names e = name_of names e.0 ≡ name_of names e.1

-- terms put for the variables that are a most general unifier of some pairs of terms (Robinson: A machine-oriented
-- logic based on the resolution principle, 1965): they unify each pair, and each assignment of names that unifies the
-- pairs goes through them
pub record IsMostGeneralUnifier (pairs : List (Term × Term)) (to : ℕ → Term) : Type 0 where
  pub one : (e : Term × Term) → Contains pairs e → put_for to e.0 ≡ put_for to e.1
  pub no_more : (names : ℕ → ℕ) → ((e : Term × Term) → Contains pairs e → AreUnified names e) → (v : ℕ)
      → name_of names (to v) ≡ names v

-- what is asked of names for an atom
abbrev pub probe_of : (ℕ → Term) → Atom → Probe
probe_of to (Is c u) = AnyOf (Class c ∷ []) (put_for to u)
probe_of to (Link p u w) = Joined p (put_for to u) (put_for to w)
