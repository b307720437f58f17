-- Signatures as sets of names, and the facts whose predicates they have. They are this project's own.
use Rattle.std.specs.Prelude.{◌≡◌, ℕ, Bool, true, List}
use Rattle.std.specs.Ordering.{nat_cmp}
use Rattle.dl_terms.specs.Order.{fact_cmp}
use Rattle.dl_terms.specs.declared.axiom.Fact.{Fact}
use Rattle.dl_terms.specs.declared.axiom.Fact.TheVariants.{Is, Link}
use Rattle.dl_terms.specs.declared.axiom.Signature.{Signature}
use Rattle.dl_edits.specs.Sets.{has, IsOnce}

-- a signature has each name once
pub record HasEachOnce (s : Signature) : Type 0 where
  pub classes : IsOnce nat_cmp s.classes
  pub roles : IsOnce nat_cmp s.roles

-- a signature is part of another one
pub record IsPart (s t : Signature) : Type 0 where
  pub classes : (name : ℕ) → has nat_cmp s.classes name ≡ true → has nat_cmp t.classes name ≡ true
  pub roles : (name : ℕ) → has nat_cmp s.roles name ≡ true → has nat_cmp t.roles name ≡ true

-- the predicate of a fact is in a signature
abbrev pub knows : Signature → Fact → Bool
knows s (Is c x) = has nat_cmp s.classes c
knows s (Link p x y) = has nat_cmp s.roles p

-- the predicates of facts are in a signature
abbrev pub AreKnown : Signature → List Fact → Type 0
AreKnown s facts = (f : Fact) → has fact_cmp facts f ≡ true → knows s f ≡ true
