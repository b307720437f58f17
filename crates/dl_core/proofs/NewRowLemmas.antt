-- The row of a fact, by the number that its predicate has in a built epoch.
use Rattle.std.proofs.Common.{◌≡◌, ℕ, zero, suc, ◌-◌, ◌∙◌, List, slice_get, Some, sym, ap, arith}
use Rattle.dl_terms.specs.declared.axiom.Fact.{Fact}
use Rattle.dl_terms.specs.declared.axiom.Fact.TheVariants.{Is, Link}
use Rattle.dl_numbers.specs.Numbers.{HasNumber}
use Rattle.dl_row.specs.Rows.{name_at, open_end}
use Rattle.dl_row.specs.declared.row.Kind.TheVariants.{Class, Role}
use Rattle.dl_epoch.specs.Frozen.{Frozen, IsFrozen, from_version}
use Rattle.dl_core.specs.Next.{row_for}
use Rattle.dl_core.proofs.EpochLemmas.{number_is}
use Rattle.dl_core.proofs.RuleLemmas.{classes_once, roles_once}

-- a name stands at its number
pub number_named : (names : List ℕ) (name number : ℕ) → HasNumber names name number → name_at names number ≡ Some name
number_named names name zero h = absurd (let one = h.from_one in omega arith)
number_named names name (suc n) h = let e : n ≡ suc n - 1 = omega arith in ap (slice_get names) e ∙ h.is

module _ (e : Frozen) (frozen : IsFrozen e) (first version id number : ℕ) (f : Fact) (same : id ≡ e.id) where
  pub class_row : (c a : ℕ) → f ≡ Is c a → HasNumber e.classes c number
      → record { kind = Class; number = number; epoch = id; s = a; o = a; first = version; last = open_end }
      ≡ row_for (from_version first e) version f
  class_row c a is h =
      let has = number_is e.classes number c (classes_once e frozen) (number_named e.classes c number h) in
      (λ i. record { kind = Class; number = has i; epoch = same i; s = a; o = a; first = version; last = open_end })
      ∙ ap (row_for (from_version first e) version) (sym is)

  pub role_row : (p a b : ℕ) → f ≡ Link p a b → HasNumber e.roles p number
      → record { kind = Role; number = number; epoch = id; s = a; o = b; first = version; last = open_end }
      ≡ row_for (from_version first e) version f
  role_row p a b is h =
      let has = number_is e.roles number p (roles_once e frozen) (number_named e.roles p number h) in
      (λ i. record { kind = Role; number = has i; epoch = same i; s = a; o = b; first = version; last = open_end })
      ∙ ap (row_for (from_version first e) version) (sym is)
