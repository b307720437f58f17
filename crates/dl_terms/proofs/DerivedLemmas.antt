-- The derived comparisons of role names and of roles are those of the definitions.
use Rattle.std.proofs.Common.{◌≡◌, Bool, true, false, refl, ap, ap₂}
use Rattle.std.specs.Ordering.{ordering_then, nat_cmp, bool_cmp}
use Rattle.dl_terms.specs.Order.{flag, base_cmp, role_cmp}
use Rattle.dl_terms.specs.contracts.role.BaseOrd.TheImpl as base_impl
use Rattle.dl_terms.specs.contracts.role.RoleOrd.TheImpl as role_impl
use Rattle.dl_terms.specs.declared.role.Base.{Base}
use Rattle.dl_terms.specs.declared.role.Base.TheVariants.{Named, Auxiliary}
use Rattle.dl_terms.specs.declared.role.Role.{Role}

pub flags : (i j : Bool) → bool_cmp i j ≡ nat_cmp (flag i) (flag j)
flags false false = refl
flags false true = refl
flags true false = refl
flags true true = refl

pub bases : (a b : Base) → (base_impl.cmp-value).it a b ≡ base_cmp a b
bases (Named p) (Named q) = refl
bases (Named p) (Auxiliary q j d) = refl
bases (Auxiliary p i c) (Named q) = refl
bases (Auxiliary p i c) (Auxiliary q j d) = ap (λ o. ordering_then (nat_cmp p q) (ordering_then o (nat_cmp c d))) (flags i j)

pub roles : (r s : Role) → (role_impl.cmp-value).it r s ≡ role_cmp r s
roles r s = ap₂ ordering_then (bases r.base s.base) (flags r.inverse s.inverse)
