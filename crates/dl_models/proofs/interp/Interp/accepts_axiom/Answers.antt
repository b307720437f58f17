use Rattle.std.proofs.Common.{◌≡◌, ◌↔◌, true, sym, subst}
use Rattle.dl_terms.specs.declared.axiom.Axiom.TheVariants.{EquivalentRoles, DisjointRoles, Domain, Range}
use Rattle.dl_models.specs.Meaning.{Accepts}
use Rattle.dl_models.specs.Structures.{finite}
use Rattle.dl_models.proofs.interp.Interp.accepts_axiom.Goals as goal

pub returns-in-SubRole : goal.returns-in-SubRole
returns-in-SubRole c =
    subst (λ a. (c.role_is_within.result ≡ true) ↔ Accepts (finite c.args.self.now) a) (sym c.in-SubRole.is)
    c.role_is_within.ensures

pub returns-in-EquivalentRoles : goal.returns-in-EquivalentRoles
returns-in-EquivalentRoles c =
    subst (λ a. (c.are_same-in-EquivalentRoles.result ≡ true) ↔ Accepts (finite c.args.self.now) a) (sym c.in-EquivalentRoles.is)
    (subst (λ l. (c.are_same-in-EquivalentRoles.result ≡ true) ↔ Accepts (finite c.args.self.now) (EquivalentRoles l)) c.as_slice-in-EquivalentRoles.ensures c.are_same-in-EquivalentRoles.ensures)

pub returns-in-DisjointRoles : goal.returns-in-DisjointRoles
returns-in-DisjointRoles c =
    subst (λ a. (c.are_apart-in-DisjointRoles.result ≡ true) ↔ Accepts (finite c.args.self.now) a) (sym c.in-DisjointRoles.is)
    (subst (λ l. (c.are_apart-in-DisjointRoles.result ≡ true) ↔ Accepts (finite c.args.self.now) (DisjointRoles l)) c.as_slice-in-DisjointRoles.ensures c.are_apart-in-DisjointRoles.ensures)

pub returns-in-InverseRoles : goal.returns-in-InverseRoles
returns-in-InverseRoles c =
    subst (λ a. (c.are_inverse.result ≡ true) ↔ Accepts (finite c.args.self.now) a) (sym c.in-InverseRoles.is)
    c.are_inverse.ensures

pub returns-in-Domain : goal.returns-in-Domain
returns-in-Domain c =
    subst (λ a. (c.domain_is_within.result ≡ true) ↔ Accepts (finite c.args.self.now) a) (sym c.in-Domain.is)
    (subst (λ l. (c.domain_is_within.result ≡ true) ↔ Accepts (finite c.args.self.now) (Domain c.in-Domain.role l)) c.as_slice-in-Domain.ensures c.domain_is_within.ensures)

pub returns-in-Range : goal.returns-in-Range
returns-in-Range c =
    subst (λ a. (c.range_is_within.result ≡ true) ↔ Accepts (finite c.args.self.now) a) (sym c.in-Range.is)
    (subst (λ l. (c.range_is_within.result ≡ true) ↔ Accepts (finite c.args.self.now) (Range c.in-Range.role l)) c.as_slice-in-Range.ensures c.range_is_within.ensures)

pub returns-in-Symmetric : goal.returns-in-Symmetric
returns-in-Symmetric c =
    subst (λ a. (c.is_symmetric.result ≡ true) ↔ Accepts (finite c.args.self.now) a) (sym c.in-Symmetric.is)
    c.is_symmetric.ensures

pub returns-in-Asymmetric : goal.returns-in-Asymmetric
returns-in-Asymmetric c =
    subst (λ a. (c.is_asymmetric.result ≡ true) ↔ Accepts (finite c.args.self.now) a) (sym c.in-Asymmetric.is)
    c.is_asymmetric.ensures

pub returns-in-Irreflexive : goal.returns-in-Irreflexive
returns-in-Irreflexive c =
    subst (λ a. (c.is_irreflexive.result ≡ true) ↔ Accepts (finite c.args.self.now) a) (sym c.in-Irreflexive.is)
    c.is_irreflexive.ensures
