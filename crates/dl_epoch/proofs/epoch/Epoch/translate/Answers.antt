use Rattle.std.proofs.Common.{subst}
use Rattle.dl_terms.specs.Chain.{empty}
use Rattle.dl_epoch.specs.Frozen.{Frozen}
use Rattle.dl_epoch.specs.Translating.{AreNumbersOf, IsOneInForest}
use Rattle.dl_epoch.proofs.NumberingLemmas.{IsClassBelow, IsRoleBelow, classes_numbered, roles_numbered, class_interval, role_interval}
use Rattle.dl_epoch.proofs.IntervalLemmas.{one_range}
use Rattle.dl_epoch.proofs.epoch.Epoch.translate.Goals as goal

pub returns-clause-one_class : goal.returns-clause-one_class
returns-clause-one_class c =
    let e = c.self.inside in
    let is = c.self.invariant.0 in
    let names = e.signature.classes in
    let up = is.signature.classes in
    subst (λ (f : Frozen). IsOneInForest f.signature.classes (IsClassBelow f.axioms) c.args.below.now.classes c.in_ok-classes.classes) c.self.view_is
    (λ forest name named those.
    one_range names e.classes (classes_numbered e.axioms names up e.classes is.class_numbers) (IsClassBelow e.axioms) name named empty c.args.below.now.classes those
    (class_interval e.axioms names up forest e.classes is.class_numbers name named) c.in_ok-classes.classes
    (subst (λ ms. AreNumbersOf e.classes ms c.in_ok-classes.classes) c.as_slice.ensures c.in_ok-classes.ensures))

pub returns-clause-one_role : goal.returns-clause-one_role
returns-clause-one_role c =
    let e = c.self.inside in
    let is = c.self.invariant.0 in
    let names = e.signature.roles in
    let up = is.signature.roles in
    subst (λ (f : Frozen). IsOneInForest f.signature.roles (IsRoleBelow f.axioms) c.args.below.now.forward c.in_ok-forward.forward) c.self.view_is
    (λ forest name named those.
    one_range names e.roles (roles_numbered e.axioms names up e.roles is.role_numbers) (IsRoleBelow e.axioms) name named empty c.args.below.now.forward those
    (role_interval e.axioms names up forest e.roles is.role_numbers name named) c.in_ok-forward.forward
    (subst (λ ms. AreNumbersOf e.roles ms c.in_ok-forward.forward) c.as_slice-2.ensures c.in_ok-forward.ensures))
