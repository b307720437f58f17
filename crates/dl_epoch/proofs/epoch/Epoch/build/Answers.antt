use Rattle.std.proofs.Common.{sym, subst, ◌∙◌}
use Rattle.std.specs.List.Sorted.{IsStrictlyIncreasing}
use Rattle.dl_numbers.specs.Rule.{IsByRule}
use Rattle.dl_epoch.proofs.NumberingLemmas.{IsClassBelow, IsRoleBelow}
use Rattle.dl_epoch.proofs.FrozenLemmas.{built_frozen, built_hierarchy}
use Rattle.dl_epoch.proofs.epoch.Epoch.build.Goals as goal

pub class_numbers-requires-clause-classes : goal.class_numbers-requires-clause-classes
class_numbers-requires-clause-classes c = c.as_slice.ensures ∙ sym c.in_ok-hier.ensures.classes

pub class_numbers-requires-clause-ascending : goal.class_numbers-requires-clause-ascending
class_numbers-requires-clause-ascending c = subst IsStrictlyIncreasing (sym c.as_slice.ensures) c.requires.signature.classes

pub role_numbers-requires-clause-roles : goal.role_numbers-requires-clause-roles
role_numbers-requires-clause-roles c = c.as_slice-2.ensures ∙ sym c.in_ok-hier.ensures.roles

pub role_numbers-requires-clause-ascending : goal.role_numbers-requires-clause-ascending
role_numbers-requires-clause-ascending c = subst IsStrictlyIncreasing (sym c.as_slice-2.ensures) c.requires.signature.roles

pub invariant_of-result : goal.invariant_of-result
invariant_of-result c = (
  built_frozen c.args.id c.args.axioms.now c.in_ok-axioms.axioms c.args.signature.now c.in_ok-signature.signature c.in_ok-classes.classes c.in_ok-roles.roles
      c.in_ok-axioms.ensures c.in_ok-signature.ensures c.requires.ascending c.requires.no_auxiliary c.requires.known c.requires.signature
      (subst (λ ns. IsByRule ns (IsClassBelow c.args.axioms.now) c.in_ok-classes.classes) c.as_slice.ensures
      (c.in_ok-classes.ensures c.args.axioms.now c.in_ok-hier.ensures.hierarchy))
      (subst (λ ns. IsByRule ns (IsRoleBelow c.args.axioms.now) c.in_ok-roles.roles) c.as_slice-2.ensures
      (c.in_ok-roles.ensures c.args.axioms.now c.in_ok-hier.ensures.hierarchy)),
  built_hierarchy c.args.id c.args.axioms.now c.in_ok-axioms.axioms c.args.signature.now c.in_ok-signature.signature c.in_ok-classes.classes c.in_ok-roles.roles
      c.in_ok-axioms.ensures c.in_ok-signature.ensures c.in_ok-hier.hier c.in_ok-hier.ensures.hierarchy c.in_ok-hier.ensures.classes c.in_ok-hier.ensures.roles
      c.in_ok-hier.ensures.predicates,
)

pub returns-clause-frozen : goal.returns-clause-frozen
returns-clause-frozen c =
    built_frozen c.args.id c.args.axioms.now c.in_ok-axioms.axioms c.args.signature.now c.in_ok-signature.signature c.in_ok-classes.classes c.in_ok-roles.roles
    c.in_ok-axioms.ensures c.in_ok-signature.ensures c.requires.ascending c.requires.no_auxiliary c.requires.known c.requires.signature
    (subst (λ ns. IsByRule ns (IsClassBelow c.args.axioms.now) c.in_ok-classes.classes) c.as_slice.ensures
    (c.in_ok-classes.ensures c.args.axioms.now c.in_ok-hier.ensures.hierarchy))
    (subst (λ ns. IsByRule ns (IsRoleBelow c.args.axioms.now) c.in_ok-roles.roles) c.as_slice-2.ensures
    (c.in_ok-roles.ensures c.args.axioms.now c.in_ok-hier.ensures.hierarchy))
