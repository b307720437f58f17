use Rattle.std.proofs.Common.{arith}
use Rattle.dl_epoch.proofs.KnownLemmas.{has_names}
use Rattle.dl_epoch.proofs.FewLemmas.{are_few, length_weight}
use Rattle.dl_epoch.proofs.EpochLemmas.{same_names, ok_weaker}
use Rattle.dl_epoch.proofs.FrozenLemmas.{predicates_of}
use Rattle.dl_epoch.proofs.epoch.hier_of.Goals as goal

pub normal-requires : goal.normal-requires
normal-requires c =
    let w = length_weight c.args.axioms.now in
    let h = c.requires.weight in
    omega (arith, w, h)

pub build-requires-clause-names : goal.build-requires-clause-names
build-requires-clause-names c = has_names c.args.signature.now c.args.axioms.now c.in_ok-rows.rows c.requires.known c.in_ok-rows.ensures.rows

pub build-requires-clause-few : goal.build-requires-clause-few
build-requires-clause-few c =
    are_few c.args.signature.now c.args.axioms.now c.in_ok-rows.rows c.requires.no_auxiliary c.requires.few c.in_ok-rows.ensures.rows

pub returns-clause-classes : goal.returns-clause-classes
returns-clause-classes c =
    ok_weaker c.build.result c.build.ensures.predicates (λ h p. same_names h.predicates.classes c.args.signature.now.classes p.classes c.requires.signature.classes)

pub returns-clause-roles : goal.returns-clause-roles
returns-clause-roles c =
    ok_weaker c.build.result c.build.ensures.predicates (λ h p. same_names h.predicates.properties c.args.signature.now.roles p.properties c.requires.signature.roles)

pub returns-clause-predicates : goal.returns-clause-predicates
returns-clause-predicates c =
    ok_weaker c.build.result c.build.ensures.predicates (λ h p. predicates_of c.args.signature.now c.args.axioms.now c.in_ok-rows.rows h.predicates c.in_ok-rows.ensures.rows p)
