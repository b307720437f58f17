use Rattle.std.proofs.Common.{MatchOption, subst}
use Rattle.std.specs.List.{Contains}
use Rattle.dl_numbers.specs.Numbers.{HasNumber}
use Rattle.dl_epoch.specs.Frozen.{Frozen}
use Rattle.dl_epoch.proofs.NumberingLemmas.{roles_numbered, never_named}
use Rattle.dl_epoch.proofs.epoch.Epoch.role_number.Goals as goal

pub returns : goal.returns
returns c =
    let e = c.self.inside in
    let is = c.self.invariant.0 in
    subst (λ (f : Frozen). MatchOption c.number.result (Contains f.signature.roles c.args.name → ⊥) (HasNumber f.roles c.args.name)) c.self.view_is
    (never_named e.signature.roles e.roles (roles_numbered e.axioms e.signature.roles is.signature.roles e.roles is.role_numbers) c.args.name
    c.number.result (HasNumber e.roles c.args.name) c.number.ensures.number)
