use Rattle.std.proofs.Common.{MatchOption, subst}
use Rattle.std.specs.List.{Contains}
use Rattle.dl_numbers.specs.Numbers.{HasNumber}
use Rattle.dl_epoch.specs.Frozen.{Frozen}
use Rattle.dl_epoch.proofs.NumberingLemmas.{classes_numbered, never_named}
use Rattle.dl_epoch.proofs.epoch.Epoch.class_number.Goals as goal

pub returns : goal.returns
returns c =
    let e = c.self.inside in
    let is = c.self.invariant.0 in
    subst (λ (f : Frozen). MatchOption c.number.result (Contains f.signature.classes c.args.name → ⊥) (HasNumber f.classes c.args.name)) c.self.view_is
    (never_named e.signature.classes e.classes (classes_numbered e.axioms e.signature.classes is.signature.classes e.classes is.class_numbers) c.args.name
    c.number.result (HasNumber e.classes c.args.name) c.number.ensures.number)
