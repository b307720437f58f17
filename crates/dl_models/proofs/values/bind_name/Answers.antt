use Rattle.std.proofs.Common.{◌≡◌, ℕ, sym, subst}
use Rattle.std.specs.List.{Contains}
use Rattle.std.proofs.lemmas.Result.{IfOk-weaker}
use Rattle.dl_models.specs.Values.{AddsOrNot}
use Rattle.dl_models.proofs.ValueLemmas.{adds_or-same}
use Rattle.dl_models.proofs.values.bind_name.Goals as goal

pub returns-in_default : goal.returns-in_default
returns-in_default c =
    λ m a h. subst (λ l. (y : ℕ) → ¬ Contains l (c.args.name, y)) c.as_slice.ensures c.in_default.ensures (m c.args.variable) h

pub returns : goal.returns
returns c =
    let at = subst (λ l. Contains l (c.args.name, c.in-Some.x)) c.as_slice.ensures c.in-Some.ensures in
    let new = c.bind_variable.new.values.items in
    IfOk-weaker c.bind_variable.result (AddsOrNot (λ m. m c.args.variable ≡ c.in-Some.x) c.args.values.now.items new)
    (AddsOrNot (λ m. Contains c.args.model.now.names (c.args.name, m c.args.variable)) c.args.values.now.items new)
    (adds_or-same (λ m. m c.args.variable ≡ c.in-Some.x) (λ m. Contains c.args.model.now.names (c.args.name, m c.args.variable)) c.args.values.now.items new
    (λ m. (
      λ e. subst (λ x. Contains c.args.model.now.names (c.args.name, x)) (sym e) at,
      λ h. c.args.model.now.valid.one_element c.args.name (m c.args.variable) c.in-Some.x h at,
    ))) c.bind_variable.ensures
