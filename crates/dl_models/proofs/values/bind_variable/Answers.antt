use Rattle.std.proofs.Common.{◌≡◌, ℕ, sym, subst}
use Rattle.std.specs.List.{Contains}
use Rattle.dl_models.specs.Values.{Adds}
use Rattle.dl_models.proofs.ValueLemmas.{known-value, new-value}
use Rattle.dl_models.proofs.values.bind_variable.Goals as goal

pub returns-in-Some : goal.returns-in-Some
returns-in-Some c =
    known-value c.args.values.now.items c.args.variable c.in-Some.known c.args.x
    (subst (λ l. Contains l (c.args.variable, c.in-Some.known)) c.as_slice.ensures.value c.in-Some.ensures) c.requires

pub returns : goal.returns
returns c =
    subst (Adds (λ m. m c.args.variable ≡ c.args.x) c.args.values.now.items) (sym c.in-Ok.ensures.items)
    (new-value c.args.values.now.items c.args.variable c.args.x
    (subst (λ l. (y : ℕ) → ¬ Contains l (c.args.variable, y)) c.as_slice.ensures.value c.in_default.ensures) c.requires)
