use Rattle.std.proofs.Common.{◌≡◌, sym, subst}
use Rattle.std.specs.Result.{IfOk}
use Rattle.dl_models.specs.Meaning.{StandsFor}
use Rattle.dl_models.specs.Structures.{finite}
use Rattle.dl_models.specs.Values.{AddsOrNot}
use Rattle.dl_models.proofs.values.bind.Goals as goal

pub returns-in-Var : goal.returns-in-Var
returns-in-Var c =
    subst (λ t. IfOk c.bind_variable.result (AddsOrNot (λ m. StandsFor (finite c.args.model.now) m t c.args.x) c.args.values.now.items c.bind_variable.new.values.items)) (sym c.in-Var.is)
    (subst (λ v. IfOk c.bind_variable.result (AddsOrNot (λ m. m v ≡ c.args.x) c.args.values.now.items c.bind_variable.new.values.items)) c.from.ensures
    c.bind_variable.ensures)
