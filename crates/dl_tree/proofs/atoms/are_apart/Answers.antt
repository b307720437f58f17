use Rattle.std.proofs.Common.{not, ◌||◌, ap, sym, ◌∙◌}
use Rattle.dl_tree.specs.Tests.{has}
use Rattle.dl_tree.proofs.atoms.are_apart.Goals as goal

pub returns-else-from_is : goal.returns-else-from_is
returns-else-from_is c =
    c.is_apart-to_is.ensures ∙ ap (λ b. b || not (has c.args.to c.args.m)) (sym c.if-from_is.false ∙ c.is_apart-from_is.ensures)
