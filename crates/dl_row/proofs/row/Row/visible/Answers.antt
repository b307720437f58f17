use Rattle.std.proofs.Common.{◌&&◌, nat_lt, sym, ap, ◌∙◌}
use Rattle.std.proofs.lemmas.Bool.{le-leb, lt-leb}
use Rattle.dl_row.proofs.row.Row.visible.Goals as goal

pub returns-then-self-v : goal.returns-then-self-v
returns-then-self-v c =
    let r = c.args.self.now in
    sym (ap (λ b. b && nat_lt c.args.v r.last) (le-leb r.first c.args.v c.if-self-v.true))

pub returns-else-self-v : goal.returns-else-self-v
returns-else-self-v c =
    let r = c.args.self.now in
    let before = lt-leb r.first c.args.v c.if-self-v.false in
    before ∙ sym (ap (λ b. b && nat_lt c.args.v r.last) before)
