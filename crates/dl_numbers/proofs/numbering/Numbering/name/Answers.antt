use Rattle.std.proofs.Common.{◌≤◌, length, ap, subst, arith}
use Rattle.dl_numbers.specs.Numbers.{HasNumber}
use Rattle.dl_numbers.proofs.NumberLemmas.{named_at}
use Rattle.dl_numbers.proofs.numbering.Numbering.name.Goals as goal

pub returns : goal.returns
returns c =
    let names = c.self.inside.in_number_order.items in
    let number = c.args.number in
    let within : number ≤ length names = (let shown = ap length c.self.view_is in let w = c.requires.within in omega arith) in
    subst (λ xs. HasNumber xs c.index.result.now number) c.self.view_is (named_at names number c.index.result.now c.requires.from_one within c.index.ensures)
