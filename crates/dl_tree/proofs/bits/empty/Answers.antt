use Rattle.std.proofs.Common.{◌+◌, ◌/◌, refl}
use Rattle.std.proofs.lemmas.Result.{IfOk-weaker}
use Rattle.dl_tree.proofs.BitLemmas.{no_bits, room}
use Rattle.dl_tree.proofs.bits.empty.Goals as goal

pub returns-clause-wide : goal.returns-clause-wide
returns-clause-wide c = IfOk-weaker c.words.result _ _ (λ row is. room c.args.places (c.args.places / 64 + 1) 0 row.items refl is) c.words.ensures

pub returns-clause-none : goal.returns-clause-none
returns-clause-none c = IfOk-weaker c.words.result _ _ (λ row is. no_bits (c.args.places / 64 + 1) row.items is) c.words.ensures
