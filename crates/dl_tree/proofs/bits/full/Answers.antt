use Rattle.std.proofs.Common.{◌≡◌, ◌+◌, ◌/◌, true, subst, sym, refl}
use Rattle.dl_tree.specs.Rows.{TellsRow}
use Rattle.dl_tree.proofs.BitLemmas.{all_bits}
use Rattle.dl_tree.proofs.bits.full.Goals as goal

pub returns : goal.returns
returns c =
    subst (TellsRow c.args.places (λ i. true ≡ true)) (sym c.of.ensures)
    (all_bits c.args.places (c.args.places / 64 + 1) c.in_ok-words.field-0.items refl c.in_ok-words.ensures)
