use Rattle.std.proofs.Common.{◌≡◌, not, nat_eq, bit_and, sym, subst}
use Rattle.dl_tree.specs.Sets.{is_in}
use Rattle.dl_tree.specs.Masks.{set_of}
use Rattle.dl_rewrite.proofs.ListLemmas.{bit_tells}
use Rattle.dl_rewrite.proofs.parts.is_in.Goals as goal

pub returns : goal.returns
returns c =
    subst (λ b. not (nat_eq (bit_and b c.args.set) 0) ≡ is_in (set_of c.args.variables.now c.args.set) c.args.term) (sym c.bit_of.ensures)
    (bit_tells c.args.variables.now c.args.set c.args.term c.requires.fits)
