use Rattle.std.proofs.Common.{nat_eq, eqb-true, sym, ap, subst, ◌∙◌, true≢false, arith}
use Rattle.std.proofs.lemmas.Cmp.{nat_eq_equiv}
use Rattle.dl_tree.specs.Sets.{IsConnected}
use Rattle.dl_tree.specs.Masks.{set_of}
use Rattle.dl_tree.proofs.PartLemmas.{part_is_whole}
use Rattle.dl_tree.proofs.TableLemmas.{empty_not_connected}
use Rattle.dl_tree.proofs.masks.is_connected.Goals as goal

pub returns-then-s-eq0 : goal.returns-then-s-eq0
returns-then-s-eq0 c = λ q ex masks numbering few fits. (
  λ f. absurd (true≢false (sym f)),
  λ all. absurd (empty_not_connected q ex (subst (λ n. IsConnected q (set_of ex n)) c.if-s-eq0.true all)),
)

pub returns : goal.returns
returns c = λ q ex masks numbering few fits.
    let z = c.if-s-eq0.false in
    let p = c.part_of.ensures q ex masks numbering few (omega (arith, z)) fits in (
      λ e. subst (λ n. IsConnected q (set_of ex n)) (eqb-true c.part_of.result c.args.s e) p.0,
      λ all. ap (λ n. nat_eq n c.args.s) (part_is_whole q ex numbering c.part_of.result c.args.s p.2 fits p.1 p.0 all) ∙ nat_eq_equiv.refl c.args.s,
    )
