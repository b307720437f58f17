use Rattle.std.proofs.Common.{◌≡◌, drop}
use Rattle.dl_tree.specs.Masks.{set_of}
use Rattle.dl_rewrite.specs.Steps.{first_in}
use Rattle.dl_rewrite.proofs.parts.member_of.Given as goal

abbrev pub invariant-loop-v : goal.invariant-loop-v
invariant-loop-v l =
    first_in (set_of l.variables l.part) l.variables ≡ first_in (set_of l.variables l.part) (drop l.v-index l.variables)
