use Rattle.std.proofs.Common.{◌≡◌, ◌<◌, get_or, sym, ap, subst, ◌∙◌}
use Rattle.std.specs.Arc.{arc_value}
use Rattle.dl_core.specs.Root.{Root, shard}
use Rattle.dl_core.specs.declared.held.Held.{Held}
use Rattle.dl_core.proofs.HeldLemmas.{shared_at}
use Rattle.dl_core.proofs.root.Root.shard.Goals as goal

pub returns : goal.returns
returns c =
    let held = arc_value c.self.inside.held in
    let i = c.args.i in
    let a = c.index-as_slice-i.result in
    let is = subst (λ xs. a ≡ get_or xs i a) (c.as_slice.ensures ∙ ap (λ (h : Held). h.shards) c.deref.ensures) c.index-as_slice-i.is in
    let h = subst (λ (r : Root). i < r.shards) (sym c.self.view_is) c.requires in
    c.deref-2.ensures
    ∙ shared_at arc_value _ held.shards i a c.self.invariant.shards_are h is
    ∙ ap (λ r. shard r i) c.self.view_is
