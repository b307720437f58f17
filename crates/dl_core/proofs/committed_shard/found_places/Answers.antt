use Rattle.std.proofs.Common.{◌++◌, ◌∷◌, [], ℕ, ◌↔◌, take, get_or, sym, subst, ◌∙◌}
use Rattle.std.specs.List.{Contains}
use Rattle.std.proofs.lemmas.List.{take_all, take_more}
use Rattle.dl_terms.specs.declared.axiom.Fact.TheVariants.{Is}
use Rattle.dl_core.specs.Changes.{IsPlaceIn}
use Rattle.dl_core.proofs.ChangeLemmas.{no_places, places_more, places_same}
use Rattle.dl_core.proofs.committed_shard.found_places.Goals as goal
use Rattle.dl_core.proofs.committed_shard.found_places.Goals.{in-Some+in_ok-push, in_default}

pub loop-fact-init : goal.loop-fact-init
loop-fact-init c = subst
    (λ ps. (p : ℕ) → Contains ps p ↔ IsPlaceIn c.args.root.now c.args.i (take 0 c.args.facts.now) p)
    (sym c.new-places.ensures) (no_places c.args.root.now c.args.i)

pub loop-fact-preserved : goal.loop-fact-preserved
loop-fact-preserved c =
    let root = c.args.root.now in
    let facts = c.args.facts.now in
    let k = c.loop-fact.fact-index in
    let f = get_or facts k (Is 0 0) in
    let more = sym (take_more facts k (Is 0 0) c.loop-fact-test.true) in
    elim c.match-place_here.branch [
      | in-Some+in_ok-push w ↦
          subst (λ fs. (p : ℕ) → Contains c.match-place_here.places p ↔ IsPlaceIn root c.args.i fs p) more
          (subst (λ ps. (p : ℕ) → Contains ps p ↔ IsPlaceIn root c.args.i (take k facts ++ f ∷ []) p)
          (sym (w.places-is ∙ w.in_ok-push.ensures.ok))
          (places_more root c.args.i (take k facts) c.loop-fact.places c.loop-fact.invariant f w.in-Some.place
          w.in-Some.ensures))
      | in_default w ↦
          subst (λ fs. (p : ℕ) → Contains c.match-place_here.places p ↔ IsPlaceIn root c.args.i fs p) more
          (subst (λ ps. (p : ℕ) → Contains ps p ↔ IsPlaceIn root c.args.i (take k facts ++ f ∷ []) p) (sym w.places-is)
          (places_same root c.args.i (take k facts) c.loop-fact.places c.loop-fact.invariant f w.in_default.ensures))
    ]

pub returns : goal.returns
returns c =
    subst (λ fs. (p : ℕ) → Contains c.loop-fact.places p ↔ IsPlaceIn c.args.root.now c.args.i fs p)
    (take_all c.loop-fact.fact-index c.args.facts.now c.loop-fact-test.false) c.loop-fact.invariant
