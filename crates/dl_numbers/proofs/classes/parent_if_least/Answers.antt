use Rattle.std.proofs.Common.{ℕ, ◌<◌, get_or, MatchOption, sym, subst}
use Rattle.std.specs.List.{All, Contains}
use Rattle.std.proofs.lemmas.List.Elements.{Contains-get_or}
use Rattle.std.proofs.lemmas.Result.{IfOk-weaker}
use Rattle.dl_numbers.specs.DepthFirst.{AreExactly, IsLeast, IsParent}
use Rattle.dl_numbers.specs.Places.{places, Reaches, IsLeaderAbove, IsLowest, IsFirstLowest}
use Rattle.dl_numbers.proofs.PlaceLemmas.{in_places, least_is}
use Rattle.dl_numbers.proofs.LowestLemmas.{parent_told}
use Rattle.dl_numbers.proofs.classes.parent_if_least.Goals as goal

pub returns-then-leaders-place : goal.returns-then-leaders-place
returns-then-leaders-place c = λ is p par. c.if-leaders-place.true (least_is c.args.order.now c.args.leaders.now c.requires.leaders c.args.place c.requires.within is)

pub first_lowest-requires-clause-within : goal.first_lowest-requires-clause-within
first_lowest-requires-clause-within c =
    let found = c.in_ok-above.above.items in
    let nodes = c.args.order.now.nodes in
    subst (All (λ other. other < nodes)) (sym c.deref.ensures.value)
    (λ k d h. (in_places nodes (get_or found k d)).0 ((c.in_ok-above.ensures.exact (get_or found k d)).0 (Contains-get_or found k d h)).0)

pub returns : goal.returns
returns c =
    let order = c.args.order.now in
    let leaders = c.args.leaders.now in
    let place = c.args.place in
    let above = c.deref.result.now in
    IfOk-weaker c.first_lowest.result (λ first. MatchOption first ((b : ℕ) → Contains above b → IsLowest order above b → ⊥) (λ b. IsFirstLowest order above b))
    (λ parent. IsLeast (places order.nodes) (Reaches order) place
    → MatchOption parent ((p : ℕ) → IsParent (places order.nodes) (Reaches order) p place → ⊥) (λ p. IsParent (places order.nodes) (Reaches order) p place))
    (λ first told is. parent_told order leaders c.requires.leaders place above
    (subst (AreExactly (places order.nodes) (λ other. IsLeaderAbove order leaders other place)) (sym c.deref.ensures.value) c.in_ok-above.ensures) first told)
    c.first_lowest.ensures
