use Rattle.std.proofs.Common.{◌≡◌, length, map, string_bytes, sym, subst, ◌∙◌, arith}
use Rattle.dl_names.specs.Frozen.{IsAscending, IsFrozen}
use Rattle.dl_names.proofs.ArrangeLemmas.{AreEntriesOf-placed, AreEntriesOf-IsPermutation, within_set, distinct_places, ascending, IsFrozen-sorted, texts_in}
use Rattle.dl_names.proofs.set.NameSet.freeze.Goals as goal

pub ranks_of-requires-clause-within : goal.ranks_of-requires-clause-within
ranks_of-requires-clause-within c =
    let of = AreEntriesOf-IsPermutation _ _ _ c.sort_unstable.ensures.permutation (AreEntriesOf-placed _ _ c.in_ok-entries.ensures.0 c.in_ok-entries.ensures.1 c.in_ok-entries.ensures.2) in
    λ k d k_in. omega (arith, within_set _ c.self.invariant.0 _ of k d k_in, c.sort_unstable.new.self.ok.0)

pub ranks_of-requires-clause-distinct : goal.ranks_of-requires-clause-distinct
ranks_of-requires-clause-distinct c =
    let of = AreEntriesOf-IsPermutation _ _ _ c.sort_unstable.ensures.permutation (AreEntriesOf-placed _ _ c.in_ok-entries.ensures.0 c.in_ok-entries.ensures.1 c.in_ok-entries.ensures.2) in
    distinct_places _ c.self.invariant.0 _ of

pub of-requires-clause-ascending : goal.of-requires-clause-ascending
of-requires-clause-ascending c =
    let of = AreEntriesOf-IsPermutation _ _ _ c.sort_unstable.ensures.permutation (AreEntriesOf-placed _ _ c.in_ok-entries.ensures.0 c.in_ok-entries.ensures.1 c.in_ok-entries.ensures.2) in
    subst IsAscending (sym c.in_ok-texts.ensures) (ascending _ c.self.invariant.0 _ of c.sort_unstable.ensures.sorted)

pub returns : goal.returns
returns c =
    let of = AreEntriesOf-IsPermutation _ _ _ c.sort_unstable.ensures.permutation (AreEntriesOf-placed _ _ c.in_ok-entries.ensures.0 c.in_ok-entries.ensures.1 c.in_ok-entries.ensures.2) in
    let entries = c.sort_unstable.new.self in
    let ranks = c.in_ok-ranks.ranks in
    let set = map string_bytes c.self.inside.texts.keys in
    let as_long : length ranks.items ≡ length entries.items = omega (arith, c.in_ok-ranks.ensures.len, ranks.ok.0, entries.ok.0) in
    let sorted = IsFrozen-sorted set c.self.invariant.0 _ of c.sort_unstable.ensures.sorted ranks.items as_long (λ k d lt. c.in_ok-ranks.ensures.ranked k d (omega (arith, lt, entries.ok.0))) in
    let names : c.of.result ≡ texts_in entries.items = c.of.ensures ∙ c.in_ok-texts.ensures in
    subst (λ l. IsFrozen l c.of.result c.of_places.result) c.self.view_is
    (subst (λ l. IsFrozen set l c.of_places.result) (sym names) (subst (λ l. IsFrozen set (texts_in entries.items) l) (sym c.of_places.ensures) sorted))
