use Rattle.std.proofs.Common.{◌<◌, ◌++◌, length, sym, ap, subst, ◌∙◌, arith}
use Rattle.std.specs.List.{All}
use Rattle.dl_numbers.proofs.GrowLemmas.{order_count}
use Rattle.dl_numbers.proofs.BesideLemmas.{all_within, built_beside, built_numbered}
use Rattle.dl_numbers.proofs.numbering.Numbering.build.Goals as goal

pub names_at-requires : goal.names_at-requires
names_at-requires c =
    let found = c.in_ok-places.places.items in
    let names = c.args.names.now in
    subst (All (λ place. place < length names)) (sym c.deref.ensures.value)
    (subst (λ n. All (λ place. place < n) found) (sym c.requires.as_many) (all_within c.args.order.now found c.in_ok-places.ensures))

pub numbers_at-requires-clause-within : goal.numbers_at-requires-clause-within
numbers_at-requires-clause-within c =
    let found = c.in_ok-places.places.items in
    subst (λ xs. All (λ place. place < length xs) xs) (sym c.deref-2.ensures.value)
    (subst (λ n. All (λ place. place < n) found) (sym (order_count c.args.order.now found c.in_ok-places.ensures))
    (all_within c.args.order.now found c.in_ok-places.ensures))

pub numbers_at-requires-clause-few : goal.numbers_at-requires-clause-few
numbers_at-requires-clause-few c =
    let long = ap length c.deref-2.ensures.value in
    let count = order_count c.args.order.now c.in_ok-places.places.items c.in_ok-places.ensures in
    let is = c.nodes.ensures.count in
    let few = c.nodes.ensures.few in
    omega (arith, long, count, is, few)

pub invariant_of-result : goal.invariant_of-result
invariant_of-result c = built_beside c.args.names.now c.requires.ascending c.args.order.now c.requires.as_many
    (let is = c.nodes.ensures.count in let few = c.nodes.ensures.few in omega (arith, is, few)) c.in_ok-places.places.items c.in_ok-places.ensures
    c.deref.result.now c.deref-2.result.now c.extend_from_slice.new.self.items c.in_ok-numbers.numbers.items c.in_ok-in_number_order.in_number_order.items
    c.deref.ensures.value c.deref-2.ensures.value (c.in_ok-extend_from_slice.ensures.items ∙ ap (λ xs. xs ++ c.args.names.now) c.in_ok-ascending.ensures.items)
    c.in_ok-numbers.ensures c.in_ok-in_number_order.ensures

pub returns : goal.returns
returns c = built_numbered c.args.names.now c.requires.ascending c.args.order.now c.requires.as_many
    (let is = c.nodes.ensures.count in let few = c.nodes.ensures.few in omega (arith, is, few)) c.in_ok-places.places.items c.in_ok-places.ensures
    c.deref.result.now c.in_ok-in_number_order.in_number_order.items c.deref.ensures.value c.in_ok-in_number_order.ensures
