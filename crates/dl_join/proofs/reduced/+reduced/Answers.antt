use Rattle.std.proofs.Common.{◌<◌, not, refl, arith}
use Rattle.std.proofs.lemmas.Bool.Decides.{nat_tests}
use Rattle.dl_join.specs.Searching.{IsGiven}
use Rattle.dl_join.proofs.LeafLemmas.{near_fitted, joined_near, given_reduced, reduced_given, reduced_covered, reduced_fitted, ok_alike, over_alike}
use Rattle.dl_join.proofs.reduced.+reduced.Goals as goal

pub made_names-requires-clause-needs : goal.made_names-requires-clause-needs
made_names-requires-clause-needs t c =
    rw c.as_slice-2.ensures.value
    (near_fitted (not c.is_once-wide.result) c.in-Some.leaf c.in-Some.to c.args.needs.now c.in_ok-near.near.items _ c.in_ok-near.ensures refl c.args.head.now c.in-Some.ensures c.requires.needs)

pub made_names-requires-clause-some : goal.made_names-requires-clause-some
made_names-requires-clause-some t c =
    rw c.as_slice-2.ensures.value
    (joined_near (not c.is_once-wide.result) c.in-Some.leaf c.in-Some.to c.args.needs.now c.in_ok-near.near.items _ c.in_ok-near.ensures refl c.args.head.now c.in-Some.ensures)

pub names_of-requires : goal.names_of-requires
names_of-requires t c =
    rw (c.as_slice-3.ensures.value, c.as_slice-4.ensures)
    (record {
      needs = near_fitted (not c.is_once-wide.result) c.in-Some.leaf c.in-Some.to c.args.needs.now c.in_ok-near.near.items _ c.in_ok-near.ensures refl c.args.head.now c.in-Some.ensures
          c.requires.needs;
      lone = rw c.as_slice.ensures.value at c.is_lone-lone.ensures;
      made = rw c.as_slice-2.ensures.value at c.in_ok-made.ensures;
    })

pub reduced-requires : goal.reduced-requires
reduced-requires t c =
    let wide = not c.is_once-wide.result in
    let near = c.in_ok-near.near.items in
    let beyond = c.in_ok-beyond.beyond.items in
    let names = rw c.as_slice-3.ensures.value at c.names_of.ensures.names in
    let some : 0 < c.args.most = grind (arith, nat_tests, c.if-most-eq0.false) in (
      omega (arith, c.decreases, some),
      (
        rw (c.as_slice-5.ensures.value, c.in_ok-push.ensures.items)
            (reduced_fitted wide c.in-Some.leaf c.in-Some.to c.args.needs.now near beyond c.in_ok-near.ensures c.in_ok-beyond.ensures c.args.head.now c.in-Some.ensures
            c.names_of.result.now names _ refl refl refl refl c.requires.needs c.names_of.ensures.ascending),
        (
          rw (c.as_slice-5.ensures.value, c.in_ok-push.ensures.items)
              (reduced_covered wide c.in-Some.leaf c.in-Some.to c.args.needs.now near beyond c.in_ok-near.ensures c.in_ok-beyond.ensures c.args.head.now c.in-Some.ensures
              c.names_of.result.now names _ refl refl refl refl c.requires.covered),
          (c.requires.gathered, c.requires.width),
        ),
      ),
    )

pub returns-clause-ok : goal.returns-clause-ok
returns-clause-ok t c =
    let wide = not c.is_once-wide.result in
    let near = c.in_ok-near.near.items in
    let beyond = c.in_ok-beyond.beyond.items in
    let names = rw c.as_slice-3.ensures.value at c.names_of.ensures.names in
    ok_alike _ (IsGiven c.args.needs.now c.args.head.now) c.args.gathered.now c.reduced.new.gathered c.reduced.result
    (reduced_given wide c.in-Some.leaf c.in-Some.to c.args.needs.now near beyond c.in_ok-near.ensures c.in_ok-beyond.ensures c.args.head.now c.in-Some.ensures
    c.names_of.result.now names _ refl refl refl refl)
    (given_reduced wide c.in-Some.leaf c.in-Some.to c.args.needs.now near beyond c.in_ok-near.ensures c.in_ok-beyond.ensures c.args.head.now c.in-Some.ensures
    c.names_of.result.now names _ refl refl refl refl)
    (rw (c.as_slice-5.ensures.value, c.in_ok-push.ensures.items) at c.reduced.ensures.ok)

pub returns-clause-many : goal.returns-clause-many
returns-clause-many t c = λ e.
    let wide = not c.is_once-wide.result in
    let near = c.in_ok-near.near.items in
    let beyond = c.in_ok-beyond.beyond.items in
    let names = rw c.as_slice-3.ensures.value at c.names_of.ensures.names in
    over_alike _ (IsGiven c.args.needs.now c.args.head.now) c.args.gathered.now c.args.gathered.now.limit
    (reduced_given wide c.in-Some.leaf c.in-Some.to c.args.needs.now near beyond c.in_ok-near.ensures c.in_ok-beyond.ensures c.args.head.now c.in-Some.ensures
    c.names_of.result.now names _ refl refl refl refl)
    (rw (c.as_slice-5.ensures.value, c.in_ok-push.ensures.items) at c.reduced.ensures.many e)
