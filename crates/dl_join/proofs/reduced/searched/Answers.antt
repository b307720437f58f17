use Rattle.std.proofs.Common.{◌⊎◌, inl, inr}
use Rattle.std.proofs.lemmas.Result.{err_from_is_err_and}
use Rattle.dl_join.specs.Searching.{IsGiven}
use Rattle.dl_join.specs.Gathering.{Has}
use Rattle.dl_join.proofs.GatherLemmas.{AreMoreThan-weaker, Gathers-same}
use Rattle.dl_join.proofs.JoinLemmas.{given_fitted, fitted_given, fitted_ready}
use Rattle.dl_join.proofs.reduced.searched.Goals as goal

pub fitted_needs-requires-clause-order : goal.fitted_needs-requires-clause-order
fitted_needs-requires-clause-order c = rw c.as_slice-2.ensures.value c.in_ok-order.ensures

pub search-requires-clause-ready : goal.search-requires-clause-ready
search-requires-clause-ready c =
    let fits = rw c.as_slice-2.ensures.value at c.in_ok-fitted.ensures in
    rw (c.as_slice-4.ensures.value, c.as_slice-5.ensures.value)
    (fitted_ready c.in_ok-order.order.items c.args.needs.now c.in_ok-fitted.fitted.items c.args.head.now fits c.requires.covered)

pub returns-in_err-search-clause-many : goal.returns-in_err-search-clause-many
returns-in_err-search-clause-many c = λ er.
    let needs = c.args.needs.now in
    let fitted = c.in_ok-fitted.fitted.items in
    let head = c.args.head.now in
    let fits = rw c.as_slice-2.ensures.value at c.in_ok-fitted.ensures in
    let p = err_from_is_err_and c.from_residual-in_err-search.result c.from_residual-in_err-search.ensures.1 in
    AreMoreThan-weaker c.args.gathered.now.limit (λ s. Has c.args.gathered.now s ⊎ IsGiven fitted head s) (λ s. Has c.args.gathered.now s ⊎ IsGiven needs head s)
    (λ s h. elim h [ inl was ↦ inl was | inr g ↦ inr (fitted_given c.in_ok-order.order.items needs fitted head fits s g) ])
    (rw c.as_slice-5.ensures.value at c.in_err-search.ensures.many (cc (p.1, p.2, er)))

pub returns-clause-ok : goal.returns-clause-ok
returns-clause-ok c =
    let needs = c.args.needs.now in
    let fitted = c.in_ok-fitted.fitted.items in
    let head = c.args.head.now in
    let fits = rw c.as_slice-2.ensures.value at c.in_ok-fitted.ensures in
    Gathers-same (IsGiven fitted head) (IsGiven needs head) c.args.gathered.now c.search.new.gathered
    (fitted_given c.in_ok-order.order.items needs fitted head fits) (given_fitted c.in_ok-order.order.items needs fitted head fits)
    (rw c.as_slice-5.ensures.value at c.in_ok-search.ensures.ok)
