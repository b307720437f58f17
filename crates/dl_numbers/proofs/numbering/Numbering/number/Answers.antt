use Rattle.std.proofs.Common.{◌≡◌, ℕ, ◌<◌, Ok, Err, Contains, length, get_or, sym, ap, subst, ◌∙◌, arith}
use Rattle.std.specs.Ordering.{nat_cmp}
use Rattle.std.specs.List.Sorted.{IsBinarySearchResult}
use Rattle.std.proofs.lemmas.List.{get_or_default}
use Rattle.dl_numbers.specs.Numbers.{HasNumber}
use Rattle.dl_numbers.proofs.BesideLemmas.{beside_found, beside_none, number_few}
use Rattle.dl_numbers.proofs.numbering.Numbering.number.Goals as goal

pub returns-in-Ok : goal.returns-in-Ok
returns-in-Ok c =
    let kept = c.self.inside in
    let numbered = kept.in_number_order.items in
    let name = c.args.name in
    let place = c.in-Ok.place in
    let number = c.index.result.now in
    let are = c.self.invariant in
    let found = subst (λ xs. IsBinarySearchResult (λ y. nat_cmp y name) xs (Ok place)) c.deref.ensures.value c.in-Ok.ensures.position in
    let within : place < length kept.numbers.items =
    (let bound = c.in-Ok.ensures.bound in let long = ap length c.deref.ensures.value in let count = are.count in omega (arith, bound, long, count)) in
    let read : get_or kept.numbers.items place 0 ≡ number = get_or_default kept.numbers.items place 0 number within ∙ sym c.index.ensures in
    let has = subst (HasNumber numbered name) read (beside_found kept.ascending.items kept.numbers.items numbered are name place found) in record {
      number = subst (λ xs. HasNumber xs name number) c.self.view_is has;
      only = subst (λ xs. (m : ℕ) → HasNumber xs name m → m ≡ number) c.self.view_is (λ m h. are.are.one name m number h has);
      few = number_few kept.ascending.items kept.numbers.items numbered are name number has;
    }

pub returns-in-Err-clause-number : goal.returns-in-Err-clause-number
returns-in-Err-clause-number c =
    let kept = c.self.inside in
    let name = c.args.name in
    let place = c.in-Err.field-0 in
    let found = subst (λ xs. IsBinarySearchResult (λ y. nat_cmp y name) xs (Err place)) c.deref.ensures.value c.in-Err.ensures.position in
    subst (λ xs. Contains xs name → ⊥) c.self.view_is
    (beside_none kept.ascending.items kept.numbers.items kept.in_number_order.items c.self.invariant name place found)
