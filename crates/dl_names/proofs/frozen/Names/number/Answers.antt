use Rattle.std.proofs.Common.{◌≡◌, false, Some, map, slice_get, string_bytes, true≢false, sym, ap, subst, ◌∙◌, rules}
use Rattle.std.proofs.lemmas.Fn.{always_returns_same}
use Rattle.std.proofs.lemmas.Option.{same_Some}
use Rattle.dl_names.specs.NameList.{has_name}
use Rattle.dl_names.specs.Frozen.{IsAscending}
use Rattle.dl_names.proofs.NameListLemmas.{has_name-slice_get}
use Rattle.dl_names.proofs.FrozenLemmas.{number-unique}
use Rattle.dl_names.proofs.SearchLemmas.{compared_with, found, missing}
use Rattle.dl_names.proofs.frozen.Names.number.Goals as goal

-- the name at the index that the search gives has the text
at_index : (c : goal.In-Ok) → slice_get c.args.self.now c.in-Ok.n ≡ Some c.args.text.now
at_index c =
    found c.deref.result.now c.args.self.now (ap (map string_bytes) c.deref.ensures.value ∙ c.self.view_is) c.args.text.now c.in-Ok.n c.in-Ok.ensures.bound
    (c.in-Ok.ensures.position (compared_with c.args.text.now) (always_returns_same _ _ _ (λ a r f called. (search rules, search rules))))

-- where it gives none, the text is no name
no_name : (c : goal.In-Err) → has_name c.args.self.now c.args.text.now ≡ false
no_name c =
    missing c.deref.result.now c.args.self.now (ap (map string_bytes) c.deref.ensures.value ∙ c.self.view_is) c.args.text.now (subst IsAscending c.self.view_is c.self.invariant.0) c.in-Err.field-0
    (c.in-Err.ensures.position (compared_with c.args.text.now) (always_returns_same _ _ _ (λ a r f called. (search rules, search rules))))

pub returns-in-Ok-clause-some : goal.returns-in-Ok-clause-some
returns-in-Ok-clause-some c = λ n. (
  λ same. subst (λ m. slice_get c.args.self.now m ≡ Some c.args.text.now) (same_Some c.in-Ok.n n same) (at_index c),
  λ at. ap Some (number-unique c.args.self.now (subst IsAscending c.self.view_is c.self.invariant.0) c.in-Ok.n n c.args.text.now (at_index c) at),
)

pub returns-in-Ok-clause-none : goal.returns-in-Ok-clause-none
returns-in-Ok-clause-none c = sym (has_name-slice_get c.args.self.now c.args.text.now c.in-Ok.n (at_index c))

pub returns-in-Err-clause-some : goal.returns-in-Err-clause-some
returns-in-Err-clause-some c = λ n.
    (λ none. cc, λ at. absurd (true≢false (sym (has_name-slice_get c.args.self.now c.args.text.now n at) ∙ no_name c)))

pub returns-in-Err-clause-none : goal.returns-in-Err-clause-none
returns-in-Err-clause-none c = sym (no_name c)
