use Rattle.std.proofs.Common.{refl, sym, ap, ◌∙◌, true≢false, subst, map, string_bytes, arith}
use Rattle.dl_names.specs.NameList.{names_after, HasNoRepeats}
use Rattle.dl_names.proofs.NameListLemmas.{names_after-old, place_of-names_after, place_of-new, HasNoRepeats-names_after, place_of-lt, has_name-names_after, length-names_after}
use Rattle.dl_names.proofs.SetLemmas.{has_name_shown, length_shown, place_of_shown, insert_key_shown}
use Rattle.dl_names.proofs.set.NameSet.add.Goals as goal

-- the text is there
pub returns-in-Some-clause-named : goal.returns-in-Some-clause-named
returns-in-Some-clause-named c =
    c.self.view_is ∙ sym (names_after-old c.args.self.now c.args.text.now (has_name_shown c.self.inside.texts.keys _ c.self.view_is c.args.text.now ∙ sym c.in-Some.ensures.found))

pub returns-in-Some-clause-place : goal.returns-in-Some-clause-place
returns-in-Some-clause-place c =
    sym (place_of-names_after c.args.self.now c.args.text.now ∙ place_of_shown c.self.inside.texts.keys _ c.self.view_is c.args.text.now _ c.in-Some.ensures.index)

pub returns-in-Some-clause-full : goal.returns-in-Some-clause-full
returns-in-Some-clause-full c =
    (λ e. cc, λ h. absurd (true≢false (c.in-Some.ensures.found ∙ sym (has_name_shown c.self.inside.texts.keys _ c.self.view_is c.args.text.now) ∙ h.1)))

-- the set is full
pub returns-then-count-clause-full : goal.returns-then-count-clause-full
returns-then-count-clause-full c =
    (λ _. (length_shown c.self.inside.texts.keys _ c.self.view_is ∙ sym c.len-count.ensures.len ∙ c.if-count.true, has_name_shown c.self.inside.texts.keys _ c.self.view_is c.args.text.now ∙ sym c.in_default.ensures.found), λ _. refl)

-- the text is new
pub returns-clause-named : goal.returns-clause-named
returns-clause-named c =
    ap (map string_bytes) c.in_ok-insert.ensures.keys ∙ insert_key_shown c.self.inside.texts.keys _ c.self.view_is c.args.text.now c.in_ok-owned.owned c.in_ok-owned.ensures.ok

pub returns-clause-place : goal.returns-clause-place
returns-clause-place c =
    let absent = has_name_shown c.self.inside.texts.keys _ c.self.view_is c.args.text.now ∙ sym c.in_default.ensures.found in
    c.len-count.ensures.len ∙ sym (length_shown c.self.inside.texts.keys _ c.self.view_is) ∙ sym (place_of-new c.args.self.now c.args.text.now absent) ∙ sym (place_of-names_after c.args.self.now c.args.text.now)

pub returns-clause-within : goal.returns-clause-within
returns-clause-within c =
    let named = place_of-lt (names_after c.args.self.now c.args.text.now) c.args.text.now (has_name-names_after c.args.self.now c.args.text.now) in
    rw (returns-clause-named c, returns-clause-place c) named

pub returns-clause-distinct : goal.returns-clause-distinct
returns-clause-distinct c =
    subst HasNoRepeats (sym (returns-clause-named c)) (HasNoRepeats-names_after c.args.self.now c.args.text.now (subst HasNoRepeats c.self.view_is c.self.invariant.0))

pub invariant_of-self-2 : goal.invariant_of-self-2
invariant_of-self-2 c =
    let longer = length-names_after c.args.self.now c.args.text.now in
    let here = length_shown c.self.inside.texts.keys _ c.self.view_is in
    let there = length_shown c.insert.new.self.keys _ (returns-clause-named c) in
    (returns-clause-distinct c, omega (arith, longer, here, there, c.self.invariant.1, c.len-count.ensures.len, c.if-count.false))

pub returns-then-count-clause-known : goal.returns-then-count-clause-known
returns-then-count-clause-known c = λ known. absurd (true≢false (sym known ∙ has_name_shown c.self.inside.texts.keys _ c.self.view_is c.args.text.now ∙ sym c.in_default.ensures.found))

pub returns-in_err-owned-clause-known : goal.returns-in_err-owned-clause-known
returns-in_err-owned-clause-known c = λ known. absurd (true≢false (sym known ∙ has_name_shown c.self.inside.texts.keys _ c.self.view_is c.args.text.now ∙ sym c.in_default.ensures.found))

pub returns-in_err-insert-clause-known : goal.returns-in_err-insert-clause-known
returns-in_err-insert-clause-known c = λ known. absurd (true≢false (sym known ∙ has_name_shown c.self.inside.texts.keys _ c.self.view_is c.args.text.now ∙ sym c.in_default.ensures.found))
