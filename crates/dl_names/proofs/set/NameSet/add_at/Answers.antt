use Rattle.std.proofs.Common.{sym, ◌∙◌, true≢false}
use Rattle.std.proofs.lemmas.Option.{slice_get_within}
use Rattle.dl_names.proofs.NameListLemmas.{has_name-slice_get, names_after-old, place_of-slice_get, place_of-names_after}
use Rattle.dl_names.proofs.set.NameSet.add_at.Goals as goal

-- the name at the place is the text
pub returns-then-is_at-clause-named : goal.returns-then-is_at-clause-named
returns-then-is_at-clause-named c =
    sym (names_after-old c.args.self.now c.args.text.now (has_name-slice_get c.args.self.now c.args.text.now c.args.place (c.is_at.ensures.at c.if-is_at.true)))

pub returns-then-is_at-clause-place : goal.returns-then-is_at-clause-place
returns-then-is_at-clause-place c =
    sym (place_of-names_after c.args.self.now c.args.text.now ∙ place_of-slice_get c.args.self.now c.args.text.now c.is_at.ensures.distinct c.args.place (c.is_at.ensures.at c.if-is_at.true))

pub returns-then-is_at-clause-within : goal.returns-then-is_at-clause-within
returns-then-is_at-clause-within c = slice_get_within c.args.self.now c.args.place c.args.text.now (c.is_at.ensures.at c.if-is_at.true)

pub returns-then-is_at-clause-full : goal.returns-then-is_at-clause-full
returns-then-is_at-clause-full c =
    (λ e. cc, λ h. absurd (true≢false (sym (has_name-slice_get c.args.self.now c.args.text.now c.args.place (c.is_at.ensures.at c.if-is_at.true)) ∙ h.1)))
