use Rattle.std.proofs.Common.{◌<◌, Some, length, sym, ap, ◌∙◌, arith}
use Rattle.dl_names.proofs.SetLemmas.{length_shown, text_shown}
use Rattle.dl_names.proofs.set.NameSet.text_at.Goals as goal

pub returns-in-Some : goal.returns-in-Some
returns-in-Some c = λ _.
    text_shown c.self.inside.texts.keys _ c.self.view_is c.args.place c.in-Some.name.now (sym c.in-Some.ensures.key) ∙ ap Some (sym c.as_str.ensures.value)

pub returns-in-None : goal.returns-in-None
returns-in-None c = λ within.
    let here = length_shown c.self.inside.texts.keys _ c.self.view_is in
    let there : c.args.place < length c.self.inside.texts.keys = omega (arith, within, here) in
    absurd (let no = c.in-None.ensures.found.1 there in cc)
