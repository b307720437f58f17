use Rattle.std.proofs.Common.{Some, sym, ap, ◌∙◌}
use Rattle.dl_names.proofs.NameListLemmas.{same-bytes_eq}
use Rattle.dl_names.proofs.SetLemmas.{text_shown}
use Rattle.dl_names.proofs.set.NameSet.is_at.Goals as goal

pub returns-in-Some-clause-at : goal.returns-in-Some-clause-at
returns-in-Some-clause-at c = λ same.
    text_shown c.self.inside.texts.keys _ c.self.view_is c.args.place c.in-Some.name.now (sym c.in-Some.ensures.key)
    ∙ ap Some (sym c.as_str.ensures.value ∙ same-bytes_eq c.as_str.result.now c.args.text.now (sym c.eq.ensures ∙ same))
