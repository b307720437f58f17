use Rattle.std.proofs.Common.{◌<◌, Some, length, sym, ap, subst, ◌∙◌, arith}
use Rattle.dl_names.specs.NameList.{HasNoRepeats}
use Rattle.dl_names.proofs.NameListLemmas.{same-bytes_eq, place_of-slice_get, place_of-new}
use Rattle.dl_names.proofs.SetLemmas.{has_name_shown, length_shown, place_of_shown}
use Rattle.dl_names.proofs.set.NameSet.place_by.Goals as goal

pub returns-then-eq : goal.returns-then-eq
returns-then-eq c =
    let names = c.args.self.now in
    let known = c.in-Some.known.now in
    let here = length_shown c.self.inside.texts.keys _ c.self.view_is in
    let within : known.place < length names = omega (arith, here, c.if-known-len.true, c.len.ensures.len) in
    sym (place_of-slice_get names c.args.text.now (subst HasNoRepeats c.self.view_is c.self.invariant.0) known.place (c.requires c.in-Some.known c.in-Some.is within ∙ ap Some (same-bytes_eq known.text.now c.args.text.now (sym c.if-eq.ensures))))

pub returns-in-Some-get_index_of : goal.returns-in-Some-get_index_of
returns-in-Some-get_index_of c =
    sym (place_of_shown c.self.inside.texts.keys _ c.self.view_is c.args.text.now _ c.in-Some-get_index_of.ensures.index)

pub returns-in-None : goal.returns-in-None
returns-in-None c =
    let absent = has_name_shown c.self.inside.texts.keys _ c.self.view_is c.args.text.now ∙ sym c.in-None.ensures.found in
    c.len-in-None.ensures.len ∙ sym (length_shown c.self.inside.texts.keys _ c.self.view_is) ∙ sym (place_of-new c.args.self.now c.args.text.now absent)
