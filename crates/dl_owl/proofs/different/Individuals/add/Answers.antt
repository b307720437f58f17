use Rattle.std.proofs.Common.{map, string_bytes, ap, ◌∙◌}
use Rattle.dl_names.proofs.SetLemmas.{insert_key_shown}
use Rattle.dl_owl.proofs.DifferentLemmas.{is_new_shown}
use Rattle.dl_owl.proofs.different.Individuals.add.Goals as goal

pub returns-clause-added : goal.returns-clause-added
returns-clause-added c =
    ap (map string_bytes) c.in_ok-new.ensures.keys
    ∙ insert_key_shown c.self.inside.texts.keys _ c.self.view_is c.args.text.now c.in_ok-owned.owned c.in_ok-owned.ensures.ok

pub returns-clause-is_new : goal.returns-clause-is_new
returns-clause-is_new c =
    c.in_ok-new.ensures.added
    ∙ is_new_shown c.self.inside.texts.keys _ c.self.view_is c.args.text.now c.in_ok-owned.owned c.in_ok-owned.ensures.ok
