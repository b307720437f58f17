use Rattle.std.proofs.Common.{◌∙◌, ap, refl, Err}
use Rattle.dl_query.proofs.StatementLemmas.{place-room, place-full}
use Rattle.dl_query.proofs.statement.place_of.Goals as goal

pub returns-in-Ok-clause-room : goal.returns-in-Ok-clause-room
returns-in-Ok-clause-room c = place-room c.args.names.now c.add.new.self c.args.text.now c.in-Ok.ensures.named c.add.ensures.fits

pub returns-in-Err-Full-clause-full : goal.returns-in-Err-Full-clause-full
returns-in-Err-Full-clause-full c = λ no.
    let full = (c.add.ensures.full).0 (c.in-Err-Full.is ∙ ap Err c.in-Err-Full.field-0-is) in
    (refl, place-full c.args.names.now c.args.text.now full.0 full.1)
