use Rattle.dl_models.specs.Structures.{finite}
use Rattle.dl_models.proofs.BelowLemmas.{satisfied}
use Rattle.dl_models.proofs.MapLemmas.{image, mapped}
use Rattle.dl_models.proofs.HomomorphismLemmas.{certain-holds}
use Rattle.dl_models.proofs.laws.answers_hold.Goals as goal

pub returns : goal.returns
returns c =
    let model = c.args.model.now in
    let axioms = c.args.axioms.now in
    let facts = c.args.facts.now in
    let is = c.requires.is_model in
    let included = satisfied (finite model) axioms c.requires.no_auxiliary is.axioms_accepted in
    certain-holds (finite model) axioms facts is.facts_hold (image model) (mapped model axioms facts included is.facts_hold) c.args.query.now
    c.args.tuple.now c.requires.well_formed c.requires.certain
