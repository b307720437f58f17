use Rattle.dl_models.specs.Structures.{finite}
use Rattle.dl_models.proofs.BelowLemmas.{satisfied}
use Rattle.dl_models.proofs.MapLemmas.{image, mapped}
use Rattle.dl_models.proofs.BrokenLemmas.{no_model}
use Rattle.dl_models.proofs.laws.broken_excludes.Goals as goal

pub returns : goal.returns
returns c =
    λ is. let model = c.args.model.now in
    let axioms = c.args.axioms.now in
    let facts = c.args.facts.now in
    let included = satisfied (finite model) axioms c.requires.no_auxiliary is.axioms_accepted in
    no_model (finite model) axioms facts c.args.nothing c.requires.no_auxiliary is.facts_hold (image model)
    (mapped model axioms facts included is.facts_hold) c.requires.broken.0 c.requires.broken.1 is
