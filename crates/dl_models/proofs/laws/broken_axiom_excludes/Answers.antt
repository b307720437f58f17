use Rattle.dl_models.specs.Structures.{finite}
use Rattle.dl_models.proofs.MapLemmas.{image, mapped}
use Rattle.dl_models.proofs.BrokenLemmas.{refused, not_empty}
use Rattle.dl_models.proofs.laws.broken_axiom_excludes.Goals as goal

pub returns : goal.returns
returns c =
    let model = c.args.model.now in
    let axioms = c.args.axioms.now in
    let facts = c.args.facts.now in
    let is = mapped model axioms facts c.requires.inclusions c.requires.facts in
    record {
      named = refused (finite model) axioms facts c.args.nothing c.requires.no_auxiliary c.requires.facts (image model) is;
      unnamed = not_empty (finite model) axioms facts c.args.nothing c.requires.no_auxiliary c.requires.facts (image model) is;
    }
