use Rattle.dl_triples.proofs.RunLemmas.{trimmed_split}
use Rattle.dl_triples.proofs.runs.trimmed.Goals as goal

pub returns : goal.returns
returns c = trimmed_split c.args.bytes.now c.split.result.0.now c.split.result.1.now c.split.ensures
