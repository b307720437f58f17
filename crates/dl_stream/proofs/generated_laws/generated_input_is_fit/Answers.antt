use Rattle.std.proofs.Common.{◌+◌}
use Rattle.std.proofs.lemmas.List.FromFn.{length-map-range_with_len}
use Rattle.dl_stream.specs.Generator.{name_text}
use Rattle.dl_stream.proofs.GeneratedInputLemmas.{axioms_without_auxiliary, edits_without_auxiliary, query_formed, axiom_names_below, fact_names_below, command_names_below}
use Rattle.dl_stream.proofs.generated_laws.generated_input_is_fit.Goals as goal

pub returns : goal.returns
returns c = record {
  names = λ size. length-map-range_with_len (name_text size) 0 (40 + size);
  axioms = axioms_without_auxiliary;
  edits = edits_without_auxiliary;
  query = query_formed;
  axiom_names = axiom_names_below;
  fact_names = fact_names_below;
  command_names = command_names_below;
}
