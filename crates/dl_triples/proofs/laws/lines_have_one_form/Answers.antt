use Rattle.dl_triples.proofs.FormLemmas.{one_triple, triple_no_nothing, triple_no_node, has_node_no_nothing}
use Rattle.dl_triples.proofs.TextUtf8Lemmas.{triple_utf8, nothing_utf8}
use Rattle.dl_triples.proofs.laws.lines_have_one_form.Goals as goal

pub returns : goal.returns
returns c = record {
  terms = λ line s p s' p' o o'. one_triple line s p o s' p' o';
  no_comment = triple_no_nothing;
  no_node = triple_no_node;
  no_node_in_comment = has_node_no_nothing;
  triple_text = triple_utf8;
  comment_text = nothing_utf8;
}
