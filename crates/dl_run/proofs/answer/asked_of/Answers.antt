use Rattle.std.proofs.Common.{slice_index}
use Rattle.std.proofs.lemmas.Result.{err_from_is_err_and}
use Rattle.dl_names.proofs.NameListLemmas.{length-Extends}
use Rattle.dl_run.specs.Answered.{shards}
use Rattle.dl_run.proofs.AnswerLemmas.{base_stops, query_stops, memory_stops, gives_asked}
use Rattle.dl_run.proofs.InputLemmas.{ArePlaced-later}
use Rattle.dl_terms.proofs.RenamedLemmas.{well_formed_renamed}
use Rattle.dl_run.proofs.answer.asked_of.Goals as goal

pub read_base-requires : goal.read_base-requires
read_base-requires c = c.new-names.ensures

pub returns-in_err-document : goal.returns-in_err-document
returns-in_err-document c =
    let p = err_from_is_err_and c.from_residual.result c.from_residual.ensures.1 in
    base_stops c.args.ontology.items c.args.facts.items c.args.query.items c.requires p.0 c.from_residual.result p.1
    (rw p.2 (rw (c.as_slice.ensures.value, c.as_slice-2.ensures.value) at c.in_err-document.ensures.stop))

pub returns-in_err-read : goal.returns-in_err-read
returns-in_err-read c =
    let p = err_from_is_err_and c.from_residual-in_err-read.result c.from_residual-in_err-read.ensures.1 in
    query_stops c.args.ontology.items c.args.facts.items c.args.query.items c.requires c.in_ok-document.document c.in_ok-document.triples _
    (rw (c.as_slice.ensures.value, c.as_slice-2.ensures.value) at c.in_ok-document.ensures.read)
    _ _ p.0 c.from_residual-in_err-read.result p.1 p.2 (rw c.as_slice-3.ensures.value at c.in_err-read.ensures.fault)

pub returns-in_err-base : goal.returns-in_err-base
returns-in_err-base c =
    let p = err_from_is_err_and c.from_residual-in_err-base.result c.from_residual-in_err-base.ensures.1 in
    memory_stops c.args.ontology.items c.args.facts.items c.args.query.items p.0 c.from_residual-in_err-base.result p.1 p.2

pub numbered-requires : goal.numbered-requires
numbered-requires c = ArePlaced-later _ _ _ _ (length-Extends _ _ c.read_query.ensures.grows) c.in_ok-document.ensures.placed

pub rank_query-requires : goal.rank_query-requires
rank_query-requires c = rw c.in_ok-base.ensures.one_each c.in_ok-read.ensures.places

pub returns : goal.returns
returns c =
    gives_asked c.args.ontology.items c.args.facts.items c.args.query.items c.requires c.in_ok-document.document c.in_ok-document.triples _
    (rw (c.as_slice.ensures.value, c.as_slice-2.ensures.value) at c.in_ok-document.ensures.read)
    _ c.in_ok-read.read c.in_ok-base.ranks c.in_ok-base.base _
    (rw c.as_slice-3.ensures.value at c.in_ok-read.ensures.ok) (c.in_ok-base.ensures.numbered shards) c.rank_query.ensures c.in_ok-base.ensures.made
    (rw c.rank_query.ensures (well_formed_renamed (slice_index c.in_ok-base.ranks) c.in_ok-read.read (c.in_ok-read.ensures.ok).well_formed))
