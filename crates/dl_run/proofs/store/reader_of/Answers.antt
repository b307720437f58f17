use Rattle.std.proofs.lemmas.Result.{err_from_is_err_and}
use Rattle.dl_run.specs.Answered.{shards}
use Rattle.dl_run.specs.Numbered.{base_of}
use Rattle.dl_run.proofs.StoreLemmas.{load_is, fault_stops, first_ready, reader_made}
use Rattle.dl_run.proofs.store.reader_of.Goals as goal

pub returns-in_err-root : goal.returns-in_err-root
returns-in_err-root c =
    let base = c.args.base.now in
    let load = (base_of shards base).load in
    let p = err_from_is_err_and c.from_residual.result c.from_residual.ensures.1 in
    let is = load_is base c.requires.made c.as_slice.result.now c.as_slice-2.result.now c.as_slice.ensures c.as_slice-2.ensures in
    rw p.1 (fault_stops load _ p.0 (c.in_err-root.ensures.refused load is) p.2)

pub step-requires : goal.step-requires
step-requires c =
    let base = c.args.base.now in
    let load = (base_of shards base).load in
    let is = load_is base c.requires.made c.as_slice.result.now c.as_slice-2.result.now c.as_slice.ensures c.as_slice-2.ensures in
    (first_ready load c.in_ok-root.root (c.in_ok-root.ensures.loaded load is), tt)

pub returns : goal.returns
returns c =
    let base = c.args.base.now in
    let load = (base_of shards base).load in
    let is = load_is base c.requires.made c.as_slice.result.now c.as_slice-2.result.now c.as_slice.ensures c.as_slice-2.ensures in
    reader_made load c.in_ok-root.root (c.in_ok-root.ensures.loaded load is)
    (c.in_ok-root-2.root, c.in_ok-root-2._pinned) c.in_ok-root-2.ensures.next c.in_ok-root-2.ensures.legal
    c.new.result c.new.ensures.reader c.new.ensures.stands
