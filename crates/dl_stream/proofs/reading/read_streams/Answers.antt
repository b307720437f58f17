use Rattle.std.proofs.Common.{Result, Ok, Err, OnErr, subst}
use Rattle.std.proofs.lemmas.Bool.{false≢true}
use Rattle.std.proofs.lemmas.Result.{err_from_is_err_and}
use Rattle.dl_stream.specs.Parts.{IsFirstLine}
use Rattle.dl_stream.proofs.UniqueLemmas.{value_no_told, first_told, all_read, all_told}
use Rattle.dl_stream.proofs.TextLemmas.{Read-first, Read-next, Line-fault, Line-part, Line-grows, Ends-value, Ends-fault}
use Rattle.dl_stream.proofs.FitLemmas.{told_below, told_fit, told_few, told_fewer}
use Rattle.dl_stream.proofs.reading.read_streams.Goals as goal

-- what holds anyway, holds after an error
on_err : {T E : Type 0} (r : Result T E) {P : Type 0} → P → OnErr r P
on_err (Ok v) h = tt
on_err (Err e) h = h

pub lines-init : goal.lines-init
lines-init c = Read-first c.args.bytes.now c.args.names.now

pub returns-in_err-place-clause-fault : goal.returns-in_err-place-clause-fault
returns-in_err-place-clause-fault c =
    let p = err_from_is_err_and c.from_residual.result c.from_residual.ensures.1 in
    rw p.1 (Line-fault c.args.bytes.now c.lines.rest.now c.args.names.now c.lines.names c.lines.n c.lines.place c.lines.invariant c.first_line.result.0.now c.first_line.result.1 c.first_line.ensures c.in_err-place.field-0.0 p.0 p.2 c.in_err-place.ensures.fault)

pub returns-in_err-place-clause-value_read : goal.returns-in_err-place-clause-value_read
returns-in_err-place-clause-value_read c = λ lists after value.
    let p = err_from_is_err_and c.from_residual.result c.from_residual.ensures.1 in
    let is_first = Line-fault c.args.bytes.now c.lines.rest.now c.args.names.now c.lines.names c.lines.n c.lines.place c.lines.invariant c.first_line.result.0.now c.first_line.result.1 c.first_line.ensures c.in_err-place.field-0.0 p.0 p.2 c.in_err-place.ensures.fault in
    rw p.1 (value_no_told c.args.bytes.now c.args.names.now p.0 is_first lists after value)

pub returns-in_err-place-clause-fault_told : goal.returns-in_err-place-clause-fault_told
returns-in_err-place-clause-fault_told c = λ first has.
    let p = err_from_is_err_and c.from_residual.result c.from_residual.ensures.1 in
    let is_first = Line-fault c.args.bytes.now c.lines.rest.now c.args.names.now c.lines.names c.lines.n c.lines.place c.lines.invariant c.first_line.result.0.now c.first_line.result.1 c.first_line.ensures c.in_err-place.field-0.0 p.0 p.2 c.in_err-place.ensures.fault in
    rw p.1 (first_told c.args.bytes.now c.args.names.now p.0 is_first first has, λ ok. false≢true ok)

pub returns-in_err-place-clause-part : goal.returns-in_err-place-clause-part
returns-in_err-place-clause-part c =
    let p = err_from_is_err_and c.from_residual.result c.from_residual.ensures.1 in
    rw p.1 (Line-part c.args.bytes.now c.lines.rest.now c.args.names.now c.lines.names c.lines.n c.lines.place c.lines.invariant c.first_line.result.0.now c.first_line.result.1 c.first_line.ensures c.read_line.new.names c.in_err-place.ensures.grows)

pub returns-in_default-clause-value : goal.returns-in_default-clause-value
returns-in_default-clause-value c =
    let first = subst (IsFirstLine c.lines.rest.now c.first_line.result.0.now) c.in_default.is c.first_line.ensures in
    Ends-value c.args.bytes.now c.lines.rest.now c.args.names.now c.lines.names c.lines.n c.lines.place c.lines.invariant c.first_line.result.0.now first c.read_line.new.names c.in_ok-place.place c.in_ok-place.ensures.ok.gives c.streams_at.result c.streams_at.ensures

pub returns-in_default-clause-fault : goal.returns-in_default-clause-fault
returns-in_default-clause-fault c =
    let first = subst (IsFirstLine c.lines.rest.now c.first_line.result.0.now) c.in_default.is c.first_line.ensures in
    Ends-fault c.args.bytes.now c.lines.rest.now c.args.names.now c.lines.names c.lines.n c.lines.place c.lines.invariant c.first_line.result.0.now first c.read_line.new.names c.in_ok-place.place c.in_ok-place.ensures.ok.gives c.streams_at.result c.streams_at.ensures

pub returns-in_default-clause-value_read : goal.returns-in_default-clause-value_read
returns-in_default-clause-value_read c = λ lists after value.
    all_read c.args.bytes.now c.args.names.now c.read_line.new.names c.streams_at.result (returns-in_default-clause-value c) (returns-in_default-clause-fault c) lists after value

pub returns-in_default-clause-fault_told : goal.returns-in_default-clause-fault_told
returns-in_default-clause-fault_told c = λ first has.
    all_told c.args.bytes.now c.args.names.now c.read_line.new.names c.streams_at.result (returns-in_default-clause-value c) (returns-in_default-clause-fault c) first has

pub returns-in_default-clause-part : goal.returns-in_default-clause-part
returns-in_default-clause-part c = on_err c.streams_at.result (Line-part c.args.bytes.now c.lines.rest.now c.args.names.now c.lines.names c.lines.n c.lines.place c.lines.invariant c.first_line.result.0.now c.first_line.result.1 c.first_line.ensures c.read_line.new.names c.in_ok-place.ensures.grows)

pub lines-smaller : goal.lines-smaller
lines-smaller c =
    let first = subst (IsFirstLine c.lines.rest.now c.first_line.result.0.now) c.in-Some.is c.first_line.ensures in
    first.shorter

pub lines-preserved : goal.lines-preserved
lines-preserved c =
    let first = subst (IsFirstLine c.lines.rest.now c.first_line.result.0.now) c.in-Some.is c.first_line.ensures in
    Read-next c.args.bytes.now c.lines.rest.now c.args.names.now c.lines.names c.lines.n c.lines.place c.lines.invariant c.first_line.result.0.now c.in-Some.next.now c.read_line.new.names c.in_ok-place.place first c.in_ok-place.ensures.ok.gives c.in_ok-place.ensures.ok.counted c.in_ok-place.ensures.grows

pub returns-in_default-clause-places : goal.returns-in_default-clause-places
returns-in_default-clause-places c = told_below c.args.bytes.now c.args.names.now c.read_line.new.names c.streams_at.result (returns-in_default-clause-value c)

pub returns-in_default-clause-fit : goal.returns-in_default-clause-fit
returns-in_default-clause-fit c = told_fit c.args.bytes.now c.args.names.now c.read_line.new.names c.streams_at.result (returns-in_default-clause-value c)

pub returns-in_default-clause-few : goal.returns-in_default-clause-few
returns-in_default-clause-few c = told_few c.args.bytes.now c.args.names.now c.read_line.new.names c.streams_at.result (returns-in_default-clause-value c)

pub returns-in_default-clause-fewer : goal.returns-in_default-clause-fewer
returns-in_default-clause-fewer c = told_fewer c.args.bytes.now c.args.names.now c.read_line.new.names c.streams_at.result (returns-in_default-clause-value c)

pub returns-in_err-place-clause-grows : goal.returns-in_err-place-clause-grows
returns-in_err-place-clause-grows c = Line-grows c.args.bytes.now c.lines.rest.now c.args.names.now c.lines.names c.lines.n c.lines.place c.lines.invariant c.first_line.result.0.now c.read_line.new.names c.in_err-place.ensures.grows

pub returns-in_default-clause-grows : goal.returns-in_default-clause-grows
returns-in_default-clause-grows c = Line-grows c.args.bytes.now c.lines.rest.now c.args.names.now c.lines.names c.lines.n c.lines.place c.lines.invariant c.first_line.result.0.now c.read_line.new.names c.in_ok-place.ensures.grows
