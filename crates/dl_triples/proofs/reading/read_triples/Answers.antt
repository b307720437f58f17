use Rattle.std.proofs.Common.{◌≡◌, ◌≢◌, ℕ, ◌+◌, [], List, Option, Bor, sym, subst, ◌∙◌, arith}
use Rattle.std.proofs.lemmas.Bool.{false≢true}
use Rattle.std.proofs.lemmas.Result.{err_from_is_err_and}
use Rattle.dl_names.specs.NameList.{Text}
use Rattle.dl_terms.specs.declared.axiom.Fact.{Fact}
use Rattle.dl_triples.specs.declared.fault.TripleFault.{TripleFault}
use Rattle.dl_triples.specs.declared.fault.TripleFault.TheVariants as faults
use Rattle.dl_triples.specs.Reading.{HasFault, IsFirstFault, HoldsPart}
use Rattle.dl_triples.proofs.AddLemmas.{on_err_always}
use Rattle.dl_triples.proofs.ValueLemmas.{one_value, value_no_fault, value_no_told, first_told}
use Rattle.dl_triples.proofs.PlaceLemmas.{read_within}
use Rattle.dl_triples.specs.Parts.{IsFirstLine}
use Rattle.dl_triples.specs.Progress.{Read}
use Rattle.dl_triples.proofs.TextLemmas.{Read-first, Read-held, Read-ahead, length-AreCut, Read-next, Read-all, Read-fault, Read-part, behind_shorter}
use Rattle.dl_triples.proofs.reading.read_triples.Goals as goal

pub lines-init : goal.lines-init
lines-init c = subst (λ l. Read c.args.bytes.now c.args.bytes.now c.args.names.now c.args.names.now 1 l 0) (sym c.new.ensures) (Read-first c.args.bytes.now c.args.names.now)

-- the fault of the line is the first one
first_fault : (bytes rest : List ℕ) (names now : List Text) (n : ℕ) (facts : List Fact) (skipped : ℕ) (read : Read bytes rest names now n facts skipped) (line : List ℕ) (behind : Option (Bor (List ℕ))) → IsFirstLine rest line behind
    → (fault told : TripleFault) → told ≡ fault → (fault ≢ faults.NoMemory → HasFault line now n fault) → told ≢ faults.NoMemory → IsFirstFault bytes names told
first_fault bytes rest names now n facts skipped read line behind first fault told same has other =
    Read-fault bytes rest names now n facts skipped read line behind first told (subst (HasFault line now n) (sym same) (has (λ e. other (same ∙ e))))

-- memory is wanting before any line
pub returns-in_err-ahead-clause-part : goal.returns-in_err-ahead-clause-part
returns-in_err-ahead-clause-part c =
    on_err_always c.from_residual.result (Read-held c.args.bytes.now c.args.bytes.now c.args.names.now c.args.names.now 1 [] 0 (Read-first c.args.bytes.now c.args.names.now))

-- or before the next lines
pub returns-in_err-next-clause-part : goal.returns-in_err-next-clause-part
returns-in_err-next-clause-part c =
    on_err_always c.from_residual-in_err-next.result
    (subst (HoldsPart c.args.bytes.now c.args.names.now) (sym c.look.ensures.names)
    (Read-held c.args.bytes.now c.lines.rest.now c.args.names.now c.lines.names c.lines.n c.lines.triples.facts c.lines.triples.skipped c.lines.invariant))

-- a line that was cut ahead has a fault
pub returns-in_err-read_ahead-clause-fault : goal.returns-in_err-read_ahead-clause-fault
returns-in_err-read_ahead-clause-fault c =
    let p = err_from_is_err_and c.from_residual-in_err-read_ahead.result c.from_residual-in_err-read_ahead.ensures.1 in
    let is_first : p.0 ≢ faults.NoMemory → IsFirstFault c.args.bytes.now c.args.names.now p.0 =
    λ other. subst (IsFirstFault c.args.bytes.now c.args.names.now) (sym p.2) (c.in_err-read_ahead.ensures.fault c.args.bytes.now c.lines.rest.now c.in_ok-next.next.now c.args.names.now (subst (λ l. Read c.args.bytes.now c.lines.rest.now c.args.names.now l c.lines.n c.lines.triples.facts c.lines.triples.skipped) (sym c.look.ensures.names) c.lines.invariant) c.in_ok-next.ensures.ok (λ e. other (p.2 ∙ e))) in
    rw p.1 is_first

pub returns-in_err-read_ahead-clause-value_read : goal.returns-in_err-read_ahead-clause-value_read
returns-in_err-read_ahead-clause-value_read c = λ facts skipped after value.
    let p = err_from_is_err_and c.from_residual-in_err-read_ahead.result c.from_residual-in_err-read_ahead.ensures.1 in
    let is_first : p.0 ≢ faults.NoMemory → IsFirstFault c.args.bytes.now c.args.names.now p.0 =
    λ other. subst (IsFirstFault c.args.bytes.now c.args.names.now) (sym p.2) (c.in_err-read_ahead.ensures.fault c.args.bytes.now c.lines.rest.now c.in_ok-next.next.now c.args.names.now (subst (λ l. Read c.args.bytes.now c.lines.rest.now c.args.names.now l c.lines.n c.lines.triples.facts c.lines.triples.skipped) (sym c.look.ensures.names) c.lines.invariant) c.in_ok-next.ensures.ok (λ e. other (p.2 ∙ e))) in
    rw p.1 (value_no_told c.args.bytes.now c.args.names.now p.0 is_first facts skipped after value)

pub returns-in_err-read_ahead-clause-fault_told : goal.returns-in_err-read_ahead-clause-fault_told
returns-in_err-read_ahead-clause-fault_told c = λ first has.
    let p = err_from_is_err_and c.from_residual-in_err-read_ahead.result c.from_residual-in_err-read_ahead.ensures.1 in
    let is_first : p.0 ≢ faults.NoMemory → IsFirstFault c.args.bytes.now c.args.names.now p.0 =
    λ other. subst (IsFirstFault c.args.bytes.now c.args.names.now) (sym p.2) (c.in_err-read_ahead.ensures.fault c.args.bytes.now c.lines.rest.now c.in_ok-next.next.now c.args.names.now (subst (λ l. Read c.args.bytes.now c.lines.rest.now c.args.names.now l c.lines.n c.lines.triples.facts c.lines.triples.skipped) (sym c.look.ensures.names) c.lines.invariant) c.in_ok-next.ensures.ok (λ e. other (p.2 ∙ e))) in
    rw p.1 (first_told c.args.bytes.now c.args.names.now p.0 is_first first has, λ ok. false≢true ok)

pub returns-in_err-read_ahead-clause-part : goal.returns-in_err-read_ahead-clause-part
returns-in_err-read_ahead-clause-part c =
    let p = err_from_is_err_and c.from_residual-in_err-read_ahead.result c.from_residual-in_err-read_ahead.ensures.1 in
    rw p.1 (c.in_err-read_ahead.ensures.part c.args.bytes.now c.lines.rest.now c.in_ok-next.next.now c.args.names.now (subst (λ l. Read c.args.bytes.now c.lines.rest.now c.args.names.now l c.lines.n c.lines.triples.facts c.lines.triples.skipped) (sym c.look.ensures.names) c.lines.invariant) c.in_ok-next.ensures.ok)

-- the line behind them has one
pub returns-in_err-read_line-clause-fault : goal.returns-in_err-read_line-clause-fault
returns-in_err-read_line-clause-fault c =
    let p = err_from_is_err_and c.from_residual-in_err-read_line.result c.from_residual-in_err-read_line.ensures.1 in
    rw p.1 (first_fault c.args.bytes.now c.in_ok-next.next.now c.args.names.now c.read_ahead.new.names (c.lines.n + c.len.result) c.read_ahead.new.triples.facts c.read_ahead.new.triples.skipped
    (Read-ahead c.read_ahead.new.names c.read_ahead.new.triples.facts c.read_ahead.new.triples.skipped c.lines.invariant c.look.ensures.names c.in_ok-next.ensures.ok c.len.ensures c.in_ok-read_ahead.ensures.ok)
    c.first_line.result.0.now c.first_line.result.1 c.first_line.ensures c.in_err-read_line.field-0.0 p.0 p.2 c.in_err-read_line.ensures.fault)

pub returns-in_err-read_line-clause-value_read : goal.returns-in_err-read_line-clause-value_read
returns-in_err-read_line-clause-value_read c = λ facts skipped after value.
    let p = err_from_is_err_and c.from_residual-in_err-read_line.result c.from_residual-in_err-read_line.ensures.1 in
    let is_first = first_fault c.args.bytes.now c.in_ok-next.next.now c.args.names.now c.read_ahead.new.names (c.lines.n + c.len.result) c.read_ahead.new.triples.facts c.read_ahead.new.triples.skipped
    (Read-ahead c.read_ahead.new.names c.read_ahead.new.triples.facts c.read_ahead.new.triples.skipped c.lines.invariant c.look.ensures.names c.in_ok-next.ensures.ok c.len.ensures c.in_ok-read_ahead.ensures.ok)
    c.first_line.result.0.now c.first_line.result.1 c.first_line.ensures c.in_err-read_line.field-0.0 p.0 p.2 c.in_err-read_line.ensures.fault in
    rw p.1 (value_no_told c.args.bytes.now c.args.names.now p.0 is_first facts skipped after value)

pub returns-in_err-read_line-clause-fault_told : goal.returns-in_err-read_line-clause-fault_told
returns-in_err-read_line-clause-fault_told c = λ first has.
    let p = err_from_is_err_and c.from_residual-in_err-read_line.result c.from_residual-in_err-read_line.ensures.1 in
    let is_first = first_fault c.args.bytes.now c.in_ok-next.next.now c.args.names.now c.read_ahead.new.names (c.lines.n + c.len.result) c.read_ahead.new.triples.facts c.read_ahead.new.triples.skipped
    (Read-ahead c.read_ahead.new.names c.read_ahead.new.triples.facts c.read_ahead.new.triples.skipped c.lines.invariant c.look.ensures.names c.in_ok-next.ensures.ok c.len.ensures c.in_ok-read_ahead.ensures.ok)
    c.first_line.result.0.now c.first_line.result.1 c.first_line.ensures c.in_err-read_line.field-0.0 p.0 p.2 c.in_err-read_line.ensures.fault in
    rw p.1 (first_told c.args.bytes.now c.args.names.now p.0 is_first first has, λ ok. false≢true ok)

pub returns-in_err-read_line-clause-part : goal.returns-in_err-read_line-clause-part
returns-in_err-read_line-clause-part c =
    let p = err_from_is_err_and c.from_residual-in_err-read_line.result c.from_residual-in_err-read_line.ensures.1 in
    rw p.1 (Read-part c.args.bytes.now c.in_ok-next.next.now c.args.names.now c.read_ahead.new.names (c.lines.n + c.len.result) c.read_ahead.new.triples.facts c.read_ahead.new.triples.skipped
    (Read-ahead c.read_ahead.new.names c.read_ahead.new.triples.facts c.read_ahead.new.triples.skipped c.lines.invariant c.look.ensures.names c.in_ok-next.ensures.ok c.len.ensures c.in_ok-read_ahead.ensures.ok)
    c.first_line.result.0.now c.first_line.result.1 c.first_line.ensures c.read_line.new.names c.in_err-read_line.ensures.first)

pub returns-in_default-clause-value : goal.returns-in_default-clause-value
returns-in_default-clause-value c =
    let adds = c.in_ok-read_line.ensures.ok in
    let first = subst (IsFirstLine c.in_ok-next.next.now c.first_line.result.0.now) c.in_default.is c.first_line.ensures in
    Read-all c.args.bytes.now c.in_ok-next.next.now c.args.names.now c.read_ahead.new.names (c.lines.n + c.len.result) c.read_ahead.new.triples.facts c.read_ahead.new.triples.skipped
    (Read-ahead c.read_ahead.new.names c.read_ahead.new.triples.facts c.read_ahead.new.triples.skipped c.lines.invariant c.look.ensures.names c.in_ok-next.ensures.ok c.len.ensures c.in_ok-read_ahead.ensures.ok) c.first_line.result.0.now
    c.read_line.new.names c.read_line.new.triples.facts adds.facts c.read_line.new.triples.skipped adds.skipped first.is_line first.ends adds.gives adds.is adds.counted

pub returns-in_default-clause-value_read : goal.returns-in_default-clause-value_read
returns-in_default-clause-value_read c = λ facts skipped after value.
    one_value c.args.bytes.now c.args.names.now c.read_line.new.triples.facts facts c.read_line.new.triples.skipped skipped c.read_line.new.names after (returns-in_default-clause-value c) value

pub returns-in_default-clause-fault_told : goal.returns-in_default-clause-fault_told
returns-in_default-clause-fault_told c = λ first has.
    (tt, λ _. value_no_fault c.args.bytes.now c.args.names.now c.read_line.new.triples.facts c.read_line.new.triples.skipped c.read_line.new.names first (returns-in_default-clause-value c) has)

pub returns-in_default-clause-places : goal.returns-in_default-clause-places
returns-in_default-clause-places c = let value = returns-in_default-clause-value c in read_within value.read

pub lines-smaller : goal.lines-smaller
lines-smaller c =
    let first = subst (IsFirstLine c.in_ok-next.next.now c.first_line.result.0.now) c.in-Some.is c.first_line.ensures in
    let shorter = behind_shorter c.in_ok-next.next.now c.first_line.result.0.now c.in-Some.next.now first.ends in
    omega (arith, shorter, length-AreCut c.in_ok-next.ensures.ok)

pub lines-preserved : goal.lines-preserved
lines-preserved c =
    let adds = c.in_ok-read_line.ensures.ok in
    let first = subst (IsFirstLine c.in_ok-next.next.now c.first_line.result.0.now) c.in-Some.is c.first_line.ensures in
    Read-next c.args.bytes.now c.in_ok-next.next.now c.args.names.now c.read_ahead.new.names (c.lines.n + c.len.result) c.read_ahead.new.triples.facts c.read_ahead.new.triples.skipped
    (Read-ahead c.read_ahead.new.names c.read_ahead.new.triples.facts c.read_ahead.new.triples.skipped c.lines.invariant c.look.ensures.names c.in_ok-next.ensures.ok c.len.ensures c.in_ok-read_ahead.ensures.ok) c.first_line.result.0.now
    c.in-Some.next.now c.read_line.new.names c.read_line.new.triples.facts adds.facts c.read_line.new.triples.skipped adds.skipped first.is_line first.ends adds.gives adds.is adds.counted

pub read_line-requires : goal.read_line-requires
read_line-requires c =
    let middle = Read-ahead c.read_ahead.new.names c.read_ahead.new.triples.facts c.read_ahead.new.triples.skipped c.lines.invariant c.look.ensures.names c.in_ok-next.ensures.ok c.len.ensures c.in_ok-read_ahead.ensures.ok in
    omega (arith, middle.few, middle.fits)

pub overflow_add-n-in-lines : goal.overflow_add-n-in-lines
overflow_add-n-in-lines c =
    let middle = Read-ahead c.read_ahead.new.names c.read_ahead.new.triples.facts c.read_ahead.new.triples.skipped c.lines.invariant c.look.ensures.names c.in_ok-next.ensures.ok c.len.ensures c.in_ok-read_ahead.ensures.ok in
    omega (arith, middle.fits)
