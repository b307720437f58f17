use Rattle.std.proofs.Common.{◌≡◌, ℕ, ◌+◌, ◌≤◌, ap, sym, subst, ◌∙◌, get_or, length, drop, arith}
use Rattle.std.proofs.lemmas.Result.{err_from_is_err_and}
use Rattle.dl_triples.specs.declared.line.Form.TheVariants.{Nothing}
use Rattle.dl_triples.specs.Reading.{HasFault}
use Rattle.dl_triples.specs.Progress.{Read}
use Rattle.dl_triples.proofs.TextLemmas.{ReadsOn, ReadsOn-at, ReadsOn-all, ReadsOn-next, ReadsOn-fault, ReadsOn-part}
use Rattle.dl_triples.proofs.reading.read_ahead.Goals as goal

pub read_form-requires : goal.read_form-requires
read_form-requires c =
    omega (arith, c.loop-index.invariant.1, c.requires.counted, c.loop-index-test.true, ap length c.deref-form-items.ensures.value, c.args.ahead.now.forms.ok.0)

pub loop-index-preserved : goal.loop-index-preserved
loop-index-preserved c = (
  λ bytes rest behind before read cut.
      let next : (c.args.n + c.loop-index.index) + 1 ≡ c.args.n + (c.loop-index.index + 1) = omega arith in
      subst (λ (k : ℕ). ReadsOn bytes (drop (c.loop-index.index + 1) c.args.ahead.now.forms.items) behind before c.read_form.new.names k c.read_form.new.triples.facts c.read_form.new.triples.skipped) next
      (ReadsOn-next bytes behind before c.loop-index.names (c.args.n + c.loop-index.index) c.loop-index.triples (get_or c.deref-form-items.result.now c.loop-index.index Nothing) (drop (c.loop-index.index + 1) c.args.ahead.now.forms.items) c.read_form.new.names c.read_form.new.triples c.in_ok-read_form.ensures.ok
      (ReadsOn-at bytes behind before c.loop-index.names (c.args.n + c.loop-index.index) c.loop-index.triples c.deref-form-items.result.now c.args.ahead.now.forms.items c.deref-form-items.ensures.value c.loop-index.index Nothing c.loop-index-test.true (c.loop-index.invariant.0 bytes rest behind before read cut))),
  omega (arith, c.loop-index.invariant.1, c.read_form.ensures.few),
)

pub returns-in_err-read_form-clause-fault : goal.returns-in_err-read_form-clause-fault
returns-in_err-read_form-clause-fault c = λ bytes rest behind before read cut.
    let p = err_from_is_err_and c.from_residual.result c.from_residual.ensures.1 in
    rw p.1 (λ other.
    ReadsOn-fault bytes behind before c.loop-index.names (c.args.n + c.loop-index.index) c.loop-index.triples (get_or c.deref-form-items.result.now c.loop-index.index Nothing) (drop (c.loop-index.index + 1) c.args.ahead.now.forms.items) p.0
    (λ line has. subst (HasFault line c.loop-index.names (c.args.n + c.loop-index.index)) (sym p.2) (c.in_err-read_form.ensures.fault line has (λ e. other (p.2 ∙ e))))
    (ReadsOn-at bytes behind before c.loop-index.names (c.args.n + c.loop-index.index) c.loop-index.triples c.deref-form-items.result.now c.args.ahead.now.forms.items c.deref-form-items.ensures.value c.loop-index.index Nothing c.loop-index-test.true (c.loop-index.invariant.0 bytes rest behind before read cut)))

pub returns-in_err-read_form-clause-part : goal.returns-in_err-read_form-clause-part
returns-in_err-read_form-clause-part c = λ bytes rest behind before read cut.
    let p = err_from_is_err_and c.from_residual.result c.from_residual.ensures.1 in
    rw p.1 (ReadsOn-part bytes behind before c.loop-index.names (c.args.n + c.loop-index.index) c.loop-index.triples (get_or c.deref-form-items.result.now c.loop-index.index Nothing) (drop (c.loop-index.index + 1) c.args.ahead.now.forms.items) c.read_form.new.names c.in_err-read_form.ensures.first
    (ReadsOn-at bytes behind before c.loop-index.names (c.args.n + c.loop-index.index) c.loop-index.triples c.deref-form-items.result.now c.args.ahead.now.forms.items c.deref-form-items.ensures.value c.loop-index.index Nothing c.loop-index-test.true (c.loop-index.invariant.0 bytes rest behind before read cut)))

pub returns-clause-ok : goal.returns-clause-ok
returns-clause-ok c = λ bytes rest behind before read cut.
    let whole : c.args.n + c.loop-index.index ≡ c.args.n + c.args.ahead.now.forms.len =
    omega (arith, c.loop-index-test.false, c.loop-index.auto.index-end, ap length c.deref-form-items.ensures.value, c.args.ahead.now.forms.ok.0) in
    let done : length c.args.ahead.now.forms.items ≤ c.loop-index.index = omega (arith, c.loop-index-test.false, ap length c.deref-form-items.ensures.value) in
    subst (λ (k : ℕ). Read bytes behind before c.loop-index.names k c.loop-index.triples.facts c.loop-index.triples.skipped) whole
    (ReadsOn-all bytes behind before c.loop-index.names (c.args.n + c.loop-index.index) c.loop-index.triples c.args.ahead.now.forms.items c.loop-index.index done (c.loop-index.invariant.0 bytes rest behind before read cut))
