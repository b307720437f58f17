use Rattle.std.proofs.Common.{◌<◌, [], refl, slice_range, arith}
use Rattle.dl_lex.specs.declared.keyword.Keyword.TheVariants.{Annotation}
use Rattle.dl_owl.specs.Expected.{prologue, open_then, annotations_then, iri_then, value_then}
use Rattle.dl_owl.specs.Walk.{here, left, Goes}
use Rattle.dl_owl.proofs.AheadLemmas.{moved_ahead, word_some}
use Rattle.dl_owl.proofs.WalkLemmas.{goes-then, goes-faults, goes_as}
use Rattle.dl_owl.proofs.CursorLemmas.{exit_passes, not_kind}
use Rattle.dl_owl.proofs.ReaderLemmas.{keyword-goes, keyword-faults}
use Rattle.dl_owl.proofs.AnnotationLemmas.{no_annotation}
use Rattle.dl_owl.proofs.annotation.+begin.Goals as goal

pub returns-in_err-advance : goal.returns-in_err-advance
returns-in_err-advance t c =
    λ names.
    exit_passes (λ e. open_then (annotations_then e)) (here c.args.at.now c.args.prefixes.now names) (here
    c.advance.new.self c.args.prefixes.now names) c.from_residual-in_err-advance.result c.in_err-advance.field-0.0
    c.from_residual-in_err-advance.ensures.1
    (λ k.
    goes-faults (open_then (annotations_then k)) (here c.args.at.now c.args.prefixes.now names) (annotations_then k)
    (here c.loop-at.at c.args.prefixes.now names) c.in_err-advance.field-0.0
    (c.loop-at.invariant names k)
    (keyword-faults Annotation (annotations_then k) (open_then (annotations_then (iri_then (value_then
    (annotations_then k))))) c.loop-at.at c.args.prefixes.now names (c.is_word.ensures.0 c.loop-at-test.true)
    refl c.in_err-advance.field-0.0 c.in_err-advance.ensures))

pub begin-requires : goal.begin-requires
begin-requires t c =
    let first = (c.loop-at.invariant [] prologue).ahead in
    let next : left c.advance.new.self < left c.loop-at.at =
    moved_ahead c.loop-at.at c.advance.new.self c.in_ok-advance.ensures (word_some Annotation c.loop-at.at.token.kind
    (c.is_word.ensures.0 c.loop-at-test.true)) in
    let fall : left c.advance.new.self < t = omega (arith, c.decreases, first, next) in (fall, tt)

pub returns-in_err-begin : goal.returns-in_err-begin
returns-in_err-begin t c =
    λ names.
    exit_passes (λ e. open_then (annotations_then e)) (here c.args.at.now c.args.prefixes.now names) (here
    c.begin.new.at c.args.prefixes.now names) c.from_residual-in_err-begin.result c.in_err-begin.field-0.0
    c.from_residual-in_err-begin.ensures.1
    (λ k.
    goes-faults (open_then (annotations_then k)) (here c.args.at.now c.args.prefixes.now names) (open_then
    (annotations_then (iri_then (value_then (annotations_then k))))) (here c.advance.new.self c.args.prefixes.now
    names) c.in_err-begin.field-0.0
    (goes-then (open_then (annotations_then k)) (here c.args.at.now c.args.prefixes.now names) (annotations_then k)
    (here c.loop-at.at c.args.prefixes.now names) (open_then (annotations_then (iri_then (value_then
    (annotations_then k))))) (here c.advance.new.self c.args.prefixes.now names)
    (c.loop-at.invariant names k)
    (keyword-goes Annotation (annotations_then k) (open_then (annotations_then (iri_then (value_then
    (annotations_then k))))) c.loop-at.at c.args.prefixes.now names (c.is_word.ensures.0 c.loop-at-test.true)
    refl c.advance.new.self c.in_ok-advance.ensures))
    (c.in_err-begin.ensures names (iri_then (value_then (annotations_then k)))))

pub returns-in_err-iri : goal.returns-in_err-iri
returns-in_err-iri t c =
    λ names.
    exit_passes (λ e. open_then (annotations_then e)) (here c.args.at.now c.args.prefixes.now names) (here
    c.iri.new.at c.args.prefixes.now names) c.from_residual-in_err-iri.result c.in_err-iri.field-0.0
    c.from_residual-in_err-iri.ensures.1
    (λ k.
    goes-faults (open_then (annotations_then k)) (here c.args.at.now c.args.prefixes.now names) (iri_then (value_then
    (annotations_then k))) (here c.begin.new.at c.args.prefixes.now names) c.in_err-iri.field-0.0
    (goes-then (open_then (annotations_then k)) (here c.args.at.now c.args.prefixes.now names) (open_then
    (annotations_then (iri_then (value_then (annotations_then k))))) (here c.advance.new.self c.args.prefixes.now
    names) (iri_then (value_then (annotations_then k))) (here c.begin.new.at c.args.prefixes.now names)
    (goes-then (open_then (annotations_then k)) (here c.args.at.now c.args.prefixes.now names) (annotations_then k)
    (here c.loop-at.at c.args.prefixes.now names) (open_then (annotations_then (iri_then (value_then
    (annotations_then k))))) (here c.advance.new.self c.args.prefixes.now names)
    (c.loop-at.invariant names k)
    (keyword-goes Annotation (annotations_then k) (open_then (annotations_then (iri_then (value_then
    (annotations_then k))))) c.loop-at.at c.args.prefixes.now names (c.is_word.ensures.0 c.loop-at-test.true)
    refl c.advance.new.self c.in_ok-advance.ensures))
    (c.in_ok-begin.ensures names (iri_then (value_then (annotations_then k)))))
    (c.in_err-iri.ensures names (value_then (annotations_then k))))

pub loop-at-smaller : goal.loop-at-smaller
loop-at-smaller t c =
    let round : Goes (annotations_then prologue) (here c.loop-at.at c.args.prefixes.now []) (annotations_then
    prologue) (here c.value.new.at c.args.prefixes.now []) =
    goes-then (annotations_then prologue) (here c.loop-at.at c.args.prefixes.now []) (value_then (annotations_then
    prologue)) (here c.iri.new.at c.args.prefixes.now []) (annotations_then prologue) (here c.value.new.at
    c.args.prefixes.now [])
    (goes-then (annotations_then prologue) (here c.loop-at.at c.args.prefixes.now []) (iri_then (value_then
    (annotations_then prologue))) (here c.begin.new.at c.args.prefixes.now []) (value_then (annotations_then
    prologue)) (here c.iri.new.at c.args.prefixes.now [])
    (goes-then (annotations_then prologue) (here c.loop-at.at c.args.prefixes.now []) (open_then (annotations_then
    (iri_then (value_then (annotations_then prologue))))) (here c.advance.new.self c.args.prefixes.now []) (iri_then
    (value_then (annotations_then prologue))) (here c.begin.new.at c.args.prefixes.now [])
    (keyword-goes Annotation (annotations_then prologue) (open_then (annotations_then (iri_then (value_then
    (annotations_then prologue))))) c.loop-at.at c.args.prefixes.now [] (c.is_word.ensures.0
    c.loop-at-test.true) refl c.advance.new.self c.in_ok-advance.ensures)
    (c.in_ok-begin.ensures [] (iri_then (value_then (annotations_then prologue)))))
    (c.in_ok-iri.ensures [] (value_then (annotations_then prologue))))
    (c.in_ok-value.ensures [] (annotations_then prologue)) in
    round.ahead

pub loop-at-preserved : goal.loop-at-preserved
loop-at-preserved t c =
    λ names k.
    goes-then (open_then (annotations_then k)) (here c.args.at.now c.args.prefixes.now names) (value_then
    (annotations_then k)) (here c.iri.new.at c.args.prefixes.now names) (annotations_then k) (here c.value.new.at
    c.args.prefixes.now names)
    (goes-then (open_then (annotations_then k)) (here c.args.at.now c.args.prefixes.now names) (iri_then (value_then
    (annotations_then k))) (here c.begin.new.at c.args.prefixes.now names) (value_then (annotations_then k)) (here
    c.iri.new.at c.args.prefixes.now names)
    (goes-then (open_then (annotations_then k)) (here c.args.at.now c.args.prefixes.now names) (open_then
    (annotations_then (iri_then (value_then (annotations_then k))))) (here c.advance.new.self c.args.prefixes.now
    names) (iri_then (value_then (annotations_then k))) (here c.begin.new.at c.args.prefixes.now names)
    (goes-then (open_then (annotations_then k)) (here c.args.at.now c.args.prefixes.now names) (annotations_then k)
    (here c.loop-at.at c.args.prefixes.now names) (open_then (annotations_then (iri_then (value_then
    (annotations_then k))))) (here c.advance.new.self c.args.prefixes.now names)
    (c.loop-at.invariant names k)
    (keyword-goes Annotation (annotations_then k) (open_then (annotations_then (iri_then (value_then
    (annotations_then k))))) c.loop-at.at c.args.prefixes.now names (c.is_word.ensures.0 c.loop-at-test.true)
    refl c.advance.new.self c.in_ok-advance.ensures))
    (c.in_ok-begin.ensures names (iri_then (value_then (annotations_then k)))))
    (c.in_ok-iri.ensures names (value_then (annotations_then k))))
    (c.in_ok-value.ensures names (annotations_then k))

pub returns-in_err-value : goal.returns-in_err-value
returns-in_err-value t c =
    λ names.
    exit_passes (λ e. open_then (annotations_then e)) (here c.args.at.now c.args.prefixes.now names) (here
    c.value.new.at c.args.prefixes.now names) c.from_residual-in_err-value.result c.in_err-value.field-0.0
    c.from_residual-in_err-value.ensures.1
    (λ k.
    goes-faults (open_then (annotations_then k)) (here c.args.at.now c.args.prefixes.now names) (value_then
    (annotations_then k)) (here c.iri.new.at c.args.prefixes.now names) c.in_err-value.field-0.0
    (goes-then (open_then (annotations_then k)) (here c.args.at.now c.args.prefixes.now names) (iri_then (value_then
    (annotations_then k))) (here c.begin.new.at c.args.prefixes.now names) (value_then (annotations_then k)) (here
    c.iri.new.at c.args.prefixes.now names)
    (goes-then (open_then (annotations_then k)) (here c.args.at.now c.args.prefixes.now names) (open_then
    (annotations_then (iri_then (value_then (annotations_then k))))) (here c.advance.new.self c.args.prefixes.now
    names) (iri_then (value_then (annotations_then k))) (here c.begin.new.at c.args.prefixes.now names)
    (goes-then (open_then (annotations_then k)) (here c.args.at.now c.args.prefixes.now names) (annotations_then k)
    (here c.loop-at.at c.args.prefixes.now names) (open_then (annotations_then (iri_then (value_then
    (annotations_then k))))) (here c.advance.new.self c.args.prefixes.now names)
    (c.loop-at.invariant names k)
    (keyword-goes Annotation (annotations_then k) (open_then (annotations_then (iri_then (value_then
    (annotations_then k))))) c.loop-at.at c.args.prefixes.now names (c.is_word.ensures.0 c.loop-at-test.true)
    refl c.advance.new.self c.in_ok-advance.ensures))
    (c.in_ok-begin.ensures names (iri_then (value_then (annotations_then k)))))
    (c.in_ok-iri.ensures names (value_then (annotations_then k))))
    (c.in_err-value.ensures names (annotations_then k)))

pub returns : goal.returns
returns t c =
    λ names k.
    goes_as (open_then (annotations_then k)) (here c.args.at.now c.args.prefixes.now names) (annotations_then k) k
    (here c.loop-at.at c.args.prefixes.now names)
    (no_annotation c.loop-at.at.token.kind (slice_range c.loop-at.at.bytes c.loop-at.at.token.start
    c.loop-at.at.token.end) c.args.prefixes.now k
    (not_kind c.is_word.result _ c.is_word.ensures c.loop-at-test.false))
    (c.loop-at.invariant names k)
