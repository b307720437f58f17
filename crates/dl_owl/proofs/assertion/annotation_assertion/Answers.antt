use Rattle.dl_owl.specs.declared.item.Item.TheVariants as item
use Rattle.dl_owl.specs.Expected.{iri_then, subject_then, value_then}
use Rattle.dl_owl.specs.Walk.{here}
use Rattle.dl_owl.proofs.WalkLemmas.{goes-then, goes-faults}
use Rattle.dl_owl.proofs.CursorLemmas.{exit_reads}
use Rattle.dl_owl.proofs.assertion.annotation_assertion.Goals as goal

pub returns-in_err-iri : goal.returns-in_err-iri
returns-in_err-iri c =
    λ names.
    exit_reads (λ k. iri_then (subject_then (value_then (k item.NoEffect)))) (here c.args.at.now c.args.prefixes.now
    names) (here c.iri.new.at c.args.prefixes.now names)
    c.from_residual.result c.in_err-iri.field-0.0 c.from_residual.ensures.1
    (λ k.
    (c.in_err-iri.ensures names (subject_then (value_then (k item.NoEffect)))))

pub returns-in_err-subject : goal.returns-in_err-subject
returns-in_err-subject c =
    λ names.
    exit_reads (λ k. iri_then (subject_then (value_then (k item.NoEffect)))) (here c.args.at.now c.args.prefixes.now
    names) (here c.subject.new.at c.args.prefixes.now names)
    c.from_residual-in_err-subject.result c.in_err-subject.field-0.0 c.from_residual-in_err-subject.ensures.1
    (λ k.
    goes-faults (iri_then (subject_then (value_then (k item.NoEffect)))) (here c.args.at.now c.args.prefixes.now
    names) (subject_then (value_then (k item.NoEffect))) (here c.iri.new.at c.args.prefixes.now names)
    c.in_err-subject.field-0.0
    (c.in_ok-iri.ensures names (subject_then (value_then (k item.NoEffect))))
    (c.in_err-subject.ensures names (value_then (k item.NoEffect))))

pub returns-in_err-value : goal.returns-in_err-value
returns-in_err-value c =
    λ names.
    exit_reads (λ k. iri_then (subject_then (value_then (k item.NoEffect)))) (here c.args.at.now c.args.prefixes.now
    names) (here c.value.new.at c.args.prefixes.now names)
    c.from_residual-in_err-value.result c.in_err-value.field-0.0 c.from_residual-in_err-value.ensures.1
    (λ k.
    goes-faults (iri_then (subject_then (value_then (k item.NoEffect)))) (here c.args.at.now c.args.prefixes.now
    names) (value_then (k item.NoEffect)) (here c.subject.new.at c.args.prefixes.now names) c.in_err-value.field-0.0
    (goes-then (iri_then (subject_then (value_then (k item.NoEffect)))) (here c.args.at.now c.args.prefixes.now
    names) (subject_then (value_then (k item.NoEffect))) (here c.iri.new.at c.args.prefixes.now names) (value_then (k
    item.NoEffect)) (here c.subject.new.at c.args.prefixes.now names)
    (c.in_ok-iri.ensures names (subject_then (value_then (k item.NoEffect))))
    (c.in_ok-subject.ensures names (value_then (k item.NoEffect))))
    (c.in_err-value.ensures names (k item.NoEffect)))

pub returns : goal.returns
returns c =
    λ names k.
    goes-then (iri_then (subject_then (value_then (k item.NoEffect)))) (here c.args.at.now c.args.prefixes.now names)
    (value_then (k item.NoEffect)) (here c.subject.new.at c.args.prefixes.now names) (k item.NoEffect) (here
    c.value.new.at c.args.prefixes.now names)
    (goes-then (iri_then (subject_then (value_then (k item.NoEffect)))) (here c.args.at.now c.args.prefixes.now
    names) (subject_then (value_then (k item.NoEffect))) (here c.iri.new.at c.args.prefixes.now names) (value_then (k
    item.NoEffect)) (here c.subject.new.at c.args.prefixes.now names)
    (c.in_ok-iri.ensures names (subject_then (value_then (k item.NoEffect))))
    (c.in_ok-subject.ensures names (value_then (k item.NoEffect))))
    (c.in_ok-value.ensures names (k item.NoEffect))
