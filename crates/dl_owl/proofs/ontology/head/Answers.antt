use Rattle.std.proofs.Common.{[], refl, slice_range}
use Rattle.dl_lex.specs.declared.keyword.Keyword.TheVariants.{Annotation}
use Rattle.dl_owl.specs.Expected.{title, annotations_first, items, open_then, annotations_then, iri_then, value_then}
use Rattle.dl_owl.specs.Items.{empty_document}
use Rattle.dl_owl.specs.Walk.{here, Goes}
use Rattle.dl_owl.proofs.WalkLemmas.{goes-then, goes-faults, goes_as}
use Rattle.dl_owl.proofs.CursorLemmas.{not_kind}
use Rattle.dl_owl.proofs.ReaderLemmas.{keyword-goes, keyword-faults}
use Rattle.dl_owl.proofs.DocumentLemmas.{exit_leads}
use Rattle.dl_owl.proofs.OntologyLemmas.{no_first}
use Rattle.dl_owl.proofs.ontology.head.Goals as goal

pub returns-in_err-advance : goal.returns-in_err-advance
returns-in_err-advance c =
    λ names.
    exit_leads (open_then (title 2)) (items empty_document) (here c.args.at.now c.args.prefixes.now names) (here
    c.advance.new.self c.args.prefixes.now names) c.from_residual-in_err-advance.result c.in_err-advance.field-0.0
    c.from_residual-in_err-advance.ensures.1
    (goes-faults (open_then (title 2)) (here c.args.at.now c.args.prefixes.now names) annotations_first (here
    c.loop-at.at c.args.prefixes.now names) c.in_err-advance.field-0.0
    (c.loop-at.invariant names)
    (keyword-faults Annotation annotations_first (open_then (annotations_then (iri_then (value_then
    annotations_first)))) c.loop-at.at c.args.prefixes.now names (c.is_word.ensures.0 c.loop-at-test.true) refl
    c.in_err-advance.field-0.0 c.in_err-advance.ensures))

pub returns-in_err-begin : goal.returns-in_err-begin
returns-in_err-begin c =
    λ names.
    exit_leads (open_then (title 2)) (items empty_document) (here c.args.at.now c.args.prefixes.now names) (here
    c.begin.new.at c.args.prefixes.now names) c.from_residual-in_err-begin.result c.in_err-begin.field-0.0
    c.from_residual-in_err-begin.ensures.1
    (goes-faults (open_then (title 2)) (here c.args.at.now c.args.prefixes.now names) (open_then (annotations_then
    (iri_then (value_then annotations_first)))) (here c.advance.new.self c.args.prefixes.now names)
    c.in_err-begin.field-0.0
    (goes-then (open_then (title 2)) (here c.args.at.now c.args.prefixes.now names) annotations_first (here
    c.loop-at.at c.args.prefixes.now names) (open_then (annotations_then (iri_then (value_then annotations_first))))
    (here c.advance.new.self c.args.prefixes.now names)
    (c.loop-at.invariant names)
    (keyword-goes Annotation annotations_first (open_then (annotations_then (iri_then (value_then
    annotations_first)))) c.loop-at.at c.args.prefixes.now names (c.is_word.ensures.0 c.loop-at-test.true) refl
    c.advance.new.self c.in_ok-advance.ensures))
    (c.in_err-begin.ensures names (iri_then (value_then annotations_first))))

pub returns-in_err-iri : goal.returns-in_err-iri
returns-in_err-iri c =
    λ names.
    exit_leads (open_then (title 2)) (items empty_document) (here c.args.at.now c.args.prefixes.now names) (here
    c.iri.new.at c.args.prefixes.now names) c.from_residual-in_err-iri.result c.in_err-iri.field-0.0
    c.from_residual-in_err-iri.ensures.1
    (goes-faults (open_then (title 2)) (here c.args.at.now c.args.prefixes.now names) (iri_then (value_then
    annotations_first)) (here c.begin.new.at c.args.prefixes.now names) c.in_err-iri.field-0.0
    (goes-then (open_then (title 2)) (here c.args.at.now c.args.prefixes.now names) (open_then (annotations_then
    (iri_then (value_then annotations_first)))) (here c.advance.new.self c.args.prefixes.now names) (iri_then
    (value_then annotations_first)) (here c.begin.new.at c.args.prefixes.now names)
    (goes-then (open_then (title 2)) (here c.args.at.now c.args.prefixes.now names) annotations_first (here
    c.loop-at.at c.args.prefixes.now names) (open_then (annotations_then (iri_then (value_then annotations_first))))
    (here c.advance.new.self c.args.prefixes.now names)
    (c.loop-at.invariant names)
    (keyword-goes Annotation annotations_first (open_then (annotations_then (iri_then (value_then
    annotations_first)))) c.loop-at.at c.args.prefixes.now names (c.is_word.ensures.0 c.loop-at-test.true) refl
    c.advance.new.self c.in_ok-advance.ensures))
    (c.in_ok-begin.ensures names (iri_then (value_then annotations_first))))
    (c.in_err-iri.ensures names (value_then annotations_first)))

pub returns-in_err-value : goal.returns-in_err-value
returns-in_err-value c =
    λ names.
    exit_leads (open_then (title 2)) (items empty_document) (here c.args.at.now c.args.prefixes.now names) (here
    c.value.new.at c.args.prefixes.now names) c.from_residual-in_err-value.result c.in_err-value.field-0.0
    c.from_residual-in_err-value.ensures.1
    (goes-faults (open_then (title 2)) (here c.args.at.now c.args.prefixes.now names) (value_then annotations_first)
    (here c.iri.new.at c.args.prefixes.now names) c.in_err-value.field-0.0
    (goes-then (open_then (title 2)) (here c.args.at.now c.args.prefixes.now names) (iri_then (value_then
    annotations_first)) (here c.begin.new.at c.args.prefixes.now names) (value_then annotations_first) (here
    c.iri.new.at c.args.prefixes.now names)
    (goes-then (open_then (title 2)) (here c.args.at.now c.args.prefixes.now names) (open_then (annotations_then
    (iri_then (value_then annotations_first)))) (here c.advance.new.self c.args.prefixes.now names) (iri_then
    (value_then annotations_first)) (here c.begin.new.at c.args.prefixes.now names)
    (goes-then (open_then (title 2)) (here c.args.at.now c.args.prefixes.now names) annotations_first (here
    c.loop-at.at c.args.prefixes.now names) (open_then (annotations_then (iri_then (value_then annotations_first))))
    (here c.advance.new.self c.args.prefixes.now names)
    (c.loop-at.invariant names)
    (keyword-goes Annotation annotations_first (open_then (annotations_then (iri_then (value_then
    annotations_first)))) c.loop-at.at c.args.prefixes.now names (c.is_word.ensures.0 c.loop-at-test.true) refl
    c.advance.new.self c.in_ok-advance.ensures))
    (c.in_ok-begin.ensures names (iri_then (value_then annotations_first))))
    (c.in_ok-iri.ensures names (value_then annotations_first)))
    (c.in_err-value.ensures names annotations_first))

pub loop-at-smaller : goal.loop-at-smaller
loop-at-smaller c =
    let round : Goes annotations_first (here c.loop-at.at c.args.prefixes.now []) annotations_first (here
    c.value.new.at c.args.prefixes.now []) =
    goes-then annotations_first (here c.loop-at.at c.args.prefixes.now []) (value_then annotations_first) (here
    c.iri.new.at c.args.prefixes.now []) annotations_first (here c.value.new.at c.args.prefixes.now [])
    (goes-then annotations_first (here c.loop-at.at c.args.prefixes.now []) (iri_then (value_then annotations_first))
    (here c.begin.new.at c.args.prefixes.now []) (value_then annotations_first) (here c.iri.new.at
    c.args.prefixes.now [])
    (goes-then annotations_first (here c.loop-at.at c.args.prefixes.now []) (open_then (annotations_then (iri_then
    (value_then annotations_first)))) (here c.advance.new.self c.args.prefixes.now []) (iri_then (value_then
    annotations_first)) (here c.begin.new.at c.args.prefixes.now [])
    (keyword-goes Annotation annotations_first (open_then (annotations_then (iri_then (value_then
    annotations_first)))) c.loop-at.at c.args.prefixes.now [] (c.is_word.ensures.0 c.loop-at-test.true) refl
    c.advance.new.self c.in_ok-advance.ensures)
    (c.in_ok-begin.ensures [] (iri_then (value_then annotations_first))))
    (c.in_ok-iri.ensures [] (value_then annotations_first)))
    (c.in_ok-value.ensures [] annotations_first) in
    round.ahead

pub loop-at-preserved : goal.loop-at-preserved
loop-at-preserved c =
    λ names.
    goes-then (open_then (title 2)) (here c.args.at.now c.args.prefixes.now names) (value_then annotations_first)
    (here c.iri.new.at c.args.prefixes.now names) annotations_first (here c.value.new.at c.args.prefixes.now names)
    (goes-then (open_then (title 2)) (here c.args.at.now c.args.prefixes.now names) (iri_then (value_then
    annotations_first)) (here c.begin.new.at c.args.prefixes.now names) (value_then annotations_first) (here
    c.iri.new.at c.args.prefixes.now names)
    (goes-then (open_then (title 2)) (here c.args.at.now c.args.prefixes.now names) (open_then (annotations_then
    (iri_then (value_then annotations_first)))) (here c.advance.new.self c.args.prefixes.now names) (iri_then
    (value_then annotations_first)) (here c.begin.new.at c.args.prefixes.now names)
    (goes-then (open_then (title 2)) (here c.args.at.now c.args.prefixes.now names) annotations_first (here
    c.loop-at.at c.args.prefixes.now names) (open_then (annotations_then (iri_then (value_then annotations_first))))
    (here c.advance.new.self c.args.prefixes.now names)
    (c.loop-at.invariant names)
    (keyword-goes Annotation annotations_first (open_then (annotations_then (iri_then (value_then
    annotations_first)))) c.loop-at.at c.args.prefixes.now names (c.is_word.ensures.0 c.loop-at-test.true) refl
    c.advance.new.self c.in_ok-advance.ensures))
    (c.in_ok-begin.ensures names (iri_then (value_then annotations_first))))
    (c.in_ok-iri.ensures names (value_then annotations_first)))
    (c.in_ok-value.ensures names annotations_first)

pub returns : goal.returns
returns c =
    λ names.
    goes_as (open_then (title 2)) (here c.args.at.now c.args.prefixes.now names) annotations_first (items
    empty_document) (here c.loop-at.at c.args.prefixes.now names)
    (no_first c.loop-at.at.token.kind (slice_range c.loop-at.at.bytes c.loop-at.at.token.start c.loop-at.at.token.end)
    (not_kind c.is_word.result _ c.is_word.ensures c.loop-at-test.false))
    (c.loop-at.invariant names)
