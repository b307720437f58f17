use Rattle.std.proofs.Common.{if◌then◌else◌, refl, ap, ◌∙◌}
use Rattle.dl_owl.specs.Expected.{title, annotations_first, open_then, iri_then}
use Rattle.dl_owl.specs.Steps.{move_of}
use Rattle.dl_owl.specs.Walk.{here, symbol_at}
use Rattle.dl_owl.proofs.WalkLemmas.{goes-then, goes-faults, goes_as}
use Rattle.dl_owl.proofs.DocumentLemmas.{exit_leads}
use Rattle.dl_owl.proofs.ontology.title.Goals as goal

pub returns-then-not-is_iri : goal.returns-then-not-is_iri
returns-then-not-is_iri c =
    λ names.
    goes_as (open_then (title 2)) (here c.args.at.now c.args.prefixes.now names) (title 2) annotations_first (here
    c.open.new.at c.args.prefixes.now names) (c.is_iri.ensures c.args.prefixes.now 1 ∙ ap (λ b. if b then move_of
    c.args.prefixes.now (iri_then (title 1)) (symbol_at c.open.new.at) else move_of c.args.prefixes.now
    annotations_first (symbol_at c.open.new.at)) c.if-not-is_iri.true) (c.in_ok-open.ensures c.args.prefixes.now
    names (title 2))

pub returns-in_err-iri : goal.returns-in_err-iri
returns-in_err-iri c =
    λ names.
    exit_leads (open_then (title 2)) annotations_first (here c.args.at.now c.args.prefixes.now names) (here
    c.iri.new.at c.args.prefixes.now names) c.from_residual-in_err-iri.result c.in_err-iri.field-0.0
    c.from_residual-in_err-iri.ensures.1
    (goes-faults (open_then (title 2)) (here c.args.at.now c.args.prefixes.now names) (iri_then (title 1)) (here
    c.open.new.at c.args.prefixes.now names) c.in_err-iri.field-0.0
    (goes_as (open_then (title 2)) (here c.args.at.now c.args.prefixes.now names) (title 2) (iri_then (title 1))
    (here c.open.new.at c.args.prefixes.now names)
    (c.is_iri.ensures c.args.prefixes.now 1 ∙ ap (λ b. if b then move_of c.args.prefixes.now (iri_then (title 1))
    (symbol_at c.open.new.at) else move_of c.args.prefixes.now annotations_first (symbol_at c.open.new.at))
    c.if-not-is_iri.false) (c.in_ok-open.ensures c.args.prefixes.now names (title 2)))
    (c.in_err-iri.ensures names (title 1)))

pub returns-then-not-is_iri-2 : goal.returns-then-not-is_iri-2
returns-then-not-is_iri-2 c =
    λ names.
    goes_as (open_then (title 2)) (here c.args.at.now c.args.prefixes.now names) (title 1) annotations_first (here
    c.iri.new.at c.args.prefixes.now names)
    (c.is_iri-2.ensures c.args.prefixes.now 0 ∙ ap (λ b. if b then move_of c.args.prefixes.now (iri_then (title 0))
    (symbol_at c.iri.new.at) else move_of c.args.prefixes.now annotations_first (symbol_at c.iri.new.at))
    c.if-not-is_iri-2.true)
    (goes-then (open_then (title 2)) (here c.args.at.now c.args.prefixes.now names) (iri_then (title 1)) (here
    c.open.new.at c.args.prefixes.now names) (title 1) (here c.iri.new.at c.args.prefixes.now names)
    (goes_as (open_then (title 2)) (here c.args.at.now c.args.prefixes.now names) (title 2) (iri_then (title 1))
    (here c.open.new.at c.args.prefixes.now names)
    (c.is_iri.ensures c.args.prefixes.now 1 ∙ ap (λ b. if b then move_of c.args.prefixes.now (iri_then (title 1))
    (symbol_at c.open.new.at) else move_of c.args.prefixes.now annotations_first (symbol_at c.open.new.at))
    c.if-not-is_iri.false) (c.in_ok-open.ensures c.args.prefixes.now names (title 2)))
    (c.in_ok-iri.ensures names (title 1)))

pub returns-in_err-iri-2 : goal.returns-in_err-iri-2
returns-in_err-iri-2 c =
    λ names.
    exit_leads (open_then (title 2)) annotations_first (here c.args.at.now c.args.prefixes.now names) (here
    c.iri-2.new.at c.args.prefixes.now names) c.from_residual-in_err-iri-2.result c.in_err-iri-2.field-0.0
    c.from_residual-in_err-iri-2.ensures.1
    (goes-faults (open_then (title 2)) (here c.args.at.now c.args.prefixes.now names) (iri_then (title 0)) (here
    c.iri.new.at c.args.prefixes.now names) c.in_err-iri-2.field-0.0
    (goes_as (open_then (title 2)) (here c.args.at.now c.args.prefixes.now names) (title 1) (iri_then (title 0))
    (here c.iri.new.at c.args.prefixes.now names)
    (c.is_iri-2.ensures c.args.prefixes.now 0 ∙ ap (λ b. if b then move_of c.args.prefixes.now (iri_then (title 0))
    (symbol_at c.iri.new.at) else move_of c.args.prefixes.now annotations_first (symbol_at c.iri.new.at))
    c.if-not-is_iri-2.false)
    (goes-then (open_then (title 2)) (here c.args.at.now c.args.prefixes.now names) (iri_then (title 1)) (here
    c.open.new.at c.args.prefixes.now names) (title 1) (here c.iri.new.at c.args.prefixes.now names)
    (goes_as (open_then (title 2)) (here c.args.at.now c.args.prefixes.now names) (title 2) (iri_then (title 1))
    (here c.open.new.at c.args.prefixes.now names)
    (c.is_iri.ensures c.args.prefixes.now 1 ∙ ap (λ b. if b then move_of c.args.prefixes.now (iri_then (title 1))
    (symbol_at c.open.new.at) else move_of c.args.prefixes.now annotations_first (symbol_at c.open.new.at))
    c.if-not-is_iri.false) (c.in_ok-open.ensures c.args.prefixes.now names (title 2)))
    (c.in_ok-iri.ensures names (title 1))))
    (c.in_err-iri-2.ensures names (title 0)))

pub returns : goal.returns
returns c =
    λ names.
    goes_as (open_then (title 2)) (here c.args.at.now c.args.prefixes.now names) (title 0) annotations_first (here
    c.iri-2.new.at c.args.prefixes.now names) refl
    (goes-then (open_then (title 2)) (here c.args.at.now c.args.prefixes.now names) (iri_then (title 0)) (here
    c.iri.new.at c.args.prefixes.now names) (title 0) (here c.iri-2.new.at c.args.prefixes.now names)
    (goes_as (open_then (title 2)) (here c.args.at.now c.args.prefixes.now names) (title 1) (iri_then (title 0))
    (here c.iri.new.at c.args.prefixes.now names)
    (c.is_iri-2.ensures c.args.prefixes.now 0 ∙ ap (λ b. if b then move_of c.args.prefixes.now (iri_then (title 0))
    (symbol_at c.iri.new.at) else move_of c.args.prefixes.now annotations_first (symbol_at c.iri.new.at))
    c.if-not-is_iri-2.false)
    (goes-then (open_then (title 2)) (here c.args.at.now c.args.prefixes.now names) (iri_then (title 1)) (here
    c.open.new.at c.args.prefixes.now names) (title 1) (here c.iri.new.at c.args.prefixes.now names)
    (goes_as (open_then (title 2)) (here c.args.at.now c.args.prefixes.now names) (title 2) (iri_then (title 1))
    (here c.open.new.at c.args.prefixes.now names)
    (c.is_iri.ensures c.args.prefixes.now 1 ∙ ap (λ b. if b then move_of c.args.prefixes.now (iri_then (title 1))
    (symbol_at c.open.new.at) else move_of c.args.prefixes.now annotations_first (symbol_at c.open.new.at))
    c.if-not-is_iri.false) (c.in_ok-open.ensures c.args.prefixes.now names (title 2)))
    (c.in_ok-iri.ensures names (title 1))))
    (c.in_ok-iri-2.ensures names (title 0)))
