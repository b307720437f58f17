use Rattle.std.proofs.Common.{refl}
use Rattle.dl_owl.specs.Expected.{subject_then}
use Rattle.dl_owl.specs.Walk.{here}
use Rattle.dl_owl.proofs.CursorLemmas.{exit_passes, not_kind}
use Rattle.dl_owl.proofs.AnnotationLemmas.{node-goes, node-faults, subject_alike}
use Rattle.dl_owl.proofs.annotation.subject.Goals as goal

pub returns-in_err-advance : goal.returns-in_err-advance
returns-in_err-advance c =
    λ names.
    exit_passes subject_then (here c.args.at.now c.args.prefixes.now names) (here c.advance.new.self c.args.prefixes.now names)
    c.from_residual.result c.in_err-advance.field-0.0 c.from_residual.ensures.1
    (λ k.
    node-faults (subject_then k) k c.args.at.now c.args.prefixes.now names (c.is_node.ensures.0 c.if-is_node.true) refl
    c.in_err-advance.field-0.0 c.in_err-advance.ensures)

pub returns-then-is_node : goal.returns-then-is_node
returns-then-is_node c =
    λ names k.
    node-goes (subject_then k) k c.args.at.now c.args.prefixes.now names (c.is_node.ensures.0 c.if-is_node.true) refl
    c.advance.new.self c.in_ok-advance.ensures

pub returns : goal.returns
returns c =
    λ names.
    subject_alike c.args.at.now c.args.prefixes.now names (here c.iri.new.at c.args.prefixes.now names) c.iri.result
    (not_kind c.is_node.result _ c.is_node.ensures c.if-is_node.false) (c.iri.ensures names)
