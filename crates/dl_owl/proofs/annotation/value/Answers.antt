use Rattle.std.proofs.Common.{refl, slice_range}
use Rattle.dl_lex.specs.declared.token.TokenKind.TheVariants as token
use Rattle.dl_lex.specs.declared.token.TokenKind.TheVariants.{Node}
use Rattle.dl_owl.specs.Symbols.{node, string}
use Rattle.dl_owl.specs.Expected.{close_then, iri_then, value_then, value_end}
use Rattle.dl_owl.specs.Walk.{here}
use Rattle.dl_owl.proofs.WalkLemmas.{goes_alike, faults_alike, passes_behind}
use Rattle.dl_owl.proofs.CursorLemmas.{exit_passes, not_kind}
use Rattle.dl_owl.proofs.AnnotationLemmas.{token-goes, token-faults, node_says, string_says, value_plain}
use Rattle.dl_owl.proofs.annotation.value.Goals as goal

pub returns-in_err-advance : goal.returns-in_err-advance
returns-in_err-advance c =
    λ names.
    exit_passes value_then (here c.args.at.now c.args.prefixes.now names) (here c.advance.new.self
    c.args.prefixes.now names) c.from_residual.result c.in_err-advance.field-0.0 c.from_residual.ensures.1
    (λ k.
    token-faults Node node node_says (value_then k) (close_then k) c.args.at.now c.args.prefixes.now names
    (c.is_node.ensures.0 c.if-is_node.true) refl c.in_err-advance.field-0.0 c.in_err-advance.ensures)

pub returns-then-is_node : goal.returns-then-is_node
returns-then-is_node c =
    λ names.
    passes_behind value_then close_then (here c.args.at.now c.args.prefixes.now names) (here c.advance.new.self
    c.args.prefixes.now names) (here c.close.new.at c.args.prefixes.now names) c.close.result
    (λ k. token-goes Node node node_says (value_then k) (close_then k) c.args.at.now c.args.prefixes.now names
    (c.is_node.ensures.0 c.if-is_node.true) refl c.advance.new.self c.in_ok-advance.ensures)
    (c.close.ensures c.args.prefixes.now names)

pub returns-in_err-advance-2 : goal.returns-in_err-advance-2
returns-in_err-advance-2 c =
    λ names.
    exit_passes value_then (here c.args.at.now c.args.prefixes.now names) (here c.advance-then-is_string.new.self
    c.args.prefixes.now names) c.from_residual-in_err-advance-2.result c.in_err-advance-2.field-0.0
    c.from_residual-in_err-advance-2.ensures.1
    (λ k.
    token-faults token.Text string string_says (value_then k) (value_end k) c.args.at.now c.args.prefixes.now names
    (c.is_string.ensures.0 c.if-is_string.true) refl c.in_err-advance-2.field-0.0 c.in_err-advance-2.ensures)

pub returns-then-is_string : goal.returns-then-is_string
returns-then-is_string c =
    λ names.
    passes_behind value_then value_end (here c.args.at.now c.args.prefixes.now names) (here
    c.advance-then-is_string.new.self c.args.prefixes.now names) (here c.literal_end.new.at c.args.prefixes.now
    names) c.literal_end.result
    (λ k. token-goes token.Text string string_says (value_then k) (value_end k) c.args.at.now c.args.prefixes.now
    names (c.is_string.ensures.0 c.if-is_string.true) refl c.advance-then-is_string.new.self
    c.in_ok-advance-2.ensures)
    (c.literal_end.ensures names)

pub returns-in_err-iri : goal.returns-in_err-iri
returns-in_err-iri c =
    λ names.
    exit_passes value_then (here c.args.at.now c.args.prefixes.now names) (here c.iri.new.at c.args.prefixes.now
    names) c.from_residual-in_err-iri.result c.in_err-iri.field-0.0 c.from_residual-in_err-iri.ensures.1
    (λ k.
    faults_alike (value_then k) (iri_then (close_then k)) (here c.args.at.now c.args.prefixes.now names)
    c.in_err-iri.field-0.0
    (value_plain c.args.at.now.token.kind (slice_range c.args.at.now.bytes c.args.at.now.token.start
    c.args.at.now.token.end) c.args.prefixes.now k (not_kind c.is_node.result _ c.is_node.ensures c.if-is_node.false)
    (not_kind c.is_string.result _ c.is_string.ensures c.if-is_string.false))
    (c.in_err-iri.ensures names (close_then k)))

pub returns : goal.returns
returns c =
    λ names.
    passes_behind value_then close_then (here c.args.at.now c.args.prefixes.now names) (here c.iri.new.at
    c.args.prefixes.now names) (here c.close-2.new.at c.args.prefixes.now names) c.close-2.result
    (λ k.
    goes_alike (value_then k) (iri_then (close_then k)) (here c.args.at.now c.args.prefixes.now names) (close_then k)
    (here c.iri.new.at c.args.prefixes.now names)
    (value_plain c.args.at.now.token.kind (slice_range c.args.at.now.bytes c.args.at.now.token.start
    c.args.at.now.token.end) c.args.prefixes.now k (not_kind c.is_node.result _ c.is_node.ensures c.if-is_node.false)
    (not_kind c.is_string.result _ c.is_string.ensures c.if-is_string.false))
    (c.in_ok-iri.ensures names (close_then k)))
    (c.close-2.ensures c.args.prefixes.now names)
