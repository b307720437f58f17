use Rattle.std.proofs.Common.{sym, ap, ◌∙◌, subst, slice_range}
use Rattle.dl_owl.specs.declared.fault.OwlFault.TheVariants as fault
use Rattle.dl_owl.specs.Causes.{syntax, fault_of}
use Rattle.dl_owl.specs.Expected.{open_then, annotations_then}
use Rattle.dl_owl.specs.Refused.{refused_axiom}
use Rattle.dl_owl.specs.Operands.{operands_then}
use Rattle.dl_owl.specs.Steps.{axiom_next}
use Rattle.dl_owl.specs.Walk.{here, symbol_at, Faults}
use Rattle.dl_owl.proofs.WalkLemmas.{goes-then, goes-faults, faults-refused}
use Rattle.dl_owl.proofs.TakenLemmas.{exit_follows}
use Rattle.dl_owl.proofs.ReaderLemmas.{keyword-goes, keyword-faults}
use Rattle.dl_owl.proofs.AxiomLemmas.{follows_behind, axiom_no_word, axiom_stops, axiom_fits}
use Rattle.dl_owl.proofs.axiom.axiom.Goals as goal

pub returns-in_default : goal.returns-in_default
returns-in_default c =
    λ e k is.
    subst (λ n. Faults e (here c.args.at.now c.args.prefixes.now c.args.names.now) c.args.names.now (fault.Syntax n))
    (sym c.start-start.ensures)
    (faults-refused e c.args.at.now c.args.prefixes.now c.args.names.now syntax
    (is
    ∙ axiom_no_word c.args.at.now.token.kind
    (slice_range c.args.at.now.bytes c.args.at.now.token.start c.args.at.now.token.end) k
    c.in_default.ensures))

pub returns-then-not-is_axiom : goal.returns-then-not-is_axiom
returns-then-not-is_axiom c =
    λ e k is.
    subst (Faults e (here c.args.at.now c.args.prefixes.now c.args.names.now) c.args.names.now)
    (sym (c.refused_axiom.ensures ∙ ap (fault_of (refused_axiom c.in-Some.word)) c.start-start.ensures))
    (faults-refused e c.args.at.now c.args.prefixes.now c.args.names.now (refused_axiom c.in-Some.word)
    (axiom_stops c.in-Some.word e k c.args.at.now c.args.prefixes.now c.in-Some.ensures
    (sym c.is_axiom.ensures ∙ c.if-not-is_axiom.true) is))

pub returns-in_err-advance : goal.returns-in_err-advance
returns-in_err-advance c =
    exit_follows (λ k. axiom_next k (symbol_at c.args.at.now)) (here c.args.at.now c.args.prefixes.now
    c.args.names.now)
    (here c.advance.new.self c.args.prefixes.now c.args.names.now) c.from_residual.result
    c.in_err-advance.field-0.0 c.from_residual.ensures.1
    (λ e k is.
    keyword-faults c.in-Some.word e (open_then (annotations_then (operands_then c.in-Some.word k)))
    c.args.at.now c.args.prefixes.now c.args.names.now c.in-Some.ensures
    (axiom_fits c.in-Some.word e k c.args.at.now c.args.prefixes.now c.in-Some.ensures
    (sym c.is_axiom.ensures ∙ c.if-not-is_axiom.false) is)
    c.in_err-advance.field-0.0 c.in_err-advance.ensures)

pub returns-in_err-begin : goal.returns-in_err-begin
returns-in_err-begin c =
    exit_follows (λ k. axiom_next k (symbol_at c.args.at.now)) (here c.args.at.now c.args.prefixes.now
    c.args.names.now)
    (here c.begin.new.at c.args.prefixes.now c.args.names.now) c.from_residual-in_err-begin.result
    c.in_err-begin.field-0.0 c.from_residual-in_err-begin.ensures.1
    (λ e k is.
    goes-faults e (here c.args.at.now c.args.prefixes.now c.args.names.now)
    (open_then (annotations_then (operands_then c.in-Some.word k))) (here c.advance.new.self c.args.prefixes.now
    c.args.names.now) c.in_err-begin.field-0.0
    (keyword-goes c.in-Some.word e (open_then (annotations_then (operands_then c.in-Some.word k)))
    c.args.at.now c.args.prefixes.now c.args.names.now c.in-Some.ensures
    (axiom_fits c.in-Some.word e k c.args.at.now c.args.prefixes.now c.in-Some.ensures
    (sym c.is_axiom.ensures ∙ c.if-not-is_axiom.false) is)
    c.advance.new.self c.in_ok-advance.ensures)
    (c.in_err-begin.ensures c.args.names.now (operands_then c.in-Some.word k)))

pub returns : goal.returns
returns c =
    follows_behind (λ k. axiom_next k (symbol_at c.args.at.now)) (operands_then c.in-Some.word)
    (here c.args.at.now c.args.prefixes.now c.args.names.now) (here c.begin.new.at c.args.prefixes.now
    c.args.names.now)
    (here c.operands.new.at c.args.prefixes.now c.operands.new.names) c.operands.result
    (λ e k is.
    goes-then e (here c.args.at.now c.args.prefixes.now c.args.names.now)
    (open_then (annotations_then (operands_then c.in-Some.word k))) (here c.advance.new.self c.args.prefixes.now
    c.args.names.now)
    (operands_then c.in-Some.word k) (here c.begin.new.at c.args.prefixes.now c.args.names.now)
    (keyword-goes c.in-Some.word e (open_then (annotations_then (operands_then c.in-Some.word k)))
    c.args.at.now c.args.prefixes.now c.args.names.now c.in-Some.ensures
    (axiom_fits c.in-Some.word e k c.args.at.now c.args.prefixes.now c.in-Some.ensures
    (sym c.is_axiom.ensures ∙ c.if-not-is_axiom.false) is)
    c.advance.new.self c.in_ok-advance.ensures)
    (c.in_ok-begin.ensures c.args.names.now (operands_then c.in-Some.word k)))
    c.operands.ensures
