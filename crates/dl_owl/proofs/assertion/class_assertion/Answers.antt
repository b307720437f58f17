use Rattle.dl_owl.specs.Steps.{member_then}
use Rattle.dl_owl.specs.Expected.{class_then}
use Rattle.dl_owl.specs.Walk.{here}
use Rattle.dl_owl.proofs.WalkLemmas.{reads_behind}
use Rattle.dl_owl.proofs.CursorLemmas.{exit_reads}
use Rattle.dl_owl.proofs.assertion.class_assertion.Goals as goal

pub returns-in_err-class : goal.returns-in_err-class
returns-in_err-class c =
    exit_reads (λ k. class_then (λ o. member_then k o)) (here c.args.at.now c.args.prefixes.now c.args.names.now)
    (here c.asserted_class.new.at c.args.prefixes.now c.asserted_class.new.names)
    c.from_residual.result c.in_err-class.field-0.0 c.from_residual.ensures.1
    (λ k.
    (c.in_err-class.ensures (λ o. member_then k o)))

pub returns : goal.returns
returns c =
    reads_behind (λ k. class_then (λ o. member_then k o)) (λ k. member_then k c.in_ok-class.class) (here
    c.args.at.now c.args.prefixes.now c.args.names.now) (here c.asserted_class.new.at c.args.prefixes.now
    c.asserted_class.new.names) (here c.member.new.at c.args.prefixes.now c.member.new.names) c.member.result
    (λ k.
    (c.in_ok-class.ensures (λ o. member_then k o)))
    c.member.ensures
