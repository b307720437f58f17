use Rattle.std.proofs.Common.{refl, sym, ap, ◌∙◌, subst, slice_range}
use Rattle.dl_lex.specs.declared.keyword.Keyword.TheVariants.{ObjectSomeValuesFrom}
use Rattle.dl_terms.specs.declared.role.Basic.TheVariants as basic
use Rattle.dl_owl.specs.Causes.{fault_of}
use Rattle.dl_owl.specs.Expected.{open_then, close_then, role_then, thing_then, sub_then}
use Rattle.dl_owl.specs.Refused.{refused_sub}
use Rattle.dl_owl.specs.Walk.{here, Faults}
use Rattle.dl_owl.proofs.WalkLemmas.{reads_behind, faults-refused}
use Rattle.dl_owl.proofs.CursorLemmas.{exit_reads, not_kind}
use Rattle.dl_owl.proofs.ReaderLemmas.{keyword-goes, keyword-faults, sub_refused, sub_class}
use Rattle.dl_owl.proofs.left.sub.Goals as goal

pub returns-in_err-advance : goal.returns-in_err-advance
returns-in_err-advance c =
    exit_reads sub_then (here c.args.at.now c.args.prefixes.now c.args.names.now) (here c.advance.new.self c.args.prefixes.now c.args.names.now) c.from_residual.result
    c.in_err-advance.field-0.0 c.from_residual.ensures.1
    (λ k.
    keyword-faults ObjectSomeValuesFrom (sub_then k) (open_then (role_then (λ r. thing_then (close_then (k (basic.SomeOf r)))))) c.args.at.now c.args.prefixes.now c.args.names.now
    (c.is_word.ensures.0 c.if-is_word.true) refl c.in_err-advance.field-0.0 c.in_err-advance.ensures)

pub returns-then-is_word : goal.returns-then-is_word
returns-then-is_word c =
    reads_behind sub_then (λ k. (open_then (role_then (λ r. thing_then (close_then (k (basic.SomeOf r))))))) (here c.args.at.now c.args.prefixes.now c.args.names.now) (here c.advance.new.self c.args.prefixes.now c.args.names.now)
    (here c.some_of.new.at c.args.prefixes.now c.some_of.new.names) c.some_of.result
    (λ k.
    keyword-goes ObjectSomeValuesFrom (sub_then k) (open_then (role_then (λ r. thing_then (close_then (k (basic.SomeOf r)))))) c.args.at.now c.args.prefixes.now c.args.names.now
    (c.is_word.ensures.0 c.if-is_word.true) refl c.advance.new.self c.in_ok-advance.ensures)
    c.some_of.ensures

pub returns-in-Some : goal.returns-in-Some
returns-in-Some c =
    λ k.
    subst (Faults (sub_then k) (here c.args.at.now c.args.prefixes.now c.args.names.now) c.args.names.now)
    (sym (c.refused_sub.ensures ∙ ap (fault_of (refused_sub c.in-Some.word)) c.start-start.ensures))
    (faults-refused (sub_then k) c.args.at.now c.args.prefixes.now c.args.names.now (refused_sub c.in-Some.word)
    (sub_refused c.args.at.now.token.kind c.in-Some.word (slice_range c.args.at.now.bytes c.args.at.now.token.start c.args.at.now.token.end) c.args.prefixes.now k
    c.in-Some.ensures (not_kind c.is_word.result _ c.is_word.ensures c.if-is_word.false)))

pub returns-in_err-class : goal.returns-in_err-class
returns-in_err-class c =
    exit_reads sub_then (here c.args.at.now c.args.prefixes.now c.args.names.now) (here c.named_class.new.at c.args.prefixes.now c.named_class.new.names)
    c.from_residual-in_err-class.result c.in_err-class.field-0.0 c.from_residual-in_err-class.ensures.1
    (λ k.
    c.in_err-class.ensures (sub_then k) (λ n. k (basic.Class n))
    (sub_class c.args.at.now.token.kind (slice_range c.args.at.now.bytes c.args.at.now.token.start c.args.at.now.token.end) c.args.prefixes.now k c.in_default.ensures))

pub returns : goal.returns
returns c =
    λ k.
    c.in_ok-class.ensures (sub_then k) (λ n. k (basic.Class n))
    (sub_class c.args.at.now.token.kind (slice_range c.args.at.now.bytes c.args.at.now.token.start c.args.at.now.token.end) c.args.prefixes.now k c.in_default.ensures)
