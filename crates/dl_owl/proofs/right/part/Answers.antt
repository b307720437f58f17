use Rattle.std.proofs.Common.{[], ◌∷◌, refl, sym, ap, ◌∙◌, subst, slice_range}
use Rattle.dl_lex.specs.declared.keyword.Keyword.TheVariants.{ObjectSomeValuesFrom, ObjectComplementOf}
use Rattle.dl_terms.specs.declared.axiom.Part.TheVariants as part
use Rattle.dl_owl.specs.declared.fault.OwlFault.TheVariants as fault
use Rattle.dl_owl.specs.Causes.{syntax, fault_of}
use Rattle.dl_owl.specs.Expected.{open_then, close_then, role_then, filler_then, sub_then, sup_then}
use Rattle.dl_owl.specs.Refused.{refused_sup}
use Rattle.dl_owl.specs.Walk.{here, Goes, Faults}
use Rattle.dl_owl.specs.Series.{ReadsOne}
use Rattle.dl_owl.proofs.WalkLemmas.{faults-refused}
use Rattle.dl_owl.proofs.CursorLemmas.{not_kind}
use Rattle.dl_owl.proofs.ReaderLemmas.{keyword-goes, keyword-faults}
use Rattle.dl_owl.proofs.SeriesLemmas.{exit_by, one_behind}
use Rattle.dl_owl.proofs.RightLemmas.{sup_refused, sup_class, classed}
use Rattle.dl_owl.proofs.right.part.Goals as goal

pub returns-in_err-advance : goal.returns-in_err-advance
returns-in_err-advance c =
    λ not.
    exit_by (ReadsOne sup_then (here c.args.at.now c.args.prefixes.now c.args.names.now)
    (here c.advance.new.self c.args.prefixes.now c.args.names.now))
    c.from_residual.result c.in_err-advance.field-0.0 c.from_residual.ensures.1
    (λ k.
    keyword-faults ObjectSomeValuesFrom (sup_then k)
    (open_then (role_then (λ r. filler_then r (λ part. close_then (k (part ∷ [])))))) c.args.at.now
    c.args.prefixes.now c.args.names.now (c.is_word.ensures.0 c.if-is_word.true) refl c.in_err-advance.field-0.0
    c.in_err-advance.ensures)

pub returns-then-is_word : goal.returns-then-is_word
returns-then-is_word c =
    λ not.
    one_behind sup_then (λ k. open_then (role_then (λ r. filler_then r (λ part. close_then (k part)))))
    (here c.args.at.now c.args.prefixes.now c.args.names.now)
    (here c.advance.new.self c.args.prefixes.now c.args.names.now)
    (here c.some_part.new.at c.args.prefixes.now c.some_part.new.names) c.some_part.result
    (λ k.
    keyword-goes ObjectSomeValuesFrom (sup_then k)
    (open_then (role_then (λ r. filler_then r (λ part. close_then (k (part ∷ [])))))) c.args.at.now
    c.args.prefixes.now c.args.names.now (c.is_word.ensures.0 c.if-is_word.true) refl c.advance.new.self
    c.in_ok-advance.ensures)
    c.some_part.ensures

pub returns-in_err-advance-2 : goal.returns-in_err-advance-2
returns-in_err-advance-2 c =
    λ not.
    exit_by (ReadsOne sup_then (here c.args.at.now c.args.prefixes.now c.args.names.now)
    (here c.advance-then-is_word-2.new.self c.args.prefixes.now c.args.names.now))
    c.from_residual-in_err-advance-2.result c.in_err-advance-2.field-0.0 c.from_residual-in_err-advance-2.ensures.1
    (λ k.
    keyword-faults ObjectComplementOf (sup_then k) (open_then (sub_then (λ b. close_then (k (part.Not b ∷ [])))))
    c.args.at.now c.args.prefixes.now c.args.names.now (c.is_word-2.ensures.0 c.if-is_word-2.true) refl
    c.in_err-advance-2.field-0.0 c.in_err-advance-2.ensures)

pub returns-then-is_word-2 : goal.returns-then-is_word-2
returns-then-is_word-2 c =
    λ not.
    one_behind sup_then (λ k. open_then (sub_then (λ b. close_then (k (part.Not b)))))
    (here c.args.at.now c.args.prefixes.now c.args.names.now)
    (here c.advance-then-is_word-2.new.self c.args.prefixes.now c.args.names.now)
    (here c.complement.new.at c.args.prefixes.now c.complement.new.names) c.complement.result
    (λ k.
    keyword-goes ObjectComplementOf (sup_then k) (open_then (sub_then (λ b. close_then (k (part.Not b ∷ [])))))
    c.args.at.now c.args.prefixes.now c.args.names.now (c.is_word-2.ensures.0 c.if-is_word-2.true) refl
    c.advance-then-is_word-2.new.self c.in_ok-advance-2.ensures)
    c.complement.ensures

pub returns-in-Some : goal.returns-in-Some
returns-in-Some c =
    λ not k.
    subst (Faults (sup_then k) (here c.args.at.now c.args.prefixes.now c.args.names.now) c.args.names.now)
    (sym (c.refused_sup.ensures ∙ ap (fault_of (refused_sup c.in-Some.word)) c.start-start.ensures))
    (faults-refused (sup_then k) c.args.at.now c.args.prefixes.now c.args.names.now (refused_sup c.in-Some.word)
    (sup_refused c.args.at.now.token.kind c.in-Some.word
    (slice_range c.args.at.now.bytes c.args.at.now.token.start c.args.at.now.token.end) c.args.prefixes.now k
    c.in-Some.ensures not (not_kind c.is_word-2.result _ c.is_word-2.ensures c.if-is_word-2.false)
    (not_kind c.is_word.result _ c.is_word.ensures c.if-is_word.false)))

pub returns-in_err-class_or_thing : goal.returns-in_err-class_or_thing
returns-in_err-class_or_thing c =
    λ not.
    exit_by (ReadsOne sup_then (here c.args.at.now c.args.prefixes.now c.args.names.now)
    (here c.class_or_thing.new.at c.args.prefixes.now c.class_or_thing.new.names))
    c.from_residual-in_err-class_or_thing.result c.in_err-class_or_thing.field-0.0
    c.from_residual-in_err-class_or_thing.ensures.1
    (λ k.
    c.in_err-class_or_thing.ensures syntax (ap fault.Syntax c.start-start.ensures) (sup_then k) (classed k)
    (sup_class c.args.at.now.token.kind
    (slice_range c.args.at.now.bytes c.args.at.now.token.start c.args.at.now.token.end) c.args.prefixes.now k
    c.in_default.ensures))

pub returns-in-None : goal.returns-in-None
returns-in-None c =
    λ not k.
    subst
    (λ o.
    Goes (sup_then k) (here c.args.at.now c.args.prefixes.now c.args.names.now) (classed k o)
    (here c.class_or_thing.new.at c.args.prefixes.now c.class_or_thing.new.names))
    c.in-None.is
    (c.in_ok-class_or_thing.ensures syntax (ap fault.Syntax c.start-start.ensures) (sup_then k) (classed k)
    (sup_class c.args.at.now.token.kind
    (slice_range c.args.at.now.bytes c.args.at.now.token.start c.args.at.now.token.end) c.args.prefixes.now k
    c.in_default.ensures))

pub returns-in-Some-2 : goal.returns-in-Some-2
returns-in-Some-2 c =
    λ not k.
    subst
    (λ o.
    Goes (sup_then k) (here c.args.at.now c.args.prefixes.now c.args.names.now) (classed k o)
    (here c.class_or_thing.new.at c.args.prefixes.now c.class_or_thing.new.names))
    c.in-Some-2.is
    (c.in_ok-class_or_thing.ensures syntax (ap fault.Syntax c.start-start.ensures) (sup_then k) (classed k)
    (sup_class c.args.at.now.token.kind
    (slice_range c.args.at.now.bytes c.args.at.now.token.start c.args.at.now.token.end) c.args.prefixes.now k
    c.in_default.ensures))
