use Rattle.std.proofs.Common.{refl, subst}
use Rattle.dl_lex.specs.declared.keyword.Keyword.TheVariants.{ObjectSomeValuesFrom}
use Rattle.dl_owl.specs.Expected.{filler_then}
use Rattle.dl_owl.specs.Steps.{refused_class}
use Rattle.dl_owl.specs.Walk.{here, symbol_at, Goes}
use Rattle.dl_owl.proofs.CursorLemmas.{exit_reads}
use Rattle.dl_owl.proofs.ReaderLemmas.{filled}
use Rattle.dl_owl.proofs.class.filler.Goals as goal

pub returns-in_err-class_or_thing : goal.returns-in_err-class_or_thing
returns-in_err-class_or_thing c =
    exit_reads (filler_then c.args.role) (here c.args.at.now c.args.prefixes.now c.args.names.now)
    (here c.class_or_thing.new.at c.args.prefixes.now c.class_or_thing.new.names) c.from_residual.result
    c.in_err-class_or_thing.field-0.0 c.from_residual.ensures.1
    (λ k.
    c.in_err-class_or_thing.ensures (refused_class ObjectSomeValuesFrom (symbol_at c.args.at.now)) c.no_class-other.ensures
    (filler_then c.args.role k) (filled c.args.role k) refl)

pub returns-in-None : goal.returns-in-None
returns-in-None c =
    λ k.
    subst
    (λ o.
    Goes (filler_then c.args.role k) (here c.args.at.now c.args.prefixes.now c.args.names.now) (filled c.args.role k o)
    (here c.class_or_thing.new.at c.args.prefixes.now c.class_or_thing.new.names))
    c.in-None.is
    (c.in_ok-class_or_thing.ensures (refused_class ObjectSomeValuesFrom (symbol_at c.args.at.now)) c.no_class-other.ensures
    (filler_then c.args.role k) (filled c.args.role k) refl)

pub returns-in-Some : goal.returns-in-Some
returns-in-Some c =
    λ k.
    subst
    (λ o.
    Goes (filler_then c.args.role k) (here c.args.at.now c.args.prefixes.now c.args.names.now) (filled c.args.role k o)
    (here c.class_or_thing.new.at c.args.prefixes.now c.class_or_thing.new.names))
    c.in-Some.is
    (c.in_ok-class_or_thing.ensures (refused_class ObjectSomeValuesFrom (symbol_at c.args.at.now)) c.no_class-other.ensures
    (filler_then c.args.role k) (filled c.args.role k) refl)
