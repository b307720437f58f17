use Rattle.std.proofs.Common.{◌+◌, take, get_or}
use Rattle.std.specs.List.{All}
use Rattle.dl_terms.specs.declared.query.Term.TheVariants.{Var}
use Rattle.dl_models.specs.Meaning.{StandsFor}
use Rattle.dl_models.specs.Structures.{finite}
use Rattle.dl_models.proofs.ValueLemmas.{adds-true, adds-false, adds-more, adds-not, adds-same, All-last, All-part, All-whole}
use Rattle.dl_models.proofs.values.bind_all.Goals as goal

pub returns-then-not-branch : goal.returns-then-not-branch
returns-then-not-branch c =
    adds-not (λ m. All (λ t. StandsFor (finite c.args.model.now) m t.0 t.1) (take c.loop-term.term-index c.args.terms.now)) (λ m. StandsFor (finite c.args.model.now) m (get_or c.args.terms.now c.loop-term.term-index (Var 0, 0)).0 (get_or c.args.terms.now c.loop-term.term-index (Var 0, 0)).1) (λ m. All (λ t. StandsFor (finite c.args.model.now) m t.0 t.1) c.args.terms.now)
    c.args.values.now.items c.loop-term.values.items c.loop-term.invariant (adds-false (λ m. StandsFor (finite c.args.model.now) m (get_or c.args.terms.now c.loop-term.term-index (Var 0, 0)).0 (get_or c.args.terms.now c.loop-term.term-index (Var 0, 0)).1) c.loop-term.values.items c.bind.new.values.items c.in_ok-bind.field-0 c.in_ok-bind.ensures c.if-not-branch.true)
    (λ m. All-part (λ t. StandsFor (finite c.args.model.now) m t.0 t.1) c.args.terms.now c.loop-term.term-index (Var 0, 0) c.loop-term-test.true)

pub loop-term-preserved : goal.loop-term-preserved
loop-term-preserved c =
    adds-more (λ m. All (λ t. StandsFor (finite c.args.model.now) m t.0 t.1) (take c.loop-term.term-index c.args.terms.now)) (λ m. StandsFor (finite c.args.model.now) m (get_or c.args.terms.now c.loop-term.term-index (Var 0, 0)).0 (get_or c.args.terms.now c.loop-term.term-index (Var 0, 0)).1)
    (λ m. All (λ t. StandsFor (finite c.args.model.now) m t.0 t.1) (take (c.loop-term.term-index + 1) c.args.terms.now)) c.args.values.now.items
    c.loop-term.values.items c.bind.new.values.items c.loop-term.invariant (adds-true (λ m. StandsFor (finite c.args.model.now) m (get_or c.args.terms.now c.loop-term.term-index (Var 0, 0)).0 (get_or c.args.terms.now c.loop-term.term-index (Var 0, 0)).1) c.loop-term.values.items c.bind.new.values.items c.in_ok-bind.field-0 c.in_ok-bind.ensures c.if-not-branch.false)
    (λ m. All-last (λ t. StandsFor (finite c.args.model.now) m t.0 t.1) c.args.terms.now c.loop-term.term-index (Var 0, 0) c.loop-term-test.true)

pub returns : goal.returns
returns c =
    adds-same (λ m. All (λ t. StandsFor (finite c.args.model.now) m t.0 t.1) (take c.loop-term.term-index c.args.terms.now)) (λ m. All (λ t. StandsFor (finite c.args.model.now) m t.0 t.1) c.args.terms.now)
    c.args.values.now.items c.loop-term.values.items
    (λ m. All-whole (λ t. StandsFor (finite c.args.model.now) m t.0 t.1) c.args.terms.now c.loop-term.term-index c.loop-term-test.false) c.loop-term.invariant
