use Rattle.std.proofs.Common.{◌∙◌, ◌++◌, ◌∷◌, [], ap, refl, arith}
use Rattle.dl_query.specs.Parts.{atom_of}
use Rattle.dl_query.proofs.BodyLemmas.{Keeps-added, AreBelow-more}
use Rattle.dl_query.proofs.body.Body.add.Goals as goal
use Rattle.dl_query.proofs.body.Body.add.Goals.{else-self-le-MAX_ATOMS-via-then-self-le-MAX_ATOMS+else-variables-le-MAX_KEPT_VARIABLES, else-self-le-MAX_ATOMS-via-else-self-le-MAX_ATOMS}

pub atom-requires : goal.atom-requires
atom-requires c = AreBelow-more c.args.variables 256 c.args.statement c.if-variables-le-MAX_KEPT_VARIABLES.true c.requires.below

pub returns-in_ok-push-clause-ok : goal.returns-in_ok-push-clause-ok
returns-in_ok-push-clause-ok c = λ atoms before heads grows keeps.
    Keeps-added c.args.self.now _ atoms (atom_of c.args.statement) before c.args.variables heads grows keeps refl c.mark_all.ensures
    (λ few short. c.in_ok-push.ensures.ok ∙ ap (λ x. c.args.self.now.kept ++ x ∷ []) c.atom.ensures)

pub returns-else-self-le-MAX_ATOMS-clause-ok : goal.returns-else-self-le-MAX_ATOMS-clause-ok
returns-else-self-le-MAX_ATOMS-clause-ok c = λ atoms before heads grows keeps.
    Keeps-added c.args.self.now _ atoms (atom_of c.args.statement) before c.args.variables heads grows keeps refl c.mark_all.ensures
    (λ few short. absurd (elim c.else-self-le-MAX_ATOMS.branch [
      | else-self-le-MAX_ATOMS-via-then-self-le-MAX_ATOMS+else-variables-le-MAX_KEPT_VARIABLES w ↦ omega (arith, short, w.if-variables-le-MAX_KEPT_VARIABLES.false)
      | else-self-le-MAX_ATOMS-via-else-self-le-MAX_ATOMS w ↦ omega (arith, few, w.if-self-le-MAX_ATOMS.false)
    ]))
