use Rattle.std.proofs.Common.{◌≡◌, ◌⊎◌, ◌∙◌, length, refl, sym, arith}
use Rattle.std.specs.List.{Contains}
use Rattle.std.proofs.lemmas.Result.{err_from_is_err_and, IfOk-weaker}
use Rattle.dl_rewrite.specs.OverNames.{SomeHasOverNames}
use Rattle.dl_answer.specs.Searches.{AreRead}
use Rattle.dl_answer.proofs.ReaderLemmas.{goes_further}
use Rattle.dl_answer.proofs.UnionLemmas.{part_shaped, in_front, in_back, part_over, both_given}
use Rattle.dl_answer.proofs.SearchLemmas.{finds_fault, finds_exactly}
use Rattle.dl_answer.proofs.certain.+united.Goals as goal

pub of_first-requires-clause-query : goal.of_first-requires-clause-query
of_first-requires-clause-query g t c = c.requires.query

pub of_first-requires-clause-shaped : goal.of_first-requires-clause-shaped
of_first-requires-clause-shaped g t c = c.requires.shaped

pub of_first-requires-clause-one : goal.of_first-requires-clause-one
of_first-requires-clause-one g t c = c.if-disjuncts-lt2.true

pub of_first-requires-clause-pin : goal.of_first-requires-clause-pin
of_first-requires-clause-pin g t c = c.requires.pin

pub returns-then-disjuncts-lt2-clause-goes : goal.returns-then-disjuncts-lt2-clause-goes
returns-then-disjuncts-lt2-clause-goes g t c = c.of_first.ensures.goes

pub returns-then-disjuncts-lt2-clause-found : goal.returns-then-disjuncts-lt2-clause-found
returns-then-disjuncts-lt2-clause-found g t c = c.of_first.ensures.found

pub united-requires : goal.united-requires
united-requires g t c = λ κs lives.
    let ds = c.args.disjuncts.now in
    let front = c.split_at.result.0.now in (
      omega (arith, c.decreases, c.split_at.ensures.front_len, c.if-disjuncts-lt2.false),
      (
        lives,
        (
          c.requires.query,
          (
            part_shaped c.args.query.now ds front (in_front ds front c.split_at.result.1.now c.split_at.ensures.by_index.0)
                c.requires.shaped,
            c.requires.pin,
          ),
        ),
      ),
    )

pub united-requires-2 : goal.united-requires-2
united-requires-2 g t c = λ κs lives.
    let ds = c.args.disjuncts.now in
    let back = c.split_at.result.1.now in (
      omega (arith, c.decreases, c.split_at.ensures.back_len, c.if-disjuncts-lt2.false),
      (
        lives,
        (
          c.requires.query,
          (
            part_shaped c.args.query.now ds back (in_back ds c.split_at.result.0.now back c.split_at.ensures.by_index.0)
                c.requires.shaped,
            c.united.ensures.goes.fetched.pin ∙ c.requires.pin,
          ),
        ),
      ),
    )

pub returns-in_err-one-clause-goes : goal.returns-in_err-one-clause-goes
returns-in_err-one-clause-goes g t c = c.united.ensures.goes

pub returns-in_err-one-clause-found : goal.returns-in_err-one-clause-found
returns-in_err-one-clause-found g t c =
    let h = c.args.hier.now in
    let Read = AreRead (g.R.Reads.stands c.args.reads.now) c.args.version c.args.hier.now c.args.kept.now in
    let ds = c.args.disjuncts.now in
    let front = c.split_at.result.0.now in
    let p = err_from_is_err_and c.from_residual.result c.from_residual.ensures.1 in
    let fault = c.in_err-one.field-0.0 in
    finds_fault Read (λ axioms known. SomeHasOverNames axioms known ds) _ c.args.limit
    c.from_residual.result fault (cc (p.1, p.2))
    (λ axioms known read.
    part_over h c.args.query.now c.args.limit ds c.requires.shaped axioms known read.behind front
    (in_front ds front c.split_at.result.1.now c.split_at.ensures.by_index.0) fault
    (c.in_err-one.ensures.found.tuples axioms known read))

pub returns-in_err-two-clause-goes : goal.returns-in_err-two-clause-goes
returns-in_err-two-clause-goes g t c = goes_further c.united.ensures.goes c.united-2.ensures.goes

pub returns-in_err-two-clause-found : goal.returns-in_err-two-clause-found
returns-in_err-two-clause-found g t c =
    let h = c.args.hier.now in
    let Read = AreRead (g.R.Reads.stands c.args.reads.now) c.args.version c.args.hier.now c.args.kept.now in
    let ds = c.args.disjuncts.now in
    let back = c.split_at.result.1.now in
    let p = err_from_is_err_and c.from_residual-in_err-two.result c.from_residual-in_err-two.ensures.1 in
    let fault = c.in_err-two.field-0.0 in
    finds_fault Read (λ axioms known. SomeHasOverNames axioms known ds) _ c.args.limit
    c.from_residual-in_err-two.result fault (cc (p.1, p.2))
    (λ axioms known read.
    part_over h c.args.query.now c.args.limit ds c.requires.shaped axioms known read.behind back
    (in_back ds c.split_at.result.0.now back c.split_at.ensures.by_index.0) fault
    (c.in_err-two.ensures.found.tuples axioms known (c.united.ensures.goes.stays axioms known read)))

pub same-one : goal.same-one
same-one g t c = refl

pub union-requires-clause-one : goal.union-requires-clause-one
union-requires-clause-one g t c = c.in_ok-one.ensures.found.ascending

pub union-requires-clause-two : goal.union-requires-clause-two
union-requires-clause-two g t c = c.in_ok-two.ensures.found.ascending

pub union-requires-clause-width : goal.union-requires-clause-width
union-requires-clause-width g t c = c.in_ok-two.ensures.found.width ∙ sym c.in_ok-one.ensures.found.width

pub union-requires-clause-one_within : goal.union-requires-clause-one_within
union-requires-clause-one_within g t c = c.in_ok-one.ensures.found.within

pub union-requires-clause-two_within : goal.union-requires-clause-two_within
union-requires-clause-two_within g t c = c.in_ok-two.ensures.found.within

pub returns-clause-goes : goal.returns-clause-goes
returns-clause-goes g t c = goes_further c.united.ensures.goes c.united-2.ensures.goes

pub returns-clause-found : goal.returns-clause-found
returns-clause-found g t c =
    let h = c.args.hier.now in
    let Read = AreRead (g.R.Reads.stands c.args.reads.now) c.args.version c.args.hier.now c.args.kept.now in
    let ds = c.args.disjuncts.now in
    let one = c.in_ok-one.one in
    let two = c.in_ok-two.two in
    finds_exactly Read (λ axioms known. SomeHasOverNames axioms known ds) (length c.args.query.now.head)
    c.args.limit c.union.result (λ tuple. Contains one.tuples tuple ⊎ Contains two.tuples tuple) c.union.ensures.tuples
    (IfOk-weaker c.union.result (λ all. all.width ≡ one.width) (λ all. all.width ≡ length c.args.query.now.head)
    (λ all same. same ∙ c.in_ok-one.ensures.found.width) c.union.ensures.width)
    c.union.ensures.within
    (λ axioms known read.
    both_given h c.args.query.now c.args.limit ds c.requires.shaped axioms known read.behind c.split_at.result.0.now
    c.split_at.result.1.now c.split_at.ensures.by_index.0 one two
    (c.in_ok-one.ensures.found.tuples axioms known read).0
    (c.in_ok-two.ensures.found.tuples axioms known (c.united.ensures.goes.stays axioms known read)).0
    c.union.result c.union.ensures.tuples c.union.ensures.within c.union.ensures.many)
