use Rattle.std.proofs.Common.{◌≡◌, [], ◌∷◌, sym, subst}
use Rattle.std.proofs.lemmas.Result.{IfOk-weaker}
use Rattle.dl_answer.specs.Searches.{AreRead}
use Rattle.dl_answer.specs.Sifted.{AreTogether}
use Rattle.dl_answer.proofs.SiftedLemmas.{by_first, by_second}
use Rattle.dl_answer.proofs.uneven.lists_by_fewer.Goals as goal

pub returns-in_ok-few-in-First-clause-lists : goal.returns-in_ok-few-in-First-clause-lists
returns-in_ok-few-in-First-clause-lists g c =
    let Read = AreRead (g.R.Reads.stands c.args.reads.now) c.args.version c.args.hier.now c.args.kept.now in
    let probes = c.args.probes.now in
    let few = c.in_ok-few-in-First.few in
    let many = c.in_ok-few-in-First.many in
    IfOk-weaker c.two_lists.result (λ lists. lists ≡ few ∷ many ∷ []) (AreTogether Read probes)
    (λ lists is. subst (AreTogether Read probes) (sym is)
    (by_first Read probes few many c.requires.one_term _ _ c.index-probes-0.is c.index-probes-1.is
    c.in_ok-few-in-First.ensures.few c.in_ok-few-in-First.ensures.many))
    c.two_lists.ensures

pub returns-in_ok-few-in-Second-clause-lists : goal.returns-in_ok-few-in-Second-clause-lists
returns-in_ok-few-in-Second-clause-lists g c =
    let Read = AreRead (g.R.Reads.stands c.args.reads.now) c.args.version c.args.hier.now c.args.kept.now in
    let probes = c.args.probes.now in
    let few = c.in_ok-few-in-Second.few in
    let many = c.in_ok-few-in-Second.many in
    IfOk-weaker c.two_lists-in-Second.result (λ lists. lists ≡ many ∷ few ∷ []) (AreTogether Read probes)
    (λ lists is. subst (AreTogether Read probes) (sym is)
    (by_second Read probes few many c.requires.one_term _ _ c.index-probes-1-in-Second.is
    c.index-probes-0-in-Second.is c.in_ok-few-in-Second.ensures.few c.in_ok-few-in-Second.ensures.many))
    c.two_lists-in-Second.ensures
