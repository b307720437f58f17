use Rattle.std.proofs.Common.{◌∙◌, [], ◌∷◌}
use Rattle.dl_terms.specs.declared.query.Term.TheVariants.{Var}
use Rattle.dl_join.specs.Searching.{IsGiven}
use Rattle.dl_join.proofs.OrderLemmas.{set_ascending}
use Rattle.dl_join.proofs.JoinLemmas.{gathered_exactly}
use Rattle.dl_join.proofs.LeafLemmas.{one_covered, names_exact}
use Rattle.dl_join.proofs.reduced.searched_names.Goals as goal

pub searched-requires-clause-covered : goal.searched-requires-clause-covered
searched-requires-clause-covered c = one_covered c.args.var c.args.needs.now c.requires.some

pub finish-requires : goal.finish-requires
finish-requires c = c.in-Ok.ensures.ok.valid

pub doubled-requires : goal.doubled-requires
doubled-requires c = c.in-Ok-finish.ensures.width ∙ (c.in-Ok.ensures.ok.width ∙ c.new-gathered.ensures.width)

pub returns : goal.returns
returns c =
    let given = IsGiven c.args.needs.now (Var c.args.var ∷ []) in
    let tuples = c.in-Ok-finish.tuples.tuples in
    let exact = gathered_exactly given given c.new-gathered.result c.searched.new.gathered tuples c.new-gathered.ensures.none c.in-Ok.ensures.ok c.in-Ok-finish.ensures.tuples
    (λ t g. g) (λ t g. g) in
    record {
      ascending = set_ascending c.set_of.result c.set_of.ensures.ascending;
      names = names_exact c.args.var c.args.needs.now tuples c.set_of.result exact (rw (c.of.ensures, c.in_ok-pairs.ensures) at c.set_of.ensures);
    }
