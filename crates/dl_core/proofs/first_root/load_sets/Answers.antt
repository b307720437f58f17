use Rattle.std.proofs.Common.{◌≡◌, map, MatchResult, Err, sym, subst}
use Rattle.std.specs.Arc.{arc_value}
use Rattle.std.proofs.lemmas.Result.{err_from_is_err_and}
use Rattle.dl_core.specs.Loading.{IsLoaded, IsLoadFault, load_with}
use Rattle.dl_edits.proofs.FewLemmas.{predicates_few}
use Rattle.dl_core.proofs.LoadLemmas.{is_load, made_held, made_loaded}
use Rattle.dl_core.proofs.first_root.load_sets.Goals as goal

pub build-requires-clause-weight : goal.build-requires-clause-weight
build-requires-clause-weight c = (c.in_ok-within_limits.ensures c.args.shards).weights

pub build-requires-clause-few : goal.build-requires-clause-few
build-requires-clause-few c =
    predicates_few c.args.signature.now c.args.axioms.now (c.in_ok-within_limits.ensures c.args.shards).few

pub loaded_shards-requires-clause-few : goal.loaded_shards-requires-clause-few
loaded_shards-requires-clause-few c = (c.in_ok-within_limits.ensures c.args.shards).kept

pub of-requires : goal.of-requires
of-requires c =
    let l = load_with c.args.axioms.now c.args.signature.now c.args.facts.now c.args.shards in
    let is = is_load l c.requires.signature c.requires.facts c.requires.facts_ascending c.requires.some_shards
    c.requires.few_shards (c.in_ok-within_limits.ensures c.args.shards) in
    let built = c.in_ok-epoch.ensures in
    made_held l is c.in_ok-epoch.epoch built.frozen built.id built.axioms built.signature c.in_ok-book.book
    (map arc_value c.in_ok-shards.shards) c.in_ok-book.ensures c.in_ok-shards.ensures

pub returns-in_err-within_limits : goal.returns-in_err-within_limits
returns-in_err-within_limits c =
    let l = load_with c.args.axioms.now c.args.signature.now c.args.facts.now c.args.shards in
    let p = err_from_is_err_and c.from_residual.result c.from_residual.ensures.1 in
    let is : c.from_residual.result ≡ Err c.in_err-within_limits.field-0.0 = cc (p.1, p.2) in
    subst (λ r. MatchResult r (IsLoaded l) (IsLoadFault l)) (sym is) (c.in_err-within_limits.ensures c.args.shards)

pub returns : goal.returns
returns c =
    let l = load_with c.args.axioms.now c.args.signature.now c.args.facts.now c.args.shards in
    let within = c.in_ok-within_limits.ensures c.args.shards in
    let is = is_load l c.requires.signature c.requires.facts c.requires.facts_ascending c.requires.some_shards
    c.requires.few_shards within in
    let built = c.in_ok-epoch.ensures in
    made_loaded l is c.in_ok-epoch.epoch built.frozen built.id built.axioms built.signature c.in_ok-book.book
    (map arc_value c.in_ok-shards.shards) c.in_ok-book.ensures c.in_ok-shards.ensures c.in_ok-of.field-0
    c.in_ok-of.ensures within
