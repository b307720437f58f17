use Rattle.std.proofs.Common.{◌≤◌, inl, refl, subst}
use Rattle.dl_hier.specs.Predicates.{max_predicates}
use Rattle.dl_core.specs.Loading.{load_with}
use Rattle.dl_core.proofs.LoadLemmas.{heavy, light, many, full}
use Rattle.dl_core.proofs.first_root.within_limits.Goals as goal

pub returns-then-weight-gt-MAX_WEIGHT : goal.returns-then-weight-gt-MAX_WEIGHT
returns-then-weight-gt-MAX_WEIGHT c =
    λ shards.
    let l = load_with c.args.axioms.now c.args.signature.now c.args.facts.now shards in
    inl (heavy l c.weight-weight.result c.weight-weight.ensures c.if-weight-gt-MAX_WEIGHT.true)

pub returns-then-count : goal.returns-then-count
returns-then-count c =
    λ shards.
    let l = load_with c.args.axioms.now c.args.signature.now c.args.facts.now shards in
    inl (many l (light l c.weight-weight.result c.weight-weight.ensures c.if-weight-gt-MAX_WEIGHT.false)
    c.in_ok-count.count c.in_ok-count.ensures c.if-count.true)

pub returns-then-rows-gt-MAX_ROWS : goal.returns-then-rows-gt-MAX_ROWS
returns-then-rows-gt-MAX_ROWS c =
    λ shards.
    let l = load_with c.args.axioms.now c.args.signature.now c.args.facts.now shards in
    inl (full l (light l c.weight-weight.result c.weight-weight.ensures c.if-weight-gt-MAX_WEIGHT.false)
    (subst (λ n. n ≤ max_predicates) c.in_ok-count.ensures c.if-count.false) _ refl c.if-rows-gt-MAX_ROWS.true)

pub returns : goal.returns
returns c =
    λ shards.
    let l = load_with c.args.axioms.now c.args.signature.now c.args.facts.now shards in
    record {
      weights = light l c.weight-weight.result c.weight-weight.ensures c.if-weight-gt-MAX_WEIGHT.false;
      few = subst (λ n. n ≤ max_predicates) c.in_ok-count.ensures c.if-count.false;
      kept = c.if-rows-gt-MAX_ROWS.false;
    }
