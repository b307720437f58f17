use Rattle.std.proofs.Common.{◌∙◌, ap, refl, false, get_or, length}
use Rattle.std.proofs.lemmas.List.{get_or-replicate}
use Rattle.std.proofs.Math.ListN.{length-replicate}
use Rattle.dl_query.proofs.body.Body.new.Goals as goal

pub returns-clause-ok : goal.returns-clause-ok
returns-clause-ok c = record {
  counted = refl;
  kept = λ few short. c.new.ensures;
  marks = ap length c.in_ok-bound.ensures ∙ length-replicate c.args.heads false;
  marked = λ v h. ap (λ l. get_or l v false) c.in_ok-bound.ensures ∙ get_or-replicate c.args.heads v false false h;
}
