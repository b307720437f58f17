use Rattle.std.proofs.Common.{◌≡◌, ◌++◌, ◌-◌, map, ap, ◌∙◌, arith}
use Rattle.std.specs.List.{range_with_len}
use Rattle.dl_stream.specs.Generator.{class_below}
use Rattle.dl_stream.proofs.GeneratedListLemmas.{one_pushed}
use Rattle.dl_stream.proofs.generated_axioms.push_classes.Goals as goal

pub loop-i-preserved : goal.loop-i-preserved
loop-i-preserved c =
    one_pushed class_below 1 c.loop-i.i c.args.axioms.now c.loop-i.axioms c.push.new.self c.in_ok-sub_class.field-0 (omega arith)
    c.loop-i.invariant c.in_ok-push.ensures.ok c.in_ok-sub_class.ensures

pub returns : goal.returns
returns c =
    let all : c.loop-i.i - 1 ≡ 31 = omega arith in
    c.loop-i.invariant ∙ ap (λ n. c.args.axioms.now ++ map class_below (range_with_len 1 n)) all
