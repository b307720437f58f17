use Rattle.std.proofs.Common.{◌≡◌, ◌+◌, map, subst, ap, ◌∙◌, arith}
use Rattle.std.specs.List.{range_with_len}
use Rattle.dl_names.specs.NameList.{names_after}
use Rattle.dl_names.specs.Frozen.{IsFrozen}
use Rattle.dl_stream.specs.Generator.{name_text, name_texts}
use Rattle.dl_stream.proofs.GeneratedNameLemmas.{names_next, frozen_as_made}
use Rattle.dl_stream.proofs.generated_names.generated_names.Goals as goal

pub loop-n-preserved : goal.loop-n-preserved
loop-n-preserved c =
    let text_is = c.as_str.ensures.value ∙ c.in_ok-text.ensures in
    c.in-Ok.ensures.named ∙ (λ i. names_after (c.loop-n.invariant i) (text_is i)) ∙ names_next c.args.size c.requires c.loop-n.n c.loop-n-test.true

pub returns : goal.returns
returns c =
    let all : c.loop-n.n ≡ 40 + c.args.size = omega arith in
    let set_is : c.loop-n.set ≡ name_texts c.args.size =
    c.loop-n.invariant ∙ ap (λ n. map (name_text c.args.size) (range_with_len 0 n)) all in
    frozen_as_made c.args.size c.requires c.in_ok-names.names c.in_ok-names._ranks
    (subst (λ s. IsFrozen s c.in_ok-names.names c.in_ok-names._ranks) set_is c.in_ok-names.ensures)
