use Rattle.std.proofs.Common.{◌≡◌, ◌+◌, ◌*◌, ◌++◌, ◌-◌, ◌∷◌, [], map, ap, ◌∙◌, arith}
use Rattle.std.specs.List.{range_with_len}
use Rattle.dl_terms.specs.declared.role.Basic.TheVariants.{Class}
use Rattle.dl_terms.specs.declared.axiom.Part.TheVariants.{Fill}
use Rattle.dl_terms.specs.declared.axiom.Axiom.TheVariants.{SubClass}
use Rattle.dl_stream.specs.Generator.{class_filled}
use Rattle.dl_stream.proofs.GeneratedListLemmas.{one_pushed}
use Rattle.dl_stream.proofs.generated_axioms.push_filled.Goals as goal

pub loop-j-preserved : goal.loop-j-preserved
loop-j-preserved c =
    one_pushed (class_filled c.args.size) 0 c.loop-j.j c.args.axioms.now c.loop-j.axioms c.push.new.self c.in_ok-sub_class.field-0 (omega arith)
    c.loop-j.invariant c.in_ok-push.ensures.ok
    (c.in_ok-sub_class.ensures ∙ ap (λ r. SubClass (Class (4 * c.loop-j.j)) (Fill r (4 * c.loop-j.j + 1) ∷ [])) c.role_of.ensures)

pub returns : goal.returns
returns c =
    let all : c.loop-j.j - 0 ≡ 8 = omega arith in
    c.loop-j.invariant ∙ ap (λ n. c.args.axioms.now ++ map (class_filled c.args.size) (range_with_len 0 n)) all
