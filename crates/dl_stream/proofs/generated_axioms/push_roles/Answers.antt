use Rattle.std.proofs.Common.{◌≡◌, ◌++◌, ◌-◌, map, ap, ◌∙◌, arith}
use Rattle.std.specs.List.{range_with_len}
use Rattle.dl_terms.specs.declared.axiom.Axiom.TheVariants.{SubRole}
use Rattle.dl_stream.specs.Generator.{role_below}
use Rattle.dl_stream.proofs.GeneratedListLemmas.{one_pushed}
use Rattle.dl_stream.proofs.generated_axioms.push_roles.Goals as goal

pub loop-j-preserved : goal.loop-j-preserved
loop-j-preserved c =
    one_pushed (role_below c.args.size) 1 c.loop-j.j c.args.axioms.now c.loop-j.axioms c.push.new.self
    (SubRole c.role_of.result c.role_of-in-loop-j.result) (omega arith) c.loop-j.invariant c.in_ok-push.ensures.ok
    (λ i. SubRole (c.role_of.ensures i) (c.role_of-in-loop-j.ensures i))

pub returns : goal.returns
returns c =
    let all : c.loop-j.j - 1 ≡ 7 = omega arith in
    c.loop-j.invariant ∙ ap (λ n. c.args.axioms.now ++ map (role_below c.args.size) (range_with_len 1 n)) all
