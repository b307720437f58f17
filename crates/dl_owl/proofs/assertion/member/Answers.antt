use Rattle.std.proofs.Common.{sym, subst}
use Rattle.dl_owl.specs.Steps.{member_then}
use Rattle.dl_owl.specs.Walk.{here, Reads}
use Rattle.dl_owl.proofs.assertion.member.Goals as goal

pub returns-in-Some : goal.returns-in-Some
returns-in-Some c =
    subst
    (λ o.
    Reads (λ k. member_then k o) (here c.args.at.now c.args.prefixes.now c.args.names.now)
    (here c.named_member.new.at c.args.prefixes.now c.named_member.new.names) c.named_member.result)
    (sym c.in-Some.is) c.named_member.ensures

pub returns-in-None : goal.returns-in-None
returns-in-None c =
    subst
    (λ o.
    Reads (λ k. member_then k o) (here c.args.at.now c.args.prefixes.now c.args.names.now)
    (here c.unnamed_member.new.at c.args.prefixes.now c.args.names.now) c.unnamed_member.result)
    (sym c.in-None.is) (c.unnamed_member.ensures c.args.names.now)
