use Rattle.dl_stream.proofs.DrawLemmas.{AreNext, class_fact, behind_class, link_fact, behind_link}
use Rattle.dl_stream.proofs.draws.Draws.fact.Goals as goal

pub returns-then-below-eq0-clause-state : goal.returns-then-below-eq0-clause-state
returns-then-below-eq0-clause-state c =
    let next : AreNext c.args.self.now.state c.below.new.self.state c.below-then-below-eq0.new.self.state c.below-then-below-eq0-2.new.self.state =
    record { first = c.below.ensures.state; second = c.below-then-below-eq0.ensures.state; third = c.below-then-below-eq0-2.ensures.state } in
    behind_class _ _ _ _ next c.args.size c.below.result c.below.ensures.number c.if-below-eq0.true

pub returns-then-below-eq0-clause-fact : goal.returns-then-below-eq0-clause-fact
returns-then-below-eq0-clause-fact c =
    let next : AreNext c.args.self.now.state c.below.new.self.state c.below-then-below-eq0.new.self.state c.below-then-below-eq0-2.new.self.state =
    record { first = c.below.ensures.state; second = c.below-then-below-eq0.ensures.state; third = c.below-then-below-eq0-2.ensures.state } in
    class_fact _ _ _ _ next c.args.size c.below.result c.below.ensures.number c.below-then-below-eq0.result c.below-then-below-eq0-2.result
    c.if-below-eq0.true c.below-then-below-eq0.ensures.number c.below-then-below-eq0-2.ensures.number

pub returns-clause-state : goal.returns-clause-state
returns-clause-state c =
    let next : AreNext c.args.self.now.state c.below.new.self.state c.below-2.new.self.state c.below-3.new.self.state =
    record { first = c.below.ensures.state; second = c.below-2.ensures.state; third = c.below-3.ensures.state } in
    behind_link _ _ _ _ next c.args.size c.below.result c.below.ensures.number c.below-4.new.self.state c.below-4.ensures.state c.if-below-eq0.false

pub returns-clause-fact : goal.returns-clause-fact
returns-clause-fact c =
    let next : AreNext c.args.self.now.state c.below.new.self.state c.below-2.new.self.state c.below-3.new.self.state =
    record { first = c.below.ensures.state; second = c.below-2.ensures.state; third = c.below-3.ensures.state } in
    link_fact _ _ _ _ next c.args.size c.below.result c.below.ensures.number c.below-4.new.self.state c.below-4.ensures.state c.if-below-eq0.false
    c.below-2.result c.below-3.result c.below-4.result c.below-2.ensures.number c.below-3.ensures.number c.below-4.ensures.number
