use Rattle.std.proofs.Common.{◌↔◌, List, sym, subst}
use Rattle.std.specs.List.{All, Contains}
use Rattle.std.proofs.lemmas.List.Elements.{All-weaker, All-push, All-contains, All-contains_itself}
use Rattle.dl_terms.specs.Auxiliaries.{HasNoAuxiliary}
use Rattle.dl_epoch.specs.Known.{IsAxiomIn}
use Rattle.bench_facts.proofs.epoch.inclusions.Goals as goal

-- what holds of each item of a list holds of each item of its set
all_in : {A : Type 0} (P : A → Type 0) (set items : List A) → ((x : A) → Contains set x ↔ Contains items x) → All P items → All P set
all_in P set items members all =
    All-weaker (Contains set) P (λ x c. All-contains P items x all ((members x).0 c)) set (All-contains_itself set)

pub loop-i-preserved : goal.loop-i-preserved
loop-i-preserved c =
    let plain = All-push HasNoAuxiliary c.loop-i.axioms c.in_ok-axiom.axiom c.loop-i.invariant.no_auxiliary c.in_ok-axiom.ensures.no_auxiliary in
    let known = All-push (IsAxiomIn c.args.signature.now) c.loop-i.axioms c.in_ok-axiom.axiom c.loop-i.invariant.known c.in_ok-axiom.ensures.known in record {
      no_auxiliary = subst (All HasNoAuxiliary) (sym c.in_ok-push.ensures.ok) plain;
      known = subst (All (IsAxiomIn c.args.signature.now)) (sym c.in_ok-push.ensures.ok) known;
    }

pub returns-clause-no_auxiliary : goal.returns-clause-no_auxiliary
returns-clause-no_auxiliary c =
    all_in HasNoAuxiliary c.axiom_set.result c.loop-i.axioms c.axiom_set.ensures.members c.loop-i.invariant.no_auxiliary

pub returns-clause-known : goal.returns-clause-known
returns-clause-known c =
    all_in (IsAxiomIn c.args.signature.now) c.axiom_set.result c.loop-i.axioms c.axiom_set.ensures.members c.loop-i.invariant.known
