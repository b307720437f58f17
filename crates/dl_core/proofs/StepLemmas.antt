-- One step more: a history that gains an entry, and the root after it.
use Rattle.std.proofs.Common.{◌≡◌, ℕ, List, [], ◌∷◌, ◌++◌, refl, sym, ap, subst, ◌∙◌}
use Rattle.dl_core.specs.History.{Load, Entry}
use Rattle.dl_core.specs.Root.{Root, StandsFor}
use Rattle.dl_core.specs.Next.{Numbering, GoesByRule, MeetsCondition, next, loaded}
use Rattle.dl_core.specs.Legal.{root_from, IsLegalFrom, IsLegal, root_of}
use Rattle.dl_core.specs.Steps.{longer, IsStep}
use Rattle.dl_event.specs.declared.event.Event.{Event}
use Rattle.dl_event.specs.declared.reply.Reply.{Reply}
use Rattle.dl_core.proofs.RuleLemmas.{rule_is_numbering}
use Rattle.dl_core.proofs.RunLemmas.{next_keeps}

root_from-push : (numbering : Numbering) (root : Root) (history : List Entry) (e : Entry)
    → root_from numbering root (history ++ e ∷ []) ≡
    (next numbering (root_from numbering root history) e.stream e.event).0
root_from-push numbering root [] e = refl
root_from-push numbering root (d ∷ history) e =
    root_from-push numbering (next numbering root d.stream d.event).0 history e

legal-push : (numbering : Numbering) (root : Root) (history : List Entry) (e : Entry)
    → IsLegalFrom numbering root history
    → MeetsCondition (root_from numbering root history) e.event
    → (next numbering (root_from numbering root history) e.stream e.event).1 ≡ e.reply
    → IsLegalFrom numbering root (history ++ e ∷ [])
legal-push numbering root [] e legal meets is = (meets, is, tt)
legal-push numbering root (d ∷ history) e legal meets is =
    (legal.0, legal.1, legal-push numbering (next numbering root d.stream d.event).0 history e legal.2 meets is)

-- the next root stands for the longer history
pub step_keeps : (numbering : Numbering) → GoesByRule numbering → (root : Root) (stream : ℕ) (event : Event)
    → MeetsCondition root event
    → (load : Load) (history : List Entry) → StandsFor load history root → (after : Root × Reply)
    → after ≡ next numbering root stream event
    → StandsFor load (longer history stream event after.1) after.0
step_keeps numbering rule root stream event meets load history stands after is =
    subst (λ a. StandsFor load (longer history stream event a.1) a.0) (sym is)
    (next_keeps numbering load history root stands stream event (rule_is_numbering numbering rule) meets.0)

-- and a legal history stays legal
pub step_legal : (numbering : Numbering) (root : Root) (stream : ℕ) (event : Event) → MeetsCondition root event
    → (load : Load) (history : List Entry) → IsLegal numbering load history → root ≡ root_of numbering load history
    → (after : Root × Reply) → after ≡ next numbering root stream event
    → IsStep numbering load history stream event after
step_legal numbering root stream event meets load history legal at after is = record {
  legal = legal-push numbering (loaded numbering load) history
      (record { stream = stream; event = event; reply = after.1 }) legal
      (subst (λ r. MeetsCondition r event) at meets)
      (ap (λ r. (next numbering r stream event).1) (sym at) ∙ ap (λ a. a.1) (sym is));
  root = ap (λ a. a.0) is ∙ ap (λ r. (next numbering r stream event).0) at
      ∙ sym (root_from-push numbering (loaded numbering load) history
      (record { stream = stream; event = event; reply = after.1 }));
}
