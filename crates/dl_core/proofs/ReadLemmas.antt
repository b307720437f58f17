-- What a stream with a pin reads, and that sets ascend.
use Rattle.std.proofs.Common.{◌≡◌, ℕ, ◌≤◌, Bool, true, false, cond, ◌==◌, List, [], ◌∷◌, ◌++◌, Contains, Some, subst, ◌∙◌}
use Rattle.dl_terms.proofs.MemberLemmas.{Contains-first, Contains-later, All-Contains}
use Rattle.dl_edits.specs.Edits.{edited_axioms, edited_facts, edited_signature}
use Rattle.dl_core.specs.History.{Load, Entry, version_of, after_commits, axioms_at, facts_at, signature_at, pin_of}
use Rattle.dl_core.specs.Root.{Root, epochs, pin_in, IsLive, ReadsAs, IsLoad}
use Rattle.dl_core.specs.Next.{Numbering, IsNumbering, loaded, next}
use Rattle.dl_core.specs.Legal.{IsLegalFrom, IsLegal, root_of}
use Rattle.dl_event.specs.declared.pin.Pin.{Pin}
use Rattle.dl_core.proofs.EpochLemmas.{some_none, some_some}
use Rattle.dl_core.proofs.RunLemmas.{legal_stands, commits_to-more}

-- ---- pins

pub pin_there : (pins : List Pin) (stream v : ℕ) → pin_in pins stream ≡ Some v → (p : Pin) × Contains pins p × (p.version ≡ v)
pin_there [] stream v e = absurd (some_none e)
pin_there (p ∷ pins) stream v e = by (p.stream == stream) e (pin_there pins stream v)
  where
    by : (b : Bool) → cond b (Some p.version) (pin_in pins stream) ≡ Some v
        → (pin_in pins stream ≡ Some v → (q : Pin) × Contains pins q × (q.version ≡ v)) → (q : Pin) × Contains (p ∷ pins) q × (q.version ≡ v)
    by true e ih = (p, Contains-first p pins, some_some e)
    by false e ih = let r = ih e in (r.0, Contains-later p r.0 pins r.1, r.2)

pub legal_before : (numbering : Numbering) (root : Root) (history more : List Entry) → IsLegalFrom numbering root (history ++ more) → IsLegalFrom numbering root history
legal_before numbering root [] more legal = tt
legal_before numbering root (e ∷ history) more legal =
    (legal.0, legal.1, legal_before numbering (next numbering root e.stream e.event).0 history more legal.2)

-- while a stream keeps its pin, it reads what that version had when it was pinned
pub pinned_reads : (numbering : Numbering) (l : Load) (history more : List Entry) (stream v : ℕ) → IsNumbering numbering → IsLoad l
    → IsLegal numbering l (history ++ more) → pin_of history stream ≡ Some v → pin_of (history ++ more) stream ≡ Some v
    → ReadsAs (epochs (root_of numbering l (history ++ more))) (root_of numbering l (history ++ more)).rows v (axioms_at l history v) (signature_at l history v)
    (facts_at l history v)
pinned_reads numbering l history more stream v numbers is legal pin still =
    let before = legal_stands numbering l history numbers is (legal_before numbering (loaded numbering l) history more legal) in
    let now = legal_stands numbering l (history ++ more) numbers is legal in
    let p = pin_there (root_of numbering l history).pins stream v (before.pins.are stream ∙ pin) in
    let q = pin_there (root_of numbering l (history ++ more)).pins stream v (now.pins.are stream ∙ still) in
    let range = All-Contains (λ p. (1 ≤ p.version) × (p.version ≤ (root_of numbering l history).version)) (root_of numbering l history).pins p.0 before.pins.versions p.1 in
    let below : v ≤ version_of history = subst (λ n. v ≤ n) before.version (subst (λ n. n ≤ (root_of numbering l history).version) p.2 range.1) in
    subst (λ cs. ReadsAs (epochs (root_of numbering l (history ++ more))) (root_of numbering l (history ++ more)).rows v (after_commits edited_axioms cs l.axioms)
    (after_commits edited_signature cs l.signature) (after_commits edited_facts cs l.facts)) (commits_to-more history more v below)
    (now.reads v (IsLive.pinned q.0 q.1 q.2))
