-- Lists of entries that grow: what their versions have stays.
use Rattle.std.proofs.Common.{◌≡◌, ℕ, ◌≤◌, List, [], ◌++◌, sym, ap, ◌∙◌, append_assoc, append-nil}
use Rattle.dl_edits.specs.Edits.{edited_axioms, edited_facts, edited_signature}
use Rattle.dl_core.specs.History.{Load, Entry, version_of, after_commits, commits_to, axioms_at, facts_at, signature_at}
use Rattle.dl_core.specs.Legal.{Begins}
use Rattle.dl_core.proofs.RunLemmas.{commits_to-more}

pub begins_itself : (seen : List Entry) → Begins seen seen
begins_itself seen = ([], sym (append-nil seen))

pub begins_further : (a b c : List Entry) → Begins a b → Begins b c → Begins a c
begins_further a b c one two = (one.0 ++ two.0, two.1 ∙ ap (λ xs. xs ++ two.0) one.1 ∙ append_assoc a one.0 two.0)

module _ (l : Load) (seen longer : List Entry) (v : ℕ) (begins : Begins seen longer) (below : v ≤ version_of seen) where
  commits_stay : commits_to longer v ≡ commits_to seen v
  commits_stay = ap (λ h. commits_to h v) begins.1 ∙ commits_to-more seen begins.0 v below

  pub axioms_stay : axioms_at l longer v ≡ axioms_at l seen v
  axioms_stay = ap (λ cs. after_commits edited_axioms cs l.axioms) commits_stay

  pub facts_stay : facts_at l longer v ≡ facts_at l seen v
  facts_stay = ap (λ cs. after_commits edited_facts cs l.facts) commits_stay

  pub signature_stays : signature_at l longer v ≡ signature_at l seen v
  signature_stays = ap (λ cs. after_commits edited_signature cs l.signature) commits_stay
