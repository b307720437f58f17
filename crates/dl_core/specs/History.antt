-- Loads, histories, and what a history says of each version and of each stream. They are this project's own.
use Rattle.std.specs.Prelude.{ℕ, ◌+◌, ◌-◌, cond, ◌==◌, List, [], ◌∷◌, length, take}
use Rattle.std.specs.List.{filter_map, fold}
use Rattle.std.specs.declared.option.Option.{Option}
use Rattle.std.specs.declared.option.Option.TheVariants.{Some, None}
use Rattle.dl_terms.specs.declared.axiom.Axiom.{Axiom}
use Rattle.dl_terms.specs.declared.axiom.Fact.{Fact}
use Rattle.dl_terms.specs.declared.axiom.Signature.{Signature}
use Rattle.dl_edits.specs.Edits.{edited_axioms, edited_facts, edited_signature}
use Rattle.dl_event.specs.declared.event.Edit.{Edit}
use Rattle.dl_event.specs.declared.event.Event.{Event}
use Rattle.dl_event.specs.declared.event.Event.TheVariants as event
use Rattle.dl_event.specs.declared.reply.Reply.{Reply}
use Rattle.dl_event.specs.declared.reply.Reply.TheVariants as reply

-- a load: sets of axioms and facts, a signature, and a number of shards
pub record Load : Type 0 where
  pub axioms : List Axiom
  pub signature : Signature
  pub facts : List Fact
  pub shards : ℕ

-- an entry of a history: what a stream asked for, and what it was told
pub record Entry : Type 0 where
  pub stream : ℕ
  pub event : Event
  pub reply : Reply

-- the edits of a commit that was accepted
abbrev pub accepted : Event → Reply → Option (List Edit)
accepted (event.Commit edits) (reply.Committed v e) = Some edits
accepted e r = None

-- the edits of the accepted commits, in order
abbrev pub commits : List Entry → List (List Edit)
commits history = filter_map (λ e. accepted e.event e.reply) history

-- the version: 1, and 1 more for each accepted commit
abbrev pub version_of : List Entry → ℕ
version_of history = 1 + length (commits history)

-- what is left after the edits of some commits
abbrev pub after_commits : {A : Type 0} → (List Edit → A → A) → List (List Edit) → A → A
after_commits by [] x = x
after_commits by (edits ∷ later) x = after_commits by later (by edits x)

-- the commits that lead to a version
abbrev pub commits_to : List Entry → ℕ → List (List Edit)
commits_to history version = take (version - 1) (commits history)

-- ontology, facts and signature at a version
abbrev pub axioms_at : Load → List Entry → ℕ → List Axiom
axioms_at l history v = after_commits edited_axioms (commits_to history v) l.axioms

abbrev pub facts_at : Load → List Entry → ℕ → List Fact
facts_at l history v = after_commits edited_facts (commits_to history v) l.facts

abbrev pub signature_at : Load → List Entry → ℕ → Signature
signature_at l history v = after_commits edited_signature (commits_to history v) l.signature

-- the pin of a stream after one more reply to it
abbrev pub pinned_by : Reply → Option ℕ → Option ℕ
pinned_by (reply.Pinned v) pin = Some v
pinned_by (reply.Unpinned v) pin = None
pinned_by r pin = pin

-- the pin of a stream: that of its last accepted Pin, unless an accepted Unpin of it follows
abbrev pub pin_of : List Entry → ℕ → Option ℕ
pin_of history stream = fold (λ pin e. cond (e.stream == stream) (pinned_by e.reply pin) pin) None history
