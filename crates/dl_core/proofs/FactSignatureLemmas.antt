-- The signature of a version has the predicates of its facts.
use Rattle.std.proofs.Common.{◌≡◌, ℕ, true, List, [], ◌∷◌}
use Rattle.std.specs.List.{All, Contains}
use Rattle.std.proofs.lemmas.List.Elements.{All-weaker, All-contains_itself}
use Rattle.dl_terms.specs.declared.axiom.Fact.{Fact}
use Rattle.dl_terms.specs.declared.axiom.Fact.TheVariants.{Is, Link}
use Rattle.dl_terms.specs.declared.axiom.Signature.{Signature}
use Rattle.dl_terms.proofs.OrderLemmas.{facts_linear, numbers_linear}
use Rattle.dl_edits.specs.Edits.{edited_facts, edited_signature}
use Rattle.dl_core.specs.History.{Load, Entry, after_commits, commits_to, facts_at, signature_at}
use Rattle.dl_core.specs.Loading.{IsFactIn}
use Rattle.dl_core.specs.Root.{IsLoad}
use Rattle.dl_edits.specs.Signatures.{knows, AreKnown}
use Rattle.dl_event.specs.declared.event.Edit.{Edit}
use Rattle.dl_edits.proofs.EditLemmas.{edited_known}
use Rattle.dl_edits.proofs.SetLemmas.{has_there, there_has}

commits_known : (cs : List (List Edit)) (s : Signature) (facts : List Fact) → AreKnown s facts
    → AreKnown (after_commits edited_signature cs s) (after_commits edited_facts cs facts)
commits_known [] s facts known = known
commits_known (edits ∷ later) s facts known =
    commits_known later (edited_signature edits s) (edited_facts edits facts) (edited_known edits s facts known)

pub facts_known : (l : Load) (history : List Entry) (v : ℕ) → IsLoad l
    → AreKnown (signature_at l history v) (facts_at l history v)
facts_known l history v is = commits_known (commits_to history v) l.signature l.facts is.known

known_in : (s : Signature) (f : Fact) → knows s f ≡ true → IsFactIn s f
known_in s (Is c x) h = there_has numbers_linear s.classes c h
known_in s (Link p x y) h = there_has numbers_linear s.roles p h

-- facts that are known to a signature have their predicates in it
pub all_in : (s : Signature) (facts : List Fact) → AreKnown s facts → All (IsFactIn s) facts
all_in s facts known =
    All-weaker (Contains facts) (IsFactIn s) (λ f c. known_in s f (known f (has_there facts_linear facts f c))) facts
    (All-contains_itself facts)

pub facts_in : (l : Load) (history : List Entry) (v : ℕ) → IsLoad l
    → All (IsFactIn (signature_at l history v)) (facts_at l history v)
facts_in l history v is = all_in (signature_at l history v) (facts_at l history v) (facts_known l history v is)
