-- What is printed is decided by the words and the files.
use Rattle.std.proofs.Common.{◌≡◌, ℕ, List, [], ◌∷◌, subst, refl}
use Rattle.std.specs.List.{Contains}
use Rattle.dl_run.specs.Answered.{AnswerPrints, AnswerOf}
use Rattle.dl_run.specs.Defined.{Prints, IsUnbuilt}
use Rattle.dl_run.specs.Defined.Prints.{usage, unbuilt, by_answer}
use Rattle.dl_run.specs.Words.{Form, answer, HasForm, AskFor}
use Rattle.dl_run.specs.declared.status.Status.{Status}
use Rattle.dl_run.proofs.AnswerLemmas.{one_output}
use Rattle.dl_run.proofs.WordLemmas.{form_unique}

-- a form that isn't built is not that of answer
not_answer : (words : List (List ℕ)) (form : Form) (ontology facts query : List ℕ) (limit : ℕ) → HasForm words form → IsUnbuilt form
    → HasForm words (answer ontology facts query limit) → ⊥
not_answer words form ontology facts query limit other not has =
    subst IsUnbuilt (form_unique words form (answer ontology facts query limit) other has) not

module _ (words : List (List ℕ)) (ontology facts query : List ℕ) (limit : ℕ) (has : HasForm words (answer ontology facts query limit)) where
  -- what is printed for the words is what is printed for their form
  pub for_form : (file_of : List ℕ → List ℕ) {status : Status} {text : List ℕ} → Prints words file_of status text
      → AnswerOf ontology facts query limit file_of status text
  for_form file_of (usage none) = absurd (none (answer ontology facts query limit) has)
  for_form file_of (unbuilt form other not) = absurd (not_answer words form ontology facts query limit other not has)
  for_form file_of {status} {text} (by_answer {ontology = o} {facts = d} {query = q} {limit = l} other h) =
      let same : answer o d q l ≡ answer ontology facts query limit = form_unique words (answer o d q l) (answer ontology facts query limit) other has in
      let a : o ≡ ontology = cc in
      let b : d ≡ facts = cc in
      let c : q ≡ query = cc in
      let n : l ≡ limit = cc in
      subst (λ x. AnswerPrints (file_of x) (file_of facts) (file_of query) limit status text) a
      (subst (λ y. AnswerPrints (file_of o) (file_of y) (file_of query) limit status text) b
      (subst (λ z. AnswerPrints (file_of o) (file_of d) (file_of z) limit status text) c
      (subst (λ m. AnswerPrints (file_of o) (file_of d) (file_of q) m status text) n h)))

  pub by_form : (file_of : List ℕ → List ℕ) {status : Status} {text : List ℕ} → AnswerOf ontology facts query limit file_of status text
      → Prints words file_of status text
  by_form file_of h = by_answer has h

  pub asked_for : (name : List ℕ) → Contains (ontology ∷ facts ∷ query ∷ []) name → AskFor words name
  asked_for name asked = (answer ontology facts query limit, has, asked)

-- the words and the bytes of the files decide the output
pub one_output_of_words : (words : List (List ℕ)) (file_of : List ℕ → List ℕ) {status other : Status} {text also : List ℕ}
    → Prints words file_of status text → Prints words file_of other also → (status ≡ other) × (text ≡ also)
one_output_of_words words file_of (usage none) (usage still) = (refl, refl)
one_output_of_words words file_of (usage none) (unbuilt form has not) = absurd (none form has)
one_output_of_words words file_of (usage none) (by_answer {ontology = o} {facts = d} {query = q} {limit = l} has h) = absurd (none (answer o d q l) has)
one_output_of_words words file_of (unbuilt form has not) (usage none) = absurd (none form has)
one_output_of_words words file_of (unbuilt form has not) (unbuilt form' other also) = (refl, refl)
one_output_of_words words file_of (unbuilt form has not) (by_answer {ontology = o} {facts = d} {query = q} {limit = l} other h) = absurd (not_answer words form o d q l has not other)
one_output_of_words words file_of (by_answer {ontology = o} {facts = d} {query = q} {limit = l} has h) (usage none) = absurd (none (answer o d q l) has)
one_output_of_words words file_of (by_answer {ontology = o} {facts = d} {query = q} {limit = l} has h) (unbuilt form other not) = absurd (not_answer words form o d q l other not has)
one_output_of_words words file_of (by_answer {ontology = o} {facts = d} {query = q} {limit = l} has h) (by_answer other k) =
    one_output h (for_form words o d q l has file_of (by_answer other k))
