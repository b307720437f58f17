use Rattle.std.proofs.Common.{ℕ, zero, suc, ◌≡◌, ◌≤◌, List, [], ◌∷◌, length, refl, sym, ◌∙◌, arith, lit<, lit≤, All}
use Rattle.std.specs.List.{enumerate_from}
use Rattle.std.specs.List.Sorted.{IsStrictlyIncreasing}
use Rattle.std.specs.Prelude.{sum_by, IfSome}
use Rattle.std.specs.declared.option.Option.TheVariants.{None}
use Rattle.std.proofs.lemmas.List.Elements.{All-nil, All-cons}
use Rattle.std.proofs.lemmas.List.Sorted.{IsPermutation-refl, IsPermutation-append_comm, sum_by-IsPermutation, length_permutation}
use Rattle.std.proofs.lemmas.List.FromFn.{length-enumerate_from}
use Rattle.dl_core.specs.History.{Entry}
use Rattle.dl_core.specs.Legal.{IsLegal, IsLegalFrom}
use Rattle.dl_core.specs.Next.{Numbering, IsNumbering}
use Rattle.dl_core.proofs.ListedLemmas.{loaded_by, loaded_one, loaded_without}
use Rattle.dl_event.specs.Auxiliaries.{EventHasNoAuxiliary, ItemHasNoAuxiliary}
use Rattle.dl_event.specs.declared.event.Event.{Event}
use Rattle.dl_event.specs.declared.event.Event.TheVariants.{Pin, Unpin, Migrate, Sweep}
use Rattle.dl_event.specs.declared.reply.Refusal.TheVariants.{PinOpen, NoPin, NoShard}
use Rattle.dl_event.specs.declared.reply.Reply.{Reply}
use Rattle.dl_event.specs.declared.reply.Reply.TheVariants.{Committed, Pinned, Refused}
use Rattle.dl_stream.specs.Transcript.{HasRisingPlaces, FollowsOn, told_version, all_entries}
use Rattle.dl_stream.specs.Examples.{b_is_an_a, adds_a, commit_first, at_one_place, nothing_loaded, refused}
use Rattle.dl_stream.proofs.worked_examples.transcript_examples.Goals as goal

abbrev entry : ℕ → Event → Reply → Entry
entry stream event reply = record { stream = stream; event = event; reply = reply }

adds_no_auxiliary : EventHasNoAuxiliary adds_a
adds_no_auxiliary = All-cons (λ e. ItemHasNoAuxiliary e.item) _ [] tt (All-nil (λ e. ItemHasNoAuxiliary e.item))

all_of_two : {X : Type 0} (P : X → Type 0) (x y : X) → P x → P y → All P (x ∷ y ∷ [])
all_of_two P x y one two = All-cons P x (y ∷ []) one (All-cons P y [] two (All-nil P))

no_name_up : IsStrictlyIncreasing []
no_name_up k h = absurd (omega (arith, h))

one_name_up : IsStrictlyIncreasing (0 ∷ [])
one_name_up k h = absurd (omega (arith, h))

-- a history is legal where it is from the one root that a load of one class has, or of none
module _ (numbering : Numbering) (is : IsNumbering numbering) (history : List Entry) where
  legal_from_a : IsLegalFrom numbering (loaded_by b_is_an_a (0 ∷ []) []) history → IsLegal numbering b_is_an_a history
  legal_from_a = loaded_one numbering is b_is_an_a (record { classes = one_name_up; roles = no_name_up })
      (λ root. IsLegalFrom numbering root history) 0 refl refl

  legal_from_nothing : IsLegalFrom numbering (loaded_by nothing_loaded [] []) history → IsLegal numbering nothing_loaded history
  legal_from_nothing = loaded_without numbering is nothing_loaded (record { classes = no_name_up; roles = no_name_up })
      (λ root. IsLegalFrom numbering root history) refl refl

-- a stream with one place
one_place : (place : ℕ) → IsStrictlyIncreasing (place ∷ [])
one_place place k h = absurd (omega (arith, h))

pub returns-clause-commit_first : goal.returns-clause-commit_first
returns-clause-commit_first c numbering is = let history = entry 1 adds_a (Committed 2 1) ∷ entry 2 Pin (Pinned 2) ∷ [] in record {
  history = history;
  legal = legal_from_a numbering is history ((lit≤ tt, adds_no_auxiliary), refl, ((lit≤ tt, tt), refl, tt));
  counted = refl;
  placed = IsPermutation-refl (all_entries commit_first);
  rising = all_of_two HasRisingPlaces _ _ (one_place 1) (one_place 2);
  each = all_of_two (FollowsOn b_is_an_a history None []) _ _ (tt, tt) (All-nil _, tt);
}

pub returns-clause-pin_first : goal.returns-clause-pin_first
returns-clause-pin_first c numbering is = let history = entry 2 Pin (Pinned 1) ∷ entry 1 adds_a (Committed 2 1) ∷ [] in record {
  history = history;
  legal = legal_from_a numbering is history ((lit≤ tt, tt), refl, ((lit≤ tt, adds_no_auxiliary), refl, tt));
  counted = refl;
  placed = IsPermutation-append_comm ((2, entry 1 adds_a (Committed 2 1)) ∷ []) ((1, entry 2 Pin (Pinned 1)) ∷ []);
  rising = all_of_two HasRisingPlaces _ _ (one_place 2) (one_place 1);
  each = all_of_two (FollowsOn b_is_an_a history None []) _ _ (tt, tt) (All-nil _, tt);
}

-- places that are counted from 1 are not 1 and 1
not_ones : (history : List Entry) → sum_by (λ e. e.0) (enumerate_from 1 history) ≡ 2 → length history ≡ 2 → ⊥
not_ones [] places count = omega (arith, count)
not_ones (a ∷ []) places count = omega (arith, count)
not_ones (a ∷ b ∷ []) places count = omega (arith, places)
not_ones (a ∷ b ∷ d ∷ history) places count = omega (arith, count)

pub returns-clause-one_place : goal.returns-clause-one_place
returns-clause-one_place c numbering places t =
    let entries = all_entries at_one_place in
    let numbered = enumerate_from 1 t.history in
    not_ones t.history (sum_by-IsPermutation (λ e. e.0) entries numbered t.placed)
    (sym (length-enumerate_from 1 t.history) ∙ length_permutation entries numbered t.placed)

five_places : IsStrictlyIncreasing (1 ∷ 2 ∷ 3 ∷ 4 ∷ 5 ∷ [])
five_places zero h = lit< tt
five_places (suc zero) h = lit< tt
five_places (suc (suc zero)) h = lit< tt
five_places (suc (suc (suc zero))) h = lit< tt
five_places (suc (suc (suc (suc k)))) h = absurd (omega (arith, h))

pub returns-clause-refused : goal.returns-clause-refused
returns-clause-refused c numbering is = let history = entry 1 Unpin (Refused NoPin) ∷ entry 1 Pin (Pinned 1) ∷ entry 1 Pin (Refused (PinOpen 1))
    ∷ entry 1 (Migrate 2 5) (Refused (NoShard 2)) ∷ entry 1 (Sweep 9 1) (Refused (NoShard 9)) ∷ [] in record {
      history = history;
      legal = legal_from_nothing numbering is history
          ((lit≤ tt, tt), refl, ((lit≤ tt, tt), refl, ((lit≤ tt, tt), refl, ((lit≤ tt, tt), refl, ((lit≤ tt, tt), refl, tt)))));
      counted = refl;
      placed = IsPermutation-refl (all_entries refused);
      rising = All-cons HasRisingPlaces _ [] five_places (All-nil HasRisingPlaces);
      each = All-cons (FollowsOn nothing_loaded history None []) _ [] (tt, (refl, (all_of_two (λ t. IfSome (told_version t.outcome) (λ earlier. earlier ≤ 1)) _ _ tt tt, (tt, (tt, (tt, tt)))))) (All-nil (FollowsOn nothing_loaded history None []));
    }
