-- How many predicates there are, in the words of the crates below.
use Rattle.std.proofs.Common.{◌≡◌, ◌≢◌, ℕ, ◌≤◌, Bool, true, false, ◌||◌, cond, List, [], ◌∷◌, length, AllPairs, Contains, refl, sym, ap, ◌∙◌, arith}
use Rattle.std.specs.Ordering.{is_eq}
use Rattle.std.specs.declared.cmp.Ordering.{Ordering}
use Rattle.std.proofs.lemmas.List.Kept.{AllPairs-cons}
use Rattle.std.proofs.lemmas.List.Elements.{All-contains_itself}
use Rattle.dl_terms.specs.declared.axiom.Axiom.{Axiom}
use Rattle.dl_terms.specs.declared.axiom.Signature.{Signature}
use Rattle.dl_terms.proofs.OrderLemmas.{IsLinear, pairs_linear, roles_linear, numbers_linear}
use Rattle.dl_normal.specs.Filled.{filled_pairs, HasDistinct}
use Rattle.dl_hier.specs.Predicates.{max_predicates}
use Rattle.dl_epoch.specs.Known.{ArePredicatesFew}
use Rattle.dl_epoch.proofs.FewLemmas.{one_count}
use Rattle.dl_row.specs.Lists.{count}
use Rattle.dl_row.proofs.CountLemmas.{same_itself}
use Rattle.dl_edits.specs.Sets.{has, with_items, IsOnce}
use Rattle.dl_edits.specs.Names.{auxiliary_cmp, auxiliaries, predicates}
use Rattle.dl_edits.proofs.SetLemmas.{has-with_items, once-with_items, once-nil, has_there, there_has}
use Rattle.dl_edits.proofs.CountLemmas.{there_counts}

auxiliaries_linear : IsLinear auxiliary_cmp
auxiliaries_linear = pairs_linear roles_linear numbers_linear

module _ {A : Type 0} {cmp : A → A → Ordering} (l : IsLinear cmp) where
  -- in a set no two items are the same, and a list of different items is one
  apart_of : (xs : List A) → IsOnce cmp xs → AllPairs (λ x y. x ≢ y) xs
  apart_of [] once = λ i j d lt within. absurd (omega (arith, within))
  apart_of (x ∷ xs) once =
      AllPairs-cons (λ x y. x ≢ y) x xs (λ k d h. other _ (All-contains_itself xs k d h)) (apart_of xs (record { at_most = rest }))
    where
      rest : (z : A) → count (λ w. is_eq (cmp z w)) xs ≤ 1
      rest z = let h = once.at_most z in omega (arith, h)

      other : (y : A) → Contains xs y → x ≢ y
      other y c same =
          let later = there_counts (λ w. is_eq (cmp x w)) xs y c (ap (λ z. is_eq (cmp x z)) (sym same) ∙ same_itself l x) in
          let first = ap {B = ℕ} (λ b. cond b 1 0) (same_itself l x) in
          let most = once.at_most x in
          omega (arith, later, first, most)

  set_distinct : (items : List A) → HasDistinct items (length (with_items cmp items []))
  set_distinct items = record {
    set = with_items cmp items [];
    each_once = apart_of (with_items cmp items []) (once-with_items l items [] once-nil);
    members = λ x. (
      λ c. there_has l items x (from x (has_there l (with_items cmp items []) x c)),
      λ c. there_has l (with_items cmp items []) x (to x (has_there l items x c)),
    );
    as_many = refl;
  }
    where
      same : (x : A) → has cmp (with_items cmp items []) x ≡ has cmp items x
      same x = has-with_items l items [] x ∙ by (has cmp items x)
        where
          by : (a : Bool) → (a || false) ≡ a
          by true = refl
          by false = refl

      from : (x : A) → has cmp (with_items cmp items []) x ≡ true → has cmp items x ≡ true
      from x h = sym (same x) ∙ h

      to : (x : A) → has cmp items x ≡ true → has cmp (with_items cmp items []) x ≡ true
      to x h = same x ∙ h

-- the auxiliary roles that are counted are those of the definition
pub auxiliaries_are : (axioms : List Axiom) (n : ℕ) → HasDistinct (filled_pairs axioms) n → n ≡ auxiliaries axioms
auxiliaries_are axioms n are = one_count (filled_pairs axioms) n (auxiliaries axioms) are (set_distinct auxiliaries_linear (filled_pairs axioms))

-- and where they are few with the signature, they are as a hierarchy wants it
pub predicates_few : (s : Signature) (axioms : List Axiom) → predicates axioms s ≤ max_predicates → ArePredicatesFew s axioms
predicates_few s axioms few = record {
  auxiliaries = auxiliaries axioms;
  distinct = set_distinct auxiliaries_linear (filled_pairs axioms);
  few = few;
}
