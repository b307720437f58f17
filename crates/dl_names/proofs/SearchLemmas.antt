-- What a binary search finds among names in byte order.
use Rattle.std.proofs.Common.{◌≡◌, ℕ, ◌+◌, ◌<◌, ◌≤◌, ◌⊎◌, true, false, length, get_or, map, slice_get, List, [], Some, None, String, Global, string_bytes, sym, ap, subst, inl, inr, ◌∙◌, arith}
use Rattle.std.specs.declared.cmp.Ordering.{Ordering}
use Rattle.std.specs.declared.cmp.Ordering.TheVariants.{Less, Equal, Greater}
use Rattle.std.specs.List.{HoldsAt}
use Rattle.std.specs.List.Sorted.{IsNonDecreasingBy, IsPartitionPoint, IsSortedBy}
use Rattle.std.specs.Option.{option_map}
use Rattle.std.specs.Ordering.{is_lt, ordering_index, ordering_reverse}
use Rattle.std.proofs.lemmas.Bool.{cases_lt, false_from_ne_true}
use Rattle.std.proofs.lemmas.Cmp.{nat_list_cmp_total}
use Rattle.std.proofs.lemmas.List.{get_or-map}
use Rattle.std.proofs.lemmas.List.Sorted.{searchable_from_sorted}
use Rattle.std.proofs.lemmas.Option.{slice_get_cases, slice_get-map, same_Some}
use Rattle.dl_names.specs.NameList.{Text, has_name, place_of}
use Rattle.dl_names.specs.Frozen.{text_cmp, IsAscending}
use Rattle.dl_names.proofs.NameListLemmas.{place_of-lt, slice_get-place_of}
use Rattle.dl_names.proofs.FrozenLemmas.{text_cmp-same, same-text_cmp}
use Rattle.dl_names.proofs.SetLemmas.{length_shown}

-- how a string compares with the text that is looked for
abbrev pub compared_with : Text → String Global → Ordering
compared_with text string = text_cmp (string_bytes string) text

module _ (strings : List (String Global)) (names : List Text) (shown : map string_bytes strings ≡ names) (text : Text) where
  slice_get_shown : (n : ℕ) (string : String Global) → slice_get strings n ≡ Some string → slice_get names n ≡ Some (string_bytes string)
  slice_get_shown n string at =
      ap (λ l. slice_get l n) (sym shown) ∙ slice_get-map string_bytes strings n ∙ ap (option_map string_bytes) at

  -- a string that compares as equal is the text
  pub found : (n : ℕ) → n < length strings → HoldsAt (λ string. compared_with text string ≡ Equal) strings n → slice_get names n ≡ Some text
  found n within equal =
      elim (slice_get_cases strings n).1 [
        | inl at ↦ slice_get_shown n at.0 at.2 ∙ ap Some (same-text_cmp (string_bytes at.0) text (subst (λ string. compared_with text string ≡ Equal) at.3 (equal at.0)))
        | inr past ↦ absurd (omega (arith, past.0, within))
      ]

  sorted : IsAscending names → IsSortedBy (λ a b. is_lt (text_cmp (string_bytes a) (string_bytes b))) strings
  sorted ascending k d from_start within =
      let next : k + 1 < length names = omega (arith, length_shown strings names shown) in
      let before = ascending k (k + 1) [] (omega arith) next in
      let here : get_or names k [] ≡ string_bytes (get_or strings k d) = ap (λ l. get_or l k []) (sym shown) ∙ get_or-map string_bytes strings k d [] (omega arith) in
      let there : get_or names (k + 1) [] ≡ string_bytes (get_or strings (k + 1) d) = ap (λ l. get_or l (k + 1) []) (sym shown) ∙ get_or-map string_bytes strings (k + 1) d [] within in
      ap is_lt (nat_list_cmp_total.antisymm (string_bytes (get_or strings (k + 1) d)) (string_bytes (get_or strings k d))
      ∙ ap ordering_reverse ((λ j. text_cmp (sym here j) (sym there j)) ∙ before))

  -- where the search finds nothing, the text is no name
  pub missing : IsAscending names → (i : ℕ)
      → (IsNonDecreasingBy (λ string. ordering_index (compared_with text string)) strings → IsPartitionPoint (λ string. compared_with text string ≡ Less) (λ string. compared_with text string ≡ Greater) strings i)
      → has_name names text ≡ false
  missing ascending i parts = false_from_ne_true (has_name names text) (λ named. nowhere named (slice_get_cases strings (place_of names text)).1)
    where
      apart : IsPartitionPoint (λ string. compared_with text string ≡ Less) (λ string. compared_with text string ≡ Greater) strings i
      apart = parts (searchable_from_sorted nat_list_cmp_total string_bytes strings text (sorted ascending))

      none_equal : (n : ℕ) (string : String Global) → n < length strings → get_or strings n string ≡ string → compared_with text string ≡ Equal → ⊥
      none_equal n string within is equal =
          elim (cases_lt n i) [
            | inl below ↦ let less = subst (λ s. compared_with text s ≡ Less) is (apart.0 n string (omega arith) below) in cc
            | inr above ↦ let greater = subst (λ s. compared_with text s ≡ Greater) is (apart.1 n string above within) in cc
          ]

      nowhere : has_name names text ≡ true → ((string : String Global) × (place_of names text < length strings) × (slice_get strings (place_of names text) ≡ Some string) × (get_or strings (place_of names text) string ≡ string)) ⊎ ((length strings ≤ place_of names text) × (slice_get strings (place_of names text) ≡ None)) → ⊥
      nowhere named (inl at) =
          let same = same_Some _ _ (sym (slice_get_shown (place_of names text) at.0 at.2) ∙ slice_get-place_of names text named) in
          none_equal (place_of names text) at.0 at.1 at.3 (ap (λ t. text_cmp t text) same ∙ text_cmp-same text)
      nowhere named (inr past) = omega (arith, past.0, place_of-lt names text named, length_shown strings names shown)
