-- The keys of a set of slices, and the list of names that they stand for.
use Rattle.std.proofs.Common.{◌≡◌, ℕ, Bool, true, false, List, [], ◌∷◌, ◌++◌, map, refl, sym, ap, ◌∙◌, if◌then◌else◌, Bor}
use Rattle.std.specs.List.{list_any, position_or_len}
use Rattle.std.specs.Str.{bytes_eq}
use Rattle.std.proofs.lemmas.List.{map-append}
use Rattle.indexmap.specs.IndexSet.{insert_key}
use Rattle.dl_names.specs.NameList.{Text, has_name, names_after, place_of}
use Rattle.dl_names.proofs.NameListLemmas.{names_after-old, names_after-new, place_of-names_after}
use Rattle.dl_names.proofs.SetLemmas.{list_any-map, position_or_len-map}

abbrev pub same_slices : Bor (List ℕ) → Bor (List ℕ) → Bool
same_slices x y = bytes_eq x.now y.now

module _ (keys : List (Bor (List ℕ))) (key : Bor (List ℕ)) where
  abbrev pub texts : List (Bor (List ℕ)) → List Text
  texts ks = map (λ k. k.now) ks

  has_name-keys : has_name (texts keys) key.now ≡ list_any (same_slices key) keys
  has_name-keys = list_any-map (λ k. k.now) (bytes_eq key.now) keys

  -- a key that is inserted is a name that is met
  pub insert_key-texts : texts (insert_key same_slices keys key) ≡ names_after (texts keys) key.now
  insert_key-texts = by (list_any (same_slices key) keys) refl
    where
      by : (b : Bool) → list_any (same_slices key) keys ≡ b → texts (insert_key same_slices keys key) ≡ names_after (texts keys) key.now
      by true e =
          ap (λ c. texts (if c then keys else keys ++ key ∷ [])) e ∙ sym (names_after-old (texts keys) key.now (has_name-keys ∙ e))
      by false e =
          ap (λ c. texts (if c then keys else keys ++ key ∷ [])) e
          ∙ map-append (λ k. k.now) keys (key ∷ [])
          ∙ sym (names_after-new (texts keys) key.now (has_name-keys ∙ e))

  -- and its index is the name's number
  pub insert_index-number : position_or_len (same_slices key) keys ≡ place_of (names_after (texts keys) key.now) key.now
  insert_index-number = sym (position_or_len-map (λ k. k.now) (bytes_eq key.now) keys) ∙ sym (place_of-names_after (texts keys) key.now)
