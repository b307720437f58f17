-- The texts in a set of strings, and the list of names that they stand for.
use Rattle.std.proofs.Common.{◌≡◌, ℕ, ◌+◌, ◌<◌, Bool, true, false, cond, not, ◌||◌, List, [], ◌∷◌, ◌++◌, length, map, position, slice_get, get_or, take, Some, String, Global, string_bytes, refl, sym, ap, ◌∙◌, if◌then◌else◌}
use Rattle.std.specs.List.{list_any, position_or_len}
use Rattle.std.specs.Str.{bytes_eq}
use Rattle.std.specs.String.{string_eq}
use Rattle.std.proofs.lemmas.List.{map-append, length-map, take_more}
use Rattle.std.specs.Option.{option_map}
use Rattle.std.proofs.lemmas.Option.{cond_some, slice_get-map}
use Rattle.indexmap.specs.IndexSet.{insert_key}
use Rattle.dl_names.specs.NameList.{Text, has_name, names_after, place_of}
use Rattle.dl_names.proofs.NameListLemmas.{names_after-old, names_after-new}

module _ {X Y : Type 0} (f : X → Y) (p : Y → Bool) where
  pub list_any-map : (xs : List X) → list_any p (map f xs) ≡ list_any (λ x. p (f x)) xs
  list_any-map [] = refl
  list_any-map (x ∷ xs) = ap (λ b. p (f x) || b) (list_any-map xs)

  pub position_or_len-map : (xs : List X) → position_or_len p (map f xs) ≡ position_or_len (λ x. p (f x)) xs
  position_or_len-map [] = refl
  position_or_len-map (x ∷ xs) = ap (λ n. cond (not (p (f x))) (1 + n) 0) (position_or_len-map xs)

-- a function of the first items, and of one more
pub map-take_more : {X Y : Type 0} (f : X → Y) (xs : List X) (k : ℕ) (d : X) → k < length xs → map f (take (k + 1) xs) ≡ map f (take k xs) ++ f (get_or xs k d) ∷ []
map-take_more f xs k d k_in = ap (map f) (take_more xs k d k_in) ∙ map-append f (take k xs) (get_or xs k d ∷ [])

-- the strings have the texts of the names, in order
module _ (strings : List (String Global)) (names : List Text) (shown : map string_bytes strings ≡ names) where
  pub length_shown : length names ≡ length strings
  length_shown = ap length (sym shown) ∙ length-map strings string_bytes

  -- the string at an index has the text of the name there
  pub text_shown : (index : ℕ) (string : String Global) → slice_get strings index ≡ Some string → slice_get names index ≡ Some (string_bytes string)
  text_shown index string at =
      ap (λ l. slice_get l index) (sym shown) ∙ slice_get-map string_bytes strings index ∙ ap (option_map string_bytes) at

  module _ (text : Text) where
    pub has_name_shown : has_name names text ≡ list_any (λ k. bytes_eq text (string_bytes k)) strings
    has_name_shown = ap (λ l. has_name l text) (sym shown) ∙ list_any-map string_bytes (bytes_eq text) strings

    -- the index that a look-up gives is the place
    pub place_of_shown : (place : ℕ) → Some place ≡ position (λ k. bytes_eq text (string_bytes k)) strings → place_of names text ≡ place
    place_of_shown place found =
        ap (λ l. place_of l text) (sym shown) ∙ position_or_len-map string_bytes (bytes_eq text) strings ∙ (cond_some _ _ _ (sym found)).1

    -- a string that is inserted is a text that is named
    pub insert_key_shown : (string : String Global) → string_bytes string ≡ text → map string_bytes (insert_key string_eq strings string) ≡ names_after names text
    insert_key_shown string bytes = by (list_any (string_eq string) strings) refl
      where
        same : has_name names text ≡ list_any (string_eq string) strings
        same = has_name_shown ∙ ap (λ t. list_any (λ k. bytes_eq t (string_bytes k)) strings) (sym bytes)

        by : (b : Bool) → list_any (string_eq string) strings ≡ b → map string_bytes (insert_key string_eq strings string) ≡ names_after names text
        by true e =
            ap (λ c. map string_bytes (if c then strings else strings ++ string ∷ [])) e ∙ shown ∙ sym (names_after-old names text (same ∙ e))
        by false e =
            ap (λ c. map string_bytes (if c then strings else strings ++ string ∷ [])) e
            ∙ map-append string_bytes strings (string ∷ [])
            ∙ (λ i. shown i ++ bytes i ∷ [])
            ∙ sym (names_after-new names text (same ∙ e))
