-- A table of strings, as the list of prefixes that it stands for.
use Rattle.std.proofs.Common.{◌≡◌, ℕ, Bool, true, false, Some, None, List, [], ◌∷◌, ◌++◌, map, string_bytes, String, Global, refl, sym, ap, ◌∙◌}
use Rattle.std.specs.Option.{option_map}
use Rattle.std.specs.Str.{bytes_eq}
use Rattle.std.specs.Map.{lookup}
use Rattle.std.specs.String.{string_eq}
use Rattle.indexmap.specs.IndexMap.{insert_entry}
use Rattle.dl_owl.specs.Prefixes.{Prefixes, declared_iri}

abbrev pub shown : List (String Global × String Global) → Prefixes
shown entries = map (λ e. (string_bytes e.0, string_bytes e.1)) entries

pub declared-shown : (entries : List (String Global × String Global)) (name : List ℕ)
    → declared_iri (shown entries) name ≡ option_map string_bytes (lookup (λ k. bytes_eq name (string_bytes k)) entries)
declared-shown [] name = refl
declared-shown (e ∷ entries) name = by (bytes_eq name (string_bytes e.0)) refl (declared-shown entries name)
  where
    by : (b : Bool) → bytes_eq name (string_bytes e.0) ≡ b
        → declared_iri (shown entries) name ≡ option_map string_bytes (lookup (λ k. bytes_eq name (string_bytes k))
        entries)
        → declared_iri (shown (e ∷ entries)) name ≡ option_map string_bytes (lookup (λ k. bytes_eq name (string_bytes
        k)) (e ∷ entries))
    by true is hyp = rw is refl
    by false is hyp = rw is hyp

-- a key that isn't declared becomes the last one
pub shown-insert : (entries : List (String Global × String Global)) (key value : String Global)
    → declared_iri (shown entries) (string_bytes key) ≡ None
    → shown (insert_entry string_eq entries key value) ≡ shown entries ++ (string_bytes key, string_bytes value) ∷ []
shown-insert [] key value none = refl
shown-insert (e ∷ entries) key value none =
    by (bytes_eq (string_bytes key) (string_bytes e.0)) refl none (shown-insert entries key value)
  where
    by : (b : Bool) → bytes_eq (string_bytes key) (string_bytes e.0) ≡ b
        → declared_iri (shown (e ∷ entries)) (string_bytes key) ≡ None
        → (declared_iri (shown entries) (string_bytes key) ≡ None
        → shown (insert_entry string_eq entries key value) ≡ shown entries ++ (string_bytes key, string_bytes value) ∷
        [])
        → shown (insert_entry string_eq (e ∷ entries) key value)
        ≡ shown (e ∷ entries) ++ (string_bytes key, string_bytes value) ∷ []
    by true is none hyp =
        let some : declared_iri (shown (e ∷ entries)) (string_bytes key) ≡ Some (string_bytes e.1) = rw is refl in
        let apart : Some (string_bytes e.1) ≡ None = sym some ∙ none in
        absurd (cc)
    by false is none hyp =
        let rest : declared_iri (shown (e ∷ entries)) (string_bytes key) ≡ declared_iri (shown entries) (string_bytes
        key) =
        rw is refl in
        rw is (ap (λ l. (string_bytes e.0, string_bytes e.1) ∷ l) (hyp (sym rest ∙ none)))
