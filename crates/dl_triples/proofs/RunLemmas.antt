-- Runs of bytes at the front: there is one longest run of bytes that pass.
use Rattle.std.proofs.Common.{◌≡◌, ℕ, Bool, true, false, List, [], ◌∷◌, ◌++◌, length, refl, sym, ap, ◌∙◌, nat_eq, true≢false}
use borrow.Author.Tests.{eqb-true}
use Rattle.std.specs.List.{list_all}
use Rattle.std.proofs.lemmas.Bool.{and_parts}
use Rattle.std.proofs.lemmas.List.{append_cancel_right, nil_from_length}
use Rattle.dl_triples.specs.Runs.{behind, begins, IsSplit}
use Rattle.dl_triples.specs.Terms.{is_blank, trimmed}

module _ (p : ℕ → Bool) where
  pub behind-append : (run rest : List ℕ) → list_all p run ≡ true → begins p rest ≡ false → behind p (run ++ rest) ≡ rest
  behind-append [] [] h e = refl
  behind-append [] (b ∷ rest) h e = rw e refl
  behind-append (b ∷ run) rest h e = let parts = and_parts (p b) (list_all p run) h in rw parts.0 (behind-append run rest parts.1 e)

  -- a run and what stands behind it are determined
  pub one_run : (run rest run' rest' : List ℕ) → list_all p run ≡ true → begins p rest ≡ false → list_all p run' ≡ true → begins p rest' ≡ false
      → run ++ rest ≡ run' ++ rest' → (run ≡ run') × (rest ≡ rest')
  one_run run rest run' rest' all ends all' ends' same =
      let behind_same : rest ≡ rest' = sym (behind-append run rest all ends) ∙ ap (behind p) same ∙ behind-append run' rest' all' ends' in
      (append_cancel_right run run' rest (same ∙ ap (λ l. run' ++ l) (sym behind_same)), behind_same)

-- what stands behind the spaces and tabs
pub trimmed-append : (run rest : List ℕ) → list_all is_blank run ≡ true → begins is_blank rest ≡ false → trimmed (run ++ rest) ≡ rest
trimmed-append [] [] h e = refl
trimmed-append [] (b ∷ rest) h e = rw e refl
trimmed-append (b ∷ run) rest h e = let parts = and_parts (is_blank b) (list_all is_blank run) h in rw parts.0 (trimmed-append run rest parts.1 e)

pub trimmed_split : (bytes run rest : List ℕ) → IsSplit is_blank bytes run rest → rest ≡ trimmed bytes
trimmed_split bytes run rest split = sym (ap trimmed split.parts ∙ trimmed-append run rest split.passes split.ends)

-- no space or tab stands at the front of what is trimmed
pub trimmed_ends : (bytes : List ℕ) → begins is_blank (trimmed bytes) ≡ false
trimmed_ends [] = refl
trimmed_ends (b ∷ bytes) = by (is_blank b) refl (trimmed_ends bytes)
  where
    by : (blank : Bool) → is_blank b ≡ blank → begins is_blank (trimmed bytes) ≡ false → begins is_blank (trimmed (b ∷ bytes)) ≡ false
    by true e more = rw e more
    by false e more = rw e e

-- what a test for no bytes says
pub some_bytes : (bytes : List ℕ) (empty : Bool) → empty ≡ nat_eq (length bytes) 0 → empty ≡ false → bytes ≡ [] → ⊥
some_bytes bytes empty is some nil = true≢false (ap (λ l. nat_eq (length l) 0) (sym nil) ∙ sym is ∙ some)

pub no_bytes : (bytes : List ℕ) (empty : Bool) → empty ≡ nat_eq (length bytes) 0 → empty ≡ true → bytes ≡ []
no_bytes bytes empty is nothing = nil_from_length bytes (eqb-true (length bytes) 0 (sym is ∙ nothing))
