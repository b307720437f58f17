-- Lists of names and lines, as they are printed piece by piece.
use Rattle.std.proofs.Common.{◌≡◌, ◌≤◌, ◌+◌, ◌<◌, ℕ, zero, suc, List, [], ◌∷◌, ◌++◌, length, map, get_or, codes, refl, sym, ap, ◌∙◌, arith, append_assoc}
use Rattle.std.proofs.lemmas.List.{append-nil}
use Rattle.std.proofs.lemmas.List.Folds.{flat_map-map}
use Rattle.std.proofs.lemmas.List.FromFn.{length-enumerate_from, get_or-enumerate_from}
use Rattle.std.specs.List.{flat_map, enumerate_from}
use Rattle.std.specs.Fmt.{decimal}
use Rattle.dl_names.specs.NameList.{Text}
use Rattle.dl_text.specs.NameText.{name_text, comma_joined}
use Rattle.dl_text.specs.Pieces.{separator}
use Rattle.dl_text.specs.QueryText.{variable_text}

-- ---- lists with a comma and a space between their items

-- the text of an item behind what stands before it
abbrev pub item_behind : {X : Type 0} → (X → Text) → ℕ × X → Text
item_behind f numbered = separator numbered.0 ++ f numbered.1

abbrev pub name_behind : List Text → ℕ × ℕ → Text
name_behind names = item_behind (name_text names)

after_first : {X : Type 0} (f : X → Text) (at : ℕ) (xs : List X) → 1 ≤ at
    → flat_map (item_behind f) (enumerate_from at xs) ≡ flat_map (λ x. codes ", " ++ f x) xs
after_first f at [] some = refl
after_first f zero (x ∷ xs) some = absurd (omega (arith, some))
after_first f (suc at) (x ∷ xs) some = ap (λ l. (codes ", " ++ f x) ++ l) (after_first f (suc at + 1) xs (omega arith))

pub items_printed : {X : Type 0} (f : X → Text) (xs : List X) → flat_map (item_behind f) (enumerate_from 0 xs) ≡ comma_joined (map f xs)
items_printed f [] = refl
items_printed f (x ∷ xs) =
    ap (λ l. f x ++ l) (after_first f (0 + 1) xs (omega arith) ∙ sym (flat_map-map (λ next. codes ", " ++ next) f xs))

pub names_printed : (names : List Text) (tuple : List ℕ)
    → flat_map (name_behind names) (enumerate_from 0 tuple) ≡ comma_joined (map (name_text names) tuple)
names_printed names tuple = items_printed (name_text names) tuple

-- ---- items with their numbers

module _ {X : Type 0} (f : ℕ × X → Text) (from : ℕ) (xs : List X) (i : ℕ) (d : ℕ × X) (within : i < length xs) where
  pub within_numbered : i < length (enumerate_from from xs)
  within_numbered = omega (arith, length-enumerate_from from xs)

  pub text_numbered : f (from + i, get_or xs i d.1) ≡ f (get_or (enumerate_from from xs) i d)
  text_numbered = ap f (sym (get_or-enumerate_from from xs i d within))

-- the next item of a list
pub item_next : {X : Type 0} (f : X → Text) (xs : List X) (i : ℕ) (d x : X) (before : Text) → i < length xs → before ≡ separator i → x ≡ get_or xs i d
    → before ++ f x ≡ item_behind f (get_or (enumerate_from 0 xs) i (0, d))
item_next f xs i d x before within is is_x =
    (λ k. is k ++ f (is_x k))
    ∙ ap (λ c. item_behind f (c, get_or xs i d)) (omega arith)
    ∙ text_numbered (item_behind f) 0 xs i (0, d) within

pub name_next : (names : List Text) (tuple : List ℕ) (column n : ℕ) (before : Text) → column < length tuple → before ≡ separator column → n ≡ get_or tuple column 0
    → before ++ (name_text names n ++ []) ≡ name_behind names (get_or (enumerate_from 0 tuple) column (0, 0))
name_next names tuple column n before within is is_n =
    ap (λ l. before ++ l) (append-nil (name_text names n)) ∙ item_next (name_text names) tuple column 0 n before within is is_n

-- ---- texts that are printed in parts

-- a text and digits, and what stands behind them
pub behind_digits : (text digits more rest : Text) → (text ++ (digits ++ more)) ++ rest ≡ text ++ (digits ++ (more ++ rest))
behind_digits text digits more rest = simp append_assoc

-- how many answers there are, and their lines
pub count_printed : (n count : ℕ) (rest : Text) → n ≡ count
    → (codes "answers " ++ (decimal n ++ 10 ∷ [])) ++ rest ≡ codes "answers " ++ (decimal count ++ 10 ∷ rest)
count_printed n count rest is =
    behind_digits (codes "answers ") (decimal n) (10 ∷ []) rest ∙ ap (λ k. codes "answers " ++ (decimal k ++ 10 ∷ rest)) is

-- the next variable of a list
pub variable_next : (variables : List ℕ) (i : ℕ) (before : Text) → i < length variables → before ≡ separator i
    → before ++ (variable_text (get_or variables i 0) ++ []) ≡ item_behind variable_text (get_or (enumerate_from 0 variables) i (0, 0))
variable_next variables i before within is =
    ap (λ l. before ++ l) (append-nil (variable_text (get_or variables i 0))) ∙ item_next variable_text variables i 0 (get_or variables i 0) before within is refl
