-- When the parts of a finite interpretation fit together (OWL 2 Direct Semantics, section 2.2).
use Rattle.std.specs.Prelude.{ℕ, ◌≡◌, ◌<◌, List}
use Rattle.std.specs.List.{Contains}

-- the elements are the numbers below the size: there is one, and all values are elements; a name has one at most
pub record IsInterpretation (size : ℕ) (names classes : List (ℕ × ℕ)) (links : List (ℕ × ℕ × ℕ)) : Type 0 where
  pub some_element : 0 < size
  pub one_element : (a x y : ℕ) → Contains names (a, x) → Contains names (a, y) → x ≡ y
  pub of_names : (a x : ℕ) → Contains names (a, x) → x < size
  pub of_classes : (c x : ℕ) → Contains classes (c, x) → x < size
  pub of_links : (p x y : ℕ) → Contains links (p, x, y) → (x < size) × (y < size)
