-- The parts of a finite interpretation in a form that one look at each shows to fit: names in order.
use Rattle.std.specs.Prelude.{◌≡◌, ℕ, ◌<◌, List}
use Rattle.std.specs.List.{All, AllPairs}
use Rattle.dl_models.specs.declared.interp.Interp.{Interp}

-- there is an element, all elements are below the size, and the names ascend strictly
pub record AreParts (size : ℕ) (names classes : List (ℕ × ℕ)) (links : List (ℕ × ℕ × ℕ)) : Type 0 where
  pub some_element : 0 < size
  pub ascending : AllPairs (λ p q. p.0 < q.0) names
  pub of_names : All (λ p. p.1 < size) names
  pub of_classes : All (λ p. p.1 < size) classes
  pub of_links : All (λ l. (l.1 < size) × (l.2 < size)) links

-- it has exactly these parts
pub record IsMadeOf (size : ℕ) (names classes : List (ℕ × ℕ)) (links : List (ℕ × ℕ × ℕ)) (made : Interp) : Type 0 where
  pub size_is : made.size ≡ size
  pub names_are : made.names ≡ names
  pub classes_are : made.classes ≡ classes
  pub links_are : made.links ≡ links
