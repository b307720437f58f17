-- Tuples of one width, as contracts see them: a table of this project's own.
use Rattle.std.specs.Prelude.{ℕ, zero, suc, List, [], ◌∷◌, refl, take, drop}
use Rattle.std.specs.Coded.{Coded, code_by, coded×, coded_ℕ, coded_list}

-- a width, and a list of tuples
pub record Table : Type 0 where
  pub width : ℕ
  pub tuples : List (List ℕ)

-- a table is stored as the pair of its fields
abbrev pub table_code : Coded Table
table_code =
    code_by (ℕ × List (List ℕ)) (coded× coded_ℕ (coded_list (coded_list coded_ℕ))) (λ t. (t.width, t.tuples))
    (λ p. record { width = p.0; tuples = p.1 }) (λ _. refl)

-- a list cut into so many pieces of a width
abbrev pub cut : ℕ → ℕ → List ℕ → List (List ℕ)
cut width zero xs = []
cut width (suc n) xs = take width xs ∷ cut width n (drop width xs)
