-- Sets of variables of the worked examples of folds.
use Rattle.std.specs.Prelude.{ℕ, zero, suc, Bool, true, false, [], ◌∷◌}
use Rattle.dl_terms.specs.declared.query.Query.{Query}
use Rattle.dl_examples.specs.Examples.{link, property_p}

-- the variables 1 and 2
abbrev pub one_and_two : ℕ → Bool
one_and_two zero = false
one_and_two (suc zero) = true
one_and_two (suc (suc zero)) = true
one_and_two (suc (suc (suc v))) = false

-- the variable 2
abbrev pub two_alone : ℕ → Bool
two_alone zero = false
two_alone (suc zero) = false
two_alone (suc (suc zero)) = true
two_alone (suc (suc (suc v))) = false

-- the variables 0, 1 and 2
abbrev pub first_three : ℕ → Bool
first_three zero = true
first_three (suc zero) = true
first_three (suc (suc zero)) = true
first_three (suc (suc (suc v))) = false

-- q() :- P(v0, v1), P(v1, v2)
abbrev pub two_in_a_row : Query
two_in_a_row = record { head = []; atoms = link property_p 0 1 ∷ link property_p 1 2 ∷ []; vars = 3 }
