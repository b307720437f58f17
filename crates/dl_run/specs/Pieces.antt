-- The pieces in which refusals are printed.
use Rattle.std.specs.Prelude.{ℕ, List, [], ◌++◌, Option, Some, None}
use Rattle.std.specs.Fmt.{decimal}
use Rattle.dl_run.specs.declared.refusals.Words.{Words}

-- the digits of a number, where there is one
abbrev pub digits_of : Option ℕ → List ℕ
digits_of (Some number) = decimal number
digits_of None = []

-- the words, one piece after another
abbrev pub text_of_words : Words → List ℕ
text_of_words words =
    words.before.now
    ++ (digits_of words.number
    ++ (words.between.now
    ++ (digits_of words.second ++ (words.behind.now ++ (digits_of words.third ++ words.last.now)))))
