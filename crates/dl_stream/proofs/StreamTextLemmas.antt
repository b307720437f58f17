-- Lines of streams, as they are printed piece by piece.
use Rattle.std.proofs.Common.{◌≡◌, List, [], ◌∷◌, ◌++◌, sym, ap, ◌∙◌, append_assoc}
use Rattle.std.proofs.lemmas.List.{append-nil}
use Rattle.dl_names.specs.NameList.{Text}
use Rattle.dl_stream.specs.StreamText.{line_of}

-- two texts as a line
pub line_printed : (shown first more : Text) → shown ≡ first → (shown ++ []) ++ (more ++ 10 ∷ []) ≡ line_of (first ++ more)
line_printed shown first more is =
    ap (λ l. l ++ (more ++ 10 ∷ [])) (append-nil shown ∙ is) ∙ sym (append_assoc first more (10 ∷ []))

-- a word and two numbers as a line
pub rows_printed : (word one two : Text) → word ++ (32 ∷ (one ++ (32 ∷ (two ++ 10 ∷ [])))) ≡ line_of (word ++ (32 ∷ one ++ 32 ∷ two))
rows_printed word one two = simp append_assoc

-- a word and a number, and a text behind them, as a line
pub ask_printed : (word number text : Text) → (word ++ (number ++ 32 ∷ [])) ++ (text ++ 10 ∷ []) ≡ line_of (word ++ (number ++ 32 ∷ text))
ask_printed word number text = simp append_assoc
