-- Refusals printed piece by piece, and what a sink got through one that gathers.
use Rattle.std.proofs.Common.{◌≡◌, ℕ, List, [], ◌∷◌, ◌++◌, codes, Option, Result, Ok, Err, OnOk, OnErr, subst, ap, ◌∙◌, append_assoc}
use Rattle.dl_io.specs.Gathering.{with_gathered, all_got, lender_of}
use Rattle.dl_io.specs.Printing.{Prints}
use Rattle.dl_io.specs.Writing.{Gets, GetsPrefix}
use Rattle.dl_io.specs.declared.gathering.GatheringSink.{GatheringSink}
use Rattle.dl_io.proofs.Gathered.{Gets-handed, GetsPrefix-handed}
use Rattle.dl_run.specs.Pieces.{digits_of, text_of_words}
use Rattle.dl_run.specs.Refusals.{refusal_words, refusal_text}
use Rattle.dl_run.specs.declared.refusals.Words.{Words}
use Rattle.dl_run.specs.declared.stop.Refusal.{Refusal}

-- a refusal, from its pieces
pub refusal_pieces : (words : Words) (number second third : List ℕ) (refusal : Refusal) → number ≡ digits_of words.number → second ≡ digits_of words.second
    → third ≡ digits_of words.third → text_of_words words ≡ refusal_words refusal
    → codes "refused: " ++ (words.before.now ++ (number ++ (words.between.now ++ (second ++ (words.behind.now ++ (third ++ (words.last.now ++ 10 ∷ [])))))))
    ≡ refusal_text refusal
refusal_pieces words number second third refusal is_n is_s is_t text =
    gathered words.before.now number words.between.now second words.behind.now third words.last.now
    ∙ (λ i. codes "refused: " ++ ((words.before.now ++ (is_n i ++ (words.between.now ++ (is_s i ++ (words.behind.now ++ (is_t i ++ words.last.now)))))) ++ 10 ∷ []))
    ∙ ap (λ t. codes "refused: " ++ (t ++ 10 ∷ [])) text
  where
    gathered : (a d b e f g h : List ℕ) → codes "refused: " ++ (a ++ (d ++ (b ++ (e ++ (f ++ (g ++ (h ++ 10 ∷ [])))))))
        ≡ codes "refused: " ++ ((a ++ (d ++ (b ++ (e ++ (f ++ (g ++ h)))))) ++ 10 ∷ [])
    gathered a d b e f g h = ap (λ t. codes "refused: " ++ t) (simp append_assoc)

-- ---- what was printed through a sink that gathers, where nothing was gathered before

module _ {S : Type 0} (got : S → Option (List ℕ)) (faults : S → ℕ) (before now : GatheringSink S) (text : List ℕ) (none : before.gathered.now.items ≡ []) where
  -- once nothing is gathered, the sink itself got all
  pub all_handed : {A E : Type 0} {result : Result A E} → Prints (all_got got) (λ sink. faults sink.sink.now) (lender_of got) result before now text
      → OnOk result (now.gathered.now.items ≡ []) → OnOk result (Gets (got before.sink.now) (got now.sink.now) text)
  all_handed {result = Ok value} prints empty =
      Gets-handed (got before.sink.now) (got now.sink.now) text
      (subst (λ rest. Gets (with_gathered (got before.sink.now) []) (with_gathered (got now.sink.now) rest) text) empty
      (subst (λ first. Gets (with_gathered (got before.sink.now) first) (all_got got now) text) none prints.all))
  all_handed {result = Err error} prints empty = tt

  -- and at any time it got some first bytes
  pub part_handed : {A E : Type 0} {result : Result A E} → Prints (all_got got) (λ sink. faults sink.sink.now) (lender_of got) result before now text
      → OnErr result (GetsPrefix (got before.sink.now) (got now.sink.now) text)
  part_handed {result = Ok value} prints = tt
  part_handed {result = Err error} prints =
      GetsPrefix-handed (got before.sink.now) (got now.sink.now) now.gathered.now.items text
      (subst (λ first. GetsPrefix (with_gathered (got before.sink.now) first) (all_got got now) text) none prints.prefix)
      prints.lent.more
