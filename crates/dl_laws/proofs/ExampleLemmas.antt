-- The loads of the worked examples: the replies are those of each way to number their names.
use Rattle.std.proofs.Common.{◌≡◌, ℕ, zero, suc, List, [], ◌∷◌, refl, arith, lit<}
use Rattle.std.specs.List.Sorted.{IsStrictlyIncreasing}
use Rattle.dl_epoch.specs.Known.{IsSignature}
use Rattle.dl_core.specs.Next.{Numbering, IsNumbering, loaded}
use Rattle.dl_core.proofs.ListedLemmas.{loaded_by, loaded_one, loaded_two}
use Rattle.dl_event.specs.declared.event.Event.{Event}
use Rattle.dl_event.specs.declared.reply.Reply.{Reply}
use Rattle.dl_laws.specs.Examples.{replies, a_is_an_a, only_a_fact, class_a, class_b}

no_name_up : IsStrictlyIncreasing []
no_name_up k h = absurd (omega (arith, h))

one_name_up : IsStrictlyIncreasing (class_a ∷ [])
one_name_up k h = absurd (omega (arith, h))

two_names_up : IsStrictlyIncreasing (class_a ∷ class_b ∷ [])
two_names_up zero h = lit< tt
two_names_up (suc k) h = absurd (omega (arith, h))

module _ (numbering : Numbering) (is : IsNumbering numbering) (events : List Event) (told : List Reply) where
  pub only_a_told : replies numbering (loaded_by only_a_fact (class_a ∷ []) []) events ≡ told
      → replies numbering (loaded numbering only_a_fact) events ≡ told
  only_a_told = loaded_one numbering is only_a_fact (record { classes = one_name_up; roles = no_name_up })
      (λ root. replies numbering root events ≡ told) class_a refl refl

  pub both_told : replies numbering (loaded_by a_is_an_a (class_a ∷ class_b ∷ []) []) events ≡ told
      → replies numbering (loaded_by a_is_an_a (class_b ∷ class_a ∷ []) []) events ≡ told
      → replies numbering (loaded numbering a_is_an_a) events ≡ told
  both_told = loaded_two numbering is a_is_an_a (record { classes = two_names_up; roles = no_name_up })
      (λ root. replies numbering root events ≡ told) class_a class_b (λ e. omega (arith, e)) refl refl
