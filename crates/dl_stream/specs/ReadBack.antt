-- What is needed of a fact for its text to be read as this fact. It is this project's own.
use Rattle.std.specs.Prelude.{◌≡◌, ◌⊎◌, ℕ, List, [], slice_get, unwrap_or, Some}
use Rattle.dl_names.specs.NameList.{Text}
use Rattle.dl_names.specs.Iris.{IsName, owl_nothing}
use Rattle.dl_terms.specs.declared.axiom.Fact.{Fact}
use Rattle.dl_terms.specs.declared.axiom.Fact.TheVariants.{Is, Link}

module _ (names : List Text) where
  -- the text of a name
  abbrev pub text_at : ℕ → Text
  text_at n = unwrap_or (slice_get names n) []

  -- the number is a name's that a role or an individual may have
  pub record IsNamed (n : ℕ) : Type 0 where
    pub at : slice_get names n ≡ Some (text_at n)
    pub is : IsName (text_at n)

  -- and a class: it may be owl:Nothing too
  pub record IsNamedClass (n : ℕ) : Type 0 where
    pub at : slice_get names n ≡ Some (text_at n)
    pub is : IsName (text_at n) ⊎ (text_at n ≡ owl_nothing)

  abbrev pub IsNamedFact : Fact → Type 0
  IsNamedFact (Is c a) = IsNamedClass c × IsNamed a
  IsNamedFact (Link p a b) = IsNamed p × IsNamed a × IsNamed b
