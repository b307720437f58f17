-- From the first token of the bytes to all that is read.
use Rattle.std.proofs.Common.{◌≡◌, ◌≢◌, ◌<◌, ℕ, true, false, All, Result, Ok, Err, IfOk, IfErr, List, [], ◌∷◌, length, inl, inr, sym, ap, ◌∙◌, subst, ◌⊎◌}
use Rattle.dl_names.specs.NameList.{Text, Extends}
use Rattle.dl_terms.specs.Auxiliaries.{HasNoAuxiliary}
use Rattle.dl_terms.specs.Occurring.{axiom_names, fact_names}
use Rattle.dl_owl.specs.declared.document.Document.{Document}
use Rattle.dl_owl.specs.declared.fault.OwlFault.{OwlFault}
use Rattle.dl_owl.specs.declared.fault.OwlFault.TheVariants.{NoMemory}
use Rattle.dl_owl.specs.Symbols as symbols
use Rattle.dl_owl.specs.Symbols.{no_token, Placed}
use Rattle.dl_owl.specs.Prefixes.{predefined}
use Rattle.dl_owl.specs.Causes.{syntax}
use Rattle.dl_owl.specs.Documents.{GivesBy, Ends}
use Rattle.dl_owl.specs.Expected.{Expected}
use Rattle.dl_owl.specs.Reading.{gives, outcome, outcome_of, start, ReadsValue, IsFault}
use Rattle.dl_owl.specs.Walk.{Spot, here, met_of, FromToken, FaultsBy, Begins, NoneFirst}
use Rattle.dl_owl.proofs.PlaceLemmas.{Places}
use Rattle.dl_owl.proofs.WalkLemmas.{goes_tokens, no_token_refused}

module _ (bytes : List ℕ) (e : Expected) (names : List Text) where
  -- no token stands first
  pub none_first : (fault : OwlFault) → NoneFirst bytes fault → IsFault bytes e names fault
  none_first fault h = record {
    cause = syntax;
    at = h.at;
    is = h.is;
    read = record {
      tokens = record { symbol = no_token; at = h.at } ∷ [];
      are = symbols.AreTokens.fault h.at h.none;
      comes =
          ap (outcome_of (start names) (record { symbol = no_token; at = h.at }) (λ f later. outcome f later []))
          (no_token_refused predefined e);
    };
  }

  module _ (s : Spot) (begins : Begins bytes s) where
    from_is : met_of (here s predefined names) ≡ start names
    from_is = λ i. record { prefixes = predefined; names = names; depth = begins.flat i }

    pub value_given : (d : Document) (after : List Text) → GivesBy e (here s predefined names) after d
        → ReadsValue bytes e names d after
    value_given d after h = record {
      tokens = h.tokens;
      are =
          goes_tokens bytes true 0 s.token h.tokens begins.first
          (subst (λ b. FromToken b true s.token h.tokens) begins.is h.are);
      comes = ap (λ met. outcome e met h.tokens) (sym from_is) ∙ h.comes;
    }

    fault_given : (fault : OwlFault) → (fault ≡ NoMemory) ⊎ FaultsBy e (here s predefined names) fault → fault ≢ NoMemory
        → IsFault bytes e names fault
    fault_given fault (inl none) some = absurd (some none)
    fault_given fault (inr by) some = record {
      cause = by.cause;
      at = by.at;
      is = by.is;
      read = record {
        tokens = by.tokens;
        are =
            goes_tokens bytes false 0 s.token by.tokens begins.first
            (subst (λ b. FromToken b false s.token by.tokens) begins.is by.are);
        comes = ap (λ met. outcome e met by.tokens) (sym from_is) ∙ by.comes;
      };
    }

    -- ---- what the clauses tell of the result

    module _ (after : List Text) where
      pub told_value : (r : Result Document OwlFault) → Ends e (here s predefined names) after r
          → IfOk r (λ d. ReadsValue bytes e names d after)
      told_value (Ok d) h = value_given d after h
      told_value (Err fault) h = tt

      pub told_fault : (r : Result Document OwlFault) → Ends e (here s predefined names) after r
          → IfErr r (λ fault. fault ≢ NoMemory → IsFault bytes e names fault)
      told_fault (Ok d) h = tt
      told_fault (Err fault) h = fault_given fault h.why

      pub told_plain : ((d : Document) → ReadsValue bytes e names d after → All HasNoAuxiliary d.axioms) → (r : Result Document OwlFault)
          → Ends e (here s predefined names) after r → IfOk r (λ d. All HasNoAuxiliary d.axioms)
      told_plain plain (Ok d) h = plain d (value_given d after h)
      told_plain plain (Err fault) h = tt

      module _ (placed : (tokens : List Placed) (d : Document) → outcome e (start names) tokens ≡ gives d after
          → Places names d after) where
        places_of : (d : Document) → GivesBy e (here s predefined names) after d → Places names d after
        places_of d h = let v = value_given d after h in placed v.tokens d v.comes

        pub told_axioms : (r : Result Document OwlFault) → Ends e (here s predefined names) after r
            → IfOk r (λ d. All (λ stated. All (λ place. place < length after) (axiom_names stated)) d.axioms)
        told_axioms (Ok d) h = (places_of d h).below.axioms
        told_axioms (Err fault) h = tt

        pub told_facts : (r : Result Document OwlFault) → Ends e (here s predefined names) after r
            → IfOk r (λ d. All (λ fact. All (λ place. place < length after) (fact_names fact)) d.facts)
        told_facts (Ok d) h = (places_of d h).below.facts
        told_facts (Err fault) h = tt

        pub told_classes : (r : Result Document OwlFault) → Ends e (here s predefined names) after r
            → IfOk r (λ d. All (λ place. place < length after) d.classes)
        told_classes (Ok d) h = (places_of d h).below.classes
        told_classes (Err fault) h = tt

        pub told_roles : (r : Result Document OwlFault) → Ends e (here s predefined names) after r
            → IfOk r (λ d. All (λ place. place < length after) d.roles)
        told_roles (Ok d) h = (places_of d h).below.roles
        told_roles (Err fault) h = tt

        pub told_growth : (r : Result Document OwlFault) → Ends e (here s predefined names) after r
            → Extends names after
        told_growth (Ok d) h = (places_of d h).grows
        told_growth (Err fault) h = h.grows
