-- A token ends reading, or reading goes on in one way behind it: so a fault is told by the tokens up to it.
use Rattle.std.proofs.Common.{◌≡◌, ℕ, Bool, true, false, cond, ◌⊎◌, inl, inr, if◌then◌else◌, List, [], ◌∷◌, ◌++◌, refl, sym, ap, ◌∙◌, subst}
use Rattle.dl_names.specs.NameList.{names_after, place_of, has_no_place}
use Rattle.dl_owl.specs.Symbols.{Placed}
use Rattle.dl_owl.specs.Causes.{Cause, too_deep, too_many_names}
use Rattle.dl_owl.specs.Expected.{Expected, done, annotations_then, Move, goes, takes_name, declares, refuses}
use Rattle.dl_owl.specs.Steps.{move_of}
use Rattle.dl_owl.specs.Reading.{Met, Outcome, gives, fails, unfinished, depth_after, is_too_deep, at_depth, outcome_of, last_outcome, outcome, IsNoFault, FailsAt}

-- a value or a fault at the token
abbrev pub IsEndAt : Placed → Outcome → Type 0
IsEndAt t (gives document names) = Unit {0}
IsEndAt t (fails cause at) = at ≡ t.at
IsEndAt t unfinished = ⊥

-- what is met behind a token that fits
abbrev pub deeper : Met → Placed → Met
deeper met t = record met { depth = depth_after t.symbol met.depth }

-- how reading goes on behind a token, or what it ends with
pub data Turn (met : Met) (t : Placed) (m : Move) : Type 0 where
  onward : (e : Expected) (later : Met) → ((f : Expected → Met → Outcome) → outcome_of met t f m ≡ f e later) → Turn met t m
  stops : (o : Outcome) → IsEndAt t o → ((f : Expected → Met → Outcome) → outcome_of met t f m ≡ o) → Turn met t m

-- at a depth, whatever is done there
at_depth-turn : (met : Met) (t : Placed) (m : Move) (go : (Expected → Met → Outcome) → Met → Outcome)
    → ((f : Expected → Met → Outcome) → outcome_of met t f m ≡ at_depth met t (go f))
    → (is_too_deep t.symbol met.depth ≡ false
    → ((o : Outcome) × (IsEndAt t o × ((f : Expected → Met → Outcome) → go f (deeper met t) ≡ o)))
    ⊎ ((e : Expected) × ((later : Met) × ((f : Expected → Met → Outcome) → go f (deeper met t) ≡ f e later))))
    → Turn met t m
at_depth-turn met t m go is goes_on = by (is_too_deep t.symbol met.depth) refl
  where
    at_b : (b : Bool) → is_too_deep t.symbol met.depth ≡ b → (f : Expected → Met → Outcome)
        → outcome_of met t f m ≡ cond b (fails too_deep t.at) (go f (deeper met t))
    at_b b h f = is f ∙ ap (λ c. cond c (fails too_deep t.at) (go f (deeper met t))) h

    by : (b : Bool) → is_too_deep t.symbol met.depth ≡ b → Turn met t m
    by true h = stops (fails too_deep t.at) refl (at_b true h)
    by false h =
        elim (goes_on h) [
          | inl end ↦ stops end.0 end.1.0 (λ f. at_b false h f ∙ end.1.1 f)
          | inr more ↦ onward more.0 more.1.0 (λ f. at_b false h f ∙ more.1.1 f)
        ]

pub turn : (met : Met) (t : Placed) (m : Move) → Turn met t m
turn met t (goes e) =
    at_depth-turn met t (goes e) (λ f later. f e later) (λ f. refl) (λ _. inr (e, (deeper met t, λ f. refl)))
turn met t (takes_name text k) =
    at_depth-turn met t (takes_name text k)
    (λ f later. if has_no_place met.names text then fails too_many_names t.at else f (k (place_of (names_after met.names text) text)) (record later { names = names_after met.names text }))
    (λ f. refl) (λ _. by (has_no_place met.names text) refl)
  where
    go : (f : Expected → Met → Outcome) → Outcome
    go f = f (k (place_of (names_after met.names text) text)) (record (deeper met t) { names = names_after met.names text })

    by : (b : Bool) → has_no_place met.names text ≡ b
        → ((o : Outcome) × (IsEndAt t o × ((f : Expected → Met → Outcome) → (if has_no_place met.names text then fails too_many_names t.at else go f) ≡ o)))
        ⊎ ((e : Expected) × ((later : Met) × ((f : Expected → Met → Outcome) → (if has_no_place met.names text then fails too_many_names t.at else go f) ≡ f e later)))
    by true h = inl (fails too_many_names t.at, (refl, λ f. ap (λ c. cond c (fails too_many_names t.at) (go f)) h))
    by false h =
        inr (
          k (place_of (names_after met.names text) text),
          (
            record (deeper met t) { names = names_after met.names text },
            λ f. ap (λ c. cond c (fails too_many_names t.at) (go f)) h,
          ),
        )
turn met t (declares name iri e) =
    at_depth-turn met t (declares name iri e) (λ f later. f e (record later { prefixes = met.prefixes ++ (name, iri) ∷ [] })) (λ f. refl)
    (λ _. inr (e, (record (deeper met t) { prefixes = met.prefixes ++ (name, iri) ∷ [] }, λ f. refl)))
turn met t (refuses cause) = stops (fails cause t.at) refl (λ f. refl)

pub fails_at : (tokens : List Placed) (e : Expected) (met : Met) (cause : Cause) (at : ℕ)
    → outcome e met tokens ≡ fails cause at → FailsAt e met tokens cause at
fails_at [] e met cause at h = absurd (last e h)
  where
    last : (e : Expected) → last_outcome e met ≡ fails cause at → ⊥
    last (done d) same = cc
    last (annotations_then e) same = last e same
    last e same = cc
fails_at (t ∷ tokens) e met cause at h =
    by (turn met t (move_of met.prefixes e t.symbol)) (λ next later. fails_at tokens next later cause at)
  where
    at_token : (o : Outcome) → IsEndAt t o → o ≡ fails cause at → at ≡ t.at
    at_token (gives document names) end same = absurd (cc)
    at_token (fails cause' at') end same = let at_is : at' ≡ at = cc in sym at_is ∙ end
    at_token unfinished end same = absurd end

    none : (e : Expected) → IsNoFault (last_outcome e met)
    none (done d) = tt
    none (annotations_then e) = none e
    none e = tt

    by : Turn met t (move_of met.prefixes e t.symbol)
        → ((e : Expected) (met : Met) → outcome e met tokens ≡ fails cause at → FailsAt e met tokens cause at)
        → FailsAt e met (t ∷ tokens) cause at
    by (onward next later is) hyp =
        let inner = hyp next later (sym (is (λ e met. outcome e met tokens)) ∙ h) in
        record {
          before = t ∷ inner.before;
          token = inner.token;
          more = inner.more;
          is = ap (λ l. t ∷ l) inner.is;
          place = inner.place;
          goes_on = subst IsNoFault (sym (is (λ e met. outcome e met inner.before))) inner.goes_on;
          always = λ others. is (λ e met. outcome e met (inner.before ++ inner.token ∷ others)) ∙ inner.always others;
        }
    by (stops o end is) hyp =
        let same : o ≡ fails cause at = sym (is (λ e met. outcome e met tokens)) ∙ h in
        record {
          before = [];
          token = t;
          more = tokens;
          is = refl;
          place = at_token o end same;
          goes_on = none e;
          always = λ others. is (λ e met. outcome e met others) ∙ same;
        }
