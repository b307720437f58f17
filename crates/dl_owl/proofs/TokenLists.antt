-- The tokens of bytes are one list, of which any first ones are the front.
use Rattle.std.proofs.Common.{◌≡◌, ℕ, Bool, true, false, ◌⊎◌, inl, inr, List, [], ◌∷◌, ◌++◌, refl, sym, ap, ◌∙◌, subst, true≢false, append_assoc, append-nil}
use Rattle.dl_lex.proofs.Unique.{one_next_token, no_token_at_fault, one_fault}
use Rattle.dl_names.specs.NameList.{Text}
use Rattle.dl_owl.specs.declared.document.Document.{Document}
use Rattle.dl_owl.specs.Symbols.{no_token, Placed, placed, AreTokens, nothing, fault, last, token}
use Rattle.dl_owl.specs.Causes.{Cause}
use Rattle.dl_owl.specs.Expected.{Expected}
use Rattle.dl_owl.specs.Reading.{Met, gives, fails, outcome, start, ReadsValue, ReadsFault}
use Rattle.dl_owl.proofs.Turns.{fails_at}

-- one list goes on behind the other; a list of all tokens is the longer one
abbrev pub GoOn : Bool → List Placed → Bool → List Placed → Type 0
GoOn all l every m =
    ((more : List Placed) × ((l ≡ m ++ more) × (every ≡ true → more ≡ [])))
    ⊎ ((more : List Placed) × ((m ≡ l ++ more) × (all ≡ true → more ≡ [])))

same_list : (all every : Bool) (l m : List Placed) → l ≡ m → GoOn all l every m
same_list all every l m same = inl ([], (same ∙ sym (append-nil m), λ _. refl))

cons_list : (all every : Bool) (s t : Placed) (l m : List Placed) → s ≡ t → GoOn all l every m → GoOn all (s ∷ l) every (t ∷ m)
cons_list all every s t l m same (inl longer) = inl (longer.0, (λ i. same i ∷ longer.1.0 i, longer.1.1))
cons_list all every s t l m same (inr longer) = inr (longer.0, (λ i. sym same i ∷ longer.1.0 i, longer.1.1))

module _ (bytes : List ℕ) (all every : Bool) where
  pub go_on : (place : ℕ) (l m : List Placed) → AreTokens bytes all place l → AreTokens bytes every place m → GoOn all l every m
  go_on place l m (nothing some) h = inr (m, (refl, λ whole. absurd (true≢false (sym whole ∙ some))))
  go_on place l m (fault at none) (nothing some) = inl (l, (refl, λ whole. absurd (true≢false (sym whole ∙ some))))
  go_on place l m (fault at none) (fault at' none') =
      same_list all every l m (ap (λ n. record { symbol = no_token; at = n } ∷ []) (one_fault bytes place at at' none none'))
  go_on place l m (fault at none) (last t next end) = absurd (no_token_at_fault bytes place at t none next)
  go_on place l m (fault at none) (token t next more them) = absurd (no_token_at_fault bytes place at t none next)
  go_on place l m (last t next end) (nothing some) = inl (l, (refl, λ whole. absurd (true≢false (sym whole ∙ some))))
  go_on place l m (last t next end) (fault at none) = absurd (no_token_at_fault bytes place at t none next)
  go_on place l m (last t next end) (last t' next' end') =
      same_list all every l m (ap (λ u. placed bytes u ∷ []) (one_next_token bytes place t t' next next'))
  go_on place l m (last t next end) (token t' next' not them) =
      absurd (not (ap (λ u. u.kind) (sym (one_next_token bytes place t t' next next')) ∙ end))
  go_on place l m (token t next not them) (nothing some) = inl (l, (refl, λ whole. absurd (true≢false (sym whole ∙ some))))
  go_on place l m (token t next not them) (fault at none) = absurd (no_token_at_fault bytes place at t none next)
  go_on place l m (token t next not them) (last t' next' end) =
      absurd (not (ap (λ u. u.kind) (one_next_token bytes place t t' next next') ∙ end))
  go_on place l m (token {more = more} t next not them) (token {more = more'} t' next' not' them') =
      let same = one_next_token bytes place t t' next next' in
      cons_list all every (placed bytes t) (placed bytes t') more more' (ap (placed bytes) same)
      (go_on t.end more more' them (subst (λ u. AreTokens bytes every u.end more') (sym same) them'))

-- ---- so reading gives one result

-- a fault of some first tokens is the fault of any that go on from there
fault_stays : (e : Expected) (met : Met) (tokens more : List Placed) (cause : Cause) (at : ℕ)
    → outcome e met tokens ≡ fails cause at → outcome e met (tokens ++ more) ≡ fails cause at
fault_stays e met tokens more cause at h =
    let found = fails_at tokens e met cause at h in
    ap (outcome e met) (ap (λ l. l ++ more) found.is ∙ append_assoc found.before (found.token ∷ found.more) more)
    ∙ found.always (found.more ++ more)

module _ (bytes : List ℕ) (e : Expected) (names : List Text) where
  pub one_value : (d d' : Document) (after after' : List Text) → ReadsValue bytes e names d after → ReadsValue bytes e names d' after'
      → (d ≡ d') × (after ≡ after')
  one_value d d' after after' h h' =
      let same : gives d after ≡ gives d' after' =
      sym h.comes ∙ ap (outcome e (start names)) (same_all (go_on bytes true true 0 h.tokens h'.tokens h.are h'.are)) ∙ h'.comes in
      let value_is : d ≡ d' = cc in
      let names_are : after ≡ after' = cc in
      (value_is, names_are)
    where
      same_all : GoOn true h.tokens true h'.tokens → h.tokens ≡ h'.tokens
      same_all (inl longer) = longer.1.0 ∙ ap (λ l. h'.tokens ++ l) (longer.1.1 refl) ∙ append-nil h'.tokens
      same_all (inr longer) = sym (longer.1.0 ∙ ap (λ l. h.tokens ++ l) (longer.1.1 refl) ∙ append-nil h.tokens)

  pub one_fault_read : (cause cause' : Cause) (at at' : ℕ) → ReadsFault bytes e names cause at → ReadsFault bytes e names cause' at'
      → (cause ≡ cause') × (at ≡ at')
  one_fault_read cause cause' at at' h h' =
      let same : fails cause at ≡ fails cause' at' = by (go_on bytes false false 0 h.tokens h'.tokens h.are h'.are) in
      let cause_is : cause ≡ cause' = cc in
      let at_is : at ≡ at' = cc in
      (cause_is, at_is)
    where
      by : GoOn false h.tokens false h'.tokens → fails cause at ≡ fails cause' at'
      by (inl longer) =
          sym h.comes ∙ ap (outcome e (start names)) longer.1.0 ∙ fault_stays e (start names) h'.tokens longer.0 cause' at' h'.comes
      by (inr longer) =
          sym (sym h'.comes ∙ ap (outcome e (start names)) longer.1.0 ∙ fault_stays e (start names) h.tokens longer.0 cause at h.comes)

  pub no_fault_at_value : (d : Document) (after : List Text) (cause : Cause) (at : ℕ)
      → ReadsValue bytes e names d after → ReadsFault bytes e names cause at → ⊥
  no_fault_at_value d after cause at h h' = by (go_on bytes true false 0 h.tokens h'.tokens h.are h'.are)
    where
      apart : gives d after ≡ fails cause at → ⊥
      apart same = cc

      by : GoOn true h.tokens false h'.tokens → ⊥
      by (inl longer) =
          apart (sym h.comes ∙ ap (outcome e (start names)) longer.1.0 ∙ fault_stays e (start names) h'.tokens longer.0 cause at h'.comes)
      by (inr longer) =
          apart
          (sym h.comes
          ∙ ap (outcome e (start names)) (sym (longer.1.0 ∙ ap (λ l. h.tokens ++ l) (longer.1.1 refl) ∙ append-nil h.tokens))
          ∙ h'.comes)
