-- What naming texts does to a list of names, and what stays of a place once it is given.
use Rattle.std.proofs.Common.{◌≡◌, ◌≢◌, ℕ, ◌+◌, ◌<◌, ◌≤◌, ◌⊎◌, Bool, true, false, cond, not, ◌||◌, List, [], ◌∷◌, ◌++◌, length, get_or, slice_get, Some, refl, sym, ap, subst, inl, inr, ◌∙◌, true≢false, append_assoc, append-nil, arith, if◌then◌else◌, suc}
use Rattle.std.specs.List.{list_any, position_or_len}
use Rattle.std.specs.Str.{bytes_eq}
use Rattle.std.proofs.lemmas.Slice.Eq.{bytes_eq-Decides}
use Rattle.std.proofs.lemmas.List.Folds.{list_any-append, list_any_at}
use Rattle.std.proofs.lemmas.List.{length-append, get_or_append_left}
use Rattle.std.proofs.lemmas.List.Quantifiers.{all_pairs_push}
use Rattle.std.proofs.lemmas.Option.{slice_get-get_or, get_or_from_slice_get, slice_get_within}
use Rattle.dl_names.specs.NameList.{Text, has_name, names_after, place_of, HasNoRepeats, Extends}

-- ---- the first element that passes a test

module _ {X : Type 0} (p : X → Bool) where
  -- where one passes, the first is within the list
  pub position_or_len-lt : (xs : List X) → list_any p xs ≡ true → position_or_len p xs < length xs
  position_or_len-lt [] h = absurd (true≢false (sym h))
  position_or_len-lt (x ∷ xs) h = by (p x) refl (position_or_len-lt xs)
    where
      by : (b : Bool) → p x ≡ b → (list_any p xs ≡ true → position_or_len p xs < length xs) → position_or_len p (x ∷ xs) < length (x ∷ xs)
      by true e rest = rw e (omega arith)
      by false e rest = rw e (omega (arith, rest (rw e at h)))

  -- and it passes
  pub position_or_len-passes : (xs : List X) (d : X) → list_any p xs ≡ true → p (get_or xs (position_or_len p xs) d) ≡ true
  position_or_len-passes [] d h = absurd (true≢false (sym h))
  position_or_len-passes (x ∷ xs) d h = by (p x) refl (position_or_len-passes xs d)
    where
      by : (b : Bool) → p x ≡ b → (list_any p xs ≡ true → p (get_or xs (position_or_len p xs) d) ≡ true) → p (get_or (x ∷ xs) (position_or_len p (x ∷ xs)) d) ≡ true
      by true e rest = subst (λ n. p (get_or (x ∷ xs) n d) ≡ true) (sym (ap (λ c. cond (not c) (1 + position_or_len p xs) 0) e)) e
      by false e rest =
          let next : suc (position_or_len p xs) ≡ position_or_len p (x ∷ xs) = rw e (omega arith) in
          subst (λ n. p (get_or (x ∷ xs) n d) ≡ true) next (rest (rw e at h))

  -- where none passes, it is the length
  pub position_or_len-none : (xs : List X) → list_any p xs ≡ false → position_or_len p xs ≡ length xs
  position_or_len-none [] h = refl
  position_or_len-none (x ∷ xs) h = by (p x) refl (position_or_len-none xs)
    where
      by : (b : Bool) → p x ≡ b → (list_any p xs ≡ false → position_or_len p xs ≡ length xs) → position_or_len p (x ∷ xs) ≡ length (x ∷ xs)
      by true e rest = absurd (true≢false (rw e at h))
      by false e rest = rw e (omega (arith, rest (rw e at h)))

  -- what comes after it doesn't matter
  pub position_or_len-append : (xs ys : List X) → list_any p xs ≡ true → position_or_len p (xs ++ ys) ≡ position_or_len p xs
  position_or_len-append [] ys h = absurd (true≢false (sym h))
  position_or_len-append (x ∷ xs) ys h = by (p x) refl (position_or_len-append xs ys)
    where
      by : (b : Bool) → p x ≡ b → (list_any p xs ≡ true → position_or_len p (xs ++ ys) ≡ position_or_len p xs) → position_or_len p ((x ∷ xs) ++ ys) ≡ position_or_len p (x ∷ xs)
      by true e rest = rw e refl
      by false e rest = rw e (ap (λ n. 1 + n) (rest (rw e at h)))

  -- an element that passes, after none that does
  pub position_or_len-push : (xs : List X) (y : X) → list_any p xs ≡ false → p y ≡ true → position_or_len p (xs ++ y ∷ []) ≡ length xs
  position_or_len-push [] y h passes = rw passes refl
  position_or_len-push (x ∷ xs) y h passes = by (p x) refl (position_or_len-push xs y)
    where
      by : (b : Bool) → p x ≡ b → (list_any p xs ≡ false → p y ≡ true → position_or_len p (xs ++ y ∷ []) ≡ length xs) → position_or_len p ((x ∷ xs) ++ y ∷ []) ≡ length (x ∷ xs)
      by true e rest = absurd (true≢false (rw e at h))
      by false e rest = rw e (omega (arith, rest (rw e at h) passes))

-- ---- texts

-- two tests that follow from each other are the same
pub same_test : (a b : Bool) → (a ≡ true → b ≡ true) → (b ≡ true → a ≡ true) → a ≡ b
same_test true b one other = sym (one refl)
same_test false true one other = other refl
same_test false false one other = refl

pub bytes_eq-same : (text : Text) → bytes_eq text text ≡ true
bytes_eq-same text = (bytes_eq-Decides text text).1 refl

pub same-bytes_eq : (x y : Text) → bytes_eq x y ≡ true → x ≡ y
same-bytes_eq x y = (bytes_eq-Decides x y).0

-- ---- where a name stands

-- where no text stands twice, a text stands at one place
pub same_place : (names : List Text) → HasNoRepeats names → (i j : ℕ) (d : Text) → i < length names → j < length names → get_or names i d ≡ get_or names j d → i ≡ j
same_place names distinct i j d i_in j_in same =
    let not_before : (i < j → ⊥) = λ lt. distinct i j d lt j_in same in
    let not_after : (j < i → ⊥) = λ lt. distinct j i d lt i_in (sym same) in
    omega arith

module _ (names : List Text) (text : Text) where
  pub place_of-lt : has_name names text ≡ true → place_of names text < length names
  place_of-lt h = position_or_len-lt (bytes_eq text) names h

  -- a name stands at its place
  pub slice_get-place_of : has_name names text ≡ true → slice_get names (place_of names text) ≡ Some text
  slice_get-place_of h =
      slice_get-get_or names (place_of names text) text (place_of-lt h)
      ∙ ap Some (sym (same-bytes_eq text _ (position_or_len-passes (bytes_eq text) names text h)))

  -- a text that isn't there yet gets the place after the last
  pub place_of-new : has_name names text ≡ false → place_of names text ≡ length names
  place_of-new h = position_or_len-none (bytes_eq text) names h

  -- what stands at a place is a name
  pub has_name-slice_get : (place : ℕ) → slice_get names place ≡ Some text → has_name names text ≡ true
  has_name-slice_get place at =
      list_any_at (bytes_eq text) names place text (slice_get_within names place text at)
      (subst (λ t. bytes_eq text t ≡ true) (sym (get_or_from_slice_get names place text text at)) (bytes_eq-same text))

  -- where no text stands twice, a name's place is where it stands
  pub place_of-slice_get : HasNoRepeats names → (place : ℕ) → slice_get names place ≡ Some text → place_of names text ≡ place
  place_of-slice_get distinct place at =
      let h = has_name-slice_get place at in
      same_place names distinct (place_of names text) place text (place_of-lt h) (slice_get_within names place text at)
      (get_or_from_slice_get names (place_of names text) text text (slice_get-place_of h) ∙ sym (get_or_from_slice_get names place text text at))

-- ---- lists that grow

pub Extends-same : (names : List Text) → Extends names names
Extends-same names = record { more = []; is = sym (append-nil names) }

pub Extends-trans : (one two three : List Text) → Extends one two → Extends two three → Extends one three
Extends-trans one two three first second = record {
  more = first.more ++ second.more;
  is = second.is ∙ ap (λ l. l ++ second.more) first.is ∙ append_assoc one first.more second.more;
}

module _ (old new : List Text) (grows : Extends old new) where
  pub length-Extends : length old ≤ length new
  length-Extends = omega (arith, ap length grows.is ∙ length-append old grows.more)

  -- a name stays a name
  pub has_name-Extends : (text : Text) → has_name old text ≡ true → has_name new text ≡ true
  has_name-Extends text h =
      ap (λ l. has_name l text) grows.is ∙ list_any-append (bytes_eq text) old grows.more ∙ ap (λ b. b || has_name grows.more text) h

  -- a place once given stays the same
  pub place_of-Extends : (text : Text) → has_name old text ≡ true → place_of new text ≡ place_of old text
  place_of-Extends text h =
      ap (λ l. place_of l text) grows.is ∙ position_or_len-append (bytes_eq text) old grows.more h

  -- and has the same text
  pub slice_get-Extends : (place : ℕ) (text : Text) → slice_get old place ≡ Some text → slice_get new place ≡ Some text
  slice_get-Extends place text at =
      let within = slice_get_within old place text at in
      let more_within : place < length new = omega (arith, length-Extends, within) in
      slice_get-get_or new place text more_within
      ∙ ap Some (ap (λ l. get_or l place text) grows.is ∙ get_or_append_left old grows.more text place within ∙ get_or_from_slice_get old place text text at)

-- ---- a text is named

module _ (names : List Text) (text : Text) where
  -- one that is there changes nothing
  pub names_after-old : has_name names text ≡ true → names_after names text ≡ names
  names_after-old h = ap (λ c. if c then names else names ++ text ∷ []) h

  -- and a new one goes last
  pub names_after-new : has_name names text ≡ false → names_after names text ≡ names ++ text ∷ []
  names_after-new h = ap (λ c. if c then names else names ++ text ∷ []) h

  -- a fact of both cases
  pub names_after_cases : (P : List Text → Type 0) → (has_name names text ≡ true → P names) → (has_name names text ≡ false → P (names ++ text ∷ [])) → P (names_after names text)
  names_after_cases P old new = by (has_name names text) refl
    where
      by : (b : Bool) → has_name names text ≡ b → P (names_after names text)
      by true e = subst P (sym (names_after-old e)) (old e)
      by false e = subst P (sym (names_after-new e)) (new e)

  pub Extends-names_after : Extends names (names_after names text)
  Extends-names_after =
      names_after_cases (λ l. Extends names l) (λ _. Extends-same names) (λ _. record { more = text ∷ []; is = refl })

  pub length-names_after : length (names_after names text) ≤ length names + 1
  length-names_after =
      names_after_cases (λ l. length l ≤ length names + 1) (λ _. omega arith) (λ _. omega (arith, length-append names (text ∷ [])))

  -- a text that is named is a name
  pub has_name-names_after : has_name (names_after names text) text ≡ true
  has_name-names_after =
      names_after_cases (λ l. has_name l text ≡ true) (λ h. h)
      (λ h. list_any-append (bytes_eq text) names (text ∷ []) ∙ ap (λ b. b || (bytes_eq text text || false)) h ∙ ap (λ b. b || false) (bytes_eq-same text))

  -- and no other text becomes one
  pub has_name-names_after_cases : (other : Text) → has_name (names_after names text) other ≡ true → (has_name names other ≡ true) ⊎ (other ≡ text)
  has_name-names_after_cases other =
      names_after_cases (λ l. has_name l other ≡ true → (has_name names other ≡ true) ⊎ (other ≡ text)) (λ _ h. inl h)
      (λ _ h. by (has_name names other) refl (sym (list_any-append (bytes_eq other) names (text ∷ [])) ∙ h))
    where
      last : (b : Bool) → bytes_eq other text ≡ b → (b || false) ≡ true → other ≡ text
      last true e _ = same-bytes_eq other text e
      last false e h = absurd (true≢false (sym h))

      by : (b : Bool) → has_name names other ≡ b → (has_name names other || (bytes_eq other text || false)) ≡ true → (has_name names other ≡ true) ⊎ (other ≡ text)
      by true e h = inl e
      by false e h = inr (last (bytes_eq other text) refl (rw e at h))

  -- the place that the text gets is the one that it would have before
  pub place_of-names_after : place_of (names_after names text) text ≡ place_of names text
  place_of-names_after =
      by (has_name names text) refl
    where
      by : (b : Bool) → has_name names text ≡ b → place_of (names_after names text) text ≡ place_of names text
      by true e = ap (λ l. place_of l text) (names_after-old e)
      by false e =
          ap (λ l. place_of l text) (names_after-new e) ∙ position_or_len-push (bytes_eq text) names text e (bytes_eq-same text) ∙ sym (place_of-new names text e)

  pub HasNoRepeats-names_after : HasNoRepeats names → HasNoRepeats (names_after names text)
  HasNoRepeats-names_after distinct =
      names_after_cases HasNoRepeats (λ _. distinct)
      (λ h. all_pairs_push (λ x y. x ≢ y) names text distinct (λ k d k_in same. true≢false (sym (list_any_at (bytes_eq text) names k d k_in (subst (λ t. bytes_eq text t ≡ true) (sym same) (bytes_eq-same text))) ∙ h)))

-- the empty list has no repeats
pub HasNoRepeats-nil : HasNoRepeats []
HasNoRepeats-nil = λ i j d lt within same. omega arith
