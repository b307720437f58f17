-- Rows at some places of a list, which change, and those that are left.
use Rattle.std.proofs.Common.{◌≡◌, ℕ, suc, ◌+◌, ◌<◌, ◌≤◌, ◌⊎◌, inl, inr, Bool, true, false, ◌||◌, cond, ◌==◌, List, [], ◌∷◌, ◌++◌, map, length, get_or, refl, sym, ap, ap₂, subst, ◌∙◌, append_assoc, arith}
use Rattle.std.specs.List.{AllByRecursion, list_any}
use Rattle.std.specs.List.Sorted.{IsStrictlySortedBy}
use Rattle.std.specs.Ordering.{nat_cmp}
use Rattle.std.specs.declared.cmp.Ordering.TheVariants.{Less}
use Rattle.std.specs.Cmp.{ranked}
use Rattle.std.proofs.lemmas.Bool.{cases_eq, ne_eqb, eq-eqb}
use Rattle.std.proofs.lemmas.List.{length_push}
use Rattle.dl_row.specs.Lists.{count, left_from, InOrder}

-- the items at given places, where the list begins at a place
abbrev pub taken_from : {A : Type 0} → ℕ → List ℕ → List A → List A
taken_from i places [] = []
taken_from i places (x ∷ xs) =
    cond (list_any (λ p. p == i) places) (x ∷ taken_from (suc i) places xs) (taken_from (suc i) places xs)

-- the items at given places
abbrev pub taken_of : {A : Type 0} → List ℕ → List A → List A
taken_of = taken_from 0

-- what is left and what is taken are as many as there were
pub length-taken_from : {A : Type 0} (i : ℕ) (places : List ℕ) (xs : List A)
    → length (left_from i places xs) + length (taken_from i places xs) ≡ length xs
length-taken_from i places [] = refl
length-taken_from {A} i places (x ∷ xs) = by (list_any (λ p. p == i) places) (length-taken_from (suc i) places xs)
  where
    by : (b : Bool) → length (left_from (suc i) places xs) + length (taken_from (suc i) places xs) ≡ length xs
        → length (cond b (left_from (suc i) places xs) (x ∷ left_from (suc i) places xs))
        + length (cond b (x ∷ taken_from (suc i) places xs) (taken_from (suc i) places xs)) ≡ suc (length xs)
    by true ih = omega (arith, ih)
    by false ih = omega (arith, ih)

module _ {A : Type 0} (e : A → Bool) (f : A → A) (places : List ℕ) where
  -- of a list that begins at a place, the places tell those items that pass a test
  abbrev pub TellFrom : ℕ → List A → Type 0
  TellFrom i [] = Unit {0}
  TellFrom i (x ∷ xs) = (list_any (λ p. p == i) places ≡ e x) × TellFrom (suc i) xs

  -- so what is left, and what those become that are taken, has the counts of the whole list with these changed
  pub count-changed : (q : A → Bool) (i : ℕ) (xs : List A) → TellFrom i xs
      → count q (left_from i places xs) + count q (map f (taken_from i places xs)) ≡ count q
      (map (λ x. cond (e x) (f x) x) xs)
  count-changed q i [] tell = refl
  count-changed q i (x ∷ xs) tell = by (list_any (λ p. p == i) places) (e x) tell.0 (count-changed q (suc i) xs tell.1)
    where
      by : (b c : Bool) → b ≡ c
          → count q (left_from (suc i) places xs) + count q (map f (taken_from (suc i) places xs)) ≡ count q
          (map (λ x. cond (e x) (f x) x) xs)
          → count q (cond b (left_from (suc i) places xs) (x ∷ left_from (suc i) places xs))
          + count q (map f (cond b (x ∷ taken_from (suc i) places xs) (taken_from (suc i) places xs)))
          ≡ cond (q (cond c (f x) x)) 1 0 + count q (map (λ x. cond (e x) (f x) x) xs)
      by true true same ih = omega (arith, ih)
      by true false same ih = cc
      by false true same ih = cc
      by false false same ih = omega (arith, ih)

  -- told place by place
  pub tell : (i : ℕ) (xs : List A)
      → ((k : ℕ) (d : A) → k < length xs → list_any (λ p. p == i + k) places ≡ e (get_or xs k d)) → TellFrom i xs
  tell i [] each = tt
  tell i (x ∷ xs) each = (
    subst (λ n. list_any (λ p. p == n) places ≡ e x) (none i) (each 0 x (omega arith)),
    tell (suc i) xs (λ k d h. subst (λ n. list_any (λ p. p == n) places ≡ e (get_or xs k d)) (next i k)
        (each (suc k) d (omega (arith, h)))),
  )
    where
      none : (i : ℕ) → i + 0 ≡ i
      none i = omega arith

      next : (i k : ℕ) → i + suc k ≡ suc i + k
      next i k = omega arith

-- ---- items read at places that ascend

taken-none : {A : Type 0} (i : ℕ) (xs : List A) → taken_from i [] xs ≡ []
taken-none i [] = refl
taken-none i (x ∷ xs) = taken-none (suc i) xs

-- a place before the list takes nothing
taken-skip : {A : Type 0} (i p : ℕ) (places : List ℕ) (xs : List A) → p < i
    → taken_from i (p ∷ places) xs ≡ taken_from i places xs
taken-skip i p places [] h = refl
taken-skip i p places (x ∷ xs) h =
    ap₂ (λ b ys. cond b (x ∷ ys) ys) (other (p == i) (ne_eqb p i (λ e. omega (arith, e, h))))
    (taken-skip (suc i) p places xs (omega arith))
  where
    other : (b : Bool) → b ≡ false → (b || list_any (λ p. p == i) places) ≡ list_any (λ p. p == i) places
    other true e = cc
    other false e = refl

at_end : {A : Type 0} (pre : List A) (x d : A) (xs : List A) → get_or (pre ++ x ∷ xs) (length pre) d ≡ x
at_end [] x d xs = refl
at_end (y ∷ pre) x d xs = at_end pre x d xs

none_here : (i : ℕ) (places : List ℕ) → AllByRecursion (λ p. i < p) places → list_any (λ p. p == i) places ≡ false
none_here i [] all = refl
none_here i (p ∷ places) all = by (p == i) (ne_eqb p i (λ e. (let h = all.0 in omega (arith, e))))
    (none_here i places all.1)
  where
    by : (b : Bool) → b ≡ false → list_any (λ p. p == i) places ≡ false → (b || list_any (λ p. p == i) places) ≡ false
    by true e h = cc
    by false e h = h

all_after : (i p : ℕ) (places : List ℕ) → i ≤ p → AllByRecursion (λ q. p < q) places
    → AllByRecursion (λ q. i < q) places
all_after i p [] h all = tt
all_after i p (q ∷ places) h all = (let a = all.0 in omega arith, all_after i p places h all.1)

-- places that ascend, from some place on and within a list
abbrev pub Within : ℕ → ℕ → List ℕ → Type 0
Within low high places = AllByRecursion (λ p. (low ≤ p) × (p < high)) places

within_more : (i p high : ℕ) (places : List ℕ) → i ≤ p → AllByRecursion (λ q. p < q) places → Within i high places
    → Within (suc i) high places
within_more i p high [] h all w = tt
within_more i p high (q ∷ places) h all w =
    (let a = all.0 in (omega arith, w.0.1), within_more i p high places h all.1 w.1)

taken_is : {A : Type 0} (pre xs : List A) (d : A) (places : List ℕ) → InOrder (λ p q. p < q) places
    → Within (length pre) (length pre + length xs) places
    → taken_from (length pre) places xs ≡ map (λ p. get_or (pre ++ xs) p d) places
taken_is pre [] d [] up w = refl
taken_is pre [] d (p ∷ places) up w = absurd (let h = w.0 in omega arith)
taken_is pre (x ∷ xs) d [] up w = taken-none (length pre) (x ∷ xs)
taken_is {A} pre (x ∷ xs) d (p ∷ places) up w =
    by (cases_eq p (length pre)) (taken_is (pre ++ x ∷ []) xs d places up.1)
    (taken_is (pre ++ x ∷ []) xs d (p ∷ places) up)
  where
    one : length (pre ++ x ∷ []) ≡ suc (length pre)
    one = let l = length_push pre x in omega arith

    whole : (pre ++ x ∷ []) ++ xs ≡ pre ++ x ∷ xs
    whole = append_assoc pre (x ∷ []) xs

    ends : length pre + suc (length xs) ≡ suc (length pre) + length xs
    ends = omega arith

    -- what holds behind the item, in the words of the item's own place
    moved : (ps : List ℕ) → taken_from (length (pre ++ x ∷ [])) ps xs ≡ map (λ p. get_or ((pre ++ x ∷ []) ++ xs) p d) ps
        → taken_from (suc (length pre)) ps xs ≡ map (λ p. get_or (pre ++ x ∷ xs) p d) ps
    moved ps h =
        ap (λ n. taken_from n ps xs) (sym one) ∙ h ∙ ap (λ l. map (λ p. get_or l p d) ps) whole

    within : (ps : List ℕ) → Within (suc (length pre)) (length pre + suc (length xs)) ps
        → Within (length (pre ++ x ∷ [])) (length (pre ++ x ∷ []) + length xs) ps
    within ps h =
        subst (λ n. Within n (n + length xs) ps) (sym one) (subst (λ n. Within (suc (length pre)) n ps) ends h)

    by : (p ≡ length pre) ⊎ (p ≡ length pre → ⊥)
        → (Within (length (pre ++ x ∷ [])) (length (pre ++ x ∷ []) + length xs) places
        → taken_from (length (pre ++ x ∷ [])) places xs ≡ map (λ p. get_or ((pre ++ x ∷ []) ++ xs) p d) places)
        → (Within (length (pre ++ x ∷ [])) (length (pre ++ x ∷ []) + length xs) (p ∷ places)
        → taken_from (length (pre ++ x ∷ [])) (p ∷ places) xs ≡ map (λ p. get_or ((pre ++ x ∷ []) ++ xs) p d)
        (p ∷ places))
        → taken_from (length pre) (p ∷ places) (x ∷ xs) ≡ map (λ p. get_or (pre ++ x ∷ xs) p d) (p ∷ places)
    by (inl e) less more =
        ap (λ b. cond (b || list_any (λ q. q == length pre) places) (x ∷ taken_from (suc (length pre)) (p ∷ places) xs)
        (taken_from (suc (length pre)) (p ∷ places) xs))
        (eq-eqb p (length pre) e)
        ∙ ap₂ (λ y ys. y ∷ ys) (sym (at_end pre x d xs) ∙ ap (λ n. get_or (pre ++ x ∷ xs) n d) (sym e))
        (taken-skip (suc (length pre)) p places xs (omega (arith, e))
        ∙ moved places (less (within places
        (within_more (length pre) p (length pre + suc (length xs)) places (omega (arith, e)) up.0 w.1))))
    by (inr other) less more =
        let low = w.0.0 in
        let after : length pre < p = omega (arith, low, other) in
        ap (λ b. cond b (x ∷ taken_from (suc (length pre)) (p ∷ places) xs)
        (taken_from (suc (length pre)) (p ∷ places) xs))
        (none_here (length pre) (p ∷ places) (after, all_after (length pre) p places low up.0))
        ∙ moved (p ∷ places) (more
        (within (p ∷ places) (
          (after, w.0.1),
          within_more (length pre) p
              (length pre + suc (length xs)) places low up.0 w.1,
        )))

rises : (xs : List ℕ) → IsStrictlySortedBy nat_cmp xs → InOrder (λ p q. p < q) xs
unfolding IsStrictlySortedBy
rises [] up = tt
rises (x ∷ xs) up = (each xs up.0, rises xs up.1)
  where
    each : (ys : List ℕ) → AllByRecursion (λ y. nat_cmp x y ≡ Less) ys → AllByRecursion (λ y. x < y) ys
    each [] all = tt
    each (y ∷ ys) all = (ranked x y Less (sym all.0), each ys all.1)

-- what is taken at places that ascend is what is read there
pub taken-read : {A : Type 0} (xs : List A) (d : A) (places : List ℕ) → IsStrictlySortedBy nat_cmp places
    → AllByRecursion (λ p. p < length xs) places → taken_of places xs ≡ map (λ p. get_or xs p d) places
taken-read xs d places up inside = taken_is [] xs d places (rises places up) (each places inside)
  where
    each : (ps : List ℕ) → AllByRecursion (λ p. p < length xs) ps → Within 0 (0 + length xs) ps
    each [] all = tt
    each (p ∷ ps) all = ((omega arith, let a = all.0 in omega arith), each ps all.1)
