-- Values given to variables one after another: what more they say, and when they can't.
use Rattle.std.proofs.Common.{◌≡◌, ℕ, zero, suc, ◌+◌, ◌<◌, ◌≤◌, ◌↔◌, Bool, true, false, cond, List, [], ◌∷◌, ◌++◌, length, take, get_or, nat_eq, refl, sym, ap, subst, ◌∙◌, ⊎_elim, true≢false, arith, eqb-true, eq-eqb, ne_eqb, add-one}
use Rattle.std.specs.List.{All, Contains}
use Rattle.std.proofs.lemmas.List.{take_more, take_all}
use Rattle.std.proofs.lemmas.List.Elements.{All-nil, All-head, Contains-append_left, Contains-append_right, Contains-append_cases}
use Rattle.dl_terms.proofs.MemberLemmas.{Contains-first, Contains-one}
use Rattle.dl_models.specs.Meaning.{Structure, GivesHead}
use Rattle.dl_models.specs.Values.{Agrees, CanAgree, Adds, AddsOrNot}
use Rattle.dl_models.proofs.ListLemmas.{All-split}
use Rattle.dl_models.proofs.LoopLemmas.{All-more}

-- ---- one variable

pub known-value : (given : List (ℕ × ℕ)) (v k x : ℕ) → Contains given (v, k) → CanAgree given → AddsOrNot (λ m. m v ≡ x) given given (nat_eq k x)
known-value given v k x c can = by (nat_eq k x) refl
  where
    by : (b : Bool) → nat_eq k x ≡ b → AddsOrNot (λ m. m v ≡ x) given given b
    by true e = record { exact = λ m. (λ a. (a, a v k c ∙ eqb-true k x e), λ h. h.0); some = can }
    by false e = λ m a h. true≢false (sym (eq-eqb k x (sym (a v k c) ∙ h)) ∙ e)

at-same : (w v x z : ℕ) → w ≡ v → cond (nat_eq w v) x z ≡ x
at-same w v x z e = ap (λ b. cond b x z) (eq-eqb w v e)

at-other : (w v x z : ℕ) → ¬ w ≡ v → cond (nat_eq w v) x z ≡ z
at-other w v x z n = ap (λ b. cond b x z) (ne_eqb w v n)

pub new-value : (given : List (ℕ × ℕ)) (v x : ℕ) → ((y : ℕ) → ¬ Contains given (v, y)) → CanAgree given
    → Adds (λ m. m v ≡ x) given (given ++ (v, x) ∷ [])
new-value given v x none can = record {
  exact = λ m. (
    λ a. (
      λ w y c. a w y (Contains-append_left given ((v, x) ∷ []) (w, y) c),
      a v x (Contains-append_right given ((v, x) ∷ []) (v, x) (Contains-first (v, x) [])),
    ),
    λ h w y c.
        ⊎_elim (λ (early : Contains given (w, y)). h.0 w y early)
        (λ (last : Contains ((v, x) ∷ []) (w, y)).
        let e = Contains-one (v, x) (w, y) last in sym (ap (λ p. m p.0) e) ∙ h.1 ∙ ap (λ p. p.1) e)
        (Contains-append_cases given ((v, x) ∷ []) (w, y) c),
  );
  some = (
    λ w. cond (nat_eq w v) x (can.0 w),
    λ w y c.
        ⊎_elim (λ (early : Contains given (w, y)).
        at-other w v x (can.0 w) (λ same. none y (subst (λ z. Contains given (z, y)) same early)) ∙ can.1 w y early)
        (λ (last : Contains ((v, x) ∷ []) (w, y)).
        let e = Contains-one (v, x) (w, y) last in at-same w v x (can.0 w) (sym (ap (λ p. p.0) e)) ∙ ap (λ p. p.1) e)
        (Contains-append_cases given ((v, x) ∷ []) (w, y) c),
  );
}

-- ---- conditions put together

pub adds-true : (Says : (ℕ → ℕ) → Type 0) (old new : List (ℕ × ℕ)) (b : Bool) → AddsOrNot Says old new b → b ≡ true → Adds Says old new
adds-true Says old new b h e = subst (AddsOrNot Says old new) e h

pub adds-false : (Says : (ℕ → ℕ) → Type 0) (old new : List (ℕ × ℕ)) (b : Bool) → AddsOrNot Says old new b → b ≡ false
    → (m : ℕ → ℕ) → Agrees m old → ¬ Says m
adds-false Says old new b h e = subst (AddsOrNot Says old new) e h

pub adds-same : (Says Also : (ℕ → ℕ) → Type 0) (old new : List (ℕ × ℕ)) → ((m : ℕ → ℕ) → Says m ↔ Also m) → Adds Says old new → Adds Also old new
adds-same Says Also old new same h =
    record { exact = λ m. (λ a. let k = (h.exact m).0 a in (k.0, (same m).0 k.1), λ k. (h.exact m).1 (k.0, (same m).1 k.1)); some = h.some }

pub adds_or-same : (Says Also : (ℕ → ℕ) → Type 0) (old new : List (ℕ × ℕ)) → ((m : ℕ → ℕ) → Says m ↔ Also m) → (b : Bool) → AddsOrNot Says old new b
    → AddsOrNot Also old new b
adds_or-same Says Also old new same true h = adds-same Says Also old new same h
adds_or-same Says Also old new same false h = λ m a k. h m a ((same m).1 k)

pub adds-more : (Says More Whole : (ℕ → ℕ) → Type 0) (start old new : List (ℕ × ℕ)) → Adds Says start old → Adds More old new
    → ((m : ℕ → ℕ) → (Says m × More m) ↔ Whole m) → Adds Whole start new
adds-more Says More Whole start old new so_far more whole = record {
  exact = λ m. (
    λ a. let h = (more.exact m).0 a in let k = (so_far.exact m).0 h.0 in (k.0, (whole m).0 (k.1, h.1)),
    λ h. let p = (whole m).1 h.1 in (more.exact m).1 ((so_far.exact m).1 (h.0, p.0), p.1),
  );
  some = more.some;
}

pub adds-not : (Says More Whole : (ℕ → ℕ) → Type 0) (start old : List (ℕ × ℕ)) → Adds Says start old → ((m : ℕ → ℕ) → Agrees m old → ¬ More m)
    → ((m : ℕ → ℕ) → Whole m → Says m × More m) → (m : ℕ → ℕ) → Agrees m start → ¬ Whole m
adds-not Says More Whole start old so_far never part m a w =
    let p = part m w in
    never m ((so_far.exact m).1 (a, p.0)) p.1

-- no condition
pub adds-none : (Says : (ℕ → ℕ) → Type 0) (given : List (ℕ × ℕ)) → CanAgree given → ((m : ℕ → ℕ) → Says m) → Adds Says given given
adds-none Says given can holds = record { exact = λ m. (λ a. (a, holds m), λ h. h.0); some = can }

-- ---- over a list of conditions

module _ {A : Type 0} (Q : A → Type 0) where
  pub All-last : (xs : List A) (i : ℕ) (d : A) → i < length xs → (All Q (take i xs) × Q (get_or xs i d)) ↔ All Q (take (i + 1) xs)
  All-last xs i d lt = (
    λ h. All-more Q xs i d lt h.0 h.1,
    λ all.
        let both = All-split Q (take i xs) (get_or xs i d ∷ []) (subst (All Q) (take_more xs i d lt) all) in
        (both.0, All-head Q (get_or xs i d) [] both.1),
  )

  pub All-part : (xs : List A) (i : ℕ) (d : A) → i < length xs → All Q xs → All Q (take i xs) × Q (get_or xs i d)
  All-part [] i d lt all = absurd (omega (arith, lt))
  All-part (x ∷ xs) zero d lt all = (All-nil Q, All-head Q x xs all)
  All-part (x ∷ xs) (suc i) d lt all =
      let rest = All-part xs i d (omega (arith, lt)) (λ k e within. all (suc k) e (omega (arith, within))) in
      (λ k e within. first k e within rest.0, rest.1)
    where
      first : (k : ℕ) (e : A) → k < length (x ∷ take i xs) → All Q (take i xs) → Q (get_or (x ∷ take i xs) k e)
      first zero e within rest = All-head Q x xs all
      first (suc k) e within rest = rest k e (omega (arith, within))

  pub All-whole : (xs : List A) (i : ℕ) → length xs ≤ i → All Q (take i xs) ↔ All Q xs
  All-whole xs i long = (λ h. subst (All Q) (take_all i xs long) h, λ h. subst (All Q) (sym (take_all i xs long)) h)

-- ---- over a head

module _ (i : Structure) (m : ℕ → i.Value) where
  abbrev Place : List ℕ → List ℕ → ℕ → Type 0
  Place head tuple k = i.Denotes (get_or tuple k 0) (m (get_or head k 0))

  head-suc : (head tuple : List ℕ) (k : ℕ) → length head ≡ length tuple → k < length head
      → (GivesHead i m (take k head) (take k tuple) × Place head tuple k) ↔ GivesHead i m (take (suc k) head) (take (suc k) tuple)
  head-suc [] tuple k same lt = absurd (omega (arith, lt))
  head-suc (v ∷ head) [] k same lt = absurd (omega (arith, same))
  head-suc (v ∷ head) (a ∷ tuple) zero same lt = (λ h. (h.1, tt), λ h. (tt, h.0))
  head-suc (v ∷ head) (a ∷ tuple) (suc k) same lt =
      let rest = head-suc head tuple k (omega (arith, same)) (omega (arith, lt)) in
      (λ h. (h.0.0, rest.0 (h.0.1, h.1)), λ h. let r = rest.1 h.1 in ((h.0, r.0), r.1))

  pub head-last : (head tuple : List ℕ) (k : ℕ) → length head ≡ length tuple → k < length head
      → (GivesHead i m (take k head) (take k tuple) × Place head tuple k) ↔ GivesHead i m (take (k + 1) head) (take (k + 1) tuple)
  head-last head tuple k same lt =
      subst (λ n. (GivesHead i m (take k head) (take k tuple) × Place head tuple k) ↔ GivesHead i m (take n head) (take n tuple)) (sym (add-one k))
      (head-suc head tuple k same lt)

  pub head-part : (head tuple : List ℕ) (k : ℕ) → length head ≡ length tuple → k < length head → GivesHead i m head tuple
      → GivesHead i m (take k head) (take k tuple) × Place head tuple k
  head-part [] tuple k same lt h = absurd (omega (arith, lt))
  head-part (v ∷ head) [] k same lt h = absurd (omega (arith, same))
  head-part (v ∷ head) (a ∷ tuple) zero same lt h = (tt, h.0)
  head-part (v ∷ head) (a ∷ tuple) (suc k) same lt h =
      let rest = head-part head tuple k (omega (arith, same)) (omega (arith, lt)) h.1 in
      ((h.0, rest.0), rest.1)

  pub head-whole : (head tuple : List ℕ) (k : ℕ) → length head ≡ length tuple → length head ≤ k
      → GivesHead i m (take k head) (take k tuple) ↔ GivesHead i m head tuple
  head-whole head tuple k same long =
      let one = take_all k head long in
      let two = take_all k tuple (omega (arith, same, long)) in (
        λ h. subst (λ l. GivesHead i m l tuple) one (subst (GivesHead i m (take k head)) two h),
        λ h. subst (λ l. GivesHead i m l (take k tuple)) (sym one) (subst (GivesHead i m head) (sym two) h),
      )
