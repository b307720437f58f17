-- Terms put for variables as a list, one pair after another.
use Rattle.std.proofs.Common.{◌≡◌, ℕ, zero, suc, ◌+◌, ◌<◌, ◌≤◌, Bool, true, false, cond, List, [], ◌∷◌, ◌++◌, ◌⊎◌, length, get_or, map, nat_eq, eqb-true, refl, sym, ap, subst, ◌∙◌, inl, inr, arith, take, drop}
use Rattle.std.specs.List.{All, Contains}
use Rattle.std.proofs.lemmas.List.{take_more, take-append-le, take_all, get_or_default}
use Rattle.std.proofs.lemmas.List.Elements.{Contains-append_left, Contains-append_right, Contains-append_cases}
use Rattle.dl_tree.specs.Each.{IsEach}
use Rattle.dl_terms.specs.declared.query.Term.{Term}
use Rattle.dl_terms.specs.declared.query.Term.TheVariants.{Var, Name}
use Rattle.dl_terms.proofs.MemberLemmas.{Contains-first, Contains-later, Contains-nil, Contains-cons, Contains-one}
use Rattle.dl_tree.proofs.FoldLemmas.{true_or_false, not_both}
use Rattle.dl_rewrite.specs.Unifiers.{put_for, replaced, AreUnified, IsMostGeneralUnifier}
use Rattle.dl_rewrite.specs.Steps.{term_at, IsTermBelow, AreMostGeneralUnifier, HaveNoUnifier}
use Rattle.dl_rewrite.proofs.UnifierLemmas.{IsMostGeneralUnifier-none, IsMostGeneralUnifier-same, IsMostGeneralUnifier-put, IsMostGeneralUnifier-clash}

-- pairs in another order
pub IsMostGeneralUnifier-among : (xs ys : List (Term × Term)) (to : ℕ → Term) → ((e : Term × Term) → Contains xs e → Contains ys e)
    → ((e : Term × Term) → Contains ys e → Contains xs e) → IsMostGeneralUnifier xs to → IsMostGeneralUnifier ys to
IsMostGeneralUnifier-among xs ys to there back m =
    record { one = λ e c. m.one e (back e c); no_more = λ names h v. m.no_more names (λ e c. h e (there e c)) v }

-- the pair the other way round
turned : (pairs : List (Term × Term)) (x y : Term) (to : ℕ → Term) → IsMostGeneralUnifier ((y, x) ∷ pairs) to → IsMostGeneralUnifier ((x, y) ∷ pairs) to
turned pairs x y to m = record { one = one; no_more = no_more }
  where
    one : (e : Term × Term) → Contains ((x, y) ∷ pairs) e → put_for to e.0 ≡ put_for to e.1
    one e c = by (Contains-cons (x, y) e pairs c)
      where
        by : ((x, y) ≡ e) ⊎ Contains pairs e → put_for to e.0 ≡ put_for to e.1
        by (inl h) =
            subst (λ g. put_for to g.0 ≡ put_for to g.1) h (sym (m.one (y, x) (Contains-first (y, x) pairs)))
        by (inr d) = m.one e (Contains-later (y, x) e pairs d)

    no_more : (names : ℕ → ℕ) → ((e : Term × Term) → Contains ((x, y) ∷ pairs) e → AreUnified names e) → (v : ℕ)
        → AreUnified names (to v, Var v)
    no_more names h v = m.no_more names other v
      where
        other : (e : Term × Term) → Contains ((y, x) ∷ pairs) e → AreUnified names e
        other e c = by (Contains-cons (y, x) e pairs c)
          where
            by : ((y, x) ≡ e) ⊎ Contains pairs e → AreUnified names e
            by (inl g) = subst (AreUnified names) g (sym (h (x, y) (Contains-first (x, y) pairs)))
            by (inr d) = h e (Contains-later (x, y) e pairs d)

-- ---- the list of terms

at-map : (f : Term → Term) (to : List Term) (v : ℕ) → v < length to → (d : Term) → get_or (map f to) v d ≡ f (get_or to v d)
at-map f [] v l d = absurd (omega (arith, l))
at-map f (x ∷ to) zero l d = refl
at-map f (x ∷ to) (suc v) l d = at-map f to v (omega (arith, l)) d

past : (to : List Term) (v : ℕ) → length to ≤ v → (d : Term) → get_or to v d ≡ d
past [] v l d = refl
past (x ∷ to) zero l d = absurd (omega (arith, l))
past (x ∷ to) (suc v) l d = past to v (omega (arith, l)) d

length-map : (f : Term → Term) (to : List Term) → length (map f to) ≡ length to
length-map f [] = refl
length-map f (x ∷ to) = let h = length-map f to in omega (arith, h)

-- a term put for a variable in all of them
put_in_all : (to : List Term) (v : ℕ) (r : Term) → v < length to → term_at (map (replaced v r) to) ≡ (λ w. replaced v r (term_at to w))
put_in_all to v r l = λ i w. by w (cases w) i
  where
    cases : (w : ℕ) → (w < length to) ⊎ (length to ≤ w)
    cases w = grind arith

    by : (w : ℕ) → (w < length to) ⊎ (length to ≤ w) → term_at (map (replaced v r) to) w ≡ replaced v r (term_at to w)
    by w (inl h) = at-map (replaced v r) to w h (Var w)
    by w (inr h) =
        past (map (replaced v r) to) w (let e = length-map (replaced v r) to in omega (arith, e, h)) (Var w)
        ∙ sym (other (true_or_false (nat_eq w v))) ∙ ap (replaced v r) (sym (past to w h (Var w)))
      where
        other : (nat_eq w v ≡ true) ⊎ (nat_eq w v ≡ false) → replaced v r (Var w) ≡ Var w
        other (inl e) = let s = eqb-true w v e in absurd (omega (arith, s, h, l))
        other (inr e) = ap (λ b. cond b r (Var w)) e

below_replaced : (n v : ℕ) (r t : Term) → IsTermBelow n r → IsTermBelow n t → IsTermBelow n (replaced v r t)
below_replaced n v r (Name a) h k = tt
below_replaced n v r (Var w) h k = by (true_or_false (nat_eq w v))
  where
    by : (nat_eq w v ≡ true) ⊎ (nat_eq w v ≡ false) → IsTermBelow n (cond (nat_eq w v) r (Var w))
    by (inl e) = subst (λ b. IsTermBelow n (cond b r (Var w))) (sym e) h
    by (inr e) = subst (λ b. IsTermBelow n (cond b r (Var w))) (sym e) k

below_at : (n : ℕ) (to : List Term) → All (IsTermBelow n) to → (v : ℕ) → v < length to → IsTermBelow n (term_at to v)
below_at n to all v l = all v (Var v) l

pub below_put : (n : ℕ) (to : List Term) → All (IsTermBelow n) to → length to ≡ n → (t : Term) → IsTermBelow n t
    → IsTermBelow n (put_for (term_at to) t)
below_put n to all e (Var v) h = below_at n to all v (omega (arith, e, h))
below_put n to all e (Name a) h = tt

below-map : (n v : ℕ) (r : Term) (to : List Term) → IsTermBelow n r → All (IsTermBelow n) to → All (IsTermBelow n) (map (replaced v r) to)
below-map n v r to h all = λ k d l.
    let e = length-map (replaced v r) to in
    let m : k < length to = omega (arith, e, l) in
    subst (IsTermBelow n) (sym (at-map (replaced v r) to k m d)) (below_replaced n v r (get_or to k d) h (all k d m))

-- ---- one more pair

module _ (n : ℕ) (pairs : List (Term × Term)) (to : List Term) (is : AreMostGeneralUnifier n pairs to) (x y : Term)
    (hx : IsTermBelow n x) (hy : IsTermBelow n y) where
  put_one : (v : ℕ) (r : Term) → IsTermBelow n (Var v) → IsTermBelow n r
      → IsMostGeneralUnifier ((x, y) ∷ pairs) (λ w. replaced v r (term_at to w)) → AreMostGeneralUnifier n ((x, y) ∷ pairs) (map (replaced v r) to)
  put_one v r hv hr m = record {
    as_many = length-map (replaced v r) to ∙ is.as_many;
    below = below-map n v r to hr is.below;
    unifies = subst (IsMostGeneralUnifier ((x, y) ∷ pairs)) (sym (put_in_all to v r (let e = is.as_many in omega (arith, e, hv)))) m;
  }

  pub left_put : (v : ℕ) → put_for (term_at to) x ≡ Var v → AreMostGeneralUnifier n ((x, y) ∷ pairs) (map (replaced v (put_for (term_at to) y)) to)
  left_put v e =
      put_one v (put_for (term_at to) y) (subst (IsTermBelow n) e (below_put n to is.below is.as_many x hx)) (below_put n to is.below is.as_many y hy)
      (IsMostGeneralUnifier-put pairs (term_at to) x y v is.unifies e)

  pub right_put : (a v : ℕ) → put_for (term_at to) x ≡ Name a → put_for (term_at to) y ≡ Var v → AreMostGeneralUnifier n ((x, y) ∷ pairs) (map (replaced v (Name a)) to)
  right_put a v e f =
      put_one v (Name a) (subst (IsTermBelow n) f (below_put n to is.below is.as_many y hy)) tt
      (turned pairs x y (λ w. replaced v (Name a) (term_at to w))
      (subst (λ r. IsMostGeneralUnifier ((y, x) ∷ pairs) (λ w. replaced v r (term_at to w))) e (IsMostGeneralUnifier-put pairs (term_at to) y x v is.unifies f)))

  pub same_put : put_for (term_at to) x ≡ put_for (term_at to) y → AreMostGeneralUnifier n ((x, y) ∷ pairs) to
  same_put e = record { as_many = is.as_many; below = is.below; unifies = IsMostGeneralUnifier-same pairs (term_at to) x y is.unifies e }

pub clash : (n : ℕ) (pairs : List (Term × Term)) (to : List Term) → AreMostGeneralUnifier n pairs to → (x y : Term) (a b : ℕ)
    → put_for (term_at to) x ≡ Name a → put_for (term_at to) y ≡ Name b → (a ≡ b → ⊥) → HaveNoUnifier ((x, y) ∷ pairs)
clash n pairs to is x y a b e f apart = IsMostGeneralUnifier-clash pairs (term_at to) x y a b is.unifies e f apart

module _ (n : ℕ) (pairs : List (Term × Term)) (to new : List Term) (result : Bool) (is : AreMostGeneralUnifier n pairs to) (x y other : Term) (name : ℕ)
    (first : put_for (term_at to) x ≡ Name name) (second : put_for (term_at to) y ≡ other)
    (variable : (v : ℕ) → other ≡ Var v → (result ≡ true) × (new ≡ map (replaced v (Name name)) to))
    (named : (a : ℕ) → other ≡ Name a → (new ≡ to) × (result ≡ true → name ≡ a) × (result ≡ false → name ≡ a → ⊥)) where
  cases_of : (t : Term) → ((v : ℕ) × (t ≡ Var v)) ⊎ ((a : ℕ) × (t ≡ Name a))
  cases_of (Var v) = inl (v, refl)
  cases_of (Name a) = inr (a, refl)

  pub name_one : IsTermBelow n x → IsTermBelow n y → result ≡ true → AreMostGeneralUnifier n ((x, y) ∷ pairs) new
  name_one hx hy e = by (cases_of other)
    where
      by : ((v : ℕ) × (other ≡ Var v)) ⊎ ((a : ℕ) × (other ≡ Name a)) → AreMostGeneralUnifier n ((x, y) ∷ pairs) new
      by (inl w) =
          subst (AreMostGeneralUnifier n ((x, y) ∷ pairs)) (sym (variable w.0 w.1).1) (right_put n pairs to is x y hx hy name w.0 first (second ∙ w.1))
      by (inr w) =
          subst (AreMostGeneralUnifier n ((x, y) ∷ pairs)) (sym (named w.0 w.1).0)
          (same_put n pairs to is x y hx hy (first ∙ ap Name ((named w.0 w.1).1 e) ∙ sym (second ∙ w.1)))

  pub name_apart : result ≡ false → HaveNoUnifier ((x, y) ∷ pairs)
  name_apart e = by (cases_of other)
    where
      by : ((v : ℕ) × (other ≡ Var v)) ⊎ ((a : ℕ) × (other ≡ Name a)) → HaveNoUnifier ((x, y) ∷ pairs)
      by (inl w) = absurd (not_both (variable w.0 w.1).0 e)
      by (inr w) = clash n pairs to is x y name w.0 first (second ∙ w.1) ((named w.0 w.1).2 e)

-- ---- the list at the start, and over pairs

unchanged_at : (n : ℕ) (to : List Term) → IsEach (Name 0) n (λ v t. t ≡ Var v) to → (v : ℕ) → v < n → (d : Term) → get_or to v d ≡ Var v
unchanged_at n to h v l d = get_or_default to v d (Name 0) (let e = h.as_many in omega (arith, e, l)) ∙ h.each v l

pub AreMostGeneralUnifier-none : (n : ℕ) (to : List Term) → IsEach (Name 0) n (λ v t. t ≡ Var v) to → AreMostGeneralUnifier n [] to
AreMostGeneralUnifier-none n to h = record {
  as_many = h.as_many;
  below = λ k d l. let m : k < n = (let e = h.as_many in omega (arith, e, l)) in subst (IsTermBelow n) (sym (unchanged_at n to h k m d)) m;
  unifies = subst (IsMostGeneralUnifier []) (λ i v. sym (same v (cases v)) i) IsMostGeneralUnifier-none;
}
  where
    cases : (v : ℕ) → (v < n) ⊎ (n ≤ v)
    cases v = grind arith

    same : (v : ℕ) → (v < n) ⊎ (n ≤ v) → term_at to v ≡ Var v
    same v (inl l) = unchanged_at n to h v l (Var v)
    same v (inr l) = past to v (let e = h.as_many in omega (arith, e, l)) (Var v)

pub AreMostGeneralUnifier-among : (n : ℕ) (xs ys : List (Term × Term)) (to : List Term) → ((e : Term × Term) → Contains xs e → Contains ys e)
    → ((e : Term × Term) → Contains ys e → Contains xs e) → AreMostGeneralUnifier n xs to → AreMostGeneralUnifier n ys to
AreMostGeneralUnifier-among n xs ys to there back h =
    record { as_many = h.as_many; below = h.below; unifies = IsMostGeneralUnifier-among xs ys (term_at to) there back h.unifies }

module _ (xs : List (Term × Term)) (x : Term × Term) where
  to_end : (e : Term × Term) → Contains (x ∷ xs) e → Contains (xs ++ x ∷ []) e
  to_end e c = by (Contains-cons x e xs c)
    where
      by : (x ≡ e) ⊎ Contains xs e → Contains (xs ++ x ∷ []) e
      by (inl h) = subst (Contains (xs ++ x ∷ [])) h (Contains-append_right xs (x ∷ []) x (Contains-first x []))
      by (inr h) = Contains-append_left xs (x ∷ []) e h

  to_front : (e : Term × Term) → Contains (xs ++ x ∷ []) e → Contains (x ∷ xs) e
  to_front e c = by (Contains-append_cases xs (x ∷ []) e c)
    where
      by : Contains xs e ⊎ Contains (x ∷ []) e → Contains (x ∷ xs) e
      by (inl h) = Contains-later x e xs h
      by (inr h) = subst (Contains (x ∷ xs)) (Contains-one x e h) (Contains-first x xs)

-- one more of a list of pairs
pub AreMostGeneralUnifier-next : (n : ℕ) (pairs : List (Term × Term)) (i : ℕ) (d : Term × Term) (to : List Term) → i < length pairs
    → AreMostGeneralUnifier n (get_or pairs i d ∷ take i pairs) to → AreMostGeneralUnifier n (take (i + 1) pairs) to
AreMostGeneralUnifier-next n pairs i d to l h =
    subst (λ ps. AreMostGeneralUnifier n ps to) (sym (take_more pairs i d l))
    (AreMostGeneralUnifier-among n (get_or pairs i d ∷ take i pairs) (take i pairs ++ get_or pairs i d ∷ []) to
    (to_end (take i pairs) (get_or pairs i d)) (to_front (take i pairs) (get_or pairs i d)) h)

in_take : (xs : List (Term × Term)) (i : ℕ) (e : Term × Term) → Contains (take i xs) e → Contains xs e
in_take xs zero e c = absurd (Contains-nil e c)
in_take [] (suc i) e c = absurd (Contains-nil e c)
in_take (x ∷ xs) (suc i) e c = by (Contains-cons x e (take i xs) c) (λ h. in_take xs i e h)
  where
    by : (x ≡ e) ⊎ Contains (take i xs) e → (Contains (take i xs) e → Contains xs e) → Contains (x ∷ xs) e
    by (inl h) rest = subst (Contains (x ∷ xs)) h (Contains-first x xs)
    by (inr h) rest = Contains-later x e xs (rest h)

-- some of the pairs can't be one
pub HaveNoUnifier-next : (pairs : List (Term × Term)) (i : ℕ) (d : Term × Term) → i < length pairs
    → HaveNoUnifier (get_or pairs i d ∷ take i pairs) → HaveNoUnifier pairs
HaveNoUnifier-next pairs i d l h names one = h names (λ e c. by e (Contains-cons (get_or pairs i d) e (take i pairs) c))
  where
    by : (e : Term × Term) → (get_or pairs i d ≡ e) ⊎ Contains (take i pairs) e → AreUnified names e
    by e (inl f) = subst (AreUnified names) f (one (get_or pairs i d) (i, l, get_or_default pairs i (get_or pairs i d) d l))
    by e (inr f) = one e (in_take pairs i e f)

-- a list that is written over as a whole
pub written_whole : (xs ys : List Term) (n : ℕ) → n ≡ length xs → length ys ≡ length xs → take n (ys ++ drop (length ys) xs) ≡ ys
written_whole xs ys n is as_long =
    take-append-le n ys (drop (length ys) xs) (omega (arith, is, as_long)) ∙ take_all n ys (omega (arith, is, as_long))
