-- The tuples of a disjunct over lists are finitely many: there is a list of exactly these.
use Rattle.std.proofs.Common.{◌≡◌, ℕ, zero, suc, ◌<◌, ◌↔◌, ◌⊎◌, inl, inr, List, [], ◌∷◌, ◌++◌, map, flat_map, length, get_or, refl, sym, ap, ap₂, subst, ◌∙◌, arith}
use Rattle.std.specs.declared.cmp.Ordering.{Ordering}
use Rattle.std.specs.declared.cmp.Ordering.TheVariants.{Less, Equal, Greater}
use Rattle.std.specs.Ordering.{ordering_reverse}
use Rattle.std.specs.List.{All, Contains}
use Rattle.std.specs.List.Sorted.{IsStrictlySortedBy}
use Rattle.std.proofs.lemmas.Bool.{cases_lt, cases_eq}
use Rattle.std.proofs.lemmas.List.{get_or_default}
use Rattle.std.proofs.lemmas.List.Elements.{All-from_recursion, recursion_from_All, Contains-get_or, Contains-append_left, Contains-append_right, Contains-append_cases}
use Rattle.dl_terms.specs.declared.query.Term.{Term}
use Rattle.dl_terms.specs.declared.query.Term.TheVariants.{Var, Name}
use Rattle.dl_terms.specs.declared.query.Probe.{Probe}
use Rattle.dl_terms.specs.declared.query.Probe.TheVariants.{AnyOf, Joined}
use Rattle.dl_terms.specs.declared.query.Disjunct.{Disjunct}
use Rattle.dl_terms.proofs.OrderLemmas.{IsLinear}
use Rattle.dl_terms.proofs.MemberLemmas.{Contains-nil, Contains-first, Contains-later, Contains-cons}
use Rattle.dl_hier.proofs.MemberLemmas.{Contains-map, Contains-map_of, Contains-flat_map_of}
use Rattle.dl_hier.proofs.SortedLemmas.{no_longer}
use Rattle.dl_join.specs.Disjuncts.{name_of, ProbeHolds, AllHold, IsTuple, HasVariable, IsSafe}
use Rattle.dl_join.specs.Tuples.{AreExactly, AreMoreThan}
use Rattle.dl_join.proofs.MergeLemmas.{tuples_linear, sorted_nil}
use Rattle.dl_answer.specs.OverNames.{AreBelow}

-- ---- what is decided of each item of a list

abbrev pub Decided : Type 0 → Type 0
Decided P = P ⊎ (P → ⊥)

-- the items of a list of which something holds
module _ {A : Type 0} (P : A → Type 0) (decide : (x : A) → Decided (P x)) where
  pub picked : (xs : List A) → (ys : List A) × ((x : A) → Contains ys x ↔ (Contains xs x × P x))
  picked [] = ([], λ x. (λ h. absurd (Contains-nil x h), λ h. absurd (Contains-nil x h.0)))
  picked (x ∷ xs) = by (decide x) (picked xs)
    where
      by : Decided (P x) → (ys : List A) × ((z : A) → Contains ys z ↔ (Contains xs z × P z))
          → (ys : List A) × ((z : A) → Contains ys z ↔ (Contains (x ∷ xs) z × P z))
      by (inl p) r = (
        x ∷ r.0,
        λ z. (
          λ h. elim (Contains-cons x z r.0 h) [
            | inl same ↦ (subst (Contains (x ∷ xs)) same (Contains-first x xs), subst P same p)
            | inr later ↦ (let k = (r.1 z).0 later in (Contains-later x z xs k.0, k.1))
          ],
          λ h. elim (Contains-cons x z xs h.0) [
            | inl same ↦ subst (Contains (x ∷ r.0)) same (Contains-first x r.0)
            | inr later ↦ Contains-later x z r.0 ((r.1 z).1 (later, h.1))
          ],
        ),
      )
      by (inr absent) r = (
        r.0,
        λ z. (
          λ h. let k = (r.1 z).0 h in (Contains-later x z xs k.0, k.1),
          λ h. elim (Contains-cons x z xs h.0)
              [ inl same ↦ absurd (absent (subst P (sym same) h.1)) | inr later ↦ (r.1 z).1 (later, h.1) ],
        ),
      )

  -- some item has it, or none
  pub some_decided : (xs : List A) → Decided ((x : A) × Contains xs x × P x)
  some_decided xs = by (picked xs).0 (picked xs).1
    where
      by : (ys : List A) → ((x : A) → Contains ys x ↔ (Contains xs x × P x)) → Decided ((x : A) × Contains xs x × P x)
      by [] is = inr (λ h. Contains-nil h.0 ((is h.0).1 (h.1, h.2)))
      by (y ∷ ys) is = let k = (is y).0 (Contains-first y ys) in inl (y, k.0, k.1)

-- what is decided at each number is decided of all below a bound
below_decided : (Q : ℕ → Type 0) → ((k : ℕ) → Decided (Q k)) → (n : ℕ) → Decided ((k : ℕ) → k < n → Q k)
below_decided Q decide zero = inl (λ k h. absurd (omega arith))
below_decided Q decide (suc n) = by (below_decided Q decide n) (decide n)
  where
    by : Decided ((k : ℕ) → k < n → Q k) → Decided (Q n) → Decided ((k : ℕ) → k < suc n → Q k)
    by (inl all) (inl last) = inl (λ k h. elim (cases_lt k n) [
      | inl lt ↦ all k lt
      | inr ge ↦ (let same : n ≡ k = omega (arith, h, ge) in subst Q same last)
    ])
    by (inl all) (inr absent) = inr (λ f. absent (f n (omega arith)))
    by (inr absent) last = inr (λ f. absent (λ k h. f k (omega (arith, h))))

-- ---- whether probes hold over lists

probe_decided : (names : ℕ → ℕ) (pairs : List (ℕ × ℕ)) (p : Probe) → Decided (ProbeHolds names pairs p)
probe_decided names pairs (AnyOf basics t) = by
    (some_decided (λ p. p.0 ≡ name_of names t) (λ p. cases_eq p.0 (name_of names t)) pairs)
  where
    by : Decided ((p : ℕ × ℕ) × Contains pairs p × (p.0 ≡ name_of names t))
        → Decided ((second : ℕ) × Contains pairs (name_of names t, second))
    by (inl h) = inl (h.0.1, subst (λ a. Contains pairs (a, h.0.1)) h.2 h.1)
    by (inr absent) = inr (λ h. absent ((name_of names t, h.0), h.1, refl))
probe_decided names pairs (Joined r t u) = by
    (some_decided (λ p. (p.0 ≡ name_of names t) × (p.1 ≡ name_of names u)) both pairs)
  where
    both : (p : ℕ × ℕ) → Decided ((p.0 ≡ name_of names t) × (p.1 ≡ name_of names u))
    both p = elim (cases_eq p.0 (name_of names t)) [
      | inl one ↦ elim (cases_eq p.1 (name_of names u))
          [ inl two ↦ inl (one, two) | inr absent ↦ inr (λ h. absent h.1) ]
      | inr absent ↦ inr (λ h. absent h.0)
    ]

    by : Decided ((p : ℕ × ℕ) × Contains pairs p × ((p.0 ≡ name_of names t) × (p.1 ≡ name_of names u)))
        → Decided (Contains pairs (name_of names t, name_of names u))
    by (inl h) = inl (subst (λ a. Contains pairs (a, name_of names u)) h.2.0
        (subst (λ b. Contains pairs (h.0.0, b)) h.2.1 h.1))
    by (inr absent) = inr (λ h. absent ((name_of names t, name_of names u), h, (refl, refl)))

module _ (probes : List Probe) (lists : List (List (ℕ × ℕ))) where
  first_probe : Probe
  first_probe = Joined 0 (Name 0) (Name 0)

  all_decided : (names : ℕ → ℕ) → Decided (AllHold names probes lists)
  all_decided names = by (below_decided (λ k. ProbeHolds names (get_or lists k []) (get_or probes k first_probe))
      (λ k. probe_decided names (get_or lists k []) (get_or probes k first_probe)) (length probes))
    where
      by : Decided ((k : ℕ) → k < length probes
          → ProbeHolds names (get_or lists k []) (get_or probes k first_probe)) → Decided (AllHold names probes lists)
      by (inl all) = inl (λ k p h. subst (ProbeHolds names (get_or lists k []))
          (get_or_default probes k first_probe p h) (all k h))
      by (inr absent) = inr (λ f. absent (λ k h. f k first_probe h))

-- ---- names for variables, as lists

-- the lists of so many items of a list
choices : ℕ → List ℕ → List (List ℕ)
choices zero us = [] ∷ []
choices (suc n) us = flat_map (λ u. map (λ xs. u ∷ xs) (choices n us)) us

-- the names of a list for the variables that are its indexes
abbrev pub by_place : List ℕ → ℕ → ℕ
by_place xs v = get_or xs v 0

choice_of : (n : ℕ) (us : List ℕ) (f : ℕ → ℕ) → ((v : ℕ) → Contains us (f v))
    → (xs : List ℕ) × Contains (choices n us) xs × ((v : ℕ) → v < n → by_place xs v ≡ f v)
unfolding choices
choice_of zero us f within = ([], Contains-first [] [], λ v h. absurd (omega arith))
choice_of (suc n) us f within =
    let r = choice_of n us (λ v. f (suc v)) (λ v. within (suc v)) in (
      f 0 ∷ r.0,
      Contains-flat_map_of (λ u. map (λ xs. u ∷ xs) (choices n us)) us (f 0) (f 0 ∷ r.0) (within 0)
          (Contains-map_of (λ xs. f 0 ∷ xs) (choices n us) r.0 r.1),
      each r.0 r.2,
    )
  where
    each : (xs : List ℕ) → ((v : ℕ) → v < n → by_place xs v ≡ f (suc v)) → (v : ℕ) → v < suc n
        → by_place (f 0 ∷ xs) v ≡ f v
    each xs same zero h = refl
    each xs same (suc v) h = same v (omega (arith, h))

-- ---- names that agree on the variables of a probe

module _ (f g : ℕ → ℕ) where
  term_agree : (t : Term) → ((v : ℕ) → t ≡ Var v → f v ≡ g v) → name_of f t ≡ name_of g t
  term_agree (Var v) same = same v refl
  term_agree (Name a) same = refl

  probe_agree : (pairs : List (ℕ × ℕ)) (p : Probe) → ((v : ℕ) → HasVariable v p → f v ≡ g v)
      → ProbeHolds f pairs p → ProbeHolds g pairs p
  probe_agree pairs (AnyOf basics t) same h = (h.0, subst (λ a. Contains pairs (a, h.0)) (term_agree t same) h.1)
  probe_agree pairs (Joined r t u) same h =
      subst (λ b. Contains pairs (name_of g t, b)) (term_agree u (λ v e. same v (inr e)))
      (subst (λ a. Contains pairs (a, name_of f u)) (term_agree t (λ v e. same v (inl e))) h)

  head_agree : (head : List Term) → ((v : ℕ) → Contains head (Var v) → f v ≡ g v)
      → map (name_of f) head ≡ map (name_of g) head
  head_agree [] same = refl
  head_agree (t ∷ head) same =
      ap₂ (λ a l. a ∷ l) (term_agree t (λ v e. same v (subst (Contains (t ∷ head)) e (Contains-first t head))))
      (head_agree head (λ v c. same v (Contains-later t (Var v) head c)))

-- the names in some pairs
abbrev pub names_in : List (ℕ × ℕ) → List ℕ
names_in pairs = map (λ p. p.0) pairs ++ map (λ p. p.1) pairs

named_first : (pairs : List (ℕ × ℕ)) (p : ℕ × ℕ) → Contains pairs p → Contains (names_in pairs) p.0
named_first pairs p c =
    Contains-append_left (map (λ (q : ℕ × ℕ). q.0) pairs) (map (λ (q : ℕ × ℕ). q.1) pairs) p.0
    (Contains-map_of (λ (q : ℕ × ℕ). q.0) pairs p c)

named_second : (pairs : List (ℕ × ℕ)) (p : ℕ × ℕ) → Contains pairs p → Contains (names_in pairs) p.1
named_second pairs p c =
    Contains-append_right (map (λ (q : ℕ × ℕ). q.0) pairs) (map (λ (q : ℕ × ℕ). q.1) pairs) p.1
    (Contains-map_of (λ (q : ℕ × ℕ). q.1) pairs p c)

-- where a probe holds over pairs, the names of its variables are in them
held_names : (names : ℕ → ℕ) (pairs : List (ℕ × ℕ)) (p : Probe) → ProbeHolds names pairs p → (v : ℕ)
    → HasVariable v p → Contains (names_in pairs) (names v)
held_names names pairs (AnyOf basics t) h v e =
    subst (λ u. Contains (names_in pairs) (name_of names u)) e (named_first pairs (name_of names t, h.0) h.1)
held_names names pairs (Joined r t u) h v (inl e) =
    subst (λ w. Contains (names_in pairs) (name_of names w)) e (named_first pairs (name_of names t, name_of names u) h)
held_names names pairs (Joined r t u) h v (inr e) =
    subst (λ w. Contains (names_in pairs) (name_of names w)) e (named_second pairs (name_of names t, name_of names u) h)

-- ---- all tuples

module _ (n : ℕ) (d : Disjunct) (lists : List (List (ℕ × ℕ))) (count : length lists ≡ length d.probes)
    (few : AreBelow n d.probes) (safe : IsSafe d) where
  -- all names in the lists, and one more
  universe : List ℕ
  universe = 0 ∷ flat_map names_in lists

  in_universe : (names : ℕ → ℕ) → AllHold names d.probes lists → (v : ℕ) (k : ℕ) (p : Probe) → k < length d.probes
      → HasVariable v (get_or d.probes k p)
      → Contains universe (names v)
  unfolding universe
  in_universe names all v k p h is =
      let pairs = get_or lists k [] in
      let there : Contains lists pairs = Contains-get_or lists k [] (omega (arith, h, count)) in
      Contains-later 0 (names v) (flat_map names_in lists)
      (Contains-flat_map_of names_in lists pairs (names v) there
      (held_names names pairs (get_or d.probes k p) (all k p h) v is))

  -- names that are 0 where they aren't in the lists
  kept_name : (a : ℕ) → Decided ((x : ℕ) × Contains universe x × (x ≡ a)) → ℕ
  kept_name a (inl h) = a
  kept_name a (inr absent) = 0

  kept : ℕ → ℕ
  kept a = kept_name a (some_decided (λ x. x ≡ a) (λ x. cases_eq x a) universe)

  kept_in : (a : ℕ) → Contains universe (kept a)
  unfolding kept kept_name universe
  kept_in a = by (some_decided (λ x. x ≡ a) (λ x. cases_eq x a) universe)
    where
      by : (h : Decided ((x : ℕ) × Contains universe x × (x ≡ a))) → Contains universe (kept_name a h)
      by (inl h) = subst (Contains universe) h.2 h.1
      by (inr absent) = Contains-first 0 (flat_map names_in lists)

  kept_same : (a : ℕ) → Contains universe a → kept a ≡ a
  unfolding kept kept_name
  kept_same a c = by (some_decided (λ x. x ≡ a) (λ x. cases_eq x a) universe)
    where
      by : (h : Decided ((x : ℕ) × Contains universe x × (x ≡ a))) → kept_name a h ≡ a
      by (inl h) = refl
      by (inr absent) = absurd (absent (a, c, refl))

  tuple_by : List ℕ → List ℕ
  tuple_by xs = map (name_of (by_place xs)) d.head

  held_choices : (xs : List (List ℕ)) ×
      ((x : List ℕ) → Contains xs x ↔ (Contains (choices n universe) x × AllHold (by_place x) d.probes lists))
  held_choices = picked (λ xs. AllHold (by_place xs) d.probes lists)
      (λ xs. all_decided d.probes lists (by_place xs)) (choices n universe)

  all_tuples : List (List ℕ)
  all_tuples = map tuple_by held_choices.0

  -- a list of all the tuples, in any order
  all_tuples-exact : (tuple : List ℕ) → Contains all_tuples tuple ↔ IsTuple d lists tuple
  unfolding all_tuples tuple_by
  all_tuples-exact tuple = (
    λ c.
        let w = Contains-map tuple_by held_choices.0 tuple c in
        record { names = by_place w.0; probes = ((held_choices.1 w.0).0 w.1).1; head = w.2 },
    λ h. found h.names h.probes h.head (choice_of n universe (λ v. kept (h.names v)) (λ v. kept_in (h.names v))),
  )
    where
      found : (names : ℕ → ℕ) → AllHold names d.probes lists → map (name_of names) d.head ≡ tuple
          → (xs : List ℕ) × Contains (choices n universe) xs × ((v : ℕ) → v < n → by_place xs v ≡ kept (names v))
          → Contains all_tuples tuple
      found names all gives r =
          let agree : (v k : ℕ) (p : Probe) → k < length d.probes → HasVariable v (get_or d.probes k p)
          → names v ≡ by_place r.0 v =
          λ v k p lt is. sym (r.2 v (few v (get_or d.probes k p) (Contains-get_or d.probes k p lt) is) ∙ kept_same
          (names v) (in_universe names all v k p lt is)) in
          let holds : AllHold (by_place r.0) d.probes lists =
          λ k p lt. probe_agree names (by_place r.0) (get_or lists k []) (get_or d.probes k p)
          (λ v is. agree v k p lt is) (all k p lt) in
          let same : map (name_of (by_place r.0)) d.head ≡ map (name_of names) d.head =
          sym (head_agree names (by_place r.0) d.head
          (λ v c. let w = safe v c in agree v w.0 w.1 w.2 (subst (HasVariable v) (sym w.3) w.4))) in
          subst (Contains (map tuple_by held_choices.0)) (same ∙ gives)
          (Contains-map_of tuple_by held_choices.0 r.0 ((held_choices.1 r.0).1 (r.1, holds)))

-- ---- sets of lists

module _ {A : Type 0} {R : A → A → Ordering} (l : IsLinear R) where
  -- one more item in a list that ascends
  set_insert : (x : A) (ys : List A) → IsStrictlySortedBy R ys
      → (zs : List A) × IsStrictlySortedBy R zs × ((t : A) → Contains zs t ↔ ((x ≡ t) ⊎ Contains ys t))
  unfolding IsStrictlySortedBy
  set_insert x [] up = (
    x ∷ [],
    (tt, tt),
    λ t. (
      λ c. Contains-cons x t [] c,
      λ h.
          elim h [
            | inl same ↦ subst (Contains (x ∷ [])) same (Contains-first x [])
            | inr none ↦ absurd
                (Contains-nil t none)
          ],
    ),
  )
  set_insert x (y ∷ ys) up = by (R x y) refl (set_insert x ys up.1)
    where
      by : (o : Ordering) → R x y ≡ o
          → (zs : List A) × IsStrictlySortedBy R zs × ((t : A) → Contains zs t ↔ ((x ≡ t) ⊎ Contains ys t))
          → (zs : List A) × IsStrictlySortedBy R zs × ((t : A) → Contains zs t ↔ ((x ≡ t) ⊎ Contains (y ∷ ys) t))
      by Less e rest =
          let later : All (λ z. R x z ≡ Less) ys = λ k z h. l.total.trans x y (get_or ys k z) e
          (All-from_recursion (λ z. R y z ≡ Less) ys up.0 k z h) in (
            x ∷ y ∷ ys,
            ((e, recursion_from_All (λ z. R x z ≡ Less) ys later), up),
            λ t. (
              λ c. Contains-cons x t (y ∷ ys) c,
              λ h. elim h [
                | inl same ↦ subst (Contains (x ∷ y ∷ ys)) same (Contains-first x (y ∷ ys))
                | inr there ↦ Contains-later x t (y ∷ ys) there
              ],
            ),
          )
      by Equal e rest = (
        y ∷ ys,
        up,
        λ t. (
          λ c. inr c,
          λ h. elim h [
            | inl same ↦ subst (Contains (y ∷ ys)) (sym (l.equal x y e) ∙ same) (Contains-first y ys)
            | inr there ↦ there
          ],
        ),
      )
      by Greater e rest =
          let down : R y x ≡ Less = l.total.antisymm y x ∙ ap ordering_reverse e in
          let later : (t : A) → Contains rest.0 t → R y t ≡ Less = λ t c. elim ((rest.2 t).0 c) [
            | inl same ↦ subst (λ z. R y z ≡ Less) same down
            | inr there ↦ subst (λ z. R y z ≡ Less) there.2
                (All-from_recursion (λ z. R y z ≡ Less) ys up.0 there.0 t there.1)
          ] in (
            y ∷ rest.0,
            (
              recursion_from_All (λ z. R y z ≡ Less) rest.0
                  (λ k z h. later (get_or rest.0 k z) (Contains-get_or rest.0 k z h)),
              rest.1,
            ),
            λ t. (
              λ c. elim (Contains-cons y t rest.0 c) [
                | inl same ↦ inr (subst (Contains (y ∷ ys)) same (Contains-first y ys))
                | inr there ↦ elim ((rest.2 t).0 there)
                    [ inl same ↦ inl same | inr old ↦ inr (Contains-later y t ys old) ]
              ],
              λ h. elim h [
                | inl same ↦ Contains-later y t rest.0 ((rest.2 t).1 (inl same))
                | inr there ↦ elim (Contains-cons y t ys there) [
                  | inl same ↦ subst (Contains (y ∷ rest.0)) same (Contains-first y rest.0)
                  | inr old ↦ Contains-later y t rest.0 ((rest.2 t).1 (inr old))
                ]
              ],
            ),
          )

  -- each list has a set
  pub set_exists : (xs : List A) → (ys : List A) × IsStrictlySortedBy R ys × ((t : A) → Contains ys t ↔ Contains xs t)
  set_exists [] = ([], sorted_nil R, λ t. (λ c. c, λ c. c))
  set_exists (x ∷ xs) =
      let rest = set_exists xs in
      let more = set_insert x rest.0 rest.1 in (
        more.0,
        more.1,
        λ t. (
          λ c. elim ((more.2 t).0 c) [
            | inl same ↦ subst (Contains (x ∷ xs)) same (Contains-first x xs)
            | inr old ↦ Contains-later x t xs ((rest.2 t).0 old)
          ],
          λ c. (more.2 t).1 (elim (Contains-cons x t xs c) [ inl same ↦ inl same | inr old ↦ inr ((rest.2 t).1 old) ]),
        ),
      )

-- the tuples of a disjunct over lists are those of some list that ascends
pub exactly_exists : (n : ℕ) (d : Disjunct) (lists : List (List (ℕ × ℕ))) → length lists ≡ length d.probes
    → AreBelow n d.probes → IsSafe d
    → (tuples : List (List ℕ)) × AreExactly (IsTuple d lists) tuples
exactly_exists n d lists count few safe =
    let set = set_exists tuples_linear (all_tuples n d lists count few safe) in (
      set.0,
      record {
        ascending = set.1;
        exact = λ t. (
          λ c. (all_tuples-exact n d lists count few safe t).0 ((set.2 t).0 c),
          λ h. (set.2 t).1 ((all_tuples-exact n d lists count few safe t).1 h),
        );
      },
    )

-- what holds of nothing has the list without an item
pub exactly_none : (P : List ℕ → Type 0) → ((t : List ℕ) → P t → ⊥) → AreExactly P []
exactly_none P none = record {
  ascending = sorted_nil _;
  exact = λ t. (λ c. absurd (Contains-nil t c), λ h. absurd (none t h));
}

-- what one or another thing holds of has a list where each of the two has one
pub union_exists : (P Q : List ℕ → Type 0) (one two : List (List ℕ)) → AreExactly P one → AreExactly Q two
    → (tuples : List (List ℕ)) × AreExactly (λ t. P t ⊎ Q t) tuples
union_exists P Q one two is_one is_two =
    let set = set_exists tuples_linear (one ++ two) in (
      set.0,
      record {
        ascending = set.1;
        exact = λ t. (
          λ c. elim (Contains-append_cases one two t ((set.2 t).0 c)) [
            | inl left ↦ inl ((is_one.exact t).0 left)
            | inr right ↦ inr ((is_two.exact t).0 right)
          ],
          λ h. (set.2 t).1 (elim h [
            | inl p ↦ Contains-append_left one two t ((is_one.exact t).1 p)
            | inr q ↦ Contains-append_right one two t ((is_two.exact t).1 q)
          ]),
        );
      },
    )

-- where more tuples than a limit have something, the list of all that have it is longer
pub over_exactly : (limit : ℕ) (P : List ℕ → Type 0) (tuples : List (List ℕ)) → AreExactly P tuples
    → AreMoreThan limit P → limit < length tuples
over_exactly limit P tuples all more =
    let few = no_longer tuples_linear.total more.tuples tuples more.ascending
    (λ t c. (all.exact t).1 (subst P c.2 (more.each c.0 t c.1))) in
    omega (arith, few, more.longer)
