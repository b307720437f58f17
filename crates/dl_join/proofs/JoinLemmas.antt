-- The tuples of a disjunct are those that names give to its head while the needs of its probes hold.
use Rattle.std.proofs.Common.{◌≡◌, ℕ, ◌+◌, ◌<◌, ◌⊎◌, inl, inr, List, [], ◌∷◌, ◌++◌, length, take, get_or, refl, sym, ap, subst, ◌∙◌, arith}
use Rattle.std.specs.List.{All, Any}
use Rattle.std.proofs.lemmas.Bool.{cases_lt}
use Rattle.std.proofs.lemmas.List.{get_or_default, get_or_append_left, get_or_push, length_push, length-take-le, take_more}
use Rattle.std.proofs.lemmas.List.Elements.{All-push, All-weaker}
use Rattle.dl_terms.specs.declared.query.Term.{Term}
use Rattle.dl_terms.specs.declared.query.Term.TheVariants.{Var, Name}
use Rattle.dl_terms.specs.declared.query.Probe.{Probe}
use Rattle.dl_terms.specs.declared.query.Probe.TheVariants.{AnyOf, Joined}
use Rattle.dl_terms.specs.declared.query.Disjunct.{Disjunct}
use Rattle.dl_join.specs.declared.need.Need.{Need}
use Rattle.dl_join.specs.declared.need.Column.TheVariants.{First}
use Rattle.dl_join.specs.declared.gather.Gathered.{Gathered}
use Rattle.dl_join.specs.Disjuncts.{AllHold, ProbeHolds, IsTuple, HasVariable, IsSafe, AreSorted}
use Rattle.dl_join.specs.Tuples.{AreExactly, AreMoreThan}
use Rattle.dl_join.specs.Gathering.{Has, Gathers}
use Rattle.dl_join.specs.Needs.{AreAscending, NeedHolds, Mentions}
use Rattle.dl_join.specs.Searching.{IsGiven, IsCovered, IsReady}
use Rattle.dl_join.specs.Probing.{IsClosed, kept_pairs, IsNeedOf, AreKept, AreNeedsOf, IsBackward, AreTurned, AreTurnedLists, IsFitted, AreFitted, CanBeFitted}
use Rattle.dl_join.proofs.ListLemmas.{Any-append_left, Any-append_right, Any-first, Any-Contains}
use Rattle.dl_join.proofs.GatherLemmas.{AreMoreThan-weaker}
use Rattle.dl_join.proofs.OrderLemmas.{sorted_ascending}

-- ---- two lists, item by item

-- one more item in each of two lists
pub each_push : {X Y : Type 0} (R : ℕ → X → Y → Type 0) (xs : List X) (ys : List Y) (x : X) (y : Y) → length ys ≡ length xs
    → ((k : ℕ) (d : X) (e : Y) → k < length xs → R k (get_or xs k d) (get_or ys k e)) → R (length xs) x y
    → (k : ℕ) (d : X) (e : Y) → k < length (xs ++ x ∷ []) → R k (get_or (xs ++ x ∷ []) k d) (get_or (ys ++ y ∷ []) k e)
each_push R xs ys x y size each r = λ k d e h.
    let more = length_push xs x in
    elim (cases_lt k (length xs)) [
      | inl old ↦
          (let old' : k < length ys = omega arith in
          rw (get_or_append_left xs (x ∷ []) d k old, get_or_append_left ys (y ∷ []) e k old') (each k d e old))
      | inr past ↦
          (let last : k ≡ length xs = omega arith in
          rw (last, get_or_push xs x d (length xs) refl, get_or_push ys y e (length xs) size) r)
    ]

pub turned_more : (order : List ℕ) (needs : List Need) (lists : List (List (ℕ × ℕ))) (need : Need) (list : List (ℕ × ℕ)) → AreTurnedLists order needs lists
    → ((w : ℕ) → IsBackward order need w → AreTurned need.pairs.now list) → AreTurnedLists order (needs ++ need ∷ []) (lists ++ list ∷ [])
turned_more order needs lists need list are turned = record {
  count = let a = length_push needs need in let b = length_push lists list in let c = are.count in omega arith;
  each = λ k d w h.
      each_push (λ k n l. (w : ℕ) → IsBackward order n w → AreTurned n.pairs.now l) needs lists need list are.count
      (λ j e f lt. λ v back. (let inside : j < length lists = (let c = are.count in omega arith) in
      rw (get_or_default lists j f [] inside) (are.each j e v lt back))) turned k d [] h w;
}

pub fitted_more : (order : List ℕ) (needs fitted : List Need) (need new : Need) → AreFitted order needs fitted → IsFitted order need new
    → AreFitted order (needs ++ need ∷ []) (fitted ++ new ∷ [])
fitted_more order needs fitted need new are is = record {
  count = let a = length_push needs need in let b = length_push fitted new in let c = are.count in omega arith;
  each = λ k d h.
      each_push (λ k n m. IsFitted order n m) needs fitted need new are.count
      (λ j e f lt. (let inside : j < length fitted = (let c = are.count in omega arith) in
      rw (get_or_default fitted j f e inside) (are.each j e lt))) is k d d h;
}

pub kept_more : (lists made : List (List (ℕ × ℕ))) (probes : List Probe) (probe : Probe) (list : List (ℕ × ℕ)) → AreKept probes lists made
    → list ≡ kept_pairs (get_or lists (length probes) []) probe → AreKept (probes ++ probe ∷ []) lists (made ++ list ∷ [])
kept_more lists made probes probe list are is = record {
  count = let a = length_push probes probe in let b = length_push made list in let c = are.count in omega arith;
  each = λ k p h.
      each_push (λ k q m. m ≡ kept_pairs (get_or lists k []) q) probes made probe list are.count
      (λ j e f lt. (let inside : j < length made = (let c = are.count in omega arith) in
      rw (get_or_default made j f [] inside) (are.each j e lt))) is k p [] h;
}

-- ---- the needs of probes

needs_grow : (probes : List Probe) (lists : List (List (ℕ × ℕ))) (needs needs' : List Need) (probe : Probe) → AreNeedsOf probes lists needs
    → ((P : Need → Type 0) → Any P needs → Any P needs')
    → IsClosed probe ⊎ Any (IsNeedOf probe (get_or lists (length probes) [])) needs'
    → (k : ℕ) (p : Probe) → k < length (probes ++ probe ∷ []) → IsClosed (get_or (probes ++ probe ∷ []) k p) ⊎ Any (IsNeedOf (get_or (probes ++ probe ∷ []) k p) (get_or lists k [])) needs'
needs_grow probes lists needs needs' probe are grow new = λ k p h.
    let more = length_push probes probe in
    elim (cases_lt k (length probes)) [
      | inl old ↦ rw (get_or_append_left probes (probe ∷ []) p k old) (elim (are.to k p old) [
        | inl closed ↦ inl closed
        | inr any ↦ inr (grow (IsNeedOf (get_or probes k p) (get_or lists k [])) any)
      ])
      | inr past ↦ (let last : k ≡ length probes = omega arith in rw (last, get_or_push probes probe p (length probes) refl) new)
    ]

from_grows : (probes : List Probe) (lists : List (List (ℕ × ℕ))) (probe : Probe) (need : Need)
    → ((k : ℕ) × (k < length probes) × ((p : Probe) → IsNeedOf (get_or probes k p) (get_or lists k []) need))
    → (k : ℕ) × (k < length (probes ++ probe ∷ [])) × ((p : Probe) → IsNeedOf (get_or (probes ++ probe ∷ []) k p) (get_or lists k []) need)
from_grows probes lists probe need w =
    (w.0, (let more = length_push probes probe in let h = w.1 in omega arith), λ p. rw (get_or_append_left probes (probe ∷ []) p w.0 w.1) (w.2 p))

pub needs_skip : (probes : List Probe) (lists : List (List (ℕ × ℕ))) (needs : List Need) (probe : Probe) → AreNeedsOf probes lists needs → IsClosed probe
    → AreNeedsOf (probes ++ probe ∷ []) lists needs
needs_skip probes lists needs probe are closed = record {
  to = needs_grow probes lists needs needs probe are (λ P any. any) (inl closed);
  from = All-weaker (λ need. (k : ℕ) × (k < length probes) × ((p : Probe) → IsNeedOf (get_or probes k p) (get_or lists k []) need))
      (λ need. (k : ℕ) × (k < length (probes ++ probe ∷ [])) × ((p : Probe) → IsNeedOf (get_or (probes ++ probe ∷ []) k p) (get_or lists k []) need))
      (from_grows probes lists probe) needs are.from;
}

pub needs_push : (probes : List Probe) (lists : List (List (ℕ × ℕ))) (needs : List Need) (probe : Probe) (need : Need) → AreNeedsOf probes lists needs
    → IsNeedOf probe (get_or lists (length probes) []) need → AreNeedsOf (probes ++ probe ∷ []) lists (needs ++ need ∷ [])
needs_push probes lists needs probe need are is = record {
  to = needs_grow probes lists needs (needs ++ need ∷ []) probe are (λ P any. Any-append_left P needs (need ∷ []) any)
      (inr (Any-append_right (IsNeedOf probe (get_or lists (length probes) [])) needs (need ∷ []) (Any-first (IsNeedOf probe (get_or lists (length probes) [])) need [] is)));
  from = All-push (λ n. (k : ℕ) × (k < length (probes ++ probe ∷ [])) × ((p : Probe) → IsNeedOf (get_or (probes ++ probe ∷ []) k p) (get_or lists k []) n)) needs need
      (All-weaker (λ n. (k : ℕ) × (k < length probes) × ((p : Probe) → IsNeedOf (get_or probes k p) (get_or lists k []) n))
      (λ n. (k : ℕ) × (k < length (probes ++ probe ∷ [])) × ((p : Probe) → IsNeedOf (get_or (probes ++ probe ∷ []) k p) (get_or lists k []) n))
      (from_grows probes lists probe) needs are.from)
      (length probes, (let more = length_push probes probe in omega arith), λ p. rw (get_or_push probes probe p (length probes) refl) is);
}

pub can_be_fitted : (probes : List Probe) (lists : List (List (ℕ × ℕ))) (needs : List Need) → AreNeedsOf probes lists needs → All CanBeFitted needs
can_be_fitted probes lists needs are = λ k d h.
    let w = are.from k d h in
    let is = w.2 (AnyOf [] (Name 0)) in
    record { ascending = is.ascending; apart = is.apart; column = is.column }

-- ---- tuples

no_variable : (v : ℕ) (p : Probe) → IsClosed p → HasVariable v p → ⊥
no_variable v (AnyOf basics (Var w)) closed has = closed
no_variable v (AnyOf basics (Name a)) closed has = cc has
no_variable v (Joined role (Var w) u) closed has = closed
no_variable v (Joined role (Name a) (Var w)) closed has = closed
no_variable v (Joined role (Name a) (Name b)) closed has = elim has [ inl e ↦ cc e | inr e ↦ cc e ]

pub lists_ascend : (lists : List (List (ℕ × ℕ))) → AreSorted lists → All (AreAscending First) lists
lists_ascend lists sorted = λ k d h. sorted_ascending (get_or lists k d) (sorted k d h)

module _ (d : Disjunct) (lists : List (List (ℕ × ℕ))) (needs : List Need) (are : AreNeedsOf d.probes lists needs) where
  -- each probe has a need, or no variable
  all_hold : (names : ℕ → ℕ) → ((k : ℕ) (p : Probe) → k < length d.probes → IsClosed (get_or d.probes k p) → ProbeHolds names (get_or lists k []) (get_or d.probes k p))
      → All (NeedHolds names) needs → AllHold names d.probes lists
  all_hold names closed all = λ k p h. elim (are.to k p h) [
    | inl is ↦ closed k p h is
    | inr any ↦ any.4.to names (subst (NeedHolds names) any.3 (all any.0 any.1 any.2))
  ]

  needs_hold : (names : ℕ → ℕ) → AllHold names d.probes lists → All (NeedHolds names) needs
  needs_hold names all = λ k e h.
      let w = are.from k e h in
      let p : Probe = AnyOf [] (Name 0) in
      (w.2 p).from names (all w.0 p w.1)

  pub given_tuple : ((names : ℕ → ℕ) (k : ℕ) (p : Probe) → k < length d.probes → IsClosed (get_or d.probes k p) → ProbeHolds names (get_or lists k []) (get_or d.probes k p))
      → (t : List ℕ) → IsGiven needs d.head t → IsTuple d lists t
  given_tuple closed t g = record { names = g.names; probes = all_hold g.names (closed g.names) g.holds; head = g.gives }

  pub tuple_given : (t : List ℕ) → IsTuple d lists t → IsGiven needs d.head t
  tuple_given t is = record { names = is.names; holds = needs_hold is.names is.probes; gives = is.head }

  -- a variable of a probe is in its need
  mentioned : (v : ℕ) → Any (HasVariable v) d.probes → Any (Mentions v) needs
  mentioned v w =
      let probe = w.1 in
      elim (are.to w.0 probe w.2) [
        | inl closed ↦ absurd (no_variable v (get_or d.probes w.0 probe) closed (subst (HasVariable v) (sym w.3) w.4))
        | inr any ↦ (any.0, any.1, any.2, any.3, any.4.variables v (subst (HasVariable v) (sym w.3) w.4))
      ]

  pub head_covered : IsSafe d → IsCovered needs d.head
  head_covered safe = λ v w. mentioned v (safe v w)

-- ---- needs that are fitted to an order give the same tuples

module _ (order : List ℕ) (needs fitted : List Need) (head : List Term) (fits : AreFitted order needs fitted) where
  pub given_fitted : (t : List ℕ) → IsGiven needs head t → IsGiven fitted head t
  given_fitted t g = record {
    names = g.names;
    holds = λ k e h. (let size = fits.count in let place : k < length needs = omega arith in (fits.each k e place).from g.names (g.holds k e place));
    gives = g.gives;
  }

  pub fitted_given : (t : List ℕ) → IsGiven fitted head t → IsGiven needs head t
  fitted_given t g = record {
    names = g.names;
    holds = λ k e h. (let size = fits.count in (fits.each k e h).to g.names (g.holds k e (omega arith)));
    gives = g.gives;
  }

  still_mentioned : (v : ℕ) → Any (Mentions v) needs → Any (Mentions v) fitted
  still_mentioned v any =
      let need = any.1 in
      let size = fits.count in
      let place = any.2 in
      let inside : any.0 < length fitted = omega arith in
      let fit : IsFitted order need (get_or fitted any.0 need) = subst (λ n. IsFitted order n (get_or fitted any.0 need)) any.3 (fits.each any.0 need any.2) in
      Any-Contains (Mentions v) fitted (get_or fitted any.0 need) (any.0, inside, get_or_default fitted any.0 (get_or fitted any.0 need) need inside) (fit.variables v any.4)

  pub fitted_ready : IsCovered needs head → IsReady order fitted head
  fitted_ready covered = record {
    ascending = λ k e h. (let size = fits.count in (fits.each k e (omega arith)).ascending);
    fits = λ k e h. (let size = fits.count in (fits.each k e (omega arith)).fits);
    covered = λ v w. still_mentioned v (covered v w);
  }

-- what was gathered from nothing is exactly what was given
pub gathered_exactly : (P Q : List ℕ → Type 0) (old new : Gathered) (all : List (List ℕ)) → ((t : List ℕ) → Has old t → ⊥) → Gathers P old new → AreExactly (Has new) all
    → ((t : List ℕ) → P t → Q t) → ((t : List ℕ) → Q t → P t) → AreExactly Q all
gathered_exactly P Q old new all none g is to back = record {
  ascending = is.ascending;
  exact = λ t. (
    λ c. elim (g.only t ((is.exact t).0 c)) [ inl was ↦ absurd (none t was) | inr p ↦ to t p ],
    λ q. (is.exact t).1 (g.found t (back t q)),
  );
}

pub nothing_exactly : (Q : List ℕ → Type 0) (old : Gathered) (all : List (List ℕ)) → ((t : List ℕ) → Has old t → ⊥) → AreExactly (Has old) all
    → ((t : List ℕ) → Q t → ⊥) → AreExactly Q all
nothing_exactly Q old all none is never = record {
  ascending = is.ascending;
  exact = λ t. (λ c. absurd (none t ((is.exact t).0 c)), λ q. absurd (never t q));
}

-- ---- the items at an index, as the code reads them

pub list_at : (lists : List (List (ℕ × ℕ))) (k : ℕ) (read pairs : List (ℕ × ℕ)) → pairs ≡ read → read ≡ get_or lists k read → k < length lists → pairs ≡ get_or lists k []
list_at lists k read pairs e is h = e ∙ (is ∙ get_or_default lists k read [] h)

pub ascending_at : (lists : List (List (ℕ × ℕ))) (k : ℕ) (pairs : List (ℕ × ℕ)) → All (AreAscending First) lists → k < length lists → pairs ≡ get_or lists k [] → AreAscending First pairs
ascending_at lists k pairs all h is = rw is (all k [] h)

pub holds_at : (names : ℕ → ℕ) (probes : List Probe) (lists : List (List (ℕ × ℕ))) (k : ℕ) (probe : Probe) (pairs : List (ℕ × ℕ)) → k < length probes
    → probe ≡ get_or probes k probe → pairs ≡ get_or lists k [] → AllHold names probes lists → ProbeHolds names pairs probe
holds_at names probes lists k probe pairs h is are all =
    subst (ProbeHolds names pairs) (sym is) (subst (λ xs. ProbeHolds names xs (get_or probes k probe)) (sym are) (all k probe h))

pub closed_more : (probes : List Probe) (lists : List (List (ℕ × ℕ))) (k : ℕ) (probe : Probe) (pairs : List (ℕ × ℕ)) → k < length probes → probe ≡ get_or probes k probe
    → pairs ≡ get_or lists k []
    → ((j : ℕ) (p : Probe) → j < k → IsClosed (get_or probes j p) → (names : ℕ → ℕ) → ProbeHolds names (get_or lists j []) (get_or probes j p))
    → (IsClosed probe → (names : ℕ → ℕ) → ProbeHolds names pairs probe)
    → (j : ℕ) (p : Probe) → j < k + 1 → IsClosed (get_or probes j p) → (names : ℕ → ℕ) → ProbeHolds names (get_or lists j []) (get_or probes j p)
closed_more probes lists k probe pairs h is are old new j p lt closed names = elim (cases_lt j k) [
  | inl before ↦ old j p before closed names
  | inr past ↦
      (let same : j ≡ k = omega arith in
      let there : get_or probes j p ≡ probe = ap (λ i. get_or probes i p) same ∙ (get_or_default probes k p probe h ∙ sym is) in
      let list : get_or lists j [] ≡ pairs = ap (λ i. get_or lists i []) same ∙ sym are in
      rw (there, list) (new (subst IsClosed there closed) names))
]

pub needs_skip_at : (probes : List Probe) (lists : List (List (ℕ × ℕ))) (needs : List Need) (k : ℕ) (probe : Probe) → k < length probes → probe ≡ get_or probes k probe
    → AreNeedsOf (take k probes) lists needs → IsClosed probe → AreNeedsOf (take (k + 1) probes) lists needs
needs_skip_at probes lists needs k probe h is are closed =
    rw (take_more probes k probe h, ← is) (needs_skip (take k probes) lists needs probe are closed)

pub needs_push_at : (probes : List Probe) (lists : List (List (ℕ × ℕ))) (needs : List Need) (k : ℕ) (probe : Probe) (pairs : List (ℕ × ℕ)) (need : Need) → k < length probes
    → probe ≡ get_or probes k probe → pairs ≡ get_or lists k [] → AreNeedsOf (take k probes) lists needs → IsNeedOf probe pairs need
    → AreNeedsOf (take (k + 1) probes) lists (needs ++ need ∷ [])
needs_push_at probes lists needs k probe pairs need h is list are need_is =
    let count : length (take k probes) ≡ k = length-take-le k probes (omega arith) in
    let there : pairs ≡ get_or lists (length (take k probes)) [] = list ∙ ap (λ i. get_or lists i []) (sym count) in
    rw (take_more probes k probe h, ← is) (needs_push (take k probes) lists needs probe need are (subst (λ xs. IsNeedOf probe xs need) there need_is))

pub over_tuples : (P Q : List ℕ → Type 0) (old : Gathered) (limit : ℕ) → old.limit ≡ limit → ((t : List ℕ) → Has old t → ⊥) → ((t : List ℕ) → P t → Q t)
    → AreMoreThan old.limit (λ t. Has old t ⊎ P t) → AreMoreThan limit Q
over_tuples P Q old limit same none to m =
    rw (← same) (AreMoreThan-weaker old.limit (λ t. Has old t ⊎ P t) Q (λ t h. elim h [ inl was ↦ absurd (none t was) | inr p ↦ to t p ]) m)

pub over_gathered : (P Q : List ℕ → Type 0) (old new : Gathered) (limit : ℕ) → old.limit ≡ limit → ((t : List ℕ) → Has old t → ⊥) → ((t : List ℕ) → P t → Q t)
    → Gathers P old new → AreMoreThan new.limit (Has new) → AreMoreThan limit Q
over_gathered P Q old new limit same none to g m =
    let whole : new.limit ≡ limit = g.limit ∙ same in
    rw (← whole) (AreMoreThan-weaker new.limit (Has new) Q (λ t h. elim (g.only t h) [ inl was ↦ absurd (none t was) | inr p ↦ to t p ]) m)
