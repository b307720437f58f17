-- One need: its tuples and its names are in its list.
use Rattle.std.proofs.Common.{◌≡◌, ◌≢◌, ℕ, zero, suc, ◌+◌, ◌<◌, ◌≤◌, ◌⊎◌, inl, inr, List, [], ◌∷◌, Option, Some, None, length, map, take, get_or, refl, sym, ap, ap₂, subst, ◌∙◌, arith}
use Rattle.std.specs.List.{All, Contains}
use Rattle.std.proofs.lemmas.List.{get_or_default, length-map, get_or-map, map-append, take_more}
use Rattle.dl_terms.specs.declared.query.Term.{Term}
use Rattle.dl_terms.specs.declared.query.Term.TheVariants.{Var}
use Rattle.dl_join.specs.declared.need.Need.{Need}
use Rattle.dl_join.specs.declared.need.Column.{Column}
use Rattle.dl_join.specs.declared.gather.Gathered.{Gathered}
use Rattle.dl_join.specs.Needs.{in_column, AreAscending, NeedHolds}
use Rattle.dl_join.specs.Searching.{IsGiven}
use Rattle.dl_join.specs.Probing.{CanBeFitted, AreTurned}
use Rattle.dl_join.specs.Gathering.{Has, Gathers}
use Rattle.dl_join.specs.Tuples.{AreMoreThan}
use Rattle.dl_join.specs.Leaves.{HasNames, IsLone, IsLast}
use Rattle.dl_join.specs.Direct.{other_variable, variables_of, IsDirect, row_of}
use Rattle.dl_join.proofs.GatherLemmas.{AreMoreThan-weaker, Gathers-more}
use Rattle.dl_join.proofs.PairLemmas.{in_take}
use Rattle.dl_join.proofs.SearchLemmas.{renaming, renaming-same, renaming-other}

-- ---- lists of one item

pub one_item : {X : Type 0} (xs : List X) (d : X) → length xs ≡ 1 → xs ≡ get_or xs 0 d ∷ []
one_item [] d h = absurd (omega arith)
one_item (x ∷ []) d h = refl
one_item (x ∷ y ∷ rest) d h = absurd (omega arith)

pub all_one : {X : Type 0} (P : X → Type 0) (x : X) → P x → All P (x ∷ [])
all_one P x p zero d h = p
all_one P x p (suc k) d h = absurd (omega arith)

-- ---- items of a mapped list

pub in_mapped : {X Y : Type 0} (f : X → Y) (xs : List X) (x : X) → Contains xs x → Contains (map f xs) (f x)
in_mapped f xs x w =
    let size = length-map xs f in
    let inside = w.1 in
    (w.0, omega arith, get_or-map f xs w.0 x (f x) w.1 ∙ ap f w.2)

pub of_mapped : {X Y : Type 0} (f : X → Y) (xs : List X) (d : X) (y : Y) → Contains (map f xs) y → (x : X) × Contains xs x × (f x ≡ y)
of_mapped f xs d y w =
    let size = length-map xs f in
    let inside = w.1 in
    let place : w.0 < length xs = omega arith in
    let x = get_or xs w.0 d in
    (x, (w.0, place, get_or_default xs w.0 x d place), sym (get_or-map f xs w.0 d y place) ∙ w.2)

-- ---- the names of a variable

module _ (n : Need) (can : CanBeFitted n) where
  -- a need holds where its two variables have the names of one of its pairs
  two_hold : (names : ℕ → ℕ) (w : ℕ) (p : ℕ × ℕ) → n.other ≡ Some w → Contains n.pairs.now p → p.0 ≡ names n.at → p.1 ≡ names w → All (NeedHolds names) (n ∷ [])
  two_hold names w p other among first second = all_one (NeedHolds names) n (record {
    pair = p;
    among = among;
    here = ap (λ (c : Column). in_column c p) (can.column w other) ∙ first;
    there = λ u some. (let same : w ≡ u = cc (other, some) in second ∙ ap names same);
  })

  first_of : (names : ℕ → ℕ) (w : ℕ) → n.other ≡ Some w → (h : NeedHolds names n) → h.pair.0 ≡ names n.at
  first_of names w other h = ap (λ (c : Column). in_column c h.pair) (sym (can.column w other)) ∙ h.here

  apart : (w : ℕ) → n.other ≡ Some w → n.at ≢ w
  apart w other e = can.apart w other (sym e)

  lone_has : (var w : ℕ) → n.at ≡ var → n.other ≡ Some w → HasNames var (n ∷ []) n.pairs.now
  lone_has var w at other = record {
    ascending = subst (λ (c : Column). AreAscending c n.pairs.now) (can.column w other) can.ascending;
    names = λ a. (
      λ h.
          let names = renaming (λ (u : ℕ). a) w h.0 in
          let here : names n.at ≡ a = renaming-other (λ (u : ℕ). a) w h.0 n.at (apart w other) in
          record {
            names = names;
            holds = two_hold names w (a, h.0) other h.1 (sym here) (sym (renaming-same (λ (u : ℕ). a) w h.0));
            gives = ap (λ x. x ∷ []) (ap names (sym at) ∙ here);
          },
      λ g.
          let held : NeedHolds g.names n = g.holds 0 n (omega arith) in
          let gives : g.names var ∷ [] ≡ a ∷ [] = g.gives in
          let is : g.names var ≡ a = cc gives in
          (held.pair.1, subst (λ x. Contains n.pairs.now (x, held.pair.1)) (first_of g.names w other held ∙ (ap g.names at ∙ is)) held.among),
    );
  }

  last_has : (var : ℕ) (list : List (ℕ × ℕ)) → n.other ≡ Some var → AreTurned n.pairs.now list → HasNames var (n ∷ []) list
  last_has var list other are = record {
    ascending = are.ascending;
    names = λ a. (
      λ h.
          let names = renaming (λ (u : ℕ). h.0) var a in
          let here : names n.at ≡ h.0 = renaming-other (λ (u : ℕ). h.0) var a n.at (apart var other) in
          let there : names var ≡ a = renaming-same (λ (u : ℕ). h.0) var a in
          record {
            names = names;
            holds = two_hold names var (h.0, a) other ((are.same a h.0).0 h.1) (sym here) (sym there);
            gives = ap (λ x. x ∷ []) there;
          },
      λ g.
          let held : NeedHolds g.names n = g.holds 0 n (omega arith) in
          let gives : g.names var ∷ [] ≡ a ∷ [] = g.gives in
          let is : g.names var ≡ a = cc gives in
          (held.pair.0, subst (λ x. Contains list (x, held.pair.0)) (held.there var other ∙ is) ((are.same held.pair.1 held.pair.0).1 held.among)),
    );
  }

  -- ---- the tuples of a head of the need's variables

  given_row : (o : Option ℕ) → n.other ≡ o → (t : List ℕ) → IsGiven (n ∷ []) (Var n.at ∷ other_variable o) t
      → Contains (map (row_of n.column (length (Var n.at ∷ other_variable o))) n.pairs.now) t
  given_row None other t g =
      let held : NeedHolds g.names n = g.holds 0 n (omega arith) in
      subst (Contains (map (row_of n.column 1) n.pairs.now)) (ap (λ x. x ∷ []) held.here ∙ g.gives) (in_mapped (row_of n.column 1) n.pairs.now held.pair held.among)
  given_row (Some w) other t g =
      let held : NeedHolds g.names n = g.holds 0 n (omega arith) in
      subst (Contains (map (row_of n.column 2) n.pairs.now)) (ap₂ (λ x y. x ∷ y ∷ []) held.here (held.there w other) ∙ g.gives)
      (in_mapped (row_of n.column 2) n.pairs.now held.pair held.among)

  row_given : (o : Option ℕ) → n.other ≡ o → (t : List ℕ) → Contains (map (row_of n.column (length (Var n.at ∷ other_variable o))) n.pairs.now) t
      → IsGiven (n ∷ []) (Var n.at ∷ other_variable o) t
  row_given None other t c =
      let w = of_mapped (row_of n.column 1) n.pairs.now (0, 0) t c in
      record {
        names = λ u. in_column n.column w.0;
        holds = all_one (NeedHolds (λ u. in_column n.column w.0)) n (record { pair = w.0; among = w.1; here = refl; there = λ u some. cc (other, some) });
        gives = w.2;
      }
  row_given (Some v) other t c =
      let w = of_mapped (row_of n.column 2) n.pairs.now (0, 0) t c in
      let p = w.0 in
      let names = renaming (λ (u : ℕ). p.0) v p.1 in
      let here : names n.at ≡ p.0 = renaming-other (λ (u : ℕ). p.0) v p.1 n.at (apart v other) in
      let there : names v ≡ p.1 = renaming-same (λ (u : ℕ). p.0) v p.1 in
      let column : in_column n.column p ≡ p.0 = ap (λ (c : Column). in_column c p) (can.column v other) in
      record {
        names = names;
        holds = two_hold names v p other w.1 (sym here) (sym there);
        gives = ap₂ (λ x y. x ∷ y ∷ []) (here ∙ sym column) there ∙ w.2;
      }

pub lone_names : (var : ℕ) (needs : List Need) (d : Need) → IsLone var needs → All CanBeFitted needs → HasNames var needs (get_or needs 0 d).pairs.now
lone_names var needs d is all =
    let can : CanBeFitted is.need = subst (λ xs. CanBeFitted (get_or xs 0 d)) is.only (all 0 d (rw is.only (omega arith))) in
    rw is.only (lone_has is.need can var is.second is.at is.other)

pub last_names : (var : ℕ) (needs : List Need) (d : Need) (list : List (ℕ × ℕ)) → IsLast var needs → All CanBeFitted needs → AreTurned (get_or needs 0 d).pairs.now list
    → HasNames var needs list
last_names var needs d list is all are =
    let can : CanBeFitted is.need = subst (λ xs. CanBeFitted (get_or xs 0 d)) is.only (all 0 d (rw is.only (omega arith))) in
    rw is.only (last_has is.need can var list is.other (subst (λ xs. AreTurned (get_or xs 0 d).pairs.now list) is.only are))

variables_few : (at : ℕ) (o : Option ℕ) → length (Var at ∷ other_variable o) ≤ 2
variables_few at None = omega arith
variables_few at (Some w) = omega arith

pub head_few : (needs : List Need) (head : List Term) → IsDirect needs head → length head ≤ 2
head_few needs head is = rw is.head_is (variables_few is.need.at is.need.other)

module _ (needs : List Need) (head : List Term) (d : Need) (is : IsDirect needs head) (all : All CanBeFitted needs) where
  can_one : CanBeFitted is.need
  can_one = subst (λ xs. CanBeFitted (get_or xs 0 d)) is.only (all 0 d (rw is.only (omega arith)))

  pub rows_given : (t : List ℕ) → Contains (map (row_of (get_or needs 0 d).column (length head)) (get_or needs 0 d).pairs.now) t → IsGiven needs head t
  rows_given t c =
      let row = subst (λ xs. Contains (map (row_of (get_or xs 0 d).column (length head)) (get_or xs 0 d).pairs.now) t) is.only c in
      let row' = subst (λ h. Contains (map (row_of is.need.column (length h)) is.need.pairs.now) t) is.head_is row in
      rw (is.only, is.head_is) (row_given is.need can_one is.need.other refl t row')

  pub given_rows : (t : List ℕ) → IsGiven needs head t → Contains (map (row_of (get_or needs 0 d).column (length head)) (get_or needs 0 d).pairs.now) t
  given_rows t g =
      let one : IsGiven (is.need ∷ []) (variables_of is.need) t = subst (λ h. IsGiven (is.need ∷ []) h t) is.head_is (subst (λ xs. IsGiven xs head t) is.only g) in
      let row = given_row is.need can_one is.need.other refl t one in
      subst (λ xs. Contains (map (row_of (get_or xs 0 d).column (length head)) (get_or xs 0 d).pairs.now) t) (sym is.only)
      (subst (λ h. Contains (map (row_of is.need.column (length h)) is.need.pairs.now) t) (sym is.head_is) row)

-- ---- rows that are gathered one after the other

pub row_width : (column : Column) (width : ℕ) (p : ℕ × ℕ) → width ≤ 2 → length (row_of column width p) ≡ width
row_width column zero p h = refl
row_width column (suc zero) p h = refl
row_width column (suc (suc zero)) p h = refl
row_width column (suc (suc (suc k))) p h = absurd (omega arith)

pub rows_more : (column : Column) (width k : ℕ) (pairs : List (ℕ × ℕ)) (d : ℕ × ℕ) (a b c : Gathered) → k < length pairs
    → Gathers (Contains (map (row_of column width) (take k pairs))) a b → Gathers (λ t. t ≡ row_of column width (get_or pairs k d)) b c
    → Gathers (Contains (map (row_of column width) (take (k + 1) pairs))) a c
rows_more column width k pairs d a b c h g more =
    rw (take_more pairs k d h, map-append (row_of column width) (take k pairs) (get_or pairs k d ∷ []))
    (Gathers-more (map (row_of column width) (take k pairs)) (row_of column width (get_or pairs k d)) a b c g more)

pub rows_over : (column : Column) (width k : ℕ) (pairs : List (ℕ × ℕ)) (d : ℕ × ℕ) (a b : Gathered) → k < length pairs
    → Gathers (Contains (map (row_of column width) (take k pairs))) a b → AreMoreThan b.limit (λ t. Has b t ⊎ (t ≡ row_of column width (get_or pairs k d)))
    → AreMoreThan a.limit (λ t. Has a t ⊎ Contains (map (row_of column width) pairs) t)
rows_over column width k pairs d a b h g m =
    let f = row_of column width in
    rw (← g.limit) (AreMoreThan-weaker b.limit (λ t. Has b t ⊎ (t ≡ f (get_or pairs k d))) (λ t. Has a t ⊎ Contains (map f pairs) t) (λ t w. elim w [
      | inl was ↦ elim (g.only t was) [
        | inl old ↦ inl old
        | inr front ↦
            (let x = of_mapped f (take k pairs) d t front in
            inr (subst (Contains (map f pairs)) x.2 (in_mapped f pairs x.0 (in_take (λ _. 0) pairs k x.0 x.1))))
      ]
      | inr e ↦ inr (subst (Contains (map f pairs)) (sym e) (in_mapped f pairs (get_or pairs k d) (k, h, get_or_default pairs k (get_or pairs k d) d h)))
    ]) m)
