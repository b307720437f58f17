-- One step of the search: needs are divided, and narrowed at a name; and its last one, where nothing is left to be named.
use Rattle.std.proofs.Common.{◌≡◌, ◌≢◌, ℕ, ◌<◌, ◌≤◌, inl, inr, true, false, cond, ◌==◌, List, [], ◌∷◌, ◌++◌, Option, Some, None, length, map, get_or, refl, sym, ap, ap₂, subst, ◌∙◌, arith}
use Rattle.std.specs.List.{All, Any, Contains}
use Rattle.std.proofs.lemmas.Bool.{cases_eq}
use Rattle.std.proofs.lemmas.Bool.Decides.{nat_tests}
use Rattle.std.proofs.lemmas.List.{length-map, get_or-map}
use Rattle.std.proofs.lemmas.List.Elements.{All-append}
use Rattle.dl_terms.specs.declared.query.Term.{Term}
use Rattle.dl_terms.specs.declared.query.Term.TheVariants.{Var, Name}
use Rattle.dl_join.specs.declared.need.Need.{Need}
use Rattle.dl_join.specs.declared.need.Column.{Column}
use Rattle.dl_join.specs.Disjuncts.{name_of}
use Rattle.dl_join.specs.Needs.{in_column, IsAscending, NeedHolds, Stands, IsMoved, AreMoved, IsNarrowed, AreNarrowed, Mentions, Fits, FitsOrder}
use Rattle.dl_join.specs.Searching.{IsGiven, named, IsReady, IsLevel}
use Rattle.dl_terms.proofs.MemberLemmas.{Contains-cons}
use Rattle.dl_join.proofs.ListLemmas.{Any-append_left, Any-append_right, Any-append_cases, Any-weaker, All-Any, All-left, All-right}

-- an item of one list is beside that of another
pub All-at : {X : Type 0} (P : X → Type 0) (xs : List X) (x : X) → All P xs → (w : Contains xs x) → P x
All-at P xs x all w = subst P w.2 (all w.0 x w.1)

-- ---- names with one changed

abbrev pub renaming : (ℕ → ℕ) → ℕ → ℕ → ℕ → ℕ
renaming names v x u = cond (u == v) x (names u)

pub renaming-same : (names : ℕ → ℕ) (v x : ℕ) → renaming names v x v ≡ x
renaming-same names v x = grind (arith, nat_tests)

pub renaming-other : (names : ℕ → ℕ) (v x u : ℕ) → u ≢ v → renaming names v x u ≡ names u
renaming-other names v x u differs = grind (arith, nat_tests)

-- a need without the variable holds as before
NeedHolds-renamed : (names : ℕ → ℕ) (v x : ℕ) (n : Need) → n.at ≢ v → ((w : ℕ) → n.other ≡ Some w → w ≢ v) → NeedHolds names n → NeedHolds (renaming names v x) n
NeedHolds-renamed names v x n at other h = record {
  pair = h.pair;
  among = h.among;
  here = h.here ∙ sym (renaming-other names v x n.at at);
  there = λ w some. h.there w some ∙ sym (renaming-other names v x w (other w some));
}

-- a term with a name for the variable is that name
named_value : (names : ℕ → ℕ) (v x : ℕ) (t : Term) → names v ≡ x → name_of names (named v x t) ≡ name_of names t
named_value names v x (Name a) e = refl
named_value names v x (Var w) e = elim (cases_eq w v) [
  | inl same ↦ (let b : (w == v) ≡ true = grind (arith, nat_tests) in rw b (sym e ∙ ap names (sym same)))
  | inr differs ↦ (let b : (w == v) ≡ false = grind (arith, nat_tests) in rw b refl)
]

renamed_value : (names : ℕ → ℕ) (v x : ℕ) (t : Term) → name_of (renaming names v x) t ≡ name_of names (named v x t)
renamed_value names v x (Name a) = refl
renamed_value names v x (Var w) = elim (cases_eq w v) [
  | inl same ↦ (let b : (w == v) ≡ true = grind (arith, nat_tests) in rw b refl)
  | inr differs ↦ (let b : (w == v) ≡ false = grind (arith, nat_tests) in rw b refl)
]

map_agree : {X Y : Type 0} (f g : X → Y) (xs : List X) → ((x : X) → f x ≡ g x) → map f xs ≡ map g xs
map_agree f g [] e = refl
map_agree f g (x ∷ xs) e = ap₂ (λ y ys. y ∷ ys) (e x) (map_agree f g xs e)

map-map : {X Y Z : Type 0} (f : X → Y) (g : Y → Z) (xs : List X) → map g (map f xs) ≡ map (λ x. g (f x)) xs
map-map f g [] = refl
map-map f g (x ∷ xs) = ap (λ ys. g (f x) ∷ ys) (map-map f g xs)

-- ---- a step down, to a name for the variable, and up again

module _ (var name : ℕ) (others : List ℕ) (active0 active later added : List Need) (head : List Term) (l : IsLevel var others active0 later head)
    (m : AreMoved name active0 active) (n : AreNarrowed name active added) where
  -- the narrowed needs hold where the wide ones do
  added_hold : (names : ℕ → ℕ) → All (NeedHolds names) active0 → names var ≡ name → All (NeedHolds names) added
  added_hold names all e = λ k d h.
      let narrow = get_or added k d in
      let from : Any (λ a. IsNarrowed name a narrow) active = n.from k d h in
      let a = from.1 in
      let size = m.count in
      let inside = from.2 in
      let place : from.0 < length active0 = omega arith in
      let old = get_or active0 from.0 a in
      let is_moved : IsMoved name old a = subst (IsMoved name old) from.3 (m.each from.0 a place) in
      let held : NeedHolds names old = all from.0 a place in
      let at : old.at ≡ var = l.here from.0 a place in
      let narrowed = from.4 in
      let col = ap (λ (c : Column). in_column c held.pair) is_moved.column in
      let here = held.here in
      let value = ap names at in
      let is_name : in_column old.column held.pair ≡ name = held.here ∙ (value ∙ e) in
      let above : name ≤ in_column old.column held.pair = omega arith in
      let some : old.other ≡ Some narrow.at = sym is_moved.other ∙ narrowed.at in
      record {
        pair = held.pair;
        among = (narrowed.pairs held.pair).1 (is_moved.kept held.pair above held.among, col ∙ is_name);
        here = rw narrowed.column (held.there narrow.at some);
        there = λ w other. cc narrowed.other;
      }

  -- a wide need holds where its narrowed one does, or where it asks of its own variable alone
  hold_one : (names : ℕ → ℕ) (old a : Need) → IsMoved name old a → Stands name name a → names old.at ≡ name
      → ((w : ℕ) → a.other ≡ Some w → Any (λ n. NeedHolds names n × IsNarrowed name a n) added) → (o : Option ℕ) → a.other ≡ o → NeedHolds names old
  hold_one names old a mv s value narrow None none =
      let low = s.floor s.pair s.among in
      let high = s.ceiling in
      let here : in_column a.column s.pair ≡ name = omega arith in
      record {
        pair = s.pair;
        among = mv.within s.pair s.among;
        here = ap (λ (c : Column). in_column c s.pair) (sym mv.column) ∙ (here ∙ sym value);
        there = λ w some. cc (mv.other, none, some);
      }
  hold_one names old a mv s value narrow (Some w) some =
      let any : Any (λ n. NeedHolds names n × IsNarrowed name a n) added = narrow w some in
      let n = any.1 in
      let held : NeedHolds names n = any.4.0 in
      let narrowed : IsNarrowed name a n = any.4.1 in
      let both = (narrowed.pairs held.pair).0 held.among in
      record {
        pair = held.pair;
        among = mv.within held.pair both.0;
        here = ap (λ (c : Column). in_column c held.pair) (sym mv.column) ∙ (both.1 ∙ sym value);
        there = λ v is.
            let second = ap (λ (c : Column). in_column c held.pair) (sym narrowed.column) in
            let same : n.at ≡ v = cc (narrowed.at, mv.other, is) in
            second ∙ (held.here ∙ ap names same);
      }

  active_hold : (names : ℕ → ℕ) → All (Stands name name) active → All (NeedHolds names) added → names var ≡ name → All (NeedHolds names) active0
  active_hold names stand all e = λ k d h.
      let size = m.count in
      let inside : k < length active = omega arith in
      let a = get_or active k d in
      hold_one names (get_or active0 k d) a (m.each k d h) (stand k d inside) (ap names (l.here k d h) ∙ e)
      (λ w some. All-Any (NeedHolds names) (IsNarrowed name a) added all (n.to k d inside w some)) a.other refl

  -- where a narrowed need is from: a need of the variable, whose other variable is its own
  added_from : (k : ℕ) (d : Need) → k < length added → (((get_or added k d).at ≢ var) × Contains others (get_or added k d).at) × ((get_or added k d).other ≡ None)
  added_from k d h =
      let narrow = get_or added k d in
      let from : Any (λ a. IsNarrowed name a narrow) active = n.from k d h in
      let a = from.1 in
      let size = m.count in
      let inside = from.2 in
      let place : from.0 < length active0 = omega arith in
      let old = get_or active0 from.0 a in
      let is_moved : IsMoved name old a = subst (IsMoved name old) from.3 (m.each from.0 a place) in
      let narrowed = from.4 in
      let some : old.other ≡ Some narrow.at = sym is_moved.other ∙ narrowed.at in
      (l.active_fits from.0 a place narrow.at some, narrowed.other)

  free : All (λ n. (n.at ≢ var) × ((w : ℕ) → n.other ≡ Some w → w ≢ var)) (later ++ added)
  free = All-append (λ n. (n.at ≢ var) × ((w : ℕ) → n.other ≡ Some w → w ≢ var)) later added
      (λ k d h. (l.elsewhere k d h, l.later_apart k d h))
      (λ k d h. let from = added_from k d h in (from.0.0, λ w some. absurd (cc (from.1, some))))

  renamed_hold : (names : ℕ → ℕ) → All (NeedHolds names) (later ++ added) → All (NeedHolds (renaming names var name)) (later ++ added)
  renamed_hold names all = λ k d h.
      let apart = free k d h in
      NeedHolds-renamed names var name (get_or (later ++ added) k d) apart.0 apart.1 (all k d h)

  pub step_down : (t : List ℕ) (g : IsGiven (active0 ++ later) head t) → g.names var ≡ name → IsGiven (later ++ added) (map (named var name) head) t
  step_down t g e = record {
    names = g.names;
    holds = All-append (NeedHolds g.names) later added (All-right (NeedHolds g.names) active0 later g.holds)
        (added_hold g.names (All-left (NeedHolds g.names) active0 later g.holds) e);
    gives = map-map (named var name) (name_of g.names) head ∙ (map_agree (λ s. name_of g.names (named var name s)) (name_of g.names) head (λ s. named_value g.names var name s e) ∙ g.gives);
  }

  pub step_up : (t : List ℕ) → All (Stands name name) active → IsGiven (later ++ added) (map (named var name) head) t → IsGiven (active0 ++ later) head t
  step_up t stand g =
      let names = renaming g.names var name in
      let all = renamed_hold g.names g.holds in
      record {
        names = names;
        holds = All-append (NeedHolds names) active0 later
            (active_hold names stand (All-right (NeedHolds names) later added all) (renaming-same g.names var name)) (All-left (NeedHolds names) later added all);
        gives = map_agree (name_of names) (λ s. name_of g.names (named var name s)) head (λ s. renamed_value g.names var name s)
            ∙ (sym (map-map (named var name) (name_of g.names) head) ∙ g.gives);
      }

  -- a variable of the named head is another one of the head
  var_of_named : (t : Term) (u : ℕ) → named var name t ≡ Var u → (u ≢ var) × (t ≡ Var u)
  var_of_named (Name a) u e = absurd (cc e)
  var_of_named (Var w) u e = elim (cases_eq w var) [
    | inl same ↦ (let b : (w == var) ≡ true = grind (arith, nat_tests) in absurd (let f = rw b at e in cc f))
    | inr differs ↦ (let b : (w == var) ≡ false = grind (arith, nat_tests) in let f = rw b at e in (let same : w ≡ u = cc f in (rw (← same) differs, f)))
  ]

  head_var : (u : ℕ) → Contains (map (named var name) head) (Var u) → (u ≢ var) × Contains head (Var u)
  head_var u w =
      let size = length-map head (named var name) in
      let inside = w.1 in
      let place : w.0 < length head = omega arith in
      let is = var_of_named (get_or head w.0 (Var u)) u (sym (get_or-map (named var name) head w.0 (Var u) (Var u) place) ∙ w.2) in
      (is.0, (w.0, place, is.1))

  mentions_on : (u : ℕ) → u ≢ var → Any (Mentions u) (active0 ++ later) → Any (Mentions u) (later ++ added)
  mentions_on u differs any = elim (Any-append_cases (Mentions u) active0 later any) [
    | inl w ↦
        (let size = m.count in
        let place = w.2 in
        let inside : w.0 < length active = omega arith in
        let old = w.1 in
        let a = get_or active w.0 old in
        let is_moved : IsMoved name old a = subst (λ n. IsMoved name n a) w.3 (m.each w.0 old w.2) in
        let at : old.at ≡ var = subst (λ (n : Need). n.at ≡ var) w.3 (l.here w.0 old w.2) in
        elim w.4 [
          | inl same ↦ absurd (differs (sym same ∙ at))
          | inr some ↦ Any-append_right (Mentions u) later added
              (Any-weaker (IsNarrowed name a) (Mentions u)
              (λ n is. let at_u = is.at in let other = is_moved.other in inl (cc (at_u, other, some))) added
              (n.to w.0 old inside u (is_moved.other ∙ some)))
        ])
    | inr w ↦ Any-append_left (Mentions u) later added w
  ]

  alone : (order : List ℕ) (u : ℕ) (IsOther : ℕ → Type 0) → ((w : ℕ) → IsOther w → ⊥) → Contains order u → Fits order u IsOther
  alone [] u IsOther none w = absurd (let inside = w.1 in omega arith)
  alone (v ∷ rest) u IsOther none w = elim (cases_eq u v) [
    | inl same ↦ inl (same, λ x is. absurd (none x is))
    | inr differs ↦ elim (Contains-cons v u rest w) [
      | inl here ↦ absurd (differs (sym here))
      | inr there ↦ inr (differs, λ x is. absurd (none x is), alone rest u IsOther none there)
    ]
  ]

  pub step_ready : All (Stands name name) active → IsReady others (later ++ added) (map (named var name) head)
  step_ready stand = record {
    ascending = All-append IsAscending later added (All-right IsAscending active0 later l.ready)
        (λ k d h. let from : Any (λ a. IsNarrowed name a (get_or added k d)) active = n.from k d h in from.4.ascending);
    fits = All-append (FitsOrder others) later added l.later_fits
        (λ k d h.
        let from = added_from k d h in
        alone others (get_or added k d).at (λ w. (get_or added k d).other ≡ Some w) (λ w some. cc (from.1, some)) from.0.1);
    covered = λ u w. let is = head_var u w in mentions_on u is.0 (l.covered u is.1);
  }
