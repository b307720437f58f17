-- Leaves taken off: needs give the same tuples where those of a leaf become the names that they leave to the variable
-- that it hangs on.
use Rattle.std.proofs.Common.{◌≡◌, ◌≢◌, ℕ, ◌<◌, ◌⊎◌, inl, inr, true, false, ◌==◌, not, Bool, List, [], ◌∷◌, ◌++◌, Option, Some, None, length, map, filter, get_or, refl, sym, ap, ap₂, subst, ◌∙◌, arith, true≢false}
use Rattle.std.specs.List.{All, Any, Contains}
use Rattle.std.proofs.lemmas.Bool.{cases_eq}
use Rattle.std.proofs.lemmas.Bool.Decides.{nat_tests}
use Rattle.std.proofs.lemmas.List.{get_or_default, length-map, get_or-map}
use Rattle.std.proofs.lemmas.List.Elements.{All-push, Contains-append_right}
use Rattle.dl_terms.specs.Sets.{IsSetOf}
use Rattle.dl_terms.proofs.MemberLemmas.{Contains-cons}
use Rattle.dl_terms.specs.declared.query.Term.{Term}
use Rattle.dl_terms.specs.declared.query.Term.TheVariants.{Var, Name}
use Rattle.dl_join.specs.declared.need.Need.{Need}
use Rattle.dl_join.specs.declared.need.Column.{Column}
use Rattle.dl_join.specs.declared.need.Column.TheVariants.{First}
use Rattle.dl_join.specs.Disjuncts.{name_of}
use Rattle.dl_terms.specs.Order.{pair_cmp}
use Rattle.dl_join.specs.Needs.{in_column, AreAscending, NeedHolds, Mentions}
use Rattle.dl_join.specs.Searching.{IsGiven, IsCovered}
use Rattle.dl_join.specs.Probing.{CanBeFitted}
use Rattle.dl_join.specs.Tuples.{AreExactly, AreMoreThan}
use Rattle.dl_join.specs.Gathering.{Has, Gathers}
use Rattle.dl_join.specs.declared.gather.Gathered.{Gathered}
use Rattle.dl_join.specs.declared.fault.JoinFault.{JoinFault}
use Rattle.std.specs.Prelude.{Result, Ok, Err, OnOk}
use Rattle.dl_join.specs.Leaves.{KeepsTo, IsLeaf, is_some, mentions, is_none, is_near, AreNamesOf, doubled_name}
use Rattle.dl_join.proofs.ListLemmas.{Any-append_left, Any-append_right, Any-first, Any-Contains, All-left, All-right}
use Rattle.dl_join.proofs.GatherLemmas.{AreMoreThan-weaker, Gathers-same}
use Rattle.dl_join.proofs.ProbeLemmas.{Contains-filter, Contains-filter_of}
use Rattle.dl_join.proofs.SearchLemmas.{All-at, renaming, renaming-same, renaming-other}

-- ---- the test of a variable

some_test : (v : ℕ) (o : Option ℕ) → is_some v o ≡ true → o ≡ Some v
some_test v None e = absurd (true≢false (sym e))
some_test v (Some w) e = (let same : w ≡ v = grind (arith, nat_tests) in ap Some same)

mentions_test : (v : ℕ) (n : Need) → mentions v n ≡ true → Mentions v n
mentions_test v n e = elim (cases_eq n.at v) [
  | inl same ↦ inl same
  | inr differs ↦ (let b : (n.at == v) ≡ false = grind (arith, nat_tests) in inr (some_test v n.other (rw b at e)))
]

test_mentions : (v : ℕ) (n : Need) → Mentions v n → mentions v n ≡ true
test_mentions v n m = elim (cases_eq n.at v) [
  | inl same ↦ (let b : (n.at == v) ≡ true = grind (arith, nat_tests) in rw b refl)
  | inr differs ↦ elim m [
    | inl same ↦ absurd (differs same)
    | inr some ↦ (let b : (n.at == v) ≡ false = grind (arith, nat_tests) in let c : (v == v) ≡ true = grind (arith, nat_tests) in rw (b, some) c)
  ]
]

none_test : (o : Option ℕ) → is_none o ≡ true → o ≡ None
none_test None e = refl
none_test (Some w) e = absurd (true≢false (sym e))

near_test : (wide : Bool) (var to : ℕ) (n : Need) → is_near wide var to n ≡ true → Mentions var n ⊎ ((n.at ≡ to) × (n.other ≡ None))
near_test wide var to n e = by (mentions var n) refl wide refl (cases_eq n.at to)
  where
    by : (b : Bool) → mentions var n ≡ b → (w : Bool) → wide ≡ w → (n.at ≡ to) ⊎ (n.at ≢ to) → Mentions var n ⊎ ((n.at ≡ to) × (n.other ≡ None))
    by true is w asked at = inl (mentions_test var n is)
    by false is false asked at = (let f : false ≡ true = rw (is, asked) at e in absurd (true≢false (sym f)))
    by false is true asked (inl same) = (let b : (n.at == to) ≡ true = grind (arith, nat_tests) in inr (same, none_test n.other (rw (is, asked, b) at e)))
    by false is true asked (inr differs) = (let b : (n.at == to) ≡ false = grind (arith, nat_tests) in let f : false ≡ true = rw (is, asked, b) at e in absurd (true≢false (sym f)))

test_near : (wide : Bool) (var to : ℕ) (n : Need) → Mentions var n → is_near wide var to n ≡ true
test_near wide var to n m = rw (test_mentions var n m) refl

-- ---- what holds of each item, by the items

all_from : {X : Type 0} (P : X → Type 0) (xs : List X) → ((x : X) → Contains xs x → P x) → All P xs
all_from P xs f = λ k d h. f (get_or xs k d) (k, h, get_or_default xs k (get_or xs k d) d h)

-- ---- names that agree

NeedHolds-agree : (f g : ℕ → ℕ) (n : Need) → ((v : ℕ) → Mentions v n → f v ≡ g v) → NeedHolds f n → NeedHolds g n
NeedHolds-agree f g n e h = record {
  pair = h.pair;
  among = h.among;
  here = h.here ∙ e n.at (inl refl);
  there = λ w some. h.there w some ∙ e w (inr some);
}

term_agree : (f g : ℕ → ℕ) (t : Term) → ((v : ℕ) → t ≡ Var v → f v ≡ g v) → name_of f t ≡ name_of g t
term_agree f g (Var v) e = e v refl
term_agree f g (Name a) e = refl

head_agree : (f g : ℕ → ℕ) (head : List Term) → ((v : ℕ) → Contains head (Var v) → f v ≡ g v) → map (name_of f) head ≡ map (name_of g) head
head_agree f g [] e = refl
head_agree f g (t ∷ ts) e =
    ap₂ (λ x xs. x ∷ xs) (term_agree f g t (λ v is. e v (0, omega arith, is))) (head_agree f g ts (λ v c. e v (Contains-append_right (t ∷ []) ts (Var v) c)))

-- ---- a leaf's needs and the others

module _ (wide : Bool) (var to : ℕ) (needs near beyond : List Need) (with : near ≡ filter (λ (n : Need). is_near wide var to n) needs)
    (without : beyond ≡ filter (λ (n : Need). not (is_near wide var to n)) needs)
    (head : List Term) (leaf : IsLeaf var to needs head) where
  in_near : (n : Need) → Contains near n → Contains needs n × ((v : ℕ) → Mentions v n → (v ≡ var) ⊎ (v ≡ to))
  in_near n c =
      let w = Contains-filter (λ (m : Need). is_near wide var to m) needs n (subst (λ xs. Contains xs n) with c) in (
        w.0,
        λ v m. elim (near_test wide var to n w.1) [
          | inl has ↦ All-at (KeepsTo var to) needs n leaf.hangs.alone w.0 has v m
          | inr alone ↦ elim m [ inl is ↦ inr (sym is ∙ alone.0) | inr some ↦ absurd (let none = alone.1 in cc (none, some)) ]
        ],
      )

  in_beyond : (n : Need) → Contains beyond n → Contains needs n × (Mentions var n → ⊥)
  in_beyond n c =
      let w = Contains-filter (λ (m : Need). not (is_near wide var to m)) needs n (subst (λ xs. Contains xs n) without c) in
      (w.0, λ m. (let e : not true ≡ true = subst (λ b. not b ≡ true) (test_near wide var to n m) w.1 in true≢false (sym e)))

  of_near : (n : Need) → Contains needs n → is_near wide var to n ≡ true → Contains near n
  of_near n c e = subst (λ xs. Contains xs n) (sym with) (Contains-filter_of (λ (m : Need). is_near wide var to m) needs n c e)

  parted : (n : Need) → Contains needs n → Contains near n ⊎ Contains beyond n
  parted n c = by (is_near wide var to n) refl
    where
      by : (b : Bool) → is_near wide var to n ≡ b → Contains near n ⊎ Contains beyond n
      by true e = inl (of_near n c e)
      by false e = inr (subst (λ xs. Contains xs n) (sym without) (Contains-filter_of (λ (m : Need). not (is_near wide var to m)) needs n c (ap not e)))

  pub near_fitted : All CanBeFitted needs → All CanBeFitted near
  near_fitted all = all_from CanBeFitted near (λ n c. All-at CanBeFitted needs n all (in_near n c).0)

  pub joined_near : Any (Mentions to) near
  joined_near =
      let any = leaf.joined in
      Any-Contains (Mentions to) near any.1 (of_near any.1 (any.0, any.2, any.3) (test_near wide var to any.1 any.4.0)) any.4.1

  module _ (list : List (ℕ × ℕ)) (are : AreNamesOf to near list) (new : Need) (at : new.at ≡ to) (other : new.other ≡ None) (column : new.column ≡ First)
      (pairs : new.pairs.now ≡ list) where
    pub given_reduced : (t : List ℕ) → IsGiven needs head t → IsGiven (beyond ++ new ∷ []) head t
    given_reduced t g =
        let w = (are (g.names to)).1 (record {
          names = g.names;
          holds = all_from (NeedHolds g.names) near (λ n c. All-at (NeedHolds g.names) needs n g.holds (in_near n c).0);
          gives = refl;
        }) in
        let old : All (NeedHolds g.names) beyond = all_from (NeedHolds g.names) beyond (λ n c. All-at (NeedHolds g.names) needs n g.holds (in_beyond n c).0) in
        let here : NeedHolds g.names new = record {
          pair = (g.names to, w.0);
          among = rw pairs w.1;
          here = ap (λ (k : Column). in_column k (g.names to, w.0)) column ∙ ap g.names (sym at);
          there = λ v some. cc (other, some);
        } in
        record { names = g.names; holds = All-push (NeedHolds g.names) beyond new old here; gives = g.gives }

    pub reduced_given : (t : List ℕ) → IsGiven (beyond ++ new ∷ []) head t → IsGiven needs head t
    reduced_given t g =
        let held : NeedHolds g.names new = All-right (NeedHolds g.names) beyond (new ∷ []) g.holds 0 new (omega arith) in
        let first : held.pair.0 ≡ g.names to = ap (λ (k : Column). in_column k held.pair) (sym column) ∙ (held.here ∙ ap g.names at) in
        let h = (are (g.names to)).0 (held.pair.1, subst (λ a. Contains list (a, held.pair.1)) first (subst (λ xs. Contains xs held.pair) pairs held.among)) in
        let gives : h.names to ∷ [] ≡ g.names to ∷ [] = h.gives in
        let same : h.names to ≡ g.names to = cc gives in
        let x = h.names var in
        let names = renaming g.names var x in
        let near_agree : (n : Need) → Contains near n → (v : ℕ) → Mentions v n → h.names v ≡ names v = λ n c v m. elim ((in_near n c).1 v m) [
          | inl is ↦ subst (λ u. h.names u ≡ names u) (sym is) (sym (renaming-same g.names var x))
          | inr is ↦ subst (λ u. h.names u ≡ names u) (sym is) (same ∙ sym (renaming-other g.names var x to (λ e. leaf.apart (sym e))))
        ] in
        let beyond_agree : (n : Need) → Contains beyond n → (v : ℕ) → Mentions v n → g.names v ≡ names v =
        λ n c v m. sym (renaming-other g.names var x v (λ e. (in_beyond n c).1 (subst (λ u. Mentions u n) e m))) in
        let old : All (NeedHolds g.names) beyond = All-left (NeedHolds g.names) beyond (new ∷ []) g.holds in
        record {
          names = names;
          holds = all_from (NeedHolds names) needs (λ n c. elim (parted n c) [
            | inl a ↦ NeedHolds-agree h.names names n (near_agree n a) (All-at (NeedHolds h.names) near n h.holds a)
            | inr o ↦ NeedHolds-agree g.names names n (beyond_agree n o) (All-at (NeedHolds g.names) beyond n old o)
          ]);
          gives = head_agree names g.names head (λ v c. renaming-other g.names var x v (λ e. leaf.hangs.free (subst (λ u. Contains head (Var u)) e c))) ∙ g.gives;
        }

    pub reduced_covered : IsCovered needs head → IsCovered (beyond ++ new ∷ []) head
    reduced_covered covered = λ v w.
        let any = covered v w in
        elim (parted any.1 (any.0, any.2, any.3)) [
          | inl a ↦ elim ((in_near any.1 a).1 v any.4) [
            | inl is ↦ absurd (leaf.hangs.free (subst (λ u. Contains head (Var u)) is w))
            | inr is ↦ Any-append_right (Mentions v) beyond (new ∷ []) (Any-first (Mentions v) new [] (inl (at ∙ sym is)))
          ]
          | inr o ↦ Any-append_left (Mentions v) beyond (new ∷ []) (Any-Contains (Mentions v) beyond any.1 o any.4)
        ]

    pub reduced_fitted : All CanBeFitted needs → AreAscending First list → All CanBeFitted (beyond ++ new ∷ [])
    reduced_fitted all up =
        All-push CanBeFitted beyond new (all_from CanBeFitted beyond (λ n c. All-at CanBeFitted needs n all (in_beyond n c).0)) (record {
          ascending = rw (column, pairs) up;
          apart = λ w some. cc (other, some);
          column = λ w some. cc (other, some);
        })

-- ---- the names of a variable

pub one_covered : (var : ℕ) (needs : List Need) → Any (Mentions var) needs → IsCovered needs (Var var ∷ [])
one_covered var needs any = λ v w. elim (Contains-cons (Var var) (Var v) [] w) [
  | inl same ↦ (let is : var ≡ v = cc same in subst (λ u. Any (Mentions u) needs) is any)
  | inr none ↦ (let inside = none.1 in absurd (omega arith))
]

in_doubled : (tuples : List (List ℕ)) (p : ℕ × ℕ) → Contains (map doubled_name tuples) p → (t : List ℕ) × Contains tuples t × (doubled_name t ≡ p)
in_doubled tuples p w =
    let size = length-map tuples doubled_name in
    let inside = w.1 in
    let place : w.0 < length tuples = omega arith in
    let t = get_or tuples w.0 [] in
    (t, (w.0, place, get_or_default tuples w.0 t [] place), sym (get_or-map doubled_name tuples w.0 [] p place) ∙ w.2)

of_doubled : (tuples : List (List ℕ)) (t : List ℕ) → Contains tuples t → Contains (map doubled_name tuples) (doubled_name t)
of_doubled tuples t w =
    let size = length-map tuples doubled_name in
    let inside = w.1 in
    (w.0, omega arith, get_or-map doubled_name tuples w.0 t (doubled_name t) w.1 ∙ ap doubled_name w.2)

pub names_exact : (var : ℕ) (needs : List Need) (tuples : List (List ℕ)) (set : List (ℕ × ℕ)) → AreExactly (IsGiven needs (Var var ∷ [])) tuples
    → IsSetOf pair_cmp set (map doubled_name tuples) → AreNamesOf var needs set
names_exact var needs tuples set are is = λ a. (
  λ w.
      let d = in_doubled tuples (a, w.0) ((is.members (a, w.0)).0 w.1) in
      let g = (are.exact d.0).0 d.1 in
      let one : doubled_name (g.names var ∷ []) ≡ (a, w.0) = subst (λ t. doubled_name t ≡ (a, w.0)) (sym g.gives) d.2 in
      let same : g.names var ≡ a = ap (λ (q : ℕ × ℕ). q.0) one in
      record { names = g.names; holds = g.holds; gives = ap (λ x. x ∷ []) same },
  λ g. (a, (is.members (a, a)).1 (of_doubled tuples (a ∷ []) ((are.exact (a ∷ [])).1 g))),
)

-- ---- what is gathered

pub ok_alike : (P Q : List ℕ → Type 0) (old new : Gathered) (r : Result (Unit {0}) JoinFault) → ((t : List ℕ) → P t → Q t) → ((t : List ℕ) → Q t → P t) → OnOk r (Gathers P old new)
    → OnOk r (Gathers Q old new)
ok_alike P Q old new (Ok u) to back g = Gathers-same P Q old new to back g
ok_alike P Q old new (Err e) to back g = tt

pub over_alike : (P Q : List ℕ → Type 0) (old : Gathered) (limit : ℕ) → ((t : List ℕ) → P t → Q t) → AreMoreThan limit (λ t. Has old t ⊎ P t) → AreMoreThan limit (λ t. Has old t ⊎ Q t)
over_alike P Q old limit to m = AreMoreThan-weaker limit (λ t. Has old t ⊎ P t) (λ t. Has old t ⊎ Q t) (λ t h. elim h [ inl was ↦ inl was | inr p ↦ inr (to t p) ]) m
