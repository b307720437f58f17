-- Lists that are kept of probes: a probe that asks the same has the same list.
use Rattle.std.proofs.Common.{◌≡◌, ℕ, Ok, ◌⊎◌, List, [], ◌∷◌, ◌++◌, length, take, get_or, refl, sym, ap, subst, ◌∙◌, Bool, true, false, true≢false, inl, inr, arith}
use Rattle.std.specs.Prelude.{◌↔◌, ◌+◌, ◌<◌, ◌≤◌, IsTrue, IfSome}
use Rattle.std.specs.List.{All, Any, Contains}
use Rattle.std.specs.declared.cmp.Ordering.{Ordering}
use Rattle.std.specs.declared.cmp.Ordering.TheVariants.{Less, Equal, Greater}
use Rattle.std.specs.Ordering.{is_lt, is_gt}
use Rattle.std.specs.declared.option.Option.{Option}
use Rattle.std.specs.declared.option.Option.TheVariants.{Some, None}
use Rattle.std.specs.Cmp.{tied_itself}
use Rattle.std.specs.Cmp.Lexicographic.{slice_cmp}
use Rattle.std.proofs.Math.Path.{fun_ext}
use Rattle.std.proofs.lemmas.Bool.{cases_lt}
use Rattle.std.proofs.lemmas.List.{take_more, take_all, get_or_default, get_or_append_left, get_or_push, length_push}
use Rattle.std.proofs.lemmas.List.Elements.{All-weaker, All-push, Contains-push_cases}
use Rattle.dl_terms.specs.Order.{basic_cmp, pair_cmp}
use Rattle.dl_terms.specs.contracts.role.BasicOrd.TheImpl as basic_impl
use Rattle.dl_terms.specs.declared.role.Basic.TheVariants.{Class, SomeOf}
use Rattle.dl_terms.proofs.DerivedLemmas as derived
use Rattle.dl_terms.proofs.OrderLemmas.{lists_linear, basics_linear}
use Rattle.dl_terms.specs.declared.axiom.Axiom.{Axiom}
use Rattle.dl_terms.specs.declared.axiom.Fact.{Fact}
use Rattle.dl_terms.specs.declared.role.Basic.{Basic}
use Rattle.dl_terms.specs.declared.query.Term.TheVariants.{Name}
use Rattle.dl_terms.specs.declared.query.Probe.{Probe}
use Rattle.dl_terms.specs.declared.query.Probe.TheVariants.{AnyOf, Joined}
use Rattle.dl_terms.specs.Table.{Table}
use Rattle.dl_terms.specs.declared.query.Disjunct.{Disjunct}
use Rattle.dl_terms.proofs.MemberLemmas.{Contains-nil}
use Rattle.dl_hier.specs.Predicates.{Predicates}
use Rattle.dl_hier.specs.declared.below.Below.{Below}
use Rattle.dl_join.specs.Disjuncts as join
use Rattle.dl_join.specs.Disjuncts.{AreSorted}
use Rattle.std.specs.List.Sorted.{IsSorted}
use Rattle.dl_join.specs.Tuples.{AreExactly}
use Rattle.dl_answer.proofs.TupleLemmas.{exactly_none}
use Rattle.dl_rewrite.specs.OverNames.{ProbeHolds, HasOverNames}
use Rattle.dl_answer.specs.Probes.{AreBelowProbe, AskAlike, HoldAlike}
use Rattle.dl_answer.specs.OverNames.{HoldsAlike}
use Rattle.dl_answer.specs.Replies.{GivesTuples}
use Rattle.dl_answer.specs.Kept.{IsKept, IsSlotKept, AreFirst}
use Rattle.dl_answer.specs.declared.slots.Kept.{Kept}

-- ---- probes that ask the same

pub alike_itself : (p : Probe) → AskAlike p p
alike_itself (AnyOf basics t) = refl
alike_itself (Joined role t u) = refl

alike_then : (p q r : Probe) → AskAlike p q → AskAlike q r → AskAlike p r
alike_then (AnyOf a t) (AnyOf b u) (AnyOf c v) e f = e ∙ f
alike_then (AnyOf a t) (AnyOf b u) (Joined r v w) e f = absurd f
alike_then (AnyOf a t) (Joined r v w) q e f = absurd e
alike_then (Joined r t u) (AnyOf b v) q e f = absurd e
alike_then (Joined r t u) (Joined s v w) (AnyOf b x) e f = absurd f
alike_then (Joined r t u) (Joined s v w) (Joined q x y) e f = e ∙ f

-- the same is below them
pub below_alike : (axioms : List Axiom) (p : Predicates) (one other : Probe) (below : Below) → AskAlike one other
    → AreBelowProbe axioms p one below → AreBelowProbe axioms p other below
below_alike axioms p (AnyOf basics t) (AnyOf others u) below same is =
    subst (λ bs. AreBelowProbe axioms p (AnyOf bs u) below) same is
below_alike axioms p (AnyOf basics t) (Joined role u w) below same is = absurd same
below_alike axioms p (Joined role t u) (AnyOf basics w) below same is = absurd same
below_alike axioms p (Joined role t u) (Joined other w x) below same is =
    subst (λ r. AreBelowProbe axioms p (Joined r w x) below) same is

module _ (axioms : List Axiom) (facts : List Fact) where
  -- the list of the one is a list of the other
  pub list_alike : (one other : Probe) (pairs : List (ℕ × ℕ)) → AskAlike one other → HoldAlike axioms facts one pairs
      → HoldAlike axioms facts other pairs
  list_alike one other pairs same hold q alike = hold q (alike_then one other q same alike)

  -- a probe over no pair never holds
  pub empty_fails : (p : Probe) → HoldAlike axioms facts p [] → (names : ℕ → ℕ) → ProbeHolds axioms facts names p → ⊥
  empty_fails p hold names held = none p ((hold p (alike_itself p) names).1 held)
    where
      none : (q : Probe) → join.ProbeHolds names [] q → ⊥
      none (AnyOf basics t) w = Contains-nil _ w.1
      none (Joined role t u) c = Contains-nil _ c

  -- a disjunct of which a probe has no pair has no tuple
  pub empty_gives : (d : Disjunct) (limit : ℕ) (table : Table) → Any (λ p. HoldAlike axioms facts p []) d.probes
      → table.tuples ≡ [] → GivesTuples (HasOverNames axioms facts d) limit (Ok table)
  empty_gives d limit table some none = (
    subst (AreExactly (HasOverNames axioms facts d)) (sym none)
        (exactly_none (HasOverNames axioms facts d)
        (λ t has. empty_fails some.1 some.4 has.names (has.probes some.1 (some.0, some.2, some.3)))),
    omega (arith, ap length none),
  )

-- ---- lists of the first of some probes

any_probe : Probe
any_probe = Joined 0 (Name 0) (Name 0)

module _ (axioms : List Axiom) (facts : List Fact) (probes : List Probe) where
  pub first_none : (lists : List (List (ℕ × ℕ))) → lists ≡ [] → AreFirst axioms facts probes lists
  first_none lists none k p lt = absurd (omega (arith, lt, ap length none))

  -- one list more
  pub first_push : (i : ℕ) (probe : Probe) (old new : List (List (ℕ × ℕ))) (pairs : List (ℕ × ℕ)) → i < length probes
      → probe ≡ get_or probes i probe → length old ≡ i → AreFirst axioms facts probes old
      → HoldAlike axioms facts probe pairs → new ≡ old ++ pairs ∷ [] → AreFirst axioms facts probes new
  first_push i probe old new pairs inside at size first is grown =
      subst (AreFirst axioms facts probes) (sym grown) (λ k p lt. elim (cases_lt k (length old)) [
        | inl before ↦
            subst (HoldAlike axioms facts (get_or probes k p)) (sym (get_or_append_left old (pairs ∷ []) [] k before))
            (first k p before)
        | inr past ↦
            let longer = length_push old pairs in
            let last : k ≡ i = omega (arith, past, lt, longer, size) in
            subst (λ j. HoldAlike axioms facts (get_or probes j p) (get_or (old ++ pairs ∷ []) j [])) (sym last)
            (subst (λ q. HoldAlike axioms facts q (get_or (old ++ pairs ∷ []) i [])) (at ∙ get_or_default probes i probe p inside)
            (subst (HoldAlike axioms facts probe) (sym (get_or_push old pairs [] i size)) is))
      ])

  -- without the last list, and that list
  module _ (old new : List (List (ℕ × ℕ))) (pairs : List (ℕ × ℕ)) (is : old ≡ new ++ pairs ∷ [])
      (first : AreFirst axioms facts probes old) where
    longer : length old ≡ length new + 1
    longer = ap length is ∙ length_push new pairs

    pub first_front : AreFirst axioms facts probes new
    first_front k p lt =
        let inside : k < length old = omega (arith, lt, longer) in
        subst (HoldAlike axioms facts (get_or probes k p))
        (ap (λ l. get_or l k []) is ∙ get_or_append_left new (pairs ∷ []) [] k lt) (first k p inside)

    pub first_last : (i : ℕ) (probe : Probe) → i ≡ length new → i < length probes → probe ≡ get_or probes i probe
        → HoldAlike axioms facts probe pairs
    first_last i probe here inside at =
        let there : i < length old = omega (arith, here, longer) in
        subst (λ q. HoldAlike axioms facts q pairs) (sym at)
        (subst (HoldAlike axioms facts (get_or probes i probe))
        (ap (λ l. get_or l i []) is ∙ get_or_push new pairs [] i (sym here)) (first i probe there))

  module _ (lists : List (List (ℕ × ℕ))) (first : AreFirst axioms facts probes lists) where
    -- where there is one for each probe, each holds over its own
    pub lists_whole : length lists ≡ length probes → (k : ℕ) (p : Probe) → k < length probes
        → HoldsAlike axioms facts (get_or probes k p) (get_or lists k [])
    lists_whole same k p lt =
        let inside : k < length lists = omega (arith, lt, same) in
        first k p inside (get_or probes k p) (alike_itself (get_or probes k p))

    -- where one is empty, a probe has no pair
    pub some_empty : Any (λ l. l ≡ []) lists → length lists ≤ length probes
        → Any (λ p. HoldAlike axioms facts p []) probes
    some_empty any few =
        let inside : any.0 < length probes = omega (arith, any.2, few) in (
          any.0,
          get_or probes any.0 any_probe,
          inside,
          get_or_default probes any.0 (get_or probes any.0 any_probe) any_probe inside,
          subst (HoldAlike axioms facts (get_or probes any.0 any_probe))
              (get_or_default lists any.0 [] any.1 any.2 ∙ (any.3 ∙ any.4)) (first any.0 any_probe any.2),
        )

-- a probe that asks the same as one of them has the list of that
pub earlier_list : (axioms : List Axiom) (facts : List Fact) (probes : List Probe) (lists : List (List (ℕ × ℕ)))
    (k : ℕ) (one probe : Probe) (list pairs : List (ℕ × ℕ)) → k < length lists → one ≡ get_or probes k one
    → list ≡ get_or lists k list → AskAlike one probe → pairs ≡ list → AreFirst axioms facts probes lists
    → HoldAlike axioms facts probe pairs
earlier_list axioms facts probes lists k one probe list pairs lt is_one is_list alike same first =
    subst (HoldAlike axioms facts probe) (get_or_default lists k [] list lt ∙ (sym is_list ∙ sym same))
    (list_alike axioms facts one probe (get_or lists k []) alike
    (subst (λ q. HoldAlike axioms facts q (get_or lists k [])) (sym is_one) (first k one lt)))

-- one of some sorted lists
pub sorted_one : (lists : List (List (ℕ × ℕ))) (k : ℕ) (list pairs : List (ℕ × ℕ)) → AreSorted lists → k < length lists
    → list ≡ get_or lists k list → pairs ≡ list → IsSorted pair_cmp pairs
sorted_one lists k list pairs sorted lt is same = subst (IsSorted pair_cmp) (sym (same ∙ is)) (sorted k list lt)

-- one more
pub sorted_more : (old new : List (List (ℕ × ℕ))) (pairs : List (ℕ × ℕ)) → AreSorted old → IsSorted pair_cmp pairs
    → new ≡ old ++ pairs ∷ [] → AreSorted new
sorted_more old new pairs sorted is grown =
    subst AreSorted (sym grown) (All-push (IsSorted pair_cmp) old pairs sorted is)

-- without the last one, and that one
module _ (old new : List (List (ℕ × ℕ))) (pairs : List (ℕ × ℕ)) (is : old ≡ new ++ pairs ∷ []) (sorted : AreSorted old)
  where
    pub sorted_front : AreSorted new
    sorted_front k d lt =
        let inside : k < length old = omega (arith, lt, ap length is, length_push new pairs) in
        subst (IsSorted pair_cmp) (ap (λ l. get_or l k d) is ∙ get_or_append_left new (pairs ∷ []) d k lt) (sorted k d inside)

    pub sorted_last : IsSorted pair_cmp pairs
    sorted_last =
        let inside : length new < length old = omega (arith, ap length is, length_push new pairs) in
        subst (IsSorted pair_cmp) (ap (λ l. get_or l (length new) pairs) is ∙ get_or_push new pairs pairs (length new) refl)
        (sorted (length new) pairs inside)

-- the last of some lists is empty
pub last_empty : (old new : List (List (ℕ × ℕ))) (pairs : List (ℕ × ℕ)) → new ≡ old ++ pairs ∷ [] → pairs ≡ []
    → Any (λ l. l ≡ []) new
last_empty old new pairs grown none =
    subst (Any (λ l. l ≡ [])) (sym grown) (
      length old,
      pairs,
      omega (arith, length_push old pairs),
      get_or_push old pairs pairs (length old) refl,
      none,
    )

-- ---- slots

module _ (axioms : List Axiom) (facts : List Fact) where
  pub none_kept : (slots : List (Option Kept)) → All (λ slot. slot ≡ None) slots
      → All (IsSlotKept axioms facts) slots
  none_kept slots none =
      All-weaker (λ slot. slot ≡ None) (IsSlotKept axioms facts) (λ slot is. subst (IsSlotKept axioms facts) (sym is) tt)
      slots none

  -- what is moved out of a slot
  pub moved_out : (slots : List (Option Kept)) (i : ℕ) (out : Option Kept) → All (IsSlotKept axioms facts) slots
      → i < length slots → out ≡ get_or slots i out → IfSome out (IsKept axioms facts)
  moved_out slots i out all inside is = by out (subst (IsSlotKept axioms facts) (sym is) (all i out inside))
    where
      by : (o : Option Kept) → IsSlotKept axioms facts o → IfSome o (IsKept axioms facts)
      by None kept = tt
      by (Some one) kept = kept

-- ---- what code tells of probes

basics_compared : (xs ys : List Basic) → slice_cmp (basic_impl.cmp-value).it xs ys ≡ slice_cmp basic_cmp xs ys
basics_compared xs ys = ap (λ R. slice_cmp R xs ys) (fun_ext (λ b. fun_ext (λ c. same b c)))
  where
    same : (b c : Basic) → (basic_impl.cmp-value).it b c ≡ basic_cmp b c
    same (Class p) (Class q) = refl
    same (Class p) (SomeOf s) = refl
    same (SomeOf r) (Class q) = refl
    same (SomeOf r) (SomeOf s) = derived.roles r s

pub same_told : (xs ys : List Basic) (o : Ordering) → o ≡ slice_cmp (basic_impl.cmp-value).it xs ys → o ≡ Equal
    → IsTrue true ↔ (xs ≡ ys)
same_told xs ys o is e = (
  λ _. (lists_linear basics_linear).equal xs ys (sym (basics_compared xs ys) ∙ (sym is ∙ e)),
  λ _. refl,
)

other_told : (xs ys : List Basic) (o p : Ordering) → o ≡ slice_cmp (basic_impl.cmp-value).it xs ys → o ≡ p
    → (p ≡ Equal → ⊥) → IsTrue false ↔ (xs ≡ ys)
other_told xs ys o p is e other = (
  λ f. absurd (true≢false (sym f)),
  λ same. absurd (other
      (sym e ∙ (is ∙ (basics_compared xs ys ∙ (ap (slice_cmp basic_cmp xs) (sym same)
      ∙ tied_itself (lists_linear basics_linear).total xs))))),
)

pub less_told : (xs ys : List Basic) (o : Ordering) → o ≡ slice_cmp (basic_impl.cmp-value).it xs ys → o ≡ Less
    → IsTrue false ↔ (xs ≡ ys)
less_told xs ys o is e = other_told xs ys o Less is e (λ f. true≢false (ap is_lt f))

pub greater_told : (xs ys : List Basic) (o : Ordering) → o ≡ slice_cmp (basic_impl.cmp-value).it xs ys → o ≡ Greater
    → IsTrue false ↔ (xs ≡ ys)
greater_told xs ys o is e = other_told xs ys o Greater is e (λ f. true≢false (ap is_gt f))

-- ---- a loop that leaves at the first that passes

module _ {A : Type 0} (P : A → Type 0) where
  pub none_more : (xs : List A) (i : ℕ) (y : A) → i < length xs → y ≡ get_or xs i y → (Any P (take i xs) → ⊥)
      → (P y → ⊥) → Any P (take (i + 1) xs) → ⊥
  none_more xs i y lt is none not any =
      elim (Contains-push_cases (take i xs) y any.1 (subst (λ l. Contains l any.1)
      (take_more xs i y lt ∙ ap (λ z. take i xs ++ z ∷ []) (sym is)) (any.0, any.2, any.3))) [
        | inl there ↦ none (there.0, any.1, there.1, there.2, any.4)
        | inr same ↦ not (subst P (sym same) any.4)
      ]

  pub none_all : (xs : List A) (i : ℕ) → length xs ≤ i → (Any P (take i xs) → ⊥) → IsTrue false ↔ Any P xs
  none_all xs i long none = (
    λ f. absurd (true≢false (sym f)),
    λ any. absurd (none (subst (Any P) (sym (take_all i xs long)) any)),
  )

-- what failed a test doesn't hold
pub failed : {P : Type 0} (b : Bool) → IsTrue b ↔ P → b ≡ false → P → ⊥
failed b told e p = true≢false (sym (told.1 p) ∙ e)

-- where none of some lists is empty, there is one for each probe
pub all_listed : (b : Bool) (lists : List (List (ℕ × ℕ))) (probes : List Probe) → b ≡ false
    → IsTrue b ↔ Any (λ l. l ≡ []) lists → Any (λ l. l ≡ []) lists ⊎ (length lists ≡ length probes)
    → length lists ≡ length probes
all_listed b lists probes is told (inl any) = absurd (failed b told is any)
all_listed b lists probes is told (inr same) = same
