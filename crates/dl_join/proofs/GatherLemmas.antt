-- What gathering a tuple changes, and where there are more than the limit.
use Rattle.std.proofs.Common.{◌≡◌, ℕ, ◌+◌, ◌-◌, ◌<◌, ◌≤◌, ◌⊎◌, inl, inr, List, [], ◌∷◌, ◌++◌, length, take, get_or, refl, sym, ap, subst, ◌∙◌, arith}
use Rattle.std.specs.declared.cmp.Ordering.{Ordering}
use Rattle.std.specs.declared.cmp.Ordering.TheVariants.{Less, Equal, Greater}
use Rattle.std.specs.Ordering.{ordering_reverse}
use Rattle.std.specs.Prelude.{Result, Ok, Err, OnOk}
use Rattle.dl_join.specs.declared.fault.JoinFault.{JoinFault}
use Rattle.std.specs.List.{All, Contains}
use Rattle.std.proofs.lemmas.Bool.{cases_eq}
use Rattle.std.proofs.lemmas.List.{get_or_default, length_push, take_more}
use Rattle.std.proofs.lemmas.List.Elements.{All-nil, All-push, All-contains, All-weaker, All-contains_itself, Contains-append_left, Contains-push, Contains-push_cases}
use Rattle.dl_terms.specs.Answers.{AscendStrictly}
use Rattle.dl_terms.specs.Sets.{IsSetOf}
use Rattle.dl_join.specs.declared.gather.Gathered.{Gathered}
use Rattle.dl_join.specs.Tuples.{AreExactly, AreMoreThan, tuple_cmp, ComparesLast, AllBefore}
use Rattle.dl_join.specs.Gathering.{Has, IsGathered, Gathers}
use Rattle.dl_join.proofs.MergeLemmas.{tuples_linear, sorted_at, sorted_push}
use Rattle.dl_join.proofs.PairLemmas.{in_take}

pub AreMoreThan-weaker : (limit : ℕ) (P Q : List ℕ → Type 0) → ((t : List ℕ) → P t → Q t) → AreMoreThan limit P → AreMoreThan limit Q
AreMoreThan-weaker limit P Q f m = record {
  tuples = m.tuples;
  ascending = m.ascending;
  each = All-weaker P Q f m.tuples m.each;
  longer = m.longer;
}

pub Gathers-same : (P Q : List ℕ → Type 0) (old new : Gathered) → ((t : List ℕ) → P t → Q t) → ((t : List ℕ) → Q t → P t) → Gathers P old new → Gathers Q old new
Gathers-same P Q old new to back g = record {
  valid = g.valid;
  limit = g.limit;
  width = g.width;
  kept = g.kept;
  found = λ t q. g.found t (back t q);
  only = λ t h. elim (g.only t h) [ inl was ↦ inl was | inr p ↦ inr (to t p) ];
}

-- what one step gathers, where the next one gathers nothing more
pub Gathers-then : (P : List ℕ → Type 0) (a b c : Gathered) → Gathers P a b → Gathers (λ t. ⊥) b c → Gathers P a c
Gathers-then P a b c g h = record {
  valid = h.valid;
  limit = h.limit ∙ g.limit;
  width = h.width ∙ g.width;
  kept = λ t w. h.kept t (g.kept t w);
  found = λ t p. h.kept t (g.found t p);
  only = λ t w. elim (h.only t w) [ inl was ↦ g.only t was | inr none ↦ absurd none ];
}

pub over_then : (P : List ℕ → Type 0) (a b : Gathered) → Gathers P a b → AreMoreThan b.limit (Has b) → AreMoreThan a.limit (λ t. Has a t ⊎ P t)
over_then P a b g m = rw (← g.limit) (AreMoreThan-weaker b.limit (Has b) (λ t. Has a t ⊎ P t) g.only m)

-- ---- a tuple after all that are known

pub gathers_known : (old new : Gathered) (t : List ℕ) → IsGathered old → new.limit ≡ old.limit → new.known.width ≡ old.known.width
    → new.known.tuples ≡ old.known.tuples ++ t ∷ [] → new.fresh ≡ old.fresh → AllBefore old.known.tuples t → length old.known.tuples < old.limit
    → Gathers (λ s. s ≡ t) old new
gathers_known old new t v limit width known fresh after room = record {
  valid = record {
    ascending = rw known (sorted_push tuple_cmp old.known.tuples t v.ascending after);
    within = rw (known, limit) (let size = length_push old.known.tuples t in omega arith);
    widths = rw (fresh, width) v.widths;
  };
  limit = limit;
  width = width;
  kept = λ s h. elim h [
    | inl was ↦ inl (rw known (Contains-append_left old.known.tuples (t ∷ []) s was))
    | inr was ↦ inr (rw fresh was)
  ];
  found = λ s e. inl (rw (known, e) (Contains-push old.known.tuples t));
  only = λ s h. elim h [
    | inl is ↦ elim (Contains-push_cases old.known.tuples t s (rw known at is)) [ inl was ↦ inl (inl was) | inr same ↦ inr (sym same) ]
    | inr is ↦ inl (inr (rw fresh at is))
  ];
}

pub over_known : (old : Gathered) (t : List ℕ) → IsGathered old → AllBefore old.known.tuples t → old.limit ≤ length old.known.tuples
    → AreMoreThan old.limit (λ s. Has old s ⊎ (s ≡ t))
over_known old t v after full = record {
  tuples = old.known.tuples ++ t ∷ [];
  ascending = sorted_push tuple_cmp old.known.tuples t v.ascending after;
  each = All-push (λ s. Has old s ⊎ (s ≡ t)) old.known.tuples t
      (All-weaker (Contains old.known.tuples) (λ s. Has old s ⊎ (s ≡ t)) (λ s c. inl (inl c)) old.known.tuples (All-contains_itself old.known.tuples)) (inr refl);
  longer = let size = length_push old.known.tuples t in omega arith;
}

-- ---- a tuple that is known already

pub gathers_again : (old new : Gathered) (t : List ℕ) → IsGathered old → new.limit ≡ old.limit → new.known ≡ old.known → new.fresh ≡ old.fresh
    → Contains old.known.tuples t → Gathers (λ s. s ≡ t) old new
gathers_again old new t v limit known fresh there = record {
  valid = record { ascending = rw known v.ascending; within = rw (known, limit) v.within; widths = rw (fresh, known) v.widths };
  limit = limit;
  width = ap (λ k. k.width) known;
  kept = λ s h. elim h [ inl was ↦ inl (rw known was) | inr was ↦ inr (rw fresh was) ];
  found = λ s e. inl (rw (known, e) there);
  only = λ s h. elim h [ inl is ↦ inl (inl (rw known at is)) | inr is ↦ inl (inr (rw fresh at is)) ];
}

-- ---- a fresh tuple

pub gathers_fresh : (old new : Gathered) (t : List ℕ) → IsGathered old → new.limit ≡ old.limit → new.known ≡ old.known → new.fresh ≡ old.fresh ++ t ∷ []
    → length t ≡ old.known.width → Gathers (λ s. s ≡ t) old new
gathers_fresh old new t v limit known fresh width = record {
  valid = record {
    ascending = rw known v.ascending;
    within = rw (known, limit) v.within;
    widths = rw (fresh, known) (All-push (λ s. length s ≡ old.known.width) old.fresh t v.widths width);
  };
  limit = limit;
  width = ap (λ k. k.width) known;
  kept = λ s h. elim h [ inl was ↦ inl (rw known was) | inr was ↦ inr (rw fresh (Contains-append_left old.fresh (t ∷ []) s was)) ];
  found = λ s e. inr (rw (fresh, e) (Contains-push old.fresh t));
  only = λ s h. elim h [
    | inl is ↦ inl (inl (rw known at is))
    | inr is ↦ elim (Contains-push_cases old.fresh t s (rw fresh at is)) [ inl was ↦ inl (inr was) | inr same ↦ inr (sym same) ]
  ];
}

-- ---- the fresh tuples made known

pub gathers_settled : (old new : Gathered) (batch : List (List ℕ)) → IsGathered old → IsSetOf tuple_cmp batch old.fresh → new.limit ≡ old.limit
    → new.known.width ≡ old.known.width → new.fresh ≡ [] → AreExactly (λ t. Contains old.known.tuples t ⊎ Contains batch t) new.known.tuples
    → length new.known.tuples ≤ old.limit → Gathers (λ t. ⊥) old new
gathers_settled old new batch v set limit width fresh all within = record {
  valid = record { ascending = all.ascending; within = rw limit within; widths = rw fresh (All-nil _) };
  limit = limit;
  width = width;
  kept = λ s h. elim h [ inl was ↦ inl ((all.exact s).1 (inl was)) | inr was ↦ inl ((all.exact s).1 (inr ((set.members s).1 was))) ];
  found = λ s none. absurd none;
  only = λ s h. elim h [
    | inl is ↦ elim ((all.exact s).0 is) [ inl was ↦ inl (inl was) | inr was ↦ inl (inr ((set.members s).0 was)) ]
    | inr is ↦ absurd (let gone = rw fresh at is in omega (arith, gone.1))
  ];
}

pub over_settled : (old : Gathered) (batch : List (List ℕ)) → IsSetOf tuple_cmp batch old.fresh
    → AreMoreThan old.limit (λ t. Contains old.known.tuples t ⊎ Contains batch t) → AreMoreThan old.limit (Has old)
over_settled old batch set m =
    AreMoreThan-weaker old.limit (λ t. Contains old.known.tuples t ⊎ Contains batch t) (Has old)
    (λ t h. elim h [ inl was ↦ inl was | inr was ↦ inr ((set.members t).0 was) ]) m

-- ---- how a tuple compares with the last that is known

pub compares_none : (known : List (List ℕ)) (t : List ℕ) → length known ≡ 0 → AllBefore known t
compares_none known t none = λ k d h. absurd (omega arith)

last_before : (known : List (List ℕ)) (t last : List ℕ) → AscendStrictly known → get_or known (length known - 1) [] ≡ last → tuple_cmp last t ≡ Less → AllBefore known t
last_before known t last up is lt = λ k d h. elim (cases_eq k (length known - 1)) [
  | inl same ↦ rw (same, get_or_default known (length known - 1) d [] (omega arith), is) lt
  | inr differs ↦
      (let e : get_or known (length known - 1) d ≡ last = get_or_default known (length known - 1) d [] (omega arith) ∙ is in
      let before = sorted_at tuple_cmp known k (length known - 1) d up (omega arith) (omega arith) in
      tuples_linear.total.trans (get_or known k d) last t (subst (λ x. tuple_cmp (get_or known k d) x ≡ Less) e before) lt)
]

pub compares_last : (o : Ordering) (known : List (List ℕ)) (t last : List ℕ) → AscendStrictly known → 0 < length known → last ≡ get_or known (length known - 1) []
    → o ≡ tuple_cmp t last → ComparesLast o known t
compares_last Less known t last up some is o = tt
compares_last Equal known t last up some is o =
    (length known - 1, omega arith, get_or_default known (length known - 1) t [] (omega arith) ∙ (sym is ∙ sym (tuples_linear.equal t last (sym o))))
compares_last Greater known t last up some is o =
    last_before known t last up (sym is) (tuples_linear.total.antisymm last t ∙ ap ordering_reverse (sym o))

-- the same gathered tuples, with another last tuple at hand
pub Gathers-from : (P : List ℕ → Type 0) (a b c : Gathered) → b.known ≡ a.known → b.fresh ≡ a.fresh → b.limit ≡ a.limit → Gathers P b c → Gathers P a c
Gathers-from P a b c known fresh limit g = record {
  valid = g.valid;
  limit = g.limit ∙ limit;
  width = g.width ∙ ap (λ k. k.width) known;
  kept = λ t h. g.kept t (elim h [ inl was ↦ inl (rw known was) | inr was ↦ inr (rw fresh was) ]);
  found = g.found;
  only = λ t h. elim (g.only t h) [
    | inl was ↦ inl (elim was [ inl is ↦ inl (rw known at is) | inr is ↦ inr (rw fresh at is) ])
    | inr p ↦ inr p
  ];
}

-- the results of two steps in one
pub ok_then : (P : List ℕ → Type 0) (a b c : Gathered) (r : Result (Unit {0}) JoinFault) → Gathers P a b → OnOk r (Gathers (λ t. ⊥) b c) → OnOk r (Gathers P a c)
ok_then P a b c (Ok u) g h = Gathers-then P a b c g h
ok_then P a b c (Err e) g h = tt

pub ok_from : (P : List ℕ → Type 0) (a b c : Gathered) (r : Result (Unit {0}) JoinFault) → b.known ≡ a.known → b.fresh ≡ a.fresh → b.limit ≡ a.limit
    → OnOk r (Gathers P b c) → OnOk r (Gathers P a c)
ok_from P a b c (Ok u) known fresh limit g = Gathers-from P a b c known fresh limit g
ok_from P a b c (Err e) known fresh limit g = tt

pub ok_same : (x y : List ℕ) (a b : Gathered) (r : Result (Unit {0}) JoinFault) → x ≡ y → OnOk r (Gathers (λ t. t ≡ x) a b) → OnOk r (Gathers (λ t. t ≡ y) a b)
ok_same x y a b r e h = subst (λ z. OnOk r (Gathers (λ t. t ≡ z) a b)) e h

-- where nothing is fresh, what is known is all
pub exactly_known : (old new : Gathered) → Gathers (λ t. ⊥) old new → new.fresh ≡ [] → AreExactly (Has old) new.known.tuples
exactly_known old new g none = record {
  ascending = g.valid.ascending;
  exact = λ t. (
    λ c. elim (g.only t (inl c)) [ inl was ↦ was | inr never ↦ absurd never ],
    λ h. elim (g.kept t h) [ inl is ↦ is | inr is ↦ absurd (let gone = rw none at is in omega (arith, gone.1)) ],
  );
}

-- ---- tuples that are added one after another

-- nothing gathered yet
pub Gathers-none : (a : Gathered) → IsGathered a → Gathers (Contains []) a a
Gathers-none a v = record {
  valid = v;
  limit = refl;
  width = refl;
  kept = λ t h. h;
  found = λ t c. absurd (let at = c.1 in omega (arith, at));
  only = λ t h. inl h;
}

-- one more of a list
pub Gathers-more : (xs : List (List ℕ)) (x : List ℕ) (a b c : Gathered) → Gathers (Contains xs) a b → Gathers (λ t. t ≡ x) b c
    → Gathers (Contains (xs ++ x ∷ [])) a c
Gathers-more xs x a b c g h = record {
  valid = h.valid;
  limit = h.limit ∙ g.limit;
  width = h.width ∙ g.width;
  kept = λ t w. h.kept t (g.kept t w);
  found = λ t p. elim (Contains-push_cases xs x t p) [ inl was ↦ h.kept t (g.found t was) | inr same ↦ h.found t (sym same) ];
  only = λ t w. elim (h.only t w) [
    | inl was ↦ elim (g.only t was) [ inl old ↦ inl old | inr p ↦ inr (Contains-append_left xs (x ∷ []) t p) ]
    | inr same ↦ inr (subst (λ s. Contains (xs ++ x ∷ []) s) (sym same) (Contains-push xs x))
  ];
}

-- the fresh tuples added again as a set
pub gathers_again_all : (a b c : Gathered) (set : List (List ℕ)) → IsSetOf tuple_cmp set a.fresh → b.known ≡ a.known → b.fresh ≡ [] → b.limit ≡ a.limit
    → Gathers (Contains set) b c → Gathers (λ t. ⊥) a c
gathers_again_all a b c set is known fresh limit g = record {
  valid = g.valid;
  limit = g.limit ∙ limit;
  width = g.width ∙ ap (λ k. k.width) known;
  kept = λ t h. elim h [ inl was ↦ g.kept t (inl (rw known was)) | inr was ↦ g.found t ((is.members t).1 was) ];
  found = λ t none. absurd none;
  only = λ t h. elim (g.only t h) [
    | inl was ↦ elim was [ inl in_known ↦ inl (inl (rw known at in_known)) | inr in_fresh ↦ absurd (let gone = rw fresh at in_fresh in omega (arith, gone.1)) ]
    | inr p ↦ inl (inr ((is.members t).0 p))
  ];
}

pub over_again_all : (a b : Gathered) (set : List (List ℕ)) → IsSetOf tuple_cmp set a.fresh → b.known ≡ a.known → b.fresh ≡ [] → b.limit ≡ a.limit
    → AreMoreThan b.limit (λ t. Has b t ⊎ Contains set t) → AreMoreThan a.limit (Has a)
over_again_all a b set is known fresh limit m =
    rw (← limit) (AreMoreThan-weaker b.limit (λ t. Has b t ⊎ Contains set t) (Has a) (λ t h. elim h [
      | inl was ↦ elim was [ inl in_known ↦ inl (rw known at in_known) | inr in_fresh ↦ absurd (let gone = rw fresh at in_fresh in omega (arith, gone.1)) ]
      | inr p ↦ inr ((is.members t).0 p)
    ]) m)

-- an empty start that is valid
pub emptied : (a b : Gathered) → IsGathered a → b.known ≡ a.known → b.fresh ≡ [] → b.limit ≡ a.limit → IsGathered b
emptied a b v known fresh limit = record {
  ascending = rw known v.ascending;
  within = rw (known, limit) v.within;
  widths = rw fresh (All-nil _);
}

-- a set of tuples of one width has that width
pub set_width : (a b : Gathered) (set : List (List ℕ)) → IsGathered a → IsSetOf tuple_cmp set a.fresh → b.known ≡ a.known
    → All (λ t. length t ≡ b.known.width) set
set_width a b set v is known = λ k d h. rw known (All-contains (λ t. length t ≡ a.known.width) a.fresh (get_or set k d) v.widths ((is.members (get_or set k d)).0 (k, h, get_or_default set k (get_or set k d) d h)))

-- the front of a list with its next item
pub front_more : (tuples : List (List ℕ)) (k : ℕ) (x item : List ℕ) → k < length tuples → x ≡ item → item ≡ get_or tuples k item
    → take (k + 1) tuples ≡ take k tuples ++ x ∷ []
front_more tuples k x item h same is = take_more tuples k item h ∙ ap (λ y. take k tuples ++ y ∷ []) (sym is ∙ sym same)

-- what is over the limit after several tuples of a list, with the one that comes next
pub over_more : (tuples : List (List ℕ)) (k : ℕ) (x item : List ℕ) (a b : Gathered) → k < length tuples → x ≡ item → item ≡ get_or tuples k item
    → Gathers (Contains (take k tuples)) a b → AreMoreThan b.limit (λ t. Has b t ⊎ (t ≡ x)) → AreMoreThan a.limit (λ t. Has a t ⊎ Contains tuples t)
over_more tuples k x item a b h same is g m =
    rw (← g.limit) (AreMoreThan-weaker b.limit (λ t. Has b t ⊎ (t ≡ x)) (λ t. Has a t ⊎ Contains tuples t) (λ t w. elim w [
      | inl was ↦ elim (g.only t was) [ inl old ↦ inl old | inr p ↦ inr (in_take (λ _. 0) tuples k t p) ]
      | inr e ↦ inr (k, h, get_or_default tuples k t item h ∙ (sym is ∙ (sym same ∙ sym e)))
    ]) m)

pub ok_again_all : (a b c : Gathered) (set slice : List (List ℕ)) (r : Result (Unit {0}) JoinFault) → OnOk r (Gathers (Contains slice) b c) → slice ≡ set
    → IsSetOf tuple_cmp set a.fresh → b.known ≡ a.known → b.fresh ≡ [] → b.limit ≡ a.limit → OnOk r (Gathers (λ t. ⊥) a c)
ok_again_all a b c set slice (Ok u) g e is known fresh limit = gathers_again_all a b c set is known fresh limit (rw e at g)
ok_again_all a b c set slice (Err f) g e is known fresh limit = tt

-- ---- a step that gathers nothing more before one that does

pub ok_after : (P : List ℕ → Type 0) (a b c : Gathered) (r : Result (Unit {0}) JoinFault) → Gathers (λ t. ⊥) a b → OnOk r (Gathers P b c) → OnOk r (Gathers P a c)
ok_after P a b c (Ok u) g h = record {
  valid = h.valid;
  limit = h.limit ∙ g.limit;
  width = h.width ∙ g.width;
  kept = λ t w. h.kept t (g.kept t w);
  found = h.found;
  only = λ t w. elim (h.only t w) [
    | inl was ↦ elim (g.only t was) [ inl old ↦ inl old | inr none ↦ absurd none ]
    | inr p ↦ inr p
  ];
}
ok_after P a b c (Err e) g h = tt

pub over_after : (P : List ℕ → Type 0) (a b : Gathered) → Gathers (λ t. ⊥) a b → AreMoreThan b.limit (λ t. Has b t ⊎ P t) → AreMoreThan a.limit (λ t. Has a t ⊎ P t)
over_after P a b g m =
    rw (← g.limit) (AreMoreThan-weaker b.limit (λ t. Has b t ⊎ P t) (λ t. Has a t ⊎ P t) (λ t h. elim h [
      | inl was ↦ elim (g.only t was) [ inl old ↦ inl old | inr none ↦ absurd none ]
      | inr p ↦ inr p
    ]) m)
