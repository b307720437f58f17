-- Laws of uniting rows along pairs until nothing changes.
use Rattle.std.proofs.Common.{◌≡◌, ℕ, ◌-◌, ◌*◌, ◌^◌, ◌<◌, ◌≤◌, ◌⊎◌, ◌↔◌, Bool, true, false, List, [], ◌∷◌, ◌++◌, length, get_or, sum, All, Contains, MatchBool, refl, sym, ap, ◌∙◌, subst, inl, inr, ⊎_elim, arith}
use Rattle.std.proofs.lemmas.Bool.{false≢true, cases_Bool}
use Rattle.std.proofs.lemmas.List.Elements.{All-nil, All-push, All-contains, All-from_get_or, Contains-push, Contains-push_cases, Contains-append_left}
use Rattle.std.proofs.lemmas.List.Sums.{sum_by-le}
use Rattle.dl_reach.specs.Chain.{Chain}
use Rattle.dl_reach.specs.Digraph.{Leads}
use Rattle.dl_reach.specs.Matrix.{HasBit, Extends, IsFollowed}
use Rattle.dl_reach.proofs.Chains.{Chain-refl, Chain-step, Chain-cons, Chain-mono, Chain-least}

pub Extends-refl : (width : ℕ) (words : List ℕ) → Extends width words words
Extends-refl width words = record {
  kept = λ a b h. h;
  chained = λ a b h. Chain-step (HasBit words width) a b h;
}

pub Extends-trans : (width : ℕ) (xs ys zs : List ℕ) → Extends width xs ys → Extends width ys zs → Extends width xs zs
Extends-trans width xs ys zs p q = record {
  kept = λ a b h. q.kept a b (p.kept a b h);
  chained = λ a b h. Chain-mono (HasBit ys width) (HasBit xs width) p.chained a b (q.chained a b h);
}

-- a row that has the bit of another gains the bits of the other
pub Extends-united : (width row other : ℕ) (old new : List ℕ) → HasBit old width row other → ((a b : ℕ) → HasBit new width a b ↔ (HasBit old width a b ⊎ ((a ≡ row) × HasBit old width other b))) → Extends width old new
Extends-united width row other old new has bits = record {
  kept = λ a b h. (bits a b).1 (inl h);
  chained = λ a b h.
      ⊎_elim (λ (s : HasBit old width a b). Chain-step (HasBit old width) a b s)
      (λ (w : (a ≡ row) × HasBit old width other b).
      subst (λ (x : ℕ). Chain (HasBit old width) x b) (sym w.0) (Chain-cons (HasBit old width) row other b has (Chain-step (HasBit old width) other b w.1)))
      ((bits a b).0 h);
}

-- the pairs so far are followed once each
pub record Followed (width : ℕ) (old new : List ℕ) (pairs : List (ℕ × ℕ)) (changed : Bool) : Type 0 where
  pub extends : Extends width old new
  pub rose : changed ≡ true → sum old < sum new
  pub same : changed ≡ false → new ≡ old
  pub all : changed ≡ false → All (λ p. IsFollowed old width p.0 p.1) pairs

-- no pair was followed yet
pub Followed-none : (width : ℕ) (words : List ℕ) → Followed width words words [] false
Followed-none width words = record {
  extends = Extends-refl width words;
  rose = λ t. absurd (false≢true t);
  same = λ _. refl;
  all = λ _. All-nil (λ p. IsFollowed words width p.0 p.1);
}

-- one pair more, which changed something
pub Followed-rose : (width : ℕ) (old new next : List ℕ) (pairs : List (ℕ × ℕ)) (pair : ℕ × ℕ) (changed : Bool) → Followed width old new pairs changed → Extends width new next → sum new < sum next → Followed width old next (pairs ++ pair ∷ []) true
Followed-rose width old new next pairs pair changed h e up = record {
  extends = Extends-trans width old new next h.extends e;
  rose = λ _.
      ⊎_elim (λ (t : changed ≡ true). let r = h.rose t in omega arith) (λ (f : changed ≡ false). let r = ap (λ (x : List ℕ). sum x) (h.same f) in omega arith) (cases_Bool changed);
  same = λ f. absurd (false≢true (sym f));
  all = λ f. absurd (false≢true (sym f));
}

-- one pair more, which changed nothing
pub Followed-same : (width : ℕ) (old new next : List ℕ) (pairs : List (ℕ × ℕ)) (pair : ℕ × ℕ) (changed : Bool) → Followed width old new pairs changed → Extends width new next → next ≡ new → IsFollowed new width pair.0 pair.1 → Followed width old next (pairs ++ pair ∷ []) changed
Followed-same width old new next pairs pair changed h e kept followed = record {
  extends = Extends-trans width old new next h.extends e;
  rose = λ t. subst (λ (x : List ℕ). sum old < sum x) (sym kept) (h.rose t);
  same = λ f. kept ∙ h.same f;
  all = λ f. All-push (λ p. IsFollowed old width p.0 p.1) pairs pair (h.all f) (subst (λ (x : List ℕ). IsFollowed x width pair.0 pair.1) (h.same f) followed);
}

pub Followed-end : (width : ℕ) (old new : List ℕ) (pairs : List (ℕ × ℕ)) (changed : Bool) → Followed width old new pairs changed → MatchBool changed (sum old < sum new) ((new ≡ old) × All (λ p. IsFollowed old width p.0 p.1) pairs)
Followed-end width old new pairs true h = h.rose refl
Followed-end width old new pairs false h = (h.same refl, h.all refl)

-- the bits of one pair more
pub bits_more : (width : ℕ) (old new next : List ℕ) (pairs : List (ℕ × ℕ)) (pair : ℕ × ℕ) → ((a b : ℕ) → HasBit new width a b ↔ (HasBit old width a b ⊎ Contains pairs (a, b))) → ((a b : ℕ) → HasBit next width a b ↔ (HasBit new width a b ⊎ ((a ≡ pair.0) × (b ≡ pair.1)))) → (a b : ℕ) → HasBit next width a b ↔ (HasBit old width a b ⊎ Contains (pairs ++ pair ∷ []) (a, b))
bits_more width old new next pairs pair had gains a b = (
  λ h.
      ⊎_elim
      (λ (s : HasBit new width a b). ⊎_elim (λ (o : HasBit old width a b). inl o) (λ (w : Contains pairs (a, b)). inr (Contains-append_left pairs (pair ∷ []) (a, b) w)) ((had a b).0 s))
      (λ (w : (a ≡ pair.0) × (b ≡ pair.1)). inr (subst (λ (x : ℕ). Contains (pairs ++ pair ∷ []) (x, b)) (sym w.0) (subst (λ (y : ℕ). Contains (pairs ++ pair ∷ []) (pair.0, y)) (sym w.1) (Contains-push pairs pair))))
      ((gains a b).0 h),
  λ s.
      ⊎_elim
      (λ (o : HasBit old width a b). (gains a b).1 (inl ((had a b).1 (inl o))))
      (λ (w : Contains (pairs ++ pair ∷ []) (a, b)).
      ⊎_elim
      (λ (v : Contains pairs (a, b)). (gains a b).1 (inl ((had a b).1 (inr v))))
      (λ (e : pair ≡ (a, b)). (gains a b).1 (inr (sym (ap (λ (p : ℕ × ℕ). p.0) e), sym (ap (λ (p : ℕ × ℕ). p.1) e))))
      (Contains-push_cases pairs pair (a, b) w))
      s,
)

-- words that lack no bit of the empty chains and the edges, and have only chains, and follow the edges, have all chains
pub closed_has_chains : (width nodes : ℕ) (edges : List (ℕ × ℕ)) (start closed : List ℕ) → All (λ e. (e.0 < nodes) × (e.1 < nodes)) edges → ((a b : ℕ) → HasBit start width a b ↔ (((a ≡ b) × (a < nodes)) ⊎ Contains edges (a, b))) → Extends width start closed → All (λ e. IsFollowed closed width e.0 e.1) edges → (a b : ℕ) → a < nodes → HasBit closed width a b ↔ Chain (Leads edges) a b
closed_has_chains width nodes edges start closed ends bits grown followed a b inside = (
  λ h. Chain-mono (HasBit start width) (Leads edges) (λ x y s. ⊎_elim (λ (w : (x ≡ y) × (x < nodes)). subst (λ (z : ℕ). Chain (Leads edges) x z) w.0 (Chain-refl (Leads edges) x)) (λ (w : Contains edges (x, y)). Chain-step (Leads edges) x y w) ((bits x y).0 s)) a b (grown.chained a b h),
  λ h.
      Chain-least (Leads edges) (λ x y. x < nodes → HasBit closed width x y)
      (λ x l. grown.kept x x ((bits x x).1 (inl (refl, l))))
      (λ x y z step rest l.
      let has : HasBit closed width x y = grown.kept x y ((bits x y).1 (inr step)) in
      let below : y < nodes = (All-contains (λ e. (e.0 < nodes) × (e.1 < nodes)) edges (x, y) ends step).1 in
      let along = All-contains (λ e. IsFollowed closed width e.0 e.1) edges (x, y) followed step in
      along.follows has z (rest below))
      a b h inside,
)

-- a sum of words that rises comes nearer to its largest value
pub less_room : (old new : List ℕ) → length new ≡ length old → ((k : ℕ) → get_or new k 0 < 18446744073709551616) → sum old < sum new → length new * 2 ^ 64 - sum new < length old * 2 ^ 64 - sum old
less_room old new same fit rises =
    let most = sum_by-le (λ (x : ℕ). x) 18446744073709551615 new (All-from_get_or (λ x. x ≤ 18446744073709551615) new 0 (λ k h. let w = fit k in omega arith)) in
    omega arith

-- the bits of the empty chains and the edges
pub start_bits : (width nodes : ℕ) (edges : List (ℕ × ℕ)) (none diagonal start : List ℕ) → ((a b : ℕ) → HasBit none width a b → ⊥) → ((a b : ℕ) → HasBit diagonal width a b ↔ (HasBit none width a b ⊎ ((a ≡ b) × (a < nodes)))) → ((a b : ℕ) → HasBit start width a b ↔ (HasBit diagonal width a b ⊎ Contains edges (a, b))) → (a b : ℕ) → HasBit start width a b ↔ (((a ≡ b) × (a < nodes)) ⊎ Contains edges (a, b))
start_bits width nodes edges none diagonal start empty own among a b = (
  λ h.
      ⊎_elim (λ (s : HasBit diagonal width a b). ⊎_elim (λ (n : HasBit none width a b). absurd (empty a b n)) (λ (w : (a ≡ b) × (a < nodes)). inl w) ((own a b).0 s))
      (λ (w : Contains edges (a, b)). inr w) ((among a b).0 h),
  λ s.
      ⊎_elim (λ (w : (a ≡ b) × (a < nodes)). (among a b).1 (inl ((own a b).1 (inr w)))) (λ (w : Contains edges (a, b)). (among a b).1 (inr w)) s,
)
