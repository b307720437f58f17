-- Laws of the state of a search.
use Rattle.std.proofs.Common.{◌≡◌, ◌≢◌, ℕ, ◌<◌, ◌≤◌, ◌⊎◌, Bool, true, false, cond, List, [], ◌∷◌, ◌++◌, length, take, set, get_or, Contains, sym, ap, ◌∙◌, subst, inl, inr, ⊎_elim, arith}
use Rattle.std.proofs.lemmas.List.{length-take, take-append-le, take-take, take_all, get_or-set_same, get_or-set_other, length_push}
use Rattle.std.proofs.lemmas.List.Elements.{All-push, All-append, All-weaker, All-cons, All-nil, Contains-push, Contains-append_left, Contains-append_right}
use Rattle.std.proofs.lemmas.List.Sums.{sum_by-set}
use Rattle.std.proofs.lemmas.Bool.{cases_eq}
use Rattle.dl_reach.specs.Search.{IsMarked, AreMarked, Marks}

-- a mark more
marked_same : (seen : List Bool) (node : ℕ) → node < length seen → IsMarked (set seen node true) node
marked_same seen node h = get_or-set_same seen node true false h

marked_kept : (seen : List Bool) (node k : ℕ) → node < length seen → IsMarked seen k → IsMarked (set seen node true) k
marked_kept seen node k h m =
    ⊎_elim (λ (e : k ≡ node). subst (λ (i : ℕ). IsMarked (set seen node true) i) (sym e) (marked_same seen node h)) (λ (ne : k ≢ node). get_or-set_other seen node k true false ne ∙ m) (cases_eq k node)

marked_only : (seen : List Bool) (node k : ℕ) → IsMarked (set seen node true) k → IsMarked seen k ⊎ (node ≡ k)
marked_only seen node k m =
    ⊎_elim (λ (e : k ≡ node). inr (sym e)) (λ (ne : k ≢ node). inl (sym (get_or-set_other seen node k true false ne) ∙ m)) (cases_eq k node)

AreMarked-push : (seen : List Bool) (found : List ℕ) (node : ℕ) → AreMarked seen found → node < length seen → get_or seen node false ≡ false → AreMarked (set seen node true) (found ++ node ∷ [])
AreMarked-push seen found node h in_range was = record {
  found_marked = All-push (λ k. IsMarked (set seen node true) k) found node (All-weaker (λ k. IsMarked seen k) (λ k. IsMarked (set seen node true) k) (λ k m. marked_kept seen node k in_range m) found h.found_marked) (marked_same seen node in_range);
  marked_found = λ k m. ⊎_elim (λ (w : IsMarked seen k). Contains-append_left found (node ∷ []) k (h.marked_found k w)) (λ (e : node ≡ k). subst (λ (i : ℕ). Contains (found ++ node ∷ []) i) e (Contains-push found node)) (marked_only seen node k m);
  as_many =
      let one : ◌≡◌ {A = ℕ} (cond (get_or seen node false) 1 0) 0 = ap (λ (b : Bool). cond b 1 0) was in
      let total = sum_by-set (λ (b : Bool). cond b 1 0) seen node true false in_range in
      omega (arith, length_push found node, h.as_many, total, one);
}

pub Marks-new : (seen : List Bool) (found : List ℕ) (node : ℕ) → AreMarked seen found → node < length seen → get_or seen node false ≡ false → Marks (node ∷ []) seen found (set seen node true) (found ++ node ∷ [])
Marks-new seen found node h in_range was = record {
  marked = AreMarked-push seen found node h in_range was;
  kept = λ k m. marked_kept seen node k in_range m;
  all = All-cons (λ k. IsMarked (set seen node true) k) node [] (marked_same seen node in_range) (All-nil (λ k. IsMarked (set seen node true) k));
  only = λ k m. ⊎_elim (λ (w : IsMarked seen k). inl w) (λ (e : node ≡ k). inr (subst (λ (i : ℕ). Contains (node ∷ []) i) e (Contains-push [] node))) (marked_only seen node k m);
  front = take-append-le (length found) found (node ∷ []) (omega arith) ∙ take_all (length found) found (omega arith);
}

-- the front of the front
front_joined : (a b c : List ℕ) → take (length a) b ≡ a → take (length b) c ≡ b → take (length a) c ≡ a
front_joined a b c p q =
    let short : length a ≤ length b = omega (arith, length-take (length a) b, ap length p) in
    sym (take-take (length a) (length b) c short) ∙ (ap (λ (x : List ℕ). take (length a) x) q ∙ p)

pub Marks-more : (nodes : List ℕ) (node : ℕ) (seen seen' seen'' : List Bool) (found found' found'' : List ℕ) → Marks nodes seen found seen' found' → Marks (node ∷ []) seen' found' seen'' found'' → Marks (nodes ++ node ∷ []) seen found seen'' found''
Marks-more nodes node seen seen' seen'' found found' found'' h k = record {
  marked = k.marked;
  kept = λ i m. k.kept i (h.kept i m);
  all = All-append (λ i. IsMarked seen'' i) nodes (node ∷ []) (All-weaker (λ i. IsMarked seen' i) (λ i. IsMarked seen'' i) k.kept nodes h.all) k.all;
  only = λ i m. ⊎_elim (λ (w : IsMarked seen' i). ⊎_elim (λ (v : IsMarked seen i). inl v) (λ (v : Contains nodes i). inr (Contains-append_left nodes (node ∷ []) i v)) (h.only i w)) (λ (w : Contains (node ∷ []) i). inr (Contains-append_right nodes (node ∷ []) i w)) (k.only i m);
  front = front_joined found found' found'' h.front k.front;
}
