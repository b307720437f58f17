-- Lists of edges that are sorted by their first node.
use Rattle.std.proofs.Common.{◌≡◌, ℕ, ◌+◌, ◌-◌, ◌<◌, ◌≤◌, ◌↔◌, ◌++◌, Bool, true, false, cond, List, length, take, drop, get_or, Contains, sym, ap, ◌∙◌, ⊎_elim, arith}
use Rattle.std.specs.List.{AllWithin}
use Rattle.std.proofs.lemmas.List.{length-take, length-drop, get_or-take, get_or-drop}
use Rattle.std.proofs.lemmas.List.Elements.{All-append, All-contains, Contains-get_or}
use Rattle.std.proofs.lemmas.Bool.{cases_lt}
use Rattle.dl_reach.specs.Digraph.{EndsBelow}

module _ (xs : List (ℕ × ℕ)) (lo hi node : ℕ) (fits : hi ≤ length xs) where
  part_length : length (take (hi - lo) (drop lo xs)) ≡ hi - lo
  part_length = omega (arith, length-take (hi - lo) (drop lo xs), length-drop lo xs)

  part_at : (k : ℕ) (d : ℕ × ℕ) → k < hi - lo → get_or (take (hi - lo) (drop lo xs)) k d ≡ get_or xs (lo + k) d
  part_at k d h = get_or-take (hi - lo) (drop lo xs) k d h ∙ get_or-drop lo xs k d

  -- the part from the first edge of a node to the first edge of a later node has the edges of that node
  pub Contains-part : AllWithin (λ e. e.0 < node) xs 0 lo → AllWithin (λ e. node ≤ e.0) xs lo (length xs) → AllWithin (λ e. e.0 < node + 1) xs 0 hi → AllWithin (λ e. node + 1 ≤ e.0) xs hi (length xs) → (e : ℕ × ℕ) → Contains (take (hi - lo) (drop lo xs)) e ↔ (Contains xs e × (e.0 ≡ node))
  Contains-part below from low high e = (
    λ w.
        let k : w.0 < hi - lo = omega (arith, w.1, part_length) in
        let at : get_or xs (lo + w.0) e ≡ e = sym (part_at w.0 e k) ∙ w.2 in
        let is : (get_or xs (lo + w.0) e).0 ≡ e.0 = ap (λ (p : ℕ × ℕ). p.0) at in
        let l : node ≤ (get_or xs (lo + w.0) e).0 = from (lo + w.0) e (omega arith) (omega arith) in
        let h : (get_or xs (lo + w.0) e).0 < node + 1 = low (lo + w.0) e (omega arith) (omega arith) in
        ((lo + w.0, omega arith, at), omega arith),
    λ w.
        let at : get_or xs w.0.0 e ≡ e = w.0.2 in
        let is : (get_or xs w.0.0 e).0 ≡ e.0 = ap (λ (p : ℕ × ℕ). p.0) at in
        let k : w.0.0 < length xs = w.0.1 in
        let n : e.0 ≡ node = w.1 in
        let least : lo ≤ w.0.0 = ⊎_elim (λ (h : w.0.0 < lo). let b = below w.0.0 e (omega arith) h in omega arith) (λ (h : lo ≤ w.0.0). h) (cases_lt w.0.0 lo) in
        let most : w.0.0 < hi = ⊎_elim (λ (h : w.0.0 < hi). h) (λ (h : hi ≤ w.0.0). let b = high w.0.0 e h k in omega arith) (cases_lt w.0.0 hi) in
        let back : lo + (w.0.0 - lo) ≡ w.0.0 = omega arith in
        let short : w.0.0 - lo < hi - lo = omega arith in
        (w.0.0 - lo, omega (arith, part_length), part_at (w.0.0 - lo) e short ∙ (ap (λ (i : ℕ). get_or xs i e) back ∙ at)),
  )

-- the edges of a node begin before those of the next
pub start_le_end : (xs : List (ℕ × ℕ)) (lo hi node : ℕ) → lo ≤ length xs → AllWithin (λ e. e.0 < node) xs 0 lo → AllWithin (λ e. node + 1 ≤ e.0) xs hi (length xs) → lo ≤ hi
start_le_end xs lo hi node fits below high =
    ⊎_elim (λ (h : hi < lo). let b = below hi (0, 0) (omega arith) h in let a = high hi (0, 0) (omega arith) (omega arith) in omega arith) (λ (h : lo ≤ hi). h) (cases_lt hi lo)

-- some of the edges have their ends below, too
pub ends_from : (nodes : ℕ) (edges out : List (ℕ × ℕ)) (node : ℕ) → EndsBelow nodes edges → ((e : ℕ × ℕ) → Contains out e ↔ (Contains edges e × (e.0 ≡ node))) → EndsBelow nodes out
ends_from nodes edges out node ends leaves = λ k d h.
    let among = (leaves (get_or out k d)).0 (Contains-get_or out k d h) in
    All-contains (λ (e : ℕ × ℕ). (e.0 < nodes) × (e.1 < nodes)) edges (get_or out k d) ends among.0

-- pairs with their ends below, with more or, where memory failed, without
pub ends_more : (nodes : ℕ) (pairs more all : List (ℕ × ℕ)) (stored : Bool) → all ≡ cond stored (pairs ++ more) pairs → EndsBelow nodes pairs → EndsBelow nodes more → EndsBelow nodes all
ends_more nodes pairs more all true e p q = rw e (All-append (λ (e : ℕ × ℕ). (e.0 < nodes) × (e.1 < nodes)) pairs more p q)
ends_more nodes pairs more all false e p q = rw e p
