-- A search step by step: the nodes that it has marked, and those whose edges it has followed.
use Rattle.std.proofs.Common.{◌≡◌, ℕ, ◌+◌, ◌<◌, ◌≤◌, ◌↔◌, Bool, false, List, [], ◌∷◌, ◌++◌, length, take, get_or, map, replicate, All, Contains, sym, ap, ◌∙◌, subst, ⊎_elim, arith}
use Rattle.std.proofs.lemmas.List.{take-take, take_all, take_more, get_or-map, length-map, length-take, get_or-replicate, length-replicate, get_or_past}
use Rattle.std.proofs.lemmas.List.Elements.{All-contains, Contains-push_cases, Contains-get_or}
use Rattle.std.proofs.lemmas.Bool.{cases_lt, false≢true}
use Rattle.dl_reach.specs.Chain.{Chain}
use Rattle.dl_reach.specs.Digraph.{Leads}
use Rattle.dl_reach.specs.Search.{IsMarked, AreMarked, Marks}
use Rattle.dl_reach.proofs.Chains.{Chain-refl, Chain-snoc, Chain-keeps}

-- a search from a node that has followed the edges of the first `next` found nodes
pub record Searched (nodes : ℕ) (edges : List (ℕ × ℕ)) (from : ℕ) (seen : List Bool) (found : List ℕ) (next : ℕ) : Type 0 where
  pub len : length seen ≡ nodes
  pub marked : AreMarked seen found
  pub start : IsMarked seen from
  pub sound : (node : ℕ) → IsMarked seen node → Chain (Leads edges) from node
  pub followed : (a b : ℕ) → Contains (take next found) a → Leads edges a b → IsMarked seen b
  pub bound : next ≤ length found

Contains-map : {X : Type 0} (f : X → ℕ) (xs : List X) (x : X) → Contains xs x → Contains (map f xs) (f x)
Contains-map f xs x w = (w.0, omega (arith, length-map xs f, w.1), get_or-map f xs w.0 x (f x) w.1 ∙ ap f w.2)

Contains-from_map : {X : Type 0} (f : X → ℕ) (d : X) (xs : List X) (y : ℕ) → Contains (map f xs) y → (x : X) × Contains xs x × (f x ≡ y)
Contains-from_map f d xs y w =
    let k : w.0 < length xs = omega (arith, length-map xs f, w.1) in
    (get_or xs w.0 d, Contains-get_or xs w.0 d k, sym (get_or-map f xs w.0 d y k) ∙ w.2)

Contains-one : (x y : ℕ) → Contains (x ∷ []) y → x ≡ y
Contains-one x y w = ⊎_elim (λ (h : Contains [] y). absurd (omega (arith, h.1))) (λ (e : x ≡ y). e) (Contains-push_cases [] x y w)

none_marked : (n node : ℕ) → IsMarked (replicate n false) node → ⊥
none_marked n node m =
    ⊎_elim (λ (h : node < n). false≢true (sym (get_or-replicate n node false false h) ∙ m)) (λ (h : n ≤ node). false≢true (sym (get_or_past (replicate n false) node false (omega (arith, length-replicate n false))) ∙ m)) (cases_lt node n)

pub Searched-start : (nodes : ℕ) (edges : List (ℕ × ℕ)) (from : ℕ) (fresh seen : List Bool) (found : List ℕ) → fresh ≡ replicate nodes false → length seen ≡ length fresh → Marks (from ∷ []) fresh [] seen found → Searched nodes edges from seen found 0
Searched-start nodes edges from fresh seen found is same h = record {
  len = same ∙ (ap (λ (x : List Bool). length x) is ∙ length-replicate nodes false);
  marked = h.marked;
  start = h.all 0 0 (omega arith);
  sound = λ node m.
      ⊎_elim (λ (w : IsMarked fresh node). absurd (none_marked nodes node (subst (λ (x : List Bool). IsMarked x node) is w))) (λ (w : Contains (from ∷ []) node). subst (λ (x : ℕ). Chain (Leads edges) from x) (Contains-one from node w) (Chain-refl (Leads edges) from)) (h.only node m);
  followed = λ a b w l. absurd (omega (arith, w.1));
  bound = omega arith;
}

pub Searched-more : (nodes : ℕ) (edges : List (ℕ × ℕ)) (from : ℕ) (seen seen' : List Bool) (found found' : List ℕ) (next node : ℕ) (out : List (ℕ × ℕ)) → Searched nodes edges from seen found next → next < length found → node ≡ get_or found next node → ((e : ℕ × ℕ) → Contains out e ↔ (Contains edges e × (e.0 ≡ node))) → Marks (map (λ e. e.1) out) seen found seen' found' → length seen' ≡ length seen → Searched nodes edges from seen' found' (next + 1)
Searched-more nodes edges from seen seen' found found' next node out s here is leaves k same =
    let node_marked : IsMarked seen node = subst (λ (x : ℕ). IsMarked seen x) (sym is) (s.marked.found_marked next node here) in
    let to_node : Chain (Leads edges) from node = s.sound node node_marked in
    record {
      len = same ∙ s.len;
      marked = k.marked;
      start = k.kept from s.start;
      sound = λ i m.
          ⊎_elim (λ (w : IsMarked seen i). s.sound i w)
          (λ (w : Contains (map (λ (e : ℕ × ℕ). e.1) out) i).
          let x = Contains-from_map (λ (e : ℕ × ℕ). e.1) (0, 0) out i w in
          let y = (leaves x.0).0 x.1 in
          let first = subst (λ (p : ℕ). Contains edges (p, x.0.1)) y.1 y.0 in
          let step : Leads edges node i = subst (λ (q : ℕ). Contains edges (node, q)) x.2 first in
          Chain-snoc (Leads edges) from node i to_node step)
          (k.only i m);
      followed = λ a b w l.
          let short : next + 1 ≤ length found = omega arith in
          let old : take (next + 1) found' ≡ take (next + 1) found = sym (take-take (next + 1) (length found) found' short) ∙ ap (λ (x : List ℕ). take (next + 1) x) k.front in
          let last : take (next + 1) found ≡ take next found ++ get_or found next node ∷ [] = take_more found next node here in
          let among = subst (λ (x : List ℕ). Contains x a) (old ∙ last) w in
          ⊎_elim (λ (v : Contains (take next found) a). k.kept b (s.followed a b v l))
          (λ (v : get_or found next node ≡ a).
          let leaving : Contains out (a, b) = (leaves (a, b)).1 (l, sym (is ∙ v)) in
          All-contains (λ i. IsMarked seen' i) (map (λ (e : ℕ × ℕ). e.1) out) b k.all (Contains-map (λ (e : ℕ × ℕ). e.1) out (a, b) leaving))
          (Contains-push_cases (take next found) (get_or found next node) a among);
      bound = omega (arith, length-take (length found) found', ap (λ (x : List ℕ). length x) k.front);
    }

-- a search that followed the edges of all found nodes has marked exactly the nodes that chains lead to
pub Searched-end : (nodes : ℕ) (edges : List (ℕ × ℕ)) (from : ℕ) (seen : List Bool) (found : List ℕ) (next : ℕ) → Searched nodes edges from seen found next → length found ≤ next → (node : ℕ) → IsMarked seen node ↔ Chain (Leads edges) from node
Searched-end nodes edges from seen found next s all node = (
  λ m. s.sound node m,
  λ h. Chain-keeps (Leads edges) (λ i. IsMarked seen i) (λ a b l m. s.followed a b (subst (λ (x : List ℕ). Contains x a) (sym (take_all next found all)) (s.marked.marked_found a m)) l) from node h s.start,
)

-- the ends of the edges of a node are nodes
pub leaving_below : (nodes : ℕ) (edges out : List (ℕ × ℕ)) (node : ℕ) → All (λ (e : ℕ × ℕ). (e.0 < nodes) × (e.1 < nodes)) edges → ((e : ℕ × ℕ) → Contains out e ↔ (Contains edges e × (e.0 ≡ node))) → All (λ (e : ℕ × ℕ). e.1 < nodes) out
leaving_below nodes edges out node ends leaves = λ k d h.
    let among = (leaves (get_or out k d)).0 (Contains-get_or out k d h) in
    (All-contains (λ (e : ℕ × ℕ). (e.0 < nodes) × (e.1 < nodes)) edges (get_or out k d) ends among.0).1
