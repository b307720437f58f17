-- Rows of roles from which a role of another row is reached: in one step, and by chains.
use Rattle.std.proofs.Common.{◌≡◌, ℕ, ◌+◌, ◌*◌, ◌<◌, ◌≤◌, ◌⊎◌, ◌↔◌, inl, inr, Bool, true, false, not, cond, List, length, set, get_or, refl, sym, ap, subst, ◌∙◌, arith, get_or-set_other}
use Rattle.std.specs.List.{Contains, count_by}
use Rattle.std.specs.List.Sorted.{IsStrictlySortedBy}
use Rattle.std.proofs.lemmas.List.Sums.{sum_by-set}
use Rattle.std.proofs.lemmas.Bool.{cases_eq, cases_lt}
use Rattle.std.proofs.lemmas.List.{get_or_default}
use Rattle.std.proofs.lemmas.List.Elements.{Contains-get_or}
use Rattle.dl_terms.specs.Chain.{Chain, empty, step}
use Rattle.dl_terms.specs.Order.{role_cmp}
use Rattle.dl_terms.specs.Roles.{named, inverse_of}
use Rattle.dl_terms.specs.Below.{ConceptBelow}
use Rattle.dl_terms.specs.declared.role.Role.{Role}
use Rattle.dl_terms.specs.declared.role.Basic.TheVariants.{SomeOf}
use Rattle.dl_terms.specs.declared.axiom.Axiom.{Axiom}
use Rattle.dl_terms.proofs.OrderLemmas.{roles_linear}
use Rattle.dl_hier.specs.Predicates.{Predicates, roles}
use Rattle.dl_hier.proofs.SortedLemmas.{one_index}
use Rattle.dl_hier.proofs.PredicateLemmas.{inverse-known}
use Rattle.dl_tree.specs.Below.{MayFollow}
use Rattle.dl_reach.specs.Rows.{row_has}
use Rattle.dl_tree.specs.Rows.{role_at, HasBit, IsMarked, TellsRow, ChainLeadsTo}
use Rattle.dl_tree.proofs.FoldLemmas.{not_both}
use Rattle.dl_tree.proofs.RowLemmas.{TellsRow-same}

-- what may follow a role of the hierarchy is one
pub follower_known : (p : Predicates) (axioms : List Axiom)
    → ((r s : Role) → ConceptBelow axioms (SomeOf r) (SomeOf s) → (r ≡ s) ⊎ (Contains (roles p) r × Contains (roles p) s))
    → (t u : Role) → MayFollow axioms t u → Contains (roles p) t → Contains (roles p) u
follower_known p axioms known t u follow c = by (known (inverse_of t) u follow)
  where
    by : (inverse_of t ≡ u) ⊎ (Contains (roles p) (inverse_of t) × Contains (roles p) u) → Contains (roles p) u
    by (inl e) = subst (Contains (roles p)) e (inverse-known p t c)
    by (inr k) = k.1

module _ (axioms : List Axiom) (rs : List Role) (row : List ℕ) where
  -- one of the first m roles of the row may follow
  abbrev pub LeadsBelow : ℕ → ℕ → Type 0
  LeadsBelow m i = (k : ℕ) × (k < m) × HasBit row k × MayFollow axioms (role_at rs i) (role_at rs k)

  pub lead_first : (n : ℕ) (found : List ℕ) → n ≤ 64 * length found → ((i : ℕ) → row_has found i ≡ false) → TellsRow n (LeadsBelow 0) found
  lead_first n found wide none = record {
    as_many = wide;
    each = λ i l. (λ h. absurd (not_both h (none i)), λ h. let k = h.1 in absurd (omega (arith, k)));
  }

  -- places without bits are passed over
  pub lead_skip : (n m to : ℕ) (found : List ℕ) → m ≤ to → ((k : ℕ) → m ≤ k → k < to → HasBit row k → ⊥) → TellsRow n (LeadsBelow m) found
      → TellsRow n (LeadsBelow to) found
  lead_skip n m to found le none told = TellsRow-same (LeadsBelow m) (LeadsBelow to) n found
      (λ i l. (λ h. (h.0, (let k = h.1 in omega (arith, k, le)), h.2, h.3), λ h. by i h (cases_lt h.0 m))) told
    where
      by : (i : ℕ) (h : LeadsBelow to i) → (h.0 < m) ⊎ (m ≤ h.0) → LeadsBelow m i
      by i h (inl k) = (h.0, k, h.2, h.3)
      by i h (inr k) = absurd (none h.0 k h.1 h.2)

  pub lead_told : (n m : ℕ) (slice found new : List ℕ) (list : List Role) → slice ≡ found → list ≡ rs
      → TellsRow n (λ i. HasBit slice i ⊎ MayFollow axioms (role_at rs i) (role_at list m)) new
      → TellsRow n (λ i. HasBit found i ⊎ MayFollow axioms (role_at rs i) (role_at rs m)) new
  lead_told n m slice found new list e f told =
      subst (λ z. TellsRow n (λ i. HasBit z i ⊎ MayFollow axioms (role_at rs i) (role_at rs m)) new) e
      (subst (λ z. TellsRow n (λ i. HasBit slice i ⊎ MayFollow axioms (role_at rs i) (role_at z m)) new) f told)

  pub lead_next : (n m : ℕ) (found new : List ℕ) → HasBit row m → TellsRow n (LeadsBelow m) found
      → TellsRow n (λ i. HasBit found i ⊎ MayFollow axioms (role_at rs i) (role_at rs m)) new → TellsRow n (LeadsBelow (m + 1)) new
  lead_next n m found new bit told more = TellsRow-same _ (LeadsBelow (m + 1)) n new same more
    where
      cases : (k m : ℕ) → k < m + 1 → (k < m) ⊎ (k ≡ m)
      cases k m l = grind arith

      same : (i : ℕ) → i < n → (HasBit found i ⊎ MayFollow axioms (role_at rs i) (role_at rs m)) ↔ LeadsBelow (m + 1) i
      same i l = (forth, λ h. back h (cases h.0 m h.1))
        where
          forth : HasBit found i ⊎ MayFollow axioms (role_at rs i) (role_at rs m) → LeadsBelow (m + 1) i
          forth (inl h) = let w = (told.each i l).0 h in (w.0, (let k = w.1 in omega (arith, k)), w.2, w.3)
          forth (inr f) = (m, omega arith, bit, f)

          back : (h : LeadsBelow (m + 1) i) → (h.0 < m) ⊎ (h.0 ≡ m) → HasBit found i ⊎ MayFollow axioms (role_at rs i) (role_at rs m)
          back h (inl k) = inl ((told.each i l).1 (h.0, k, h.2, h.3))
          back h (inr e) = inr (subst (λ k. MayFollow axioms (role_at rs i) (role_at rs k)) e h.3)

  -- ---- chains

  -- how far the search is: what is found leads to the row, and of what is done all that it may follow are found
  pub record Searches (done : List Bool) (found : List ℕ) : Type 0 where
    pub as_many : length rs ≤ 64 * length found
    pub sound : (i : ℕ) → i < length rs → HasBit found i → ChainLeadsTo axioms rs row i
    pub kept : (i : ℕ) → i < length rs → HasBit row i → HasBit found i
    pub closed : (i k : ℕ) → i < length rs → k < length rs → IsMarked done k → MayFollow axioms (role_at rs i) (role_at rs k) → HasBit found i

  pub search_first : (done : List Bool) (found : List ℕ) → TellsRow (length rs) (HasBit row) found → ((i : ℕ) → get_or done i false ≡ false) → Searches done found
  search_first done found told none = record {
    as_many = told.as_many;
    sound = λ i l h. (i, l, (told.each i l).0 h, empty);
    kept = λ i l h. (told.each i l).1 h;
    closed = λ i k l m h. absurd (not_both h (none k));
  }

  pub search_next : (done : List Bool) (found new : List ℕ) (m : ℕ) → m < length rs → m < length done → HasBit found m → Searches done found
      → TellsRow (length rs) (λ i. HasBit found i ⊎ MayFollow axioms (role_at rs i) (role_at rs m)) new → Searches (set done m true) new
  search_next done found new m within within_done bit old more = record {
    as_many = more.as_many;
    sound = λ i l h. sound i l ((more.each i l).0 h);
    kept = λ i l h. (more.each i l).1 (inl (old.kept i l h));
    closed = λ i k l j h f. (more.each i l).1 (closed i k l j h f (cases_eq k m));
  }
    where
      sound : (i : ℕ) → i < length rs → HasBit found i ⊎ MayFollow axioms (role_at rs i) (role_at rs m) → ChainLeadsTo axioms rs row i
      sound i l (inl h) = old.sound i l h
      sound i l (inr f) = let w = old.sound m within bit in (w.0, w.1, w.2, step f w.3)

      closed : (i k : ℕ) → i < length rs → k < length rs → IsMarked (set done m true) k → MayFollow axioms (role_at rs i) (role_at rs k)
          → (k ≡ m) ⊎ (k ≡ m → ⊥) → HasBit found i ⊎ MayFollow axioms (role_at rs i) (role_at rs m)
      closed i k l j h f (inl e) = inr (subst (λ z. MayFollow axioms (role_at rs i) (role_at rs z)) e f)
      closed i k l j h f (inr n) = inl (old.closed i k l j (sym (get_or-set_other done m k true false n) ∙ h) f)

  -- a role that is found
  abbrev IsFound : List ℕ → Role → Type 0
  IsFound found t = (i : ℕ) × (i < length rs) × (role_at rs i ≡ t) × HasBit found i

  pub search_done : (done : List Bool) (found : List ℕ) → IsStrictlySortedBy role_cmp rs
      → ((t u : Role) → MayFollow axioms t u → Contains rs t → Contains rs u)
      → ((i : ℕ) → i < length rs → HasBit found i → IsMarked done i) → Searches done found → TellsRow (length rs) (ChainLeadsTo axioms rs row) found
  search_done done found ascending known all s = record {
    as_many = s.as_many;
    each = λ i l. (s.sound i l, λ h. found_at i l (back h.3 (Contains-get_or rs i (named 0) l) (h.0, h.1, refl, s.kept h.0 h.1 h.2)));
  }
    where
      back : {t u : Role} → Chain (MayFollow axioms) t u → Contains rs t → IsFound found u → IsFound found t
      back empty c f = f
      back (step {a = t} {b = v} follow chain) c f =
          let w = back chain (known t v follow c) f in
          let e : role_at rs c.0 ≡ t = read c in (
            c.0,
            c.1,
            e,
            s.closed c.0 w.0 c.1 w.1 (all w.0 w.1 w.3)
                (subst (λ z. MayFollow axioms z (role_at rs w.0)) (sym e) (subst (MayFollow axioms t) (sym w.2) follow)),
          )
        where
          read : {t : Role} → (c : Contains rs t) → role_at rs c.0 ≡ t
          read {t} c = get_or_default rs c.0 (named 0) t c.1 ∙ c.2

      found_at : (i : ℕ) → i < length rs → IsFound found (role_at rs i) → HasBit found i
      found_at i l f = subst (HasBit found) (one_index roles_linear.total rs ascending (named 0) f.0 i f.1 l f.2) f.3

-- one mark more is one role less that may still be marked
abbrev as_one : Bool → ℕ
as_one x = cond (not x) 1 0

pub count_after : (done : List Bool) (i : ℕ) → i < length done → get_or done i false ≡ false → count_by not (set done i true) < count_by not done
count_after done i h unmarked =
    let was : as_one (get_or done i false) ≡ 1 = ap as_one unmarked in
    omega (arith, sum_by-set as_one done i true false h, was)
