-- Items picked of a list, where places of which nothing holds are passed over.
use Rattle.std.proofs.Common.{ℕ, ◌<◌, ◌≤◌, ◌⊎◌, List, length, Contains, inl, inr, arith}
use Rattle.std.specs.declared.cmp.Ordering.{Ordering}
use Rattle.std.proofs.lemmas.Bool.{cases_lt}
use Rattle.dl_hier.specs.Nodes.{StandsAt}
use Rattle.dl_hier.specs.Picking.{ArePicked}
use Rattle.dl_hier.proofs.PickLemmas.{ArePickedTo}

module _ {A : Type 0} (R : A → A → Ordering) (items : List A) (IsThat : ℕ → Type 0) where
  pub picked_skip : (i to : ℕ) (found : List A) → i ≤ to → ((k : ℕ) → i ≤ k → k < to → IsThat k → ⊥) → ArePickedTo R items IsThat i found
      → ArePickedTo R items IsThat to found
  picked_skip i to found le none old = record {
    ascending = old.ascending;
    picked = λ x c. let w = old.picked x c in (w.0, omega (arith, w.1, le), w.2, w.3);
    each = λ k x l at that. by k x l at that (cases_lt k i);
  }
    where
      by : (k : ℕ) (x : A) → k < to → StandsAt items k x → IsThat k → (k < i) ⊎ (i ≤ k) → Contains found x
      by k x l at that (inl h) = old.each k x h at that
      by k x l at that (inr h) = absurd (none k h l that)

  pub picked_last : (i : ℕ) (found : List A) → ((k : ℕ) → i ≤ k → k < length items → IsThat k → ⊥) → ArePickedTo R items IsThat i found
      → ArePicked R items IsThat found
  picked_last i found none old = record {
    ascending = old.ascending;
    exact = λ x. (
      λ c. let w = old.picked x c in (w.0, w.2, w.3),
      λ w. by x w.0 w.1 w.2 (cases_lt w.0 i),
    );
  }
    where
      by : (x : A) (k : ℕ) → StandsAt items k x → IsThat k → (k < i) ⊎ (i ≤ k) → Contains found x
      by x k at that (inl h) = old.each k x h at that
      by x k at that (inr h) = absurd (none k h at.within that)
