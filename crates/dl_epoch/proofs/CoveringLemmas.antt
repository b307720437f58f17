-- The entry that covers a version, searched from the last one on.
use Rattle.std.proofs.Common.{◌≡◌, ℕ, zero, suc, ◌-◌, ◌<◌, ◌≤◌, ◌⊎◌, Bool, true, false, cond, nat_le, List, [], ◌∷◌, map, length, get_or, Some, None, refl, sym, ap, ap₂, subst, ◌∙◌, inl, inr, arith}
use Rattle.std.specs.List.{Any, AllPairs}
use Rattle.std.proofs.lemmas.Bool.{cases_order, le-leb, lt-leb}
use Rattle.std.proofs.lemmas.List.{get_or-map, length-map}
use Rattle.dl_row.specs.Lists.{last_where, first_some}
use Rattle.dl_row.specs.Rows.{Epoch, covering}
use Rattle.dl_epoch.specs.Covering.{Kept, kept, epoch_in, CoversAt}
use Rattle.dl_epoch.specs.declared.entry.Entry.{Entry}

-- a search from the end: no entry behind a place begins by the version
pub record Looks (entries : List Kept) (version place : ℕ) : Type 0 where
  pub inside : place < length entries
  pub later : (k : ℕ) (d : Kept) → place < k → k < length entries → version < (get_or entries k d).first

pub Looks-last : (entries : List Kept) (version : ℕ) → Any (λ e. e.first ≤ version) entries → Looks entries version (length entries - 1)
Looks-last entries version one = record {
  inside = let h = one.2 in omega arith;
  later = λ k d gt lt. absurd (omega arith);
}

-- where the entry at the place begins later, some entry is before it
pub Looks-before : (entries : List Kept) (version place : ℕ) → Any (λ e. e.first ≤ version) entries → Looks entries version place
    → ((d : Kept) → version < (get_or entries place d).first) → (1 ≤ place) × Looks entries version (place - 1)
Looks-before entries version place one looks above = by (cases_order one.0 place)
  where
    begins : (get_or entries one.0 one.1).first ≤ version
    begins = subst (λ (e : Kept). e.first ≤ version) (sym one.3) one.4

    by : (one.0 ≡ place) ⊎ ((one.0 < place) ⊎ (place < one.0)) → (1 ≤ place) × Looks entries version (place - 1)
    by (inl e) =
        let a = above one.1 in
        let b = begins in
        let c = ap (λ k. (get_or entries k one.1).first) e in
        absurd (omega arith)
    by (inr (inl lt)) = (
      omega arith,
      record {
        inside = let h = looks.inside in omega arith;
        later = λ k d gt h. later k d gt h (cases_order k place);
      },
    )
      where
        later : (k : ℕ) (d : Kept) → place - 1 < k → k < length entries → (k ≡ place) ⊎ ((k < place) ⊎ (place < k)) → version < (get_or entries k d).first
        later k d gt h (inl e) = subst (λ j. version < (get_or entries j d).first) (sym e) (above d)
        later k d gt h (inr (inl below)) = absurd (omega arith)
        later k d gt h (inr (inr beyond)) = looks.later k d beyond h
    by (inr (inr gt)) =
        let a = looks.later one.0 one.1 gt one.2 in
        let b = begins in
        absurd (omega arith)

pub Looks-met : (entries : List Kept) (version place : ℕ) → Looks entries version place → ((d : Kept) → (get_or entries place d).first ≤ version)
    → CoversAt entries version place
Looks-met entries version place looks begins = record { inside = looks.inside; begins = begins; last = looks.later }

-- first versions ascend, so the place is no more than the first version there
pub place_small : (entries : List Kept) (place : ℕ) (d : Kept) → AllPairs (λ d e. d.first < e.first) entries → place < length entries
    → place ≤ (get_or entries place d).first
place_small entries zero d up h = omega arith
place_small entries (suc place) d up h =
    let ih = place_small entries place d up (omega arith) in
    let step = up place (suc place) d (omega arith) h in
    omega arith

-- the entry that is read at a place
pub first_at : (entries : List Entry) (place : ℕ) (x : Entry) (d : Kept) → place < length (map kept entries)
    → (get_or (map kept entries) place d).first ≡ (get_or entries place x).first
first_at entries place x d h =
    ap (λ (e : Kept). e.first) (get_or-map kept entries place x d (let n = length-map entries kept in omega arith))

-- ---- the epoch of rows that covers it

last_at : {A : Type 0} (p : A → Bool) (xs : List A) (k : ℕ) (d : A) → k < length xs → p (get_or xs k d) ≡ true
    → ((j : ℕ) → k < j → j < length xs → p (get_or xs j d) ≡ false) → last_where p xs ≡ Some (get_or xs k d)
last_at p [] k d h here later = absurd (omega arith)
last_at {A} p (x ∷ xs) zero d h here later =
    ap₂ (λ o b. first_some o (cond b (Some x) None)) (none xs (λ j lt. later (suc j) (omega arith) (omega arith))) here
  where
    none : (ys : List A) → ((j : ℕ) → j < length ys → p (get_or ys j d) ≡ false) → last_where p ys ≡ None
    none [] all = refl
    none (y ∷ ys) all = ap₂ (λ o b. first_some o (cond b (Some y) None)) (none ys (λ j lt. all (suc j) (omega arith))) (all 0 (omega arith))
last_at p (x ∷ xs) (suc k) d h here later =
    ap (λ o. first_some o (cond (p x) (Some x) None)) (last_at p xs k d (omega arith) here (λ j gt lt. later (suc j) (omega arith) (omega arith)))

pub covered : (entries : List Kept) (version place : ℕ) (d : Kept) → CoversAt entries version place
    → covering (map epoch_in entries) version ≡ Some (epoch_in (get_or entries place d))
covered entries version place d covers =
    last_at (λ e. nat_le e.first version) (map epoch_in entries) place (epoch_in d) inside
    (ap (λ (e : Epoch). nat_le e.first version) (at place covers.inside) ∙ le-leb (get_or entries place d).first version (covers.begins d))
    (λ j gt lt. (let within : j < length entries = (let n = length-map entries epoch_in in omega arith) in
    ap (λ (e : Epoch). nat_le e.first version) (at j within) ∙ lt-leb (get_or entries j d).first version (covers.last j d gt within)))
    ∙ ap Some (at place covers.inside)
  where
    at : (j : ℕ) → j < length entries → get_or (map epoch_in entries) j (epoch_in d) ≡ epoch_in (get_or entries j d)
    at j h = get_or-map epoch_in entries j d (epoch_in d) h

    inside : place < length (map epoch_in entries)
    inside = let n = length-map entries epoch_in in let h = covers.inside in omega arith
