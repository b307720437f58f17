-- Laws of bit matrices.
use Rattle.std.proofs.Common.{◌≡◌, ◌≢◌, ℕ, ◌+◌, ◌*◌, ◌/◌, ◌%◌, ◌^◌, ◌<◌, ◌≤◌, ◌⊎◌, ◌↔◌, max, Bool, true, false, List, length, set, get_or, sum, bit_or, sym, ap, ◌∙◌, subst, inl, inr, ⊎_elim, arith, w64}
use Rattle.std.specs.Int.{bit_at}
use Rattle.std.proofs.lemmas.Bool.{cases_eq, cases_Bool, false≢true}
use Rattle.std.proofs.lemmas.List.{length-set, get_or-set_same, get_or-set_other, set-get_or}
use Rattle.std.proofs.lemmas.List.Sums.{sum_by-set}
use Rattle.std.proofs.lemmas.Nat.{same_from_place, le_or_l}
use Rattle.std.proofs.lemmas.Nat.Bits.{bit_at_set_same, bit_at_set_other, bit_at_or, bit_at-lt}
use Rattle.dl_reach.specs.Matrix.{HasBit, HasRow}

word_below : (width b : ℕ) → b < 64 * width → b / 64 < width
word_below width b h = omega arith

bit_below : (b : ℕ) → b % 64 < 64
bit_below b = omega arith

same_column : (b c : ℕ) → b / 64 ≡ c / 64 → b % 64 ≡ c % 64 → b ≡ c
same_column b c p q = omega arith

module _ (words : List ℕ) (width row column : ℕ) (fits : HasRow words width row) (inside : column < 64 * width) where
  index : ℕ
  index = row * width + column / 64

  marked : List ℕ
  marked = set words index (bit_or (get_or words index 0) (1 * 2 ^ (column % 64) % 18446744073709551616))

  index_below : index < length words
  unfolding index
  index_below = let w = word_below width column inside in omega arith

  word_at : get_or marked index 0 ≡ bit_or (get_or words index 0) (1 * 2 ^ (column % 64) % 18446744073709551616)
  unfolding marked
  word_at = get_or-set_same words index (bit_or (get_or words index 0) (1 * 2 ^ (column % 64) % 18446744073709551616)) 0 index_below

  bit_here : bit_at (get_or marked index 0) (column % 64) ≡ 1
  bit_here = ap (λ (v : ℕ). bit_at v (column % 64)) word_at ∙ bit_at_set_same w64 (get_or words index 0) (column % 64) (bit_below column)

  bit_elsewhere : (a b : ℕ) → b < 64 * width → (a ≡ row → b ≡ column → ⊥) → bit_at (get_or marked (a * width + b / 64) 0) (b % 64) ≡ bit_at (get_or words (a * width + b / 64) 0) (b % 64)
  unfolding index marked
  bit_elsewhere a b h ne =
      ⊎_elim
      (λ (e : a * width + b / 64 ≡ index).
      let same = same_from_place a (b / 64) row (column / 64) width (word_below width b h) (word_below width column inside) e in
      let other : b % 64 ≢ column % 64 = λ q. ne same.0 (same_column b column same.1 q) in
      ap (λ (i : ℕ). bit_at (get_or marked i 0) (b % 64)) e ∙ (ap (λ (v : ℕ). bit_at v (b % 64)) word_at ∙ (bit_at_set_other w64 (get_or words index 0) (column % 64) (bit_below column) (b % 64) other ∙ ap (λ (i : ℕ). bit_at (get_or words i 0) (b % 64)) (sym e))))
      (λ (apart : a * width + b / 64 ≢ index). ap (λ (v : ℕ). bit_at v (b % 64)) (get_or-set_other words index (a * width + b / 64) (bit_or (get_or words index 0) (1 * 2 ^ (column % 64) % 18446744073709551616)) 0 apart))
      (cases_eq (a * width + b / 64) index)

  at_the_bit : (a b : ℕ) → a ≡ row → b ≡ column → HasBit marked width a b
  unfolding index
  at_the_bit a b p q = record {
    in_row = subst (λ (x : ℕ). x < 64 * width) (sym q) inside;
    is_set = subst (λ (x : ℕ). bit_at (get_or marked (x * width + b / 64) 0) (b % 64) ≡ 1) (sym p) (subst (λ (x : ℕ). bit_at (get_or marked (row * width + x / 64) 0) (x % 64) ≡ 1) (sym q) bit_here);
  }

  bits_set : (a b : ℕ) → HasBit marked width a b ↔ (HasBit words width a b ⊎ ((a ≡ row) × (b ≡ column)))
  bits_set a b = (
    λ h. ⊎_elim (λ (p : a ≡ row). ⊎_elim (λ (q : b ≡ column). inr (p, q)) (λ (q : b ≢ column). inl (record { in_row = h.in_row; is_set = sym (bit_elsewhere a b h.in_row (λ _ e. q e)) ∙ h.is_set })) (cases_eq b column)) (λ (p : a ≢ row). inl (record { in_row = h.in_row; is_set = sym (bit_elsewhere a b h.in_row (λ e _. p e)) ∙ h.is_set })) (cases_eq a row),
    λ s.
        ⊎_elim (λ (h : HasBit words width a b). ⊎_elim (λ (p : a ≡ row). ⊎_elim (λ (q : b ≡ column). at_the_bit a b p q) (λ (q : b ≢ column). record { in_row = h.in_row; is_set = bit_elsewhere a b h.in_row (λ _ e. q e) ∙ h.is_set }) (cases_eq b column)) (λ (p : a ≢ row). record { in_row = h.in_row; is_set = bit_elsewhere a b h.in_row (λ e _. p e) ∙ h.is_set }) (cases_eq a row)) (λ (w : (a ≡ row) × (b ≡ column)). at_the_bit a b w.0 w.1) s,
  )

-- the bits after one is set
pub HasBit-set : (words : List ℕ) (width row column : ℕ) → HasRow words width row → column < 64 * width → (a b : ℕ) → HasBit (set words (row * width + column / 64) (bit_or (get_or words (row * width + column / 64) 0) (1 * 2 ^ (column % 64) % 18446744073709551616))) width a b ↔ (HasBit words width a b ⊎ ((a ≡ row) × (b ≡ column)))
unfolding index marked
HasBit-set words width row column fits inside = bits_set words width row column fits inside

-- the first n words of one row have the bits of another too, and all else is as before
pub record United (width into from : ℕ) (old new : List ℕ) (n : ℕ) (changed : Bool) : Type 0 where
  pub len : length new ≡ length old
  pub others : (row i : ℕ) → i < width → (row ≡ into → n ≤ i) → get_or new (row * width + i) 0 ≡ get_or old (row * width + i) 0
  pub united : (i : ℕ) → i < n → get_or new (into * width + i) 0 ≡ bit_or (get_or old (into * width + i) 0) (get_or old (from * width + i) 0)
  pub rose : changed ≡ true → sum old < sum new
  pub same : changed ≡ false → new ≡ old

module _ (width into from : ℕ) (apart : into ≢ from) (old : List ℕ) (fits : HasRow old width into) (new : List ℕ) (n : ℕ) (changed : Bool) (h : United width into from old new n changed) (here : n < width) where
  word : ℕ
  word = get_or new (into * width + n) 0

  both : ℕ
  both = bit_or word (get_or new (from * width + n) 0)

  next : List ℕ
  next = set new (into * width + n) both

  at_below : into * width + n < length new
  at_below = omega (arith, h.len)

  next_others : (row i : ℕ) → i < width → (row ≡ into → n + 1 ≤ i) → get_or next (row * width + i) 0 ≡ get_or old (row * width + i) 0
  unfolding next
  next_others row i l out =
      let elsewhere : row * width + i ≢ into * width + n = λ e. let s = same_from_place row i into n width l here e in let o = out s.0 in omega (arith, s.1) in
      get_or-set_other new (into * width + n) (row * width + i) both 0 elsewhere ∙ h.others row i l (λ e. let o = out e in omega arith)

  both_is : both ≡ bit_or (get_or old (into * width + n) 0) (get_or old (from * width + n) 0)
  unfolding both word
  both_is =
      let p = h.others into n here (λ _. omega arith) in
      let q = h.others from n here (λ e. absurd (apart (sym e))) in
      ap (λ (x : ℕ). bit_or x (get_or new (from * width + n) 0)) p ∙ ap (λ (x : ℕ). bit_or (get_or old (into * width + n) 0) x) q

  next_united : (i : ℕ) → i < n + 1 → get_or next (into * width + i) 0 ≡ bit_or (get_or old (into * width + i) 0) (get_or old (from * width + i) 0)
  unfolding next
  next_united i l =
      ⊎_elim
      (λ (e : i ≡ n). subst (λ (x : ℕ). get_or (set new (into * width + n) both) (into * width + x) 0 ≡ bit_or (get_or old (into * width + x) 0) (get_or old (from * width + x) 0)) (sym e) (get_or-set_same new (into * width + n) both 0 at_below ∙ both_is))
      (λ (ne : i ≢ n). get_or-set_other new (into * width + n) (into * width + i) both 0 (λ e. ne (omega arith)) ∙ h.united i (omega arith))
      (cases_eq i n)

  next_len : length next ≡ length old
  unfolding next
  next_len = length-set new (into * width + n) both ∙ h.len

  next_sum : sum next + word ≡ sum new + both
  unfolding next word
  next_sum = sum_by-set (λ (x : ℕ). x) new (into * width + n) both 0 at_below

  old_le_new : sum old ≤ sum new
  old_le_new = ⊎_elim (λ (e : changed ≡ true). let r = h.rose e in omega arith) (λ (e : changed ≡ false). let r = ap (λ (x : List ℕ). sum x) (h.same e) in omega arith) (cases_Bool changed)

  rose_next : both ≢ word → United width into from old next (n + 1) true
  unfolding both
  rose_next ne =
      let up : word ≤ both = le_or_l word (get_or new (from * width + n) 0) in
      record {
        len = next_len;
        others = next_others;
        united = next_united;
        rose = λ _. let s = next_sum in let l = old_le_new in omega arith;
        same = λ e. absurd (false≢true (sym e));
      }

  same_list : both ≡ word → next ≡ new
  unfolding next word
  same_list e = ap (λ (x : ℕ). set new (into * width + n) x) e ∙ set-get_or new (into * width + n) 0

  same_next : both ≡ word → United width into from old next (n + 1) changed
  same_next e =
      record {
        len = next_len;
        others = next_others;
        united = next_united;
        rose = λ t. subst (λ (x : List ℕ). sum old < sum x) (sym (same_list e)) (h.rose t);
        same = λ f. same_list e ∙ h.same f;
      }

-- a word that gained bits
pub United-rose : (width into from : ℕ) → into ≢ from → (old : List ℕ) → HasRow old width into → (new : List ℕ) (n : ℕ) (changed : Bool) → United width into from old new n changed → n < width → bit_or (get_or new (into * width + n) 0) (get_or new (from * width + n) 0) ≢ get_or new (into * width + n) 0 → United width into from old (set new (into * width + n) (bit_or (get_or new (into * width + n) 0) (get_or new (from * width + n) 0))) (n + 1) true
unfolding word both next
United-rose width into from apart old fits new n changed h here ne = rose_next width into from apart old fits new n changed h here ne

-- a word that had all bits
pub United-same : (width into from : ℕ) → into ≢ from → (old : List ℕ) → HasRow old width into → (new : List ℕ) (n : ℕ) (changed : Bool) → United width into from old new n changed → n < width → bit_or (get_or new (into * width + n) 0) (get_or new (from * width + n) 0) ≡ get_or new (into * width + n) 0 → United width into from old (set new (into * width + n) (bit_or (get_or new (into * width + n) 0) (get_or new (from * width + n) 0))) (n + 1) changed
unfolding word both next
United-same width into from apart old fits new n changed h here e = same_next width into from apart old fits new n changed h here e

max_one : (x y : ℕ) → x < 2 → y < 2 → max x y ≡ 1 → (x ≡ 1) ⊎ (y ≡ 1)
max_one x y p q e = ⊎_elim (λ (l : x ≡ 1). inl l) (λ (n : x ≢ 1). inr (omega arith)) (cases_eq x 1)

one_max : (x y : ℕ) → x < 2 → y < 2 → (x ≡ 1) ⊎ (y ≡ 1) → max x y ≡ 1
one_max x y p q s = ⊎_elim (λ (l : x ≡ 1). omega arith) (λ (r : y ≡ 1). omega arith) s

or_bit : (x y z k : ℕ) → z ≡ bit_or x y → bit_at z k ≡ 1 → (bit_at x k ≡ 1) ⊎ (bit_at y k ≡ 1)
or_bit x y z k e h = max_one (bit_at x k) (bit_at y k) (bit_at-lt x k) (bit_at-lt y k) (sym (bit_at_or x y k) ∙ (ap (λ (v : ℕ). bit_at v k) (sym e) ∙ h))

bit_or_from : (x y z k : ℕ) → z ≡ bit_or x y → (bit_at x k ≡ 1) ⊎ (bit_at y k ≡ 1) → bit_at z k ≡ 1
bit_or_from x y z k e s = ap (λ (v : ℕ). bit_at v k) e ∙ (bit_at_or x y k ∙ one_max (bit_at x k) (bit_at y k) (bit_at-lt x k) (bit_at-lt y k) s)

row_gains : (width into from : ℕ) (old new : List ℕ) (n : ℕ) (changed : Bool) → United width into from old new n changed → width ≤ n → (b : ℕ) → b < 64 * width → (bit_at (get_or old (into * width + b / 64) 0) (b % 64) ≡ 1) ⊎ (bit_at (get_or old (from * width + b / 64) 0) (b % 64) ≡ 1) → HasBit new width into b
row_gains width into from old new n changed h whole b l s =
    let w = word_below width b l in
    record { in_row = l; is_set = bit_or_from _ _ _ (b % 64) (h.united (b / 64) (omega arith)) s }

-- the bits after a whole row is united into another
pub HasBit-united : (width into from : ℕ) (old new : List ℕ) (n : ℕ) (changed : Bool) → United width into from old new n changed → width ≤ n → (a b : ℕ) → HasBit new width a b ↔ (HasBit old width a b ⊎ ((a ≡ into) × HasBit old width from b))
HasBit-united width into from old new n changed h whole a b = (
  λ s.
      let w = word_below width b s.in_row in
      ⊎_elim
      (λ (e : a ≡ into).
      let row = subst (λ (x : ℕ). bit_at (get_or new (x * width + b / 64) 0) (b % 64) ≡ 1) e s.is_set in
      ⊎_elim (λ (l : bit_at (get_or old (into * width + b / 64) 0) (b % 64) ≡ 1). inl (record { in_row = s.in_row; is_set = subst (λ (x : ℕ). bit_at (get_or old (x * width + b / 64) 0) (b % 64) ≡ 1) (sym e) l })) (λ (r : bit_at (get_or old (from * width + b / 64) 0) (b % 64) ≡ 1). inr (e, record { in_row = s.in_row; is_set = r })) (or_bit _ _ _ (b % 64) (h.united (b / 64) (omega arith)) row))
      (λ (ne : a ≢ into). inl (record { in_row = s.in_row; is_set = ap (λ (v : ℕ). bit_at v (b % 64)) (sym (h.others a (b / 64) w (λ e. absurd (ne e)))) ∙ s.is_set }))
      (cases_eq a into),
  λ s.
      ⊎_elim
      (λ (l : HasBit old width a b).
      ⊎_elim
      (λ (e : a ≡ into). subst (λ (x : ℕ). HasBit new width x b) (sym e) (row_gains width into from old new n changed h whole b l.in_row (inl (subst (λ (x : ℕ). bit_at (get_or old (x * width + b / 64) 0) (b % 64) ≡ 1) e l.is_set))))
      (λ (ne : a ≢ into). record { in_row = l.in_row; is_set = ap (λ (v : ℕ). bit_at v (b % 64)) (h.others a (b / 64) (word_below width b l.in_row) (λ e. absurd (ne e))) ∙ l.is_set })
      (cases_eq a into))
      (λ (r : (a ≡ into) × HasBit old width from b). subst (λ (x : ℕ). HasBit new width x b) (sym r.0) (row_gains width into from old new n changed h whole b r.1.in_row (inr r.1.is_set)))
      s,
)
