-- Rows in lists of their shards, one row after another.
use Rattle.std.proofs.Common.{◌≡◌, ℕ, ◌+◌, ◌<◌, ◌≤◌, ◌%◌, Bool, true, false, cond, ◌==◌, nat_lt, List, [], ◌∷◌, ◌++◌, map, filter, length, get_or, set, take, replicate, refl, sym, ap, subst, ◌∙◌, suc, arith, mod-lt, length-set, append-nil}
use Rattle.std.proofs.lemmas.Bool.Decides.{nat_tests}
use Rattle.std.proofs.lemmas.List.{get_or-set_same, get_or-set_other, get_or-replicate, length-replicate, take_more, map-append, get_or_append_left, get_or_push, length_push}
use Rattle.std.proofs.lemmas.List.Elements.{filter-append}
use Rattle.dl_terms.specs.declared.axiom.Fact.{Fact}
use Rattle.dl_row.specs.Lists.{ordered}
use Rattle.dl_row.specs.Rows.{row_cmp}
use Rattle.dl_row.specs.declared.row.Row.{Row}
use Rattle.dl_core.specs.Root.{stands_in}
use Rattle.dl_core.specs.Loading.{AreParts, AreOrderedParts}

pub Parts-none : (n : ℕ) (parts : List (List Row)) → parts ≡ replicate n [] → AreParts n [] parts
Parts-none n parts is = record {
  count = ap length is ∙ length-replicate n [];
  each = λ i h. ap (λ ps. get_or ps i []) is ∙ get_or-replicate n i [] [] h;
}

module _ (n : ℕ) (some : 0 < n) (rows : List Row) (r : Row) (parts : List (List Row))
    (are : AreParts n rows parts) where
  more : List (List Row)
  more = set parts (r.s % n) (get_or parts (r.s % n) [] ++ r ∷ [])

  pub Parts-inside : r.s % n < length parts
  Parts-inside = let lt = mod-lt r.s some in let many = are.count in omega (arith, lt, many)

  each : (i : ℕ) → i < n → (b : Bool) → (r.s % n == i) ≡ b
      → get_or more i [] ≡ filter (stands_in n i) rows ++ cond b (r ∷ []) []
  unfolding more
  each i h true e =
      let same = is (r.s % n) i e in
      ap (λ k. get_or more k []) (sym same)
      ∙ get_or-set_same parts (r.s % n) (get_or parts (r.s % n) [] ++ r ∷ []) [] Parts-inside
      ∙ ap (λ k. get_or parts k [] ++ r ∷ []) same ∙ ap (λ l. l ++ r ∷ []) (are.each i h)
    where
      is : (a b : ℕ) → (a == b) ≡ true → a ≡ b
      is a b h = grind (arith, nat_tests)
  each i h false e =
      get_or-set_other parts (r.s % n) i (get_or parts (r.s % n) [] ++ r ∷ []) [] (other (r.s % n) i e)
      ∙ are.each i h ∙ sym (append-nil (filter (stands_in n i) rows))
    where
      other : (a b : ℕ) → (a == b) ≡ false → b ≡ a → ⊥
      other a b h e = grind (arith, nat_tests)

  pub Parts-more : AreParts n (rows ++ r ∷ []) (set parts (r.s % n) (get_or parts (r.s % n) [] ++ r ∷ []))
  unfolding more
  Parts-more = record {
    count = length-set parts (r.s % n) (get_or parts (r.s % n) [] ++ r ∷ []) ∙ are.count;
    each = λ i h. each i h (r.s % n == i) refl ∙ sym (filter-append (stands_in n i) rows (r ∷ []));
  }

-- one fact more
module _ (n : ℕ) (some : 0 < n) (facts : List Fact) (i : ℕ) (inside : i < length facts) (d : Fact)
    (row : Fact → Row) where
  pub Parts-next : (parts parts' : List (List Row)) (r : Row) (list list' : List Row) → r ≡ row (get_or facts i d)
      → list ≡ get_or parts (r.s % n) [] → list' ≡ list ++ r ∷ [] → parts' ≡ set parts (r.s % n) list'
      → AreParts n (map row (take i facts)) parts → AreParts n (map row (take (i + 1) facts)) parts'
  Parts-next parts parts' r list list' is was now set_is are =
      let longer : map row (take (i + 1) facts) ≡ map row (take i facts) ++ r ∷ [] =
      ap (map row) (take_more facts i d inside) ∙ map-append row (take i facts) (get_or facts i d ∷ [])
      ∙ ap (λ x. map row (take i facts) ++ x ∷ []) (sym is) in
      subst (λ rows. AreParts n rows parts') (sym longer)
      (subst (AreParts n (map row (take i facts) ++ r ∷ []))
      (sym (set_is ∙ ap (set parts (r.s % n)) (now ∙ ap (λ l. l ++ r ∷ []) was)))
      (Parts-more n some (map row (take i facts)) r parts are))

-- ---- parts, put in order one after the other, which are let go

-- the parts before a number are put in order, and those from it on stand yet
pub record AreMade (n i : ℕ) (rows : List Row) (parts made : List (List Row)) : Type 0 where
  pub many : length parts ≡ n
  pub so_far : length made ≡ i
  pub done : (k : ℕ) → k < i → get_or made k [] ≡ ordered row_cmp (filter (stands_in n k) rows)
  pub left : (k : ℕ) → i ≤ k → k < n → get_or parts k [] ≡ filter (stands_in n k) rows

pub made_none : (n : ℕ) (rows : List Row) (parts made : List (List Row)) → made ≡ [] → AreParts n rows parts
    → AreMade n 0 rows parts made
made_none n rows parts made none are = record {
  many = are.count;
  so_far = ap length none;
  done = λ k h. absurd (omega (arith, h));
  left = λ k low h. are.each k h;
}

filter_no_longer : {A : Type 0} (p : A → Bool) (xs : List A) → length (filter p xs) ≤ length xs
filter_no_longer p [] = omega arith
filter_no_longer {A} p (x ∷ xs) = by (p x) (filter_no_longer p xs)
  where
    by : (b : Bool) → length (filter p xs) ≤ length xs
        → length (cond b (x ∷ filter p xs) (filter p xs)) ≤ suc (length xs)
    by true ih = omega (arith, ih)
    by false ih = omega (arith, ih)

module _ (n i : ℕ) (rows : List Row) (parts made : List (List Row)) (are : AreMade n i rows parts made) where
  pub next_fits : i < n → length (get_or parts i []) ≤ length rows
  next_fits h =
      let is = ap length (are.left i (omega arith) h) in
      let few = filter_no_longer (stands_in n i) rows in
      omega (arith, is, few)

  pub made_more : i < n → (parts' made' : List (List Row)) (rest shard : List Row) → parts' ≡ set parts i rest
      → shard ≡ ordered row_cmp (get_or parts i []) → made' ≡ made ++ shard ∷ [] → AreMade n (i + 1) rows parts' made'
  made_more h parts' made' rest shard set_is shard_is made_is = record {
    many = ap length set_is ∙ length-set parts i rest ∙ are.many;
    so_far = let e = ap length made_is in let m = length_push made shard in omega (arith, e, m, are.so_far);
    done = λ k lt. ap (λ ms. get_or ms k []) made_is ∙ by k lt (nat_lt k i) refl;
    left = λ k low lt.
        ap (λ ps. get_or ps k []) set_is ∙ get_or-set_other parts i k rest [] (λ same. omega (arith, low, same))
        ∙ are.left k (omega (arith, low)) lt;
  }
    where
      below : (a b : ℕ) → nat_lt a b ≡ true → a < b
      below a b e = grind (arith, nat_tests)

      not_below : (a b : ℕ) → nat_lt a b ≡ false → b ≤ a
      not_below a b e = grind (arith, nat_tests)

      by : (k : ℕ) → k < i + 1 → (b : Bool) → nat_lt k i ≡ b
          → get_or (made ++ shard ∷ []) k [] ≡ ordered row_cmp (filter (stands_in n k) rows)
      by k lt true e =
          get_or_append_left made (shard ∷ []) [] k (let low = below k i e in omega (arith, low, are.so_far))
          ∙ are.done k (below k i e)
      by k lt false e =
          let same : k ≡ i = let low = not_below k i e in omega (arith, low, lt) in
          get_or_push made shard [] k (omega (arith, same, are.so_far)) ∙ shard_is
          ∙ ap (ordered row_cmp) (are.left i (omega arith) h)
          ∙ ap (λ m. ordered row_cmp (filter (stands_in n m) rows)) (sym same)

  pub made_all : n ≤ i → i ≤ n → AreOrderedParts n rows made
  made_all low high = record {
    count = omega (arith, are.so_far, low, high);
    each = λ k h. are.done k (omega (arith, low, h));
  }
