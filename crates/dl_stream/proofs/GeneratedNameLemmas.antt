-- The names of the generated input ascend in byte order, so that each has its number.
use Rattle.std.proofs.Common.{◌≡◌, ℕ, zero, suc, ◌+◌, ◌-◌, ◌*◌, ◌/◌, ◌%◌, ◌^◌, ◌<◌, ◌≤◌, ◌⊎◌, Bool, true, false, List, [], ◌∷◌, ◌++◌, length, slice_get, refl, sym, ap, subst, inl, inr, ◌∙◌, arith, append_assoc, append-nil}
use native.Mathlib.Numerals.{unary_clauses}
use Rattle.std.specs.declared.cmp.Ordering.{Ordering}
use Rattle.std.specs.declared.cmp.Ordering.TheVariants.{Less, Equal, Greater}
use Rattle.std.specs.Ordering.{nat_cmp, ordering_then}
use Rattle.std.specs.Cmp.{nat_cmp_is, tied_itself}
use Rattle.std.specs.List.{range_with_len}
use Rattle.std.specs.Str.{bytes_eq}
use Rattle.std.proofs.Common.{map}
use Rattle.std.proofs.lemmas.Bool.{cases_lt, lt-ltb, le-ltb}
use Rattle.std.proofs.lemmas.Cmp.{nat_cmp_total, nat_list_cmp_total}
use Rattle.std.proofs.lemmas.List.{length-append}
use Rattle.std.proofs.lemmas.List.Folds.{list_any_none}
use Rattle.std.proofs.lemmas.List.FromFn.{length-range_with_len, get_or-range_with_len, length-map-range_with_len, get_or-map-range_with_len, map-range_with_len_more}
use Rattle.dl_names.specs.NameList.{Text, has_name, names_after}
use Rattle.dl_names.specs.Frozen.{text_cmp, IsBefore, IsAscending, IsFrozen}
use Rattle.dl_names.proofs.NameListLemmas.{names_after-new, same-bytes_eq}
use Rattle.dl_names.proofs.SameFrozenLemmas.{IsFrozen-same_names}
use Rattle.dl_stream.specs.Generator.{digits, name_text, name_texts}

-- ---- texts compared

less : (a b : ℕ) → a < b → nat_cmp a b ≡ Less
less a b h = sym (nat_cmp_is a b Less h)

-- behind a common byte the rest decides
behind_same : (a : ℕ) (x y : Text) → IsBefore x y → IsBefore (a ∷ x) (a ∷ y)
behind_same a x y before = ap (λ o. ordering_then o (text_cmp x y)) (tied_itself nat_cmp_total a) ∙ before

behind_alike : (x u v : Text) → IsBefore u v → IsBefore (x ++ u) (x ++ v)
behind_alike [] u v before = before
behind_alike (a ∷ x) u v before = behind_same a (x ++ u) (x ++ v) (behind_alike x u v before)

by_first : (a b : ℕ) (x y : Text) → a < b → IsBefore (a ∷ x) (b ∷ y)
by_first a b x y h = ap (λ o. ordering_then o (text_cmp x y)) (less a b h)

-- what texts of one length decide, whatever follows them doesn't change
by_front : (x y u v : Text) → length x ≡ length y → IsBefore x y → IsBefore (x ++ u) (y ++ v)
by_front [] [] u v as_long before = absurd (let no = before in cc)
by_front [] (b ∷ y) u v as_long before = absurd (omega (arith, as_long))
by_front (a ∷ x) [] u v as_long before = absurd (omega (arith, as_long))
by_front (a ∷ x) (b ∷ y) u v as_long before = by (nat_cmp a b) refl (by_front x y u v (omega (arith, as_long)))
  where
    by : (o : Ordering) → nat_cmp a b ≡ o → (IsBefore x y → IsBefore (x ++ u) (y ++ v)) → IsBefore ((a ∷ x) ++ u) ((b ∷ y) ++ v)
    by Less e rest = ap (λ o. ordering_then o (text_cmp (x ++ u) (y ++ v))) e
    by Equal e rest =
        ap (λ o. ordering_then o (text_cmp (x ++ u) (y ++ v))) e ∙ rest (ap (λ o. ordering_then o (text_cmp x y)) (sym e) ∙ before)
    by Greater e rest = absurd (let no = ap (λ o. ordering_then o (text_cmp x y)) (sym e) ∙ before in cc)

-- ---- digits

length-digits : (w n : ℕ) → length (digits w n) ≡ w
unfolding digits
length-digits zero n = refl
length-digits (suc w) n = length-append (digits w (n / 10)) ((48 + n % 10) ∷ []) ∙ omega (arith, length-digits w (n / 10))

-- the last digit behind the others
pub digits-more : (width n : ℕ) (old mid new : Text) → 0 < width → mid ≡ old ++ digits (width - 1) (n / 10)
    → new ≡ mid ++ (48 + n % 10) ∷ [] → new ≡ old ++ digits width n
unfolding digits
digits-more zero n old mid new some first last = absurd (omega (arith, some))
digits-more (suc w) n old mid new some first last =
    let e : suc w - 1 ≡ w = omega arith in
    last ∙ ap (λ l. l ++ (48 + n % 10) ∷ []) (first ∙ ap (λ k. old ++ digits k (n / 10)) e)
    ∙ append_assoc old (digits w (n / 10)) ((48 + n % 10) ∷ [])

pub digits-none : (width n : ℕ) (old : Text) → width ≡ 0 → old ≡ old ++ digits width n
unfolding digits
digits-none zero n old is = sym (append-nil old)
digits-none (suc w) n old is = absurd (omega (arith, is))

-- a number that has no more digits comes before the greater ones
digits-before : (w m n : ℕ) → m < n → n < 10 ^ w → IsBefore (digits w m) (digits w n)
unfolding digits
digits-before zero m n more within = absurd (omega (arith, within))
digits-before (suc w) m n more within = by (cases_lt (m / 10) (n / 10)) (digits-before w (m / 10) (n / 10))
  where
    more_digits : 10 ^ suc w ≡ 10 ^ w * 10
    more_digits = simp unary_clauses (refl)

    front_in : n / 10 < 10 ^ w
    front_in = omega (arith, within, more_digits)

    by : ((m / 10) < (n / 10)) ⊎ ((n / 10) ≤ (m / 10)) → ((m / 10) < (n / 10) → n / 10 < 10 ^ w → IsBefore (digits w (m / 10)) (digits w (n / 10)))
        → IsBefore (digits (suc w) m) (digits (suc w) n)
    by (inl lower) rest =
        by_front (digits w (m / 10)) (digits w (n / 10)) ((48 + m % 10) ∷ []) ((48 + n % 10) ∷ [])
        (length-digits w (m / 10) ∙ sym (length-digits w (n / 10))) (rest lower front_in)
    by (inr above) rest =
        let same : m / 10 ≡ n / 10 = omega (arith, above, more) in
        subst (λ k. IsBefore (digits w k ++ (48 + m % 10) ∷ []) (digits w (n / 10) ++ (48 + n % 10) ∷ [])) (sym same)
        (behind_alike (digits w (n / 10)) ((48 + m % 10) ∷ []) ((48 + n % 10) ∷ [])
        (by_first (48 + m % 10) (48 + n % 10) [] [] (omega (arith, same, more))))

-- ---- names

module _ (size : ℕ) where
  pub class_text : (n : ℕ) → n < 32 → name_text size n ≡ 99 ∷ digits 2 n
  unfolding name_text
  class_text n within = rw (lt-ltb n 32 within) refl

  pub individual_text : (n : ℕ) → 32 ≤ n → n < 32 + size → name_text size n ≡ 110 ∷ digits 6 (n - 32)
  unfolding name_text
  individual_text n low within = rw (le-ltb n 32 low) (rw (lt-ltb n (32 + size) within) refl)

  pub role_text : (n : ℕ) → 32 + size ≤ n → name_text size n ≡ 112 ∷ digits 1 (n - (32 + size))
  unfolding name_text
  role_text n low =
      let above : 32 ≤ n = omega arith in
      rw (le-ltb n 32 above) (rw (le-ltb n (32 + size) low) refl)

  as_texts : (x y u v : Text) → x ≡ u → y ≡ v → IsBefore u v → IsBefore x y
  as_texts x y u v e f before = (λ i. text_cmp (e i) (f i)) ∙ before

  module _ (few : size ≤ 100000) where
    -- a lower number has an earlier text
    texts_before : (m n : ℕ) → m < n → n < 40 + size → IsBefore (name_text size m) (name_text size n)
    texts_before m n more within = by (cases_lt m 32) (cases_lt m (32 + size)) (cases_lt n 32) (cases_lt n (32 + size))
      where
        by : (m < 32) ⊎ (32 ≤ m) → (m < 32 + size) ⊎ (32 + size ≤ m) → (n < 32) ⊎ (32 ≤ n) → (n < 32 + size) ⊎ (32 + size ≤ n)
            → IsBefore (name_text size m) (name_text size n)
        by (inl a) _ (inl b) _ =
            as_texts (name_text size m) (name_text size n) (99 ∷ digits 2 m) (99 ∷ digits 2 n) (class_text m a) (class_text n b)
            (behind_same 99 (digits 2 m) (digits 2 n) (digits-before 2 m n more (omega arith)))
        by (inl a) _ (inr b) (inl c) =
            as_texts (name_text size m) (name_text size n) (99 ∷ digits 2 m) (110 ∷ digits 6 (n - 32)) (class_text m a)
            (individual_text n b c) (by_first 99 110 (digits 2 m) (digits 6 (n - 32)) (omega arith))
        by (inl a) _ (inr b) (inr c) =
            as_texts (name_text size m) (name_text size n) (99 ∷ digits 2 m) (112 ∷ digits 1 (n - (32 + size))) (class_text m a)
            (role_text n c) (by_first 99 112 (digits 2 m) (digits 1 (n - (32 + size))) (omega arith))
        by (inr a) p (inl b) _ = absurd (omega arith)
        by (inr a) (inl p) (inr b) (inl c) =
            as_texts (name_text size m) (name_text size n) (110 ∷ digits 6 (m - 32)) (110 ∷ digits 6 (n - 32)) (individual_text m a p)
            (individual_text n b c)
            (behind_same 110 (digits 6 (m - 32)) (digits 6 (n - 32)) (digits-before 6 (m - 32) (n - 32) (omega arith) (omega arith)))
        by (inr a) (inl p) (inr b) (inr c) =
            as_texts (name_text size m) (name_text size n) (110 ∷ digits 6 (m - 32)) (112 ∷ digits 1 (n - (32 + size)))
            (individual_text m a p) (role_text n c) (by_first 110 112 (digits 6 (m - 32)) (digits 1 (n - (32 + size))) (omega arith))
        by (inr a) (inr p) (inr b) (inl c) = absurd (omega arith)
        by (inr a) (inr p) (inr b) (inr c) =
            as_texts (name_text size m) (name_text size n) (112 ∷ digits 1 (m - (32 + size))) (112 ∷ digits 1 (n - (32 + size)))
            (role_text m p) (role_text n c)
            (behind_same 112 (digits 1 (m - (32 + size))) (digits 1 (n - (32 + size)))
            (digits-before 1 (m - (32 + size)) (n - (32 + size)) (omega arith) (omega arith)))

    differ : (m n : ℕ) → m < n → n < 40 + size → (b : Bool) → bytes_eq (name_text size n) (name_text size m) ≡ b
        → bytes_eq (name_text size n) (name_text size m) ≡ false
    differ m n more within false e = e
    differ m n more within true e =
        let same = same-bytes_eq (name_text size n) (name_text size m) e in
        let itself : IsBefore (name_text size m) (name_text size m) = ap (text_cmp (name_text size m)) (sym same) ∙ texts_before m n more within in
        let tied = tied_itself nat_list_cmp_total (name_text size m) in
        absurd (let no : Equal ≡ Less = sym tied ∙ itself in cc)

    new_name : (n : ℕ) → n < 40 + size → has_name (map (name_text size) (range_with_len 0 n)) (name_text size n) ≡ false
    new_name n within =
        list_any_none (bytes_eq (name_text size n)) (map (name_text size) (range_with_len 0 n)) (λ k d k_in.
        let less : k < n = omega (arith, k_in, length-map-range_with_len (name_text size) 0 n) in
        let at = get_or-map-range_with_len (name_text size) 0 n k k d less (omega arith) in
        subst (λ t. bytes_eq (name_text size n) t ≡ false) (sym at)
        (differ k n less within (bytes_eq (name_text size n) (name_text size k)) refl))

    -- one name more
    pub names_next : (n : ℕ) → n < 40 + size → names_after (map (name_text size) (range_with_len 0 n)) (name_text size n)
        ≡ map (name_text size) (range_with_len 0 (n + 1))
    names_next n within =
        names_after-new (map (name_text size) (range_with_len 0 n)) (name_text size n) (new_name n within)
        ∙ sym (map-range_with_len_more (name_text size) 0 n n (omega arith))

    names_ascend : IsAscending (name_texts size)
    names_ascend i j d more within =
        let j_in : j < 40 + size = omega (arith, within, length-map-range_with_len (name_text size) 0 (40 + size)) in
        let at_i = get_or-map-range_with_len (name_text size) 0 (40 + size) i i d (omega arith) (omega arith) in
        let at_j = get_or-map-range_with_len (name_text size) 0 (40 + size) j j d j_in (omega arith) in
        (λ t. text_cmp (at_i t) (at_j t)) ∙ texts_before i j more j_in

    -- freezing leaves them as they are
    pub frozen_as_made : (names : List Text) (ranks : List ℕ) → IsFrozen (name_texts size) names ranks → names ≡ name_texts size
    frozen_as_made names ranks frozen =
        let count = length (name_texts size) in
        IsFrozen-same_names (name_texts size) names (name_texts size) ranks (range_with_len 0 count) frozen (record {
          distinct = frozen.distinct;
          members = λ text. refl;
          as_many = refl;
          ascending = names_ascend;
          one_each = length-range_with_len 0 count;
          ranked = λ p within. ap (slice_get (name_texts size)) (get_or-range_with_len 0 count p 0 within ∙ omega arith);
        })
