-- Byte order, names in it, and what a reader of a frozen set knows of its ranks.
use Rattle.std.proofs.Common.{◌≡◌, ℕ, ◌<◌, ◌↔◌, ◌⊎◌, true, List, [], length, get_or, slice_get, slice_index, Some, refl, sym, ap, subst, inl, inr, ◌∙◌, arith}
use Rattle.std.specs.declared.cmp.Ordering.{Ordering}
use Rattle.std.specs.declared.cmp.Ordering.TheVariants.{Less, Equal, Greater}
use Rattle.std.specs.Ordering.{is_eq}
use Rattle.std.proofs.lemmas.Cmp.{nat_list_cmp_total, tied_itself}
use Rattle.std.proofs.lemmas.Map.Text.{is_eq-slice_cmp}
use Rattle.std.proofs.lemmas.Option.{slice_get-get_or, get_or_from_slice_get, slice_get_within, same_Some}
use Rattle.dl_names.specs.NameList.{Text, has_name, place_of, HasNoRepeats}
use Rattle.dl_names.specs.Frozen.{text_cmp, IsBefore, IsAscending, IsFrozen}
use Rattle.dl_names.proofs.NameListLemmas.{same-bytes_eq, same_place, slice_get-place_of, has_name-slice_get}

-- ---- byte order

pub text_cmp-same : (x : Text) → text_cmp x x ≡ Equal
text_cmp-same x = tied_itself nat_list_cmp_total x

pub same-text_cmp : (x y : Text) → text_cmp x y ≡ Equal → x ≡ y
same-text_cmp x y tied = same-bytes_eq x y (sym (is_eq-slice_cmp x y) ∙ ap is_eq tied)

-- no text is before itself
pub IsBefore-irreflexive : (x : Text) → IsBefore x x → ⊥
IsBefore-irreflexive x before = let tied = text_cmp-same x in cc

pub IsBefore-trans : (x y z : Text) → IsBefore x y → IsBefore y z → IsBefore x z
IsBefore-trans x y z = nat_list_cmp_total.trans x y z

pub IsBefore-asymmetric : (x y : Text) → IsBefore x y → IsBefore y x → ⊥
IsBefore-asymmetric x y one other = IsBefore-irreflexive x (IsBefore-trans x y x one other)

-- of two texts one is before the other, or they are the same
pub IsBefore_cases : (x y : Text) → IsBefore x y ⊎ ((x ≡ y) ⊎ IsBefore y x)
IsBefore_cases x y = by (text_cmp x y) refl
  where
    by : (o : Ordering) → text_cmp x y ≡ o → IsBefore x y ⊎ ((x ≡ y) ⊎ IsBefore y x)
    by Less e = inl e
    by Equal e = inr (inl (same-text_cmp x y e))
    by Greater e = inr (inr (let back = nat_list_cmp_total.antisymm y x in rw e at back))

-- ---- names in byte order

module _ (names : List Text) (ascending : IsAscending names) where
  pub HasNoRepeats-ascending : HasNoRepeats names
  HasNoRepeats-ascending i j d lt within same =
      IsBefore-irreflexive (get_or names j d) (subst (λ x. IsBefore x (get_or names j d)) same (ascending i j d lt within))

  -- numbers compare as names do
  pub number-order : (m n : ℕ) (x y : Text) → slice_get names m ≡ Some x → slice_get names n ≡ Some y → (m < n) ↔ IsBefore x y
  number-order m n x y at_m at_n =
      let here = get_or_from_slice_get names m x x at_m in
      let there = get_or_from_slice_get names n y x at_n in
      let m_in = slice_get_within names m x at_m in
      let n_in = slice_get_within names n y at_n in
      let not_after : (n < m → IsBefore y x) = λ lt. subst (λ t. IsBefore y t) here (subst (λ t. IsBefore t (get_or names m x)) there (ascending n m x lt m_in)) in
      let not_same : (n ≡ m → y ≡ x) = λ e. sym there ∙ ap (λ k. get_or names k x) e ∙ here in (
        λ lt. subst (λ t. IsBefore x t) there (subst (λ t. IsBefore t (get_or names n x)) here (ascending m n x lt n_in)),
        λ before.
            let no_after : (n < m → ⊥) = λ lt. IsBefore-asymmetric x y before (not_after lt) in
            let no_same : (n ≡ m → ⊥) = λ e. IsBefore-irreflexive x (subst (λ t. IsBefore x t) (not_same e) before) in
            omega arith,
      )

  -- a name has one number
  pub number-unique : (m n : ℕ) (text : Text) → slice_get names m ≡ Some text → slice_get names n ≡ Some text → m ≡ n
  number-unique m n text at_m at_n =
      same_place names HasNoRepeats-ascending m n text (slice_get_within names m text at_m) (slice_get_within names n text at_n)
      (get_or_from_slice_get names m text text at_m ∙ sym (get_or_from_slice_get names n text text at_n))

-- ---- ranks

module _ (set names : List Text) (ranks : List ℕ) (frozen : IsFrozen set names ranks) where
  -- the name with the rank of a place has the place's text
  pub rank-text : (place : ℕ) (text : Text) → slice_get set place ≡ Some text → slice_get names (slice_index ranks place) ≡ Some text
  rank-text place text at = frozen.ranked place (slice_get_within set place text at) ∙ at

  -- a rank is a number of a name
  pub rank-lt : (place : ℕ) → place < length set → slice_index ranks place < length names
  rank-lt place within =
      let at = frozen.ranked place within ∙ slice_get-get_or set place (get_or set place []) within in
      slice_get_within names (slice_index ranks place) _ at

  -- a text that was named is a name, with the rank of its place as its number
  pub rank-place_of : (text : Text) → has_name set text ≡ true → slice_get names (slice_index ranks (place_of set text)) ≡ Some text
  rank-place_of text named = rank-text (place_of set text) text (slice_get-place_of set text named)

  -- two places have two ranks
  pub rank-injective : (p q : ℕ) → p < length set → q < length set → slice_index ranks p ≡ slice_index ranks q → p ≡ q
  rank-injective p q p_in q_in same =
      let at = slice_get-get_or set p [] p_in in
      let other = slice_get-get_or set q [] q_in in
      same_place set frozen.distinct p q [] p_in q_in
      (same_Some _ _ (sym at ∙ sym (frozen.ranked p p_in) ∙ ap (slice_get names) same ∙ frozen.ranked q q_in ∙ other))

  -- ranks compare as the texts do
  pub rank-order : (p q : ℕ) (x y : Text) → slice_get set p ≡ Some x → slice_get set q ≡ Some y → (slice_index ranks p < slice_index ranks q) ↔ IsBefore x y
  rank-order p q x y at_p at_q =
      number-order names frozen.ascending (slice_index ranks p) (slice_index ranks q) x y (rank-text p x at_p) (rank-text q y at_q)

  -- each number of a name is the rank of the place of its text
  pub rank-number : (n : ℕ) (text : Text) → slice_get names n ≡ Some text → slice_index ranks (place_of set text) ≡ n
  rank-number n text at =
      number-unique names frozen.ascending (slice_index ranks (place_of set text)) n text (rank-place_of text (sym (frozen.members text) ∙ has_name-slice_get names text n at)) at
