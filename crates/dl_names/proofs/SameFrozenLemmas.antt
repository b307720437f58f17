-- A set is frozen in one way: its names and its ranks are determined.
use Rattle.std.proofs.Common.{◌≡◌, ℕ, ◌+◌, ◌<◌, true, List, [], length, get_or, slice_get, slice_index, sym, ap, subst, ◌∙◌, arith}
use Rattle.std.specs.List.{Contains}
use Rattle.std.specs.List.Sorted.{IsStrictlySortedBy}
use Rattle.std.specs.Str.{bytes_eq}
use Rattle.std.proofs.lemmas.Cmp.{nat_list_cmp_total}
use Rattle.std.proofs.lemmas.Grind.{same_number_lists}
use Rattle.std.proofs.lemmas.List.Folds.{list_any_at}
use Rattle.std.proofs.lemmas.Map.Keys.{sorted_from_all_adjacent}
use Rattle.std.proofs.lemmas.Option.{slice_get-get_or, get_or_from_slice_get}
use Rattle.dl_terms.proofs.OrderLemmas.{lists_linear, numbers_linear}
use Rattle.dl_terms.proofs.MemberLemmas.{sorted_unique}
use Rattle.dl_names.specs.NameList.{Text, has_name, place_of}
use Rattle.dl_names.specs.Frozen.{text_cmp, IsAscending, IsFrozen}
use Rattle.dl_names.proofs.NameListLemmas.{bytes_eq-same, place_of-lt, slice_get-place_of}
use Rattle.dl_names.proofs.FrozenLemmas.{number-unique, rank-text}

-- names in byte order ascend strictly, and having a name is being a member
sorted_from_ascending : (names : List Text) → IsAscending names → IsStrictlySortedBy text_cmp names
sorted_from_ascending names ascending =
    sorted_from_all_adjacent nat_list_cmp_total names [] (λ k within. ascending k (k + 1) [] (omega arith) within)

has_name-Contains : (names : List Text) (text : Text) → Contains names text → has_name names text ≡ true
has_name-Contains names text h =
    list_any_at (bytes_eq text) names h.0 text h.1 (subst (λ t. bytes_eq text t ≡ true) (sym h.2) (bytes_eq-same text))

Contains-has_name : (names : List Text) (text : Text) → has_name names text ≡ true → Contains names text
Contains-has_name names text named =
    (place_of names text, place_of-lt names text named, get_or_from_slice_get names (place_of names text) text text (slice_get-place_of names text named))

module _ (set names names' : List Text) (ranks ranks' : List ℕ) (one : IsFrozen set names ranks) (other : IsFrozen set names' ranks') where
  pub IsFrozen-same_names : names ≡ names'
  IsFrozen-same_names =
      sorted_unique (lists_linear numbers_linear) names names' (sorted_from_ascending names one.ascending) (sorted_from_ascending names' other.ascending)
      (λ z h. Contains-has_name names' z (other.members z ∙ sym (one.members z) ∙ has_name-Contains names z h))
      (λ z h. Contains-has_name names z (one.members z ∙ sym (other.members z) ∙ has_name-Contains names' z h))

  pub IsFrozen-same_ranks : ranks ≡ ranks'
  IsFrozen-same_ranks =
      same_number_lists ranks ranks' (one.one_each ∙ sym other.one_each) (λ place within.
      let text = get_or set place [] in
      let place_in : place < length set = omega (arith, one.one_each, within) in
      let at = slice_get-get_or set place [] place_in in
      number-unique names one.ascending (slice_index ranks place) (slice_index ranks' place) text
      (rank-text set names ranks one place text at)
      (ap (λ l. slice_get l (slice_index ranks' place)) IsFrozen-same_names ∙ rank-text set names' ranks' other place text at))
