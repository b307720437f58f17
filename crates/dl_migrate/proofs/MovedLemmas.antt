-- A shard of which the first rows that carry another epoch moved to one.
use Rattle.std.proofs.Common.{◌≡◌, ℕ, ◌+◌, ◌≤◌, min, Bool, true, false, cond, ◌==◌, List, ◌++◌, map, filter, length, Option, refl, sym, ap, subst, ◌∙◌, arith}
use Rattle.std.specs.List.{All}
use Rattle.std.specs.Ordering.{is_eq}
use Rattle.std.proofs.lemmas.Bool.{not-true, eq-eqb, ne_eqb}
use Rattle.std.proofs.lemmas.List.{length-map}
use Rattle.std.proofs.lemmas.List.Elements.{All-take, All-filter, All-map, All-weaker, filter_passes}
use Rattle.dl_terms.specs.declared.axiom.Fact.{Fact}
use Rattle.dl_row.specs.Lists.{count, ordered, left_of}
use Rattle.dl_row.specs.Rows.{Epoch, fact_of, row_cmp}
use Rattle.dl_row.specs.Shards.{max_rows}
use Rattle.dl_row.specs.declared.row.Row.{Row}
use Rattle.dl_row.proofs.CountLemmas.{count-append, count-ordered}
use Rattle.dl_row.proofs.OrderedLemmas.{ordered_determined}
use Rattle.dl_row.proofs.RowLemmas.{rows_linear}
use Rattle.dl_migrate.specs.Lists.{change_first, drop_first, first_that}
use Rattle.dl_migrate.specs.Tallies.{carries, listed, IsTally}
use Rattle.dl_migrate.specs.Picking.{ArePicked}
use Rattle.dl_migrate.specs.Moving.{is_behind, renumbered, migrated_rows, IsSameRow}
use Rattle.dl_migrate.proofs.ListLemmas.{count_parts, count_changed, count-change_first, count-fixed, length_parts, length-first_that}
use Rattle.dl_migrate.proofs.PickedLemmas.{Picked-left}

-- with the changed rows put in again, the shard is that of the changed list
module _ (n : ℕ) (p : Row → Bool) (f : Row → Row) (rows : List Row) (places : List ℕ) (picked : List Row) (are : ArePicked n p rows places picked) where
  pub Changed-in : ordered row_cmp (left_of places rows ++ map f picked) ≡ ordered row_cmp (change_first n p f rows)
  Changed-in =
      ap (λ ys. ordered row_cmp (ys ++ map f picked)) (Picked-left n p rows places picked are)
      ∙ ap (λ ys. ordered row_cmp (drop_first n p rows ++ map f ys)) are.items_are
      ∙ ordered_determined rows_linear (drop_first n p rows ++ map f (first_that n p rows)) (change_first n p f rows)
      (λ z. count-append (λ w. is_eq (row_cmp z w)) (drop_first n p rows) (map f (first_that n p rows))
      ∙ sym (count_changed p (λ w. is_eq (row_cmp z w)) f n rows))

  pub Changed-fits : length rows ≤ max_rows → length (left_of places rows) + length (map f picked) ≤ max_rows
  Changed-fits h =
      let left = ap (length {A = Row}) (Picked-left n p rows places picked are) in
      let put = length-map picked f ∙ ap (length {A = Row}) are.items_are in
      let whole = length_parts p n rows in
      omega (arith, h, left, put, whole)

-- what all rows have, those that are picked have
pub All-picked : {A : Type 0} (P : A → Type 0) (n : ℕ) (p : A → Bool) (xs : List A) (places : List ℕ) (picked : List A) → ArePicked n p xs places picked
    → All P xs → All P picked
All-picked P n p xs places picked are all = subst (All P) (sym are.items_are) (All-take P n (filter p xs) (All-filter p P xs all))

module _ (n : ℕ) (es : List Epoch) (e : Epoch) (rows : List Row) where
  -- facts with the versions at which they are seen
  pub Migrated-facts : (says : Option Fact → ℕ → ℕ → Bool) → All (λ r. IsSameRow es r (renumbered es e r)) rows
      → count (λ r. says (fact_of es r) r.first r.last) (migrated_rows n es e rows) ≡ count (λ r. says (fact_of es r) r.first r.last) rows
  Migrated-facts says same =
      let q : Row → Bool = λ r. says (fact_of es r) r.first r.last in
      count-ordered q row_cmp (change_first n (is_behind e.id) (renumbered es e) rows)
      ∙ count-change_first (is_behind e.id) q (renumbered es e) n rows
      (All-weaker (λ r. IsSameRow es r (renumbered es e r)) (λ r. q (renumbered es e r) ≡ q r) (λ r s. told r s) rows same)
    where
      told : (r : Row) → IsSameRow es r (renumbered es e r)
          → says (fact_of es (renumbered es e r)) (renumbered es e r).first (renumbered es e r).last ≡ says (fact_of es r) r.first r.last
      told r s =
          ap (λ o. says o (renumbered es e r).first (renumbered es e r).last) s.fact ∙ ap (λ v. says (fact_of es r) v (renumbered es e r).last) s.first
          ∙ ap (says (fact_of es r) r.first) s.last

  -- what carries an epoch then: what is left, and all that moved where it is this one
  carried : (id : ℕ) → All (λ r. (renumbered es e r).epoch ≡ e.id) rows → count (carries id) (migrated_rows n es e rows)
      ≡ count (carries id) (drop_first n (is_behind e.id) rows) + cond (e.id == id) (length (first_that n (is_behind e.id) rows)) 0
  carried id all =
      let f : Row → Row = renumbered es e in
      let p : Row → Bool = is_behind e.id in
      let ys : List Row = first_that n p rows in
      let moved : All (λ r. (f r).epoch ≡ e.id) ys = All-take (λ r. (f r).epoch ≡ e.id) n (filter p rows) (All-filter p (λ r. (f r).epoch ≡ e.id) rows all) in
      let told : All (λ r. carries id (f r) ≡ (e.id == id)) ys =
      All-weaker (λ r. (f r).epoch ≡ e.id) (λ r. carries id (f r) ≡ (e.id == id)) (λ r s. ap (λ k. k == id) s) ys moved in
      count-ordered (carries id) row_cmp (change_first n p f rows) ∙ count_changed p (carries id) f n rows
      ∙ ap (λ m. count (carries id) (drop_first n p rows) + m)
      (count-fixed (carries id) (e.id == id) (map f ys) (All-map (λ r. carries id r ≡ (e.id == id)) f ys told)
      ∙ ap (λ m. cond (e.id == id) m 0) (length-map ys f))

  pub Migrated-others : (tally : List (ℕ × ℕ)) → IsTally (first_that n (is_behind e.id) rows) tally → All (λ r. (renumbered es e r).epoch ≡ e.id) rows
      → (id : ℕ) → (id ≡ e.id → ⊥) → count (carries id) (migrated_rows n es e rows) + listed id tally ≡ count (carries id) rows
  Migrated-others tally t all id other =
      let c = carried id all in
      let none = ap (λ b. cond b (length (first_that n (is_behind e.id) rows)) 0) (ne_eqb e.id id (λ s. other (sym s))) in
      let told = t.counts id in
      let whole = count_parts (is_behind e.id) (carries id) n rows in
      omega (arith, c, none, told, whole)

  pub Migrated-this : All (λ r. (renumbered es e r).epoch ≡ e.id) rows
      → count (carries e.id) (migrated_rows n es e rows) ≡ count (carries e.id) rows + min n (count (is_behind e.id) rows)
  Migrated-this all =
      let c = carried e.id all in
      let each = ap (λ b. cond b (length (first_that n (is_behind e.id) rows)) 0) (eq-eqb e.id e.id refl) in
      let whole = count_parts (is_behind e.id) (carries e.id) n rows in
      let long = length-first_that (is_behind e.id) n rows in
      let behind = count-fixed (carries e.id) false (first_that n (is_behind e.id) rows)
      (All-weaker (λ r. is_behind e.id r ≡ true) (λ r. carries e.id r ≡ false) (λ r b. not-true (carries e.id r) b) (first_that n (is_behind e.id) rows)
      (All-take (λ r. is_behind e.id r ≡ true) n (filter (is_behind e.id) rows) (filter_passes (is_behind e.id) rows))) in
      omega (arith, c, each, whole, long, behind)
