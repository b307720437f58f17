-- A commit: its rows say the facts of the new version, each by one row, and what they said of earlier versions.
use Rattle.std.proofs.Common.{◌≡◌, ℕ, ◌+◌, ◌≤◌, ◌<◌, ◌⊎◌, Bool, true, false, not, ◌&&◌, cond, ◌==◌, nat_le, nat_lt, List, ◌++◌, map, All, Option, Some, None, refl, sym, ap, ap₂, ◌∙◌, inl, inr, true≢false, arith}
use Rattle.std.specs.Ordering.{is_eq}
use Rattle.std.proofs.lemmas.Bool.Decides.{nat_tests}
use Rattle.std.proofs.lemmas.List.Elements.{All-filter}
use Rattle.dl_terms.specs.Order.{fact_cmp}
use Rattle.dl_terms.specs.declared.axiom.Fact.{Fact}
use Rattle.dl_terms.specs.declared.axiom.Fact.TheVariants.{Is, Link}
use Rattle.dl_terms.proofs.OrderLemmas.{facts_linear}
use Rattle.dl_row.specs.Lists.{count}
use Rattle.dl_edits.specs.Sets.{has, IsOnce}
use Rattle.dl_row.specs.Rows.{Epoch, fact_of, is_fact, visible, rows_for, row_cmp, open_end}
use Rattle.dl_core.specs.Root.{IsRowAt, RowsSay}
use Rattle.dl_core.specs.Next.{is_among, ended, ended_at, row_for, new_facts, committed_rows}
use Rattle.dl_row.specs.declared.row.Row.{Row}
use Rattle.dl_edits.proofs.CountLemmas.{and_true, count-map, count-agree, count-same, count-none, count-and, count-filter, count_once}
use Rattle.dl_row.proofs.CountLemmas.{count-append, count-ordered, same_is}

-- ---- tests of numbers

pub le_true : (a b : ℕ) → a ≤ b → nat_le a b ≡ true
le_true a b h = grind (arith, nat_tests)

pub lt_true : (a b : ℕ) → a < b → nat_lt a b ≡ true
lt_true a b h = grind (arith, nat_tests)

pub le_false : (a b : ℕ) → b < a → nat_le a b ≡ false
le_false a b h = grind (arith, nat_tests)

pub lt_false : (a b : ℕ) → b ≤ a → nat_lt a b ≡ false
lt_false a b h = grind (arith, nat_tests)

pub eq_true : (a b : ℕ) → a ≡ b → (a == b) ≡ true
eq_true a b h = grind (arith, nat_tests)

pub eq_false : (a b : ℕ) → a < b → (a == b) ≡ false
eq_false a b h = grind (arith, nat_tests)

pub is_equal : (a b : ℕ) → (a == b) ≡ true → a ≡ b
is_equal a b h = grind (arith, nat_tests)

-- ---- facts of rows

pub is_fact-is : (f : Fact) (o : Option Fact) → is_fact f o ≡ true → o ≡ Some f
is_fact-is f None e = absurd (true≢false (sym e))
is_fact-is f (Some g) e = ap Some (sym (same_is facts_linear f g e))

-- a row that ends stands for the same fact
pub ended_fact : (es' es : List Epoch) (after : List Fact) (v : ℕ) (r : Row) → fact_of es' (ended es after v r) ≡ fact_of es' r
ended_fact es' es after v r = by (r.last == open_end && not (is_among after (fact_of es r)))
  where
    by : (b : Bool) → fact_of es' (cond b (ended_at v r) r) ≡ fact_of es' r
    by true = refl
    by false = refl

-- ---- which rows are visible

-- at an earlier version, the same
pub ended_before : (es : List Epoch) (after : List Fact) (version v : ℕ) (r : Row) → v ≤ version → version + 1 < open_end
    → visible v (ended es after (version + 1) r) ≡ visible v r
ended_before es after version v r below small = by (r.last == open_end) (not (is_among after (fact_of es r))) refl
  where
    by : (b c : Bool) → (r.last == open_end) ≡ b → visible v (cond (b && c) (ended_at (version + 1) r) r) ≡ visible v r
    by true true e =
        let is_open = is_equal r.last open_end e in
        ap (λ t. nat_le r.first v && t) (lt_true v (version + 1) (omega (arith, below)) ∙ sym (lt_true v r.last (omega (arith, below, small, is_open))))
    by true false e = refl
    by false c e = refl

-- at the new version, those that were visible and whose facts stay
pub ended_now : (es : List Epoch) (after : List Fact) (version : ℕ) (r : Row) → IsRowAt es version r → version + 1 < open_end
    → visible (version + 1) (ended es after (version + 1) r) ≡ (visible version r && is_among after (fact_of es r))
ended_now es after version r row small = by row.ends
  where
    open_row : r.last ≡ open_end → (c : Bool)
        → visible (version + 1) (cond (not c) (ended_at (version + 1) r) r) ≡ (visible version r && c)
    open_row e true =
        ap₂ (λ s t. s && t) (le_true r.first (version + 1) (omega (arith, row.begins))) (lt_true (version + 1) r.last (omega (arith, small, e)))
        ∙ sym (ap₂ (λ s t. (s && t) && true) (le_true r.first version row.begins) (lt_true version r.last (omega (arith, small, e))))
    open_row e false =
        ap₂ (λ s t. s && t) (le_true r.first (version + 1) (omega (arith, row.begins))) (lt_false (version + 1) (version + 1) (omega arith))
        ∙ sym (ap₂ (λ s t. (s && t) && false) (le_true r.first version row.begins) (lt_true version r.last (omega (arith, small, e))))

    gone : (a b c : Bool) → b ≡ false → (a && b) && c ≡ false
    gone true b c e = ap (λ t. t && c) e
    gone false b c e = refl

    past_row : r.last ≤ version → visible (version + 1) r ≡ (visible version r && is_among after (fact_of es r))
    past_row h =
        sym (and_true (visible (version + 1) r)) ∙ gone (nat_le r.first (version + 1)) (nat_lt (version + 1) r.last) true (lt_false (version + 1) r.last (omega (arith, h)))
        ∙ sym (gone (nat_le r.first version) (nat_lt version r.last) (is_among after (fact_of es r)) (lt_false version r.last h))

    by : (r.last ≡ open_end) ⊎ (r.last ≤ version)
        → visible (version + 1) (ended es after (version + 1) r) ≡ (visible version r && is_among after (fact_of es r))
    by (inl e) =
        ap (λ t. visible (version + 1) (cond (t && not (is_among after (fact_of es r))) (ended_at (version + 1) r) r)) (eq_true r.last open_end e)
        ∙ open_row e (is_among after (fact_of es r))
    by (inr h) =
        ap (λ t. visible (version + 1) (cond (t && not (is_among after (fact_of es r))) (ended_at (version + 1) r) r)) (eq_false r.last open_end (omega (arith, h, small)))
        ∙ past_row h

-- a new row is visible from the new version on
pub new_now : (e : Epoch) (v : ℕ) (g : Fact) → v < open_end → visible v (row_for e v g) ≡ true
new_now e v (Is c x) small = ap₂ (λ s t. s && t) (le_true v v (omega arith)) (lt_true v open_end small)
new_now e v (Link p x y) small = ap₂ (λ s t. s && t) (le_true v v (omega arith)) (lt_true v open_end small)

pub new_before : (e : Epoch) (version v : ℕ) (g : Fact) → v ≤ version → visible v (row_for e (version + 1) g) ≡ false
new_before e version v (Is c x) h = ap (λ s. s && nat_lt v open_end) (le_false (version + 1) v (omega (arith, h)))
new_before e version v (Link p x y) h = ap (λ s. s && nat_lt v open_end) (le_false (version + 1) v (omega (arith, h)))

-- ---- what the rows say

rearranged : (a b c h : Bool) → (b ≡ true → c ≡ h) → (a && c) && b ≡ ((a && b) && h)
rearranged true true c h e = and_true c ∙ e refl
rearranged true false true h e = refl
rearranged true false false h e = refl
rearranged false b c h e = refl

-- the rows that were there say what was there and stays
old_rows : (es es' : List Epoch) (rows : List Row) (version : ℕ) (after : List Fact) (f : Fact) → All (IsRowAt es version) rows
    → All (λ r. fact_of es' r ≡ fact_of es r) rows → version + 1 < open_end
    → count (λ r. visible (version + 1) (ended es after (version + 1) r) && is_fact f (fact_of es' (ended es after (version + 1) r))) rows
    ≡ cond (has fact_cmp after f) (rows_for es rows version f) 0
old_rows es es' rows version after f are same small =
    count-agree (λ r. visible (version + 1) (ended es after (version + 1) r) && is_fact f (fact_of es' (ended es after (version + 1) r)))
    (λ r. (visible version r && is_fact f (fact_of es r)) && has fact_cmp after f) rows (λ k d h. each _ (are k d h) (same k d h))
    ∙ count-and (λ r. visible version r && is_fact f (fact_of es r)) (has fact_cmp after f) rows
  where
    each : (r : Row) → IsRowAt es version r → fact_of es' r ≡ fact_of es r
        → (visible (version + 1) (ended es after (version + 1) r) && is_fact f (fact_of es' (ended es after (version + 1) r)))
        ≡ ((visible version r && is_fact f (fact_of es r)) && has fact_cmp after f)
    each r row e =
        ap₂ (λ s t. s && t) (ended_now es after version r row small) (ap (is_fact f) (ended_fact es' es after (version + 1) r ∙ e))
        ∙ rearranged (visible version r) (is_fact f (fact_of es r)) (is_among after (fact_of es r)) (has fact_cmp after f)
        (λ t. ap (is_among after) (is_fact-is f (fact_of es r) t))

-- the new rows say what wasn't there and is now
new_rows : (es' : List Epoch) (e : Epoch) (version : ℕ) (before after : List Fact) (f : Fact) → IsOnce fact_cmp after
    → All (λ g. fact_of es' (row_for e version g) ≡ Some g) after → version < open_end
    → count (λ g. visible version (row_for e version g) && is_fact f (fact_of es' (row_for e version g))) (new_facts before after)
    ≡ cond (has fact_cmp before f) 0 (cond (has fact_cmp after f) 1 0)
new_rows es' e version before after f once stand small =
    count-agree (λ g. visible version (row_for e version g) && is_fact f (fact_of es' (row_for e version g))) (λ g. is_eq (fact_cmp f g))
    (new_facts before after) (λ k d h. each _ (All-filter (λ g. not (has fact_cmp before g)) (λ g. fact_of es' (row_for e version g) ≡ Some g) after stand k d h))
    ∙ count-filter (λ g. is_eq (fact_cmp f g)) (λ g. not (has fact_cmp before g)) after
    ∙ count-same (λ g. is_eq (fact_cmp f g) && not (has fact_cmp before g)) (λ g. is_eq (fact_cmp f g) && not (has fact_cmp before f)) after
    (λ g. one (is_eq (fact_cmp f g)) g refl)
    ∙ count-and (λ g. is_eq (fact_cmp f g)) (not (has fact_cmp before f)) after
    ∙ ap (λ n. cond (not (has fact_cmp before f)) n 0) (count_once fact_cmp after once f)
    ∙ turned (has fact_cmp before f) (cond (has fact_cmp after f) 1 0)
  where
    each : (g : Fact) → fact_of es' (row_for e version g) ≡ Some g
        → (visible version (row_for e version g) && is_fact f (fact_of es' (row_for e version g))) ≡ is_eq (fact_cmp f g)
    each g s = ap₂ (λ s t. s && t) (new_now e version g small) (ap (is_fact f) s)

    one : (b : Bool) (g : Fact) → is_eq (fact_cmp f g) ≡ b → (b && not (has fact_cmp before g)) ≡ (b && not (has fact_cmp before f))
    one true g s = ap (λ z. not (has fact_cmp before z)) (sym (same_is facts_linear f g s))
    one false g s = refl

    turned : (b : Bool) (n : ℕ) → cond (not b) n 0 ≡ cond b 0 n
    turned true n = refl
    turned false n = refl

-- each fact of the new version by exactly one row
pub committed_say : (es es' : List Epoch) (rows : List Row) (e : Epoch) (version : ℕ) (before after : List Fact)
    → All (IsRowAt es version) rows → All (λ r. fact_of es' r ≡ fact_of es r) rows → IsOnce fact_cmp after
    → All (λ g. fact_of es' (row_for e (version + 1) g) ≡ Some g) after → version + 1 < open_end → RowsSay es rows version before
    → RowsSay es' (committed_rows es rows e (version + 1) before after) (version + 1) after
committed_say es es' rows e version before after are same once stand small says f =
    count-ordered test row_cmp (map (ended es after (version + 1)) rows ++ map (row_for e (version + 1)) (new_facts before after))
    ∙ count-append test (map (ended es after (version + 1)) rows) (map (row_for e (version + 1)) (new_facts before after))
    ∙ ap₂ (λ m n. m + n)
    (count-map test (ended es after (version + 1)) rows ∙ old_rows es es' rows version after f are same small
    ∙ ap (λ n. cond (has fact_cmp after f) n 0) (says f))
    (count-map test (row_for e (version + 1)) (new_facts before after) ∙ new_rows es' e (version + 1) before after f once stand small)
    ∙ sum (has fact_cmp before f) (has fact_cmp after f)
  where
    test : Row → Bool
    test r = visible (version + 1) r && is_fact f (fact_of es' r)

    sum : (b a : Bool) → cond a (cond b 1 0) 0 + cond b 0 (cond a 1 0) ≡ cond a 1 0
    sum true true = refl
    sum true false = refl
    sum false true = refl
    sum false false = refl

-- and of each earlier version as many rows as before
pub committed_keep : (es es' : List Epoch) (rows : List Row) (e : Epoch) (version : ℕ) (before after : List Fact)
    → All (λ r. fact_of es' r ≡ fact_of es r) rows → version + 1 < open_end → (v : ℕ) → v ≤ version → (f : Fact)
    → rows_for es' (committed_rows es rows e (version + 1) before after) v f ≡ rows_for es rows v f
committed_keep es es' rows e version before after same small v below f =
    count-ordered test row_cmp (map (ended es after (version + 1)) rows ++ map (row_for e (version + 1)) (new_facts before after))
    ∙ count-append test (map (ended es after (version + 1)) rows) (map (row_for e (version + 1)) (new_facts before after))
    ∙ ap₂ (λ m n. m + n)
    (count-map test (ended es after (version + 1)) rows
    ∙ count-agree (λ r. test (ended es after (version + 1) r)) (λ r. visible v r && is_fact f (fact_of es r)) rows (λ k d h. each _ (same k d h)))
    (count-map test (row_for e (version + 1)) (new_facts before after)
    ∙ count-same (λ g. test (row_for e (version + 1) g)) (λ g. false) (new_facts before after) (λ g. ap (λ s. s && is_fact f (fact_of es' (row_for e (version + 1) g))) (new_before e version v g below))
    ∙ count-none (new_facts before after))
    ∙ plus_none (rows_for es rows v f)
  where
    test : Row → Bool
    test r = visible v r && is_fact f (fact_of es' r)

    each : (r : Row) → fact_of es' r ≡ fact_of es r → test (ended es after (version + 1) r) ≡ (visible v r && is_fact f (fact_of es r))
    each r e = ap₂ (λ s t. s && t) (ended_before es after version v r below small) (ap (is_fact f) (ended_fact es' es after (version + 1) r ∙ e))

    plus_none : (n : ℕ) → n + 0 ≡ n
    plus_none n = omega arith
