-- The facts of the rows that are visible at a version, as a set.
use Rattle.std.proofs.Common.{◌≡◌, ℕ, ◌+◌, ◌≤◌, ◌⊎◌, Bool, true, false, ◌&&◌, ◌||◌, cond, ◌==◌, List, [], ◌∷◌, filter, filter_map, All, Contains, Option, Some, None, refl, sym, ap, ◌∙◌, inl, inr, true≢false, arith}
use Rattle.std.specs.List.{cons_option}
use Rattle.std.specs.Ordering.{is_eq}
use Rattle.dl_terms.specs.Order.{fact_cmp}
use Rattle.dl_terms.specs.declared.axiom.Fact.{Fact}
use Rattle.dl_terms.specs.declared.axiom.Signature.{Signature}
use Rattle.dl_terms.proofs.OrderLemmas.{facts_linear}
use Rattle.dl_terms.proofs.MemberLemmas.{both_true, Contains-cons, Contains-nil, All-Contains}
use Rattle.dl_row.specs.Lists.{count}
use Rattle.dl_edits.specs.Sets.{has, IsOnce}
use Rattle.dl_row.specs.Rows.{Epoch, fact_of, is_fact, visible, rows_for}
use Rattle.dl_core.specs.Root.{RowsSay, IsNumbered}
use Rattle.dl_edits.specs.Signatures.{IsPart, AreKnown}
use Rattle.dl_core.specs.Next.{visible_facts}
use Rattle.dl_row.specs.declared.row.Row.{Row}
use Rattle.dl_row.proofs.CountLemmas.{count_there}
use Rattle.dl_edits.proofs.SetLemmas.{has-with_items, once-with_items, once-nil, has_by_count}
use Rattle.dl_core.proofs.CommitLemmas.{is_fact-is}
use Rattle.dl_core.proofs.EpochLemmas.{row_epoch, find_is}
use Rattle.dl_edits.proofs.EditLemmas.{knows_more}

-- the facts of the visible rows, as often as rows stand for them
pub count_facts : (es : List Epoch) (rows : List Row) (v : ℕ) (f : Fact)
    → count (λ g. is_eq (fact_cmp f g)) (filter_map (fact_of es) (filter (visible v) rows)) ≡ rows_for es rows v f
count_facts es [] v f = refl
count_facts es (r ∷ rows) v f = by (visible v r) (count_facts es rows v f)
  where
    more : (o : Option Fact) (n : ℕ) → count (λ g. is_eq (fact_cmp f g)) (filter_map (fact_of es) (filter (visible v) rows)) ≡ n
        → count (λ g. is_eq (fact_cmp f g)) (cons_option o (filter_map (fact_of es) (filter (visible v) rows))) ≡ cond (is_fact f o) 1 0 + n
    more None n ih = omega (arith, ih)
    more (Some g) n ih = ap (λ m. cond (is_eq (fact_cmp f g)) 1 0 + m) ih

    by : (b : Bool) → count (λ g. is_eq (fact_cmp f g)) (filter_map (fact_of es) (filter (visible v) rows)) ≡ rows_for es rows v f
        → count (λ g. is_eq (fact_cmp f g)) (filter_map (fact_of es) (cond b (r ∷ filter (visible v) rows) (filter (visible v) rows)))
        ≡ cond (b && is_fact f (fact_of es r)) 1 0 + rows_for es rows v f
    by true ih = more (fact_of es r) (rows_for es rows v f) ih
    by false ih = omega (arith, ih)

or_none : (b : Bool) → (b || false) ≡ b
or_none true = refl
or_none false = refl

-- the set of the visible facts is what the rows say
pub visible_are : (es : List Epoch) (rows : List Row) (v : ℕ) (facts : List Fact) → RowsSay es rows v facts
    → (f : Fact) → has fact_cmp (visible_facts es rows v) f ≡ has fact_cmp facts f
visible_are es rows v facts says f =
    has-with_items facts_linear (filter_map (fact_of es) (filter (visible v) rows)) [] f
    ∙ or_none (has fact_cmp (filter_map (fact_of es) (filter (visible v) rows)) f)
    ∙ has_by_count fact_cmp (filter_map (fact_of es) (filter (visible v) rows)) f (has fact_cmp facts f) (count_facts es rows v f ∙ says f)

pub visible_once : (es : List Epoch) (rows : List Row) (v : ℕ) → IsOnce fact_cmp (visible_facts es rows v)
visible_once es rows v = once-with_items facts_linear (filter_map (fact_of es) (filter (visible v) rows)) [] once-nil

pub visible_say : (es : List Epoch) (rows : List Row) (v : ℕ) (facts : List Fact) → RowsSay es rows v facts → RowsSay es rows v (visible_facts es rows v)
visible_say es rows v facts says f = says f ∙ ap (λ b. cond b 1 0) (sym (visible_are es rows v facts says f))

-- each is known to the current signature
pub visible_known : (es : List Epoch) (rows : List Row) (v : ℕ) (facts : List Fact) (s : Signature) → RowsSay es rows v facts → All IsNumbered es
    → All (λ e. IsPart e.signature s) es → AreKnown s facts
visible_known es rows v facts s says numbered parts f h =
    let n = says f ∙ ap (λ b. cond b 1 0) h in
    let r = count_there (λ r. visible v r && is_fact f (fact_of es r)) rows (omega (arith, n)) in
    let e = row_epoch es r.0 f (is_fact-is f (fact_of es r.0) (both_true (visible v r.0) (is_fact f (fact_of es r.0)) r.2).1) in
    let found = find_is (λ d. d.id == r.0.epoch) es e.0 e.1 in
    knows_more e.0.signature s (All-Contains (λ d. IsPart d.signature s) es e.0 parts found.1) f (e.2 (All-Contains IsNumbered es e.0 numbered found.1))
