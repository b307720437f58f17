-- What the rows of one shard say at a version: those of its facts whose first end belongs there.
use Rattle.std.proofs.Common.{◌≡◌, ◌↔◌, ℕ, ◌%◌, Bool, true, false, ◌&&◌, cond, ◌==◌, List, Option, Some, refl, sym, ap, ◌∙◌}
use Rattle.std.specs.List.{Contains, filter, filter_map}
use Rattle.std.proofs.lemmas.Bool.{and_parts, and_from, eqb-true, eq-eqb}
use Rattle.dl_terms.specs.Order.{fact_cmp}
use Rattle.dl_terms.specs.declared.axiom.Fact.{Fact}
use Rattle.dl_terms.proofs.OrderLemmas.{facts_linear}
use Rattle.dl_row.specs.Rows.{Epoch, epoch_of, fact_of, is_fact, visible}
use Rattle.dl_row.specs.declared.row.Row.{Row}
use Rattle.dl_core.specs.Changes.{first_end}
use Rattle.dl_core.specs.History.{Load, Entry, facts_at}
use Rattle.dl_core.specs.Legal.{Reader, ReaderStandsFor}
use Rattle.dl_core.specs.Next.{Numbering, IsNumbering}
use Rattle.dl_core.specs.Root.{IsLoad, RowsSay, epochs, shard, stands_in}
use Rattle.dl_edits.specs.Sets.{has}
use Rattle.dl_core.proofs.CommitLemmas.{is_fact-is}
use Rattle.dl_edits.proofs.CountLemmas.{count-and, count-filter, count-same}
use Rattle.dl_core.proofs.FactLemmas.{count_facts}
use Rattle.dl_core.proofs.FoundLemmas.{row_end}
use Rattle.dl_core.proofs.ReaderLemmas.{reader_reads}
use Rattle.dl_edits.proofs.SetLemmas.{has_by_count, has_there, there_has}

-- one where both hold
of_both : (a b : Bool) → ◌≡◌ {A = ℕ} (cond b (cond a 1 0) 0) (cond (a && b) 1 0)
of_both true true = refl
of_both true false = refl
of_both false true = refl
of_both false false = refl

module _ (es : List Epoch) (rows : List Row) (v : ℕ) (facts : List Fact) (says : RowsSay es rows v facts) (n i : ℕ)
    (f : Fact) where
  -- a row that stands for the fact stands in the shard of the fact's first end
  placed : (r : Row) (o : Option Fact) → fact_of es r ≡ o
      → ((visible v r && is_fact f o) && stands_in n i r) ≡ ((visible v r && is_fact f o) && (first_end f % n == i))
  placed r o e = by (visible v r) (is_fact f o) refl
    where
      by : (a b : Bool) → is_fact f o ≡ b → ((a && b) && stands_in n i r) ≡ ((a && b) && (first_end f % n == i))
      by true true is =
          ap (λ s. s % n == i) (row_end r (epoch_of es r.epoch) f (e ∙ is_fact-is f o is))
      by true false is = refl
      by false true is = refl
      by false false is = refl

  pub shard_has : has fact_cmp (filter_map (fact_of es) (filter (visible v) (filter (stands_in n i) rows))) f
      ≡ (has fact_cmp facts f && (first_end f % n == i))
  shard_has =
      has_by_count fact_cmp (filter_map (fact_of es) (filter (visible v) (filter (stands_in n i) rows))) f
      (has fact_cmp facts f && (first_end f % n == i))
      (count_facts es (filter (stands_in n i) rows) v f
      ∙ count-filter (λ r. visible v r && is_fact f (fact_of es r)) (stands_in n i) rows
      ∙ count-same (λ r. (visible v r && is_fact f (fact_of es r)) && stands_in n i r)
      (λ r. (visible v r && is_fact f (fact_of es r)) && (first_end f % n == i)) rows (λ r. placed r (fact_of es r) refl)
      ∙ count-and (λ r. visible v r && is_fact f (fact_of es r)) (first_end f % n == i) rows
      ∙ ap (λ (m : ℕ). cond (first_end f % n == i) m 0) (says f)
      ∙ of_both (has fact_cmp facts f) (first_end f % n == i))

  pub shard_says_facts : Contains (filter_map (fact_of es) (filter (visible v) (filter (stands_in n i) rows))) f
      ↔ (Contains facts f × (first_end f % n ≡ i))
  shard_says_facts = (
    λ c.
        let h = and_parts (has fact_cmp facts f) (first_end f % n == i)
        (sym shard_has
        ∙ has_there facts_linear (filter_map (fact_of es) (filter (visible v) (filter (stands_in n i) rows))) f c) in
        (there_has facts_linear facts f h.0, eqb-true (first_end f % n) i h.1),
    λ h. there_has facts_linear (filter_map (fact_of es) (filter (visible v) (filter (stands_in n i) rows))) f
        (shard_has
        ∙ and_from (has fact_cmp facts f) (first_end f % n == i) (has_there facts_linear facts f h.0)
        (eq-eqb (first_end f % n) i h.1)),
  )

-- what a reader's shards say at its pin
pub shard_says : (numbering : Numbering) (l : Load) (seen : List Entry) (reader : Reader) (v i : ℕ) → IsNumbering numbering → IsLoad l
    → ReaderStandsFor numbering l seen reader → reader.pin ≡ Some v → (f : Fact)
    → Contains (filter_map (fact_of (epochs reader.root)) (filter (visible v) (shard reader.root i))) f
    ↔ (Contains (facts_at l seen v) f × (first_end f % reader.root.shards ≡ i))
shard_says numbering l seen reader v i numbers load stands pin f =
    shard_says_facts (epochs reader.root) reader.root.rows v (facts_at l seen v)
    (reader_reads numbering l seen reader v numbers load stands pin).facts_are reader.root.shards i f
