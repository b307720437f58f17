-- A fact is there exactly where, in one of the kept epochs, its row is open.
use Rattle.std.proofs.Common.{◌≡◌, ℕ, Option, None, ◌≤◌, ◌<◌, ◌⊎◌, Bool, true, false, ◌&&◌, cond, ◌==◌, nat_le, nat_lt, List, Contains, Some, refl, sym, ap, ap₂, subst, ◌∙◌, inl, inr, arith}
use Rattle.std.proofs.lemmas.Bool.Decides.{nat_tests}
use Rattle.dl_terms.specs.Order.{fact_cmp}
use Rattle.dl_terms.specs.declared.axiom.Fact.{Fact}
use Rattle.dl_terms.specs.declared.axiom.Fact.TheVariants.{Is, Link}
use Rattle.dl_terms.proofs.OrderLemmas.{facts_linear}
use Rattle.dl_terms.proofs.MemberLemmas.{both_true, All-Contains}
use Rattle.dl_edits.specs.Sets.{has}
use Rattle.dl_core.specs.History.{Load, Entry, facts_at}
use Rattle.dl_row.specs.Rows.{Epoch, epoch_of, names_of, name_at, fact_by, fact_named, fact_in, fact_of, is_fact, visible, rows_for, open_end}
use Rattle.dl_core.specs.Root.{Root, epochs, IsLive, IsNumbered, EndsAgree, IsRowAt, StandsFor}
use Rattle.dl_edits.specs.Signatures.{knows}
use Rattle.dl_core.specs.Next.{row_for, root_facts}
use Rattle.dl_row.specs.declared.row.Kind.{Kind}
use Rattle.dl_row.specs.declared.row.Kind.TheVariants.{Class, Role}
use Rattle.dl_row.specs.declared.row.Row.{Row}
use Rattle.dl_row.proofs.CountLemmas.{same_itself, count_there}
use Rattle.dl_core.proofs.CommitLemmas.{is_fact-is, is_equal, le_true, lt_true}
use Rattle.dl_core.proofs.EpochLemmas.{some_none, some_some, number_is, find_is, row_epoch, row_for_stands}
use Rattle.dl_core.proofs.FactLemmas.{visible_are}
use Rattle.dl_edits.proofs.CountLemmas.{there_counts}

-- an open row that stands for a fact by an epoch is the one that this epoch gives it
row_is : (e : Epoch) (r : Row) (f : Fact) (k : Kind) → r.kind ≡ k → IsNumbered e → EndsAgree r.kind r.s r.o → fact_in r (Some e) ≡ Some f
    → r.epoch ≡ e.id → r.last ≡ open_end → r ≡ row_for e r.first f
row_is e r f k is numbered ends h id last = by k is (name_at (names_of r.kind e) r.number) refl h
  where
    by : (k : Kind) → r.kind ≡ k → (o : Option ℕ) → name_at (names_of r.kind e) r.number ≡ o → fact_named r o ≡ Some f → r ≡ row_for e r.first f
    by k is None n h = absurd (some_none h)
    by Class is (Some c) n h =
        let number = number_is e.classes r.number c numbered.classes_once (ap (λ k. name_at (names_of k e) r.number) (sym is) ∙ n) in
        let o = subst (λ k. EndsAgree k r.s r.o) is ends in
        let f_is = sym (some_some h) ∙ ap (λ k. fact_by k r.s r.o c) is in
        (λ i. record { kind = is i; number = number i; epoch = id i; s = r.s; o = o i; first = r.first; last = last i })
        ∙ ap (row_for e r.first) (sym f_is)
    by Role is (Some p) n h =
        let number = number_is e.roles r.number p numbered.roles_once (ap (λ k. name_at (names_of k e) r.number) (sym is) ∙ n) in
        let f_is = sym (some_some h) ∙ ap (λ k. fact_by k r.s r.o p) is in
        (λ i. record { kind = is i; number = number i; epoch = id i; s = r.s; o = r.o; first = r.first; last = last i })
        ∙ ap (row_for e r.first) (sym f_is)

module _ (l : Load) (history : List Entry) (root : Root) (s : StandsFor l history root) where
  has_one : (f : Fact) → rows_for (epochs root) root.rows root.version f ≡ cond (has fact_cmp (root_facts root) f) 1 0
  has_one f =
      let r = s.reads root.version (IsLive.current refl) in
      r.facts_are f ∙ ap (λ b. cond b 1 0) (sym (visible_are (epochs root) root.rows root.version (facts_at l history root.version) r.facts_are f))

  -- a fact that is there has an open row, which is the one that some kept epoch gives it
  pub open_row : (f : Fact) → has fact_cmp (root_facts root) f ≡ true
      → (e : Epoch) × (v : ℕ) × Contains (epochs root) e × (knows e.signature f ≡ true) × Contains root.rows (row_for e v f)
  open_row f h =
      let n = has_one f ∙ ap (λ b. cond b 1 0) h in
      let q = count_there (λ r. visible root.version r && is_fact f (fact_of (epochs root) r)) root.rows (omega (arith, n)) in
      let seen = both_true (visible root.version q.0) (is_fact f (fact_of (epochs root) q.0)) q.2 in
      let stands = is_fact-is f (fact_of (epochs root) q.0) seen.1 in
      let row = All-Contains (IsRowAt (epochs root) root.version) root.rows q.0 s.rows_are.each q.1 in
      let e = row_epoch (epochs root) q.0 f stands in
      let found = find_is (λ d. d.id == q.0.epoch) (epochs root) e.0 e.1 in
      let numbered = All-Contains IsNumbered (epochs root) e.0 s.epochs_are.numbered found.1 in
      let last = ends q.0 row (both_true (nat_le q.0.first root.version) (nat_lt root.version q.0.last) seen.0).1 in
      let is = row_is e.0 q.0 f q.0.kind refl numbered row.ends_agree (sym (ap (fact_in q.0) e.1) ∙ stands) (sym (is_equal e.0.id q.0.epoch found.0)) last in
      (e.0, q.0.first, found.1, e.2 numbered, subst (Contains root.rows) is q.1)
    where
      after : (a b : ℕ) → nat_lt a b ≡ true → b ≤ a → ⊥
      after a b h i = grind (arith, nat_tests)

      ends : (r : Row) → IsRowAt (epochs root) root.version r → nat_lt root.version r.last ≡ true → r.last ≡ open_end
      ends r row h = by row.ends
        where
          by : (r.last ≡ open_end) ⊎ (r.last ≤ root.version) → r.last ≡ open_end
          by (inl e) = e
          by (inr b) = absurd (after root.version r.last h b)

  -- and a fact with an open row that a kept epoch gives it is there
  pub open_there : (f : Fact) (e : Epoch) (v : ℕ) → epoch_of (epochs root) e.id ≡ Some e → IsNumbered e → knows e.signature f ≡ true
      → Contains root.rows (row_for e v f) → root.version < open_end → has fact_cmp (root_facts root) f ≡ true
  open_there f e v found numbered known c small =
      let row = All-Contains (IsRowAt (epochs root) root.version) root.rows (row_for e v f) s.rows_are.each c in
      let n = there_counts (λ r. visible root.version r && is_fact f (fact_of (epochs root) r)) root.rows (row_for e v f) c
      (ap₂ (λ a b. a && b) (seen f row.begins) (ap (is_fact f) (row_for_stands (epochs root) e v f found numbered known) ∙ same_itself facts_linear f)) in
      some (has fact_cmp (root_facts root) f) (rows_for (epochs root) root.rows root.version f) n (has_one f)
    where
      seen : (f : Fact) → (row_for e v f).first ≤ root.version → visible root.version (row_for e v f) ≡ true
      seen (Is a x) b = ap₂ (λ s t. s && t) (le_true v root.version b) (lt_true root.version open_end small)
      seen (Link p x y) b = ap₂ (λ s t. s && t) (le_true v root.version b) (lt_true root.version open_end small)

      some : (b : Bool) (n : ℕ) → 1 ≤ n → n ≡ cond b 1 0 → b ≡ true
      some true n h e = refl
      some false n h e = absurd (omega (arith, h, e))
