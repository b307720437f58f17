-- The pairs of one shard after another.
use Rattle.std.proofs.Common.{◌≡◌, ◌↔◌, ◌⊎◌, inl, inr, ℕ, ◌+◌, ◌<◌, ◌≤◌, ◌%◌, Bool, true, List, Some, [], ◌++◌, map, sym, subst, arith}
use Rattle.std.specs.List.{Contains}
use Rattle.std.proofs.lemmas.Bool.{cases_lt}
use Rattle.std.proofs.lemmas.List.Elements.{Contains-append_left, Contains-append_right, Contains-append_cases}
use Rattle.dl_terms.specs.Sets.{IsSetOf}
use Rattle.dl_terms.specs.declared.axiom.Fact.{Fact}
use Rattle.dl_terms.proofs.MemberLemmas.{Contains-nil}
use Rattle.dl_hier.specs.declared.below.Below.{Below}
use Rattle.dl_core.specs.Changes.{first_end}
use Rattle.dl_core.specs.History.{Load, Entry}
use Rattle.dl_core.specs.Root.{epochs}
use Rattle.dl_core.specs.Next.{Numbering}
use Rattle.dl_core.specs.Held.{IsBookOf}
use Rattle.dl_core.specs.Legal.{Reader, ReaderStandsFor, lent}
use Rattle.dl_core.specs.declared.book.Book.{Book}
use Rattle.dl_core.proofs.PinnedShardLemmas.{shard_says}
use Rattle.dl_row.specs.declared.row.Row.{Row}
use Rattle.dl_epoch.specs.Covering.{epoch_in}
use Rattle.dl_scan.specs.Pairs.{IsPairBelow, visible_facts, member, plain, turned}
use Rattle.dl_terms.specs.Order.{pair_cmp}
use Rattle.dl_scan.specs.Scans.{Scan, Gains, TakesSifted}
use Rattle.dl_scan.specs.Sieves.{passes_first}
use Rattle.dl_scan.proofs.BelowLemmas.{pair-more, pair-either}
use Rattle.dl_answer.specs.Readers.{HasFacts}
use Rattle.dl_answer.specs.Sifted.{ArePairsSifted, ArePairsTaken}

module _ (shards : ℕ) (facts : List Fact) (below : Below) (marks : List Bool) where
  pub none_taken : (pairs : List (ℕ × ℕ)) → pairs ≡ [] → ArePairsTaken shards 0 facts below marks pairs
  none_taken pairs none = record {
    taken = [];
    are = λ f. (λ c. absurd (Contains-nil f c), λ w. absurd (let low = w.1 in omega (arith, low)));
    exact = λ p. (
      λ c. absurd (Contains-nil p (subst (λ l. Contains l p) none c)),
      λ w. absurd (no_pair p w.0),
    );
  }
    where
      no_pair : (p : ℕ × ℕ) → IsPairBelow [] below p → ⊥
      no_pair p (member listed fact same) = Contains-nil _ fact
      no_pair p (plain listed fact) = Contains-nil _ fact
      no_pair p (turned listed fact) = Contains-nil _ fact

  -- one shard more
  module _ (i : ℕ) (old new : List (ℕ × ℕ)) (here : List Fact)
      (say : (f : Fact) → Contains here f ↔ (Contains facts f × (first_end f % shards ≡ i)))
      (gains : Gains old new (λ p. IsPairBelow here below p × (passes_first marks p ≡ true)))
      (before : ArePairsTaken shards i facts below marks old) where
    either : (f : Fact) → Contains (before.taken ++ here) f ↔ (Contains before.taken f ⊎ Contains here f)
    either f = (
      λ c. Contains-append_cases before.taken here f c,
      λ e. elim e [
        | inl one ↦ Contains-append_left before.taken here f one
        | inr other ↦ Contains-append_right before.taken here f other
      ],
    )

    within : (f : Fact) → Contains (before.taken ++ here) f → Contains facts f × (first_end f % shards < i + 1)
    within f c = elim ((either f).0 c) [
      | inl one ↦ let w = (before.are f).0 one in let low = w.1 in (w.0, omega (arith, low))
      | inr other ↦ let w = (say f).0 other in let same = w.1 in (w.0, omega (arith, same))
    ]

    among : (f : Fact) → Contains facts f → first_end f % shards < i + 1 → Contains (before.taken ++ here) f
    among f c low = elim (cases_lt (first_end f % shards) i) [
      | inl less ↦ (either f).1 (inl ((before.are f).1 (c, less)))
      | inr past ↦ let same : first_end f % shards ≡ i = omega (arith, past, low) in (either f).1 (inr ((say f).1 (c, same)))
    ]

    pub more_taken : ArePairsTaken shards (i + 1) facts below marks new
    more_taken = record {
      taken = before.taken ++ here;
      are = λ f. (within f, λ w. among f w.0 w.1);
      exact = λ p.
          let two = pair-either before.taken here (before.taken ++ here) below p either in (
            λ c. elim ((gains p).0 c) [
              | inl one ↦ let w = (before.exact p).0 one in (two.1 (inl w.0), w.1)
              | inr other ↦ (two.1 (inr other.0), other.1)
            ],
            λ w. elim (two.0 w.0) [
              | inl one ↦ (gains p).1 (inl ((before.exact p).1 (one, w.1)))
              | inr other ↦ (gains p).1 (inr (other, w.1))
            ],
          );
    }

  -- all shards, as a set
  pub all_taken : (pairs set : List (ℕ × ℕ)) → 1 ≤ shards → ArePairsTaken shards shards facts below marks pairs
      → IsSetOf pair_cmp set pairs → ArePairsSifted facts below marks set
  all_taken pairs set some all is p = (
    λ c.
        let w = (all.exact p).0 ((is.members p).0 c) in
        (pair-more all.taken facts below p (λ f in_taken. ((all.are f).0 in_taken).0) w.0, w.1),
    λ w. (is.members p).1
        ((all.exact p).1 (pair-more facts all.taken below p (λ f c. (all.are f).1 (c, low f)) w.0, w.1)),
  )
    where
      low : (f : Fact) → first_end f % shards < shards
      low f = omega arith

-- ---- a shard that was fetched

module _ (T : Numbering → Load → List Entry → Type 0) (s : Reader)
    (law : (numbering : Numbering) (l : Load) (seen : List Entry) → T numbering l seen → ReaderStandsFor numbering l seen s)
    (version i : ℕ) (pin : s.pin ≡ Some version) (book : Book) (told : IsBookOf s.root book) (rows : List Row)
    (lends : rows ≡ lent s) (at : s.at ≡ i) (facts : List Fact) (has : HasFacts T version facts) where
  -- its visible rows say the facts whose first end belongs to it
  here_says : (f : Fact) → Contains (visible_facts (map epoch_in book.epochs) version rows) f
      ↔ (Contains facts f × (first_end f % s.root.shards ≡ i))
  here_says f =
      subst (λ es. Contains (visible_facts es version rows) f ↔ (Contains facts f × (first_end f % s.root.shards ≡ i)))
      (sym told.epochs)
      (subst (λ l. Contains (visible_facts (epochs s.root) version l) f
      ↔ (Contains facts f × (first_end f % s.root.shards ≡ i))) (sym lends)
      (subst (λ j. Contains (visible_facts (epochs s.root) version (lent s)) f
      ↔ (Contains facts f × (first_end f % s.root.shards ≡ j))) at
      (subst (λ fs. Contains (visible_facts (epochs s.root) version (lent s)) f
      ↔ (Contains fs f × (first_end f % s.root.shards ≡ s.at))) has.are
      (shard_says has.numbering has.load has.seen s version s.at has.is_numbering has.is_load
      (law has.numbering has.load has.seen has.stands) pin f))))

  pub shard_taken : (shards : ℕ) (below : Below) (marks : List Bool) (old new : Scan) → s.root.shards ≡ shards
      → old.below ≡ below → old.version ≡ version → TakesSifted (map epoch_in book.epochs) rows marks old new
      → ArePairsTaken shards i facts below marks old.pairs → ArePairsTaken shards (i + 1) facts below marks new.pairs
  shard_taken shards below marks old new count asks looks takes before =
      more_taken shards facts below marks i old.pairs new.pairs (visible_facts (map epoch_in book.epochs) version rows)
      (λ f. subst (λ n. Contains (visible_facts (map epoch_in book.epochs) version rows) f
      ↔ (Contains facts f × (first_end f % n ≡ i))) count (here_says f))
      (subst (λ b. Gains old.pairs new.pairs (λ p. IsPairBelow (visible_facts (map epoch_in book.epochs) version rows) b p
      × (passes_first marks p ≡ true))) asks
      (subst (λ v. Gains old.pairs new.pairs (λ p. IsPairBelow (visible_facts (map epoch_in book.epochs) v rows) old.below p
      × (passes_first marks p ≡ true))) looks takes.pairs))
      before
