-- The rows of a table, one number after the other.
use Rattle.std.proofs.Common.{◌≡◌, ℕ, suc, ◌+◌, ◌<◌, ◌≤◌, ◌^◌, Bool, true, false, List, [], ◌∷◌, ◌⊎◌, ◌↔◌, length, get_or, slice_index_or, nat_eq, eqb-true, bit_and, w8, refl, sym, ap, subst, ◌∙◌, inl, inr, arith}
use Rattle.std.specs.Int.{bit_at, bit_not}
use Rattle.std.specs.List.{Contains, list_any}
use Rattle.std.proofs.lemmas.Nat.{and_le_l}
use Rattle.std.proofs.lemmas.Nat.Bits.{bit_at-zero}
use Rattle.std.proofs.lemmas.List.{get_or_default, get_or_past}
use Rattle.std.proofs.lemmas.List.Elements.{Contains-get_or}
use Rattle.std.proofs.Math.Pow.{pow_mono}
use Rattle.dl_terms.specs.Chain.{Chain, empty, step}
use Rattle.dl_terms.specs.Order.{role_cmp}
use Rattle.dl_terms.specs.Roles.{named}
use Rattle.dl_terms.specs.Queries.{existential_variables}
use Rattle.dl_terms.specs.declared.role.Role.{Role}
use Rattle.dl_terms.specs.declared.axiom.Axiom.{Axiom}
use Rattle.dl_terms.specs.declared.query.Query.{Query}
use Rattle.dl_terms.proofs.MemberLemmas.{Contains-nil}
use Rattle.dl_hier.specs.Predicates.{roles}
use Rattle.dl_hier.specs.Hierarchy.{Hierarchy}
use Rattle.dl_hier.specs.Nodes.{StandsAt}
use Rattle.dl_hier.specs.Picking.{ArePicked}
use Rattle.dl_hier.proofs.MemberLemmas.{StandsAt-get, StandsAt-default}
use Rattle.dl_hier.proofs.HierLemmas.{sorted-none}
use Rattle.dl_tree.specs.Sets.{IsConnected}
use Rattle.dl_tree.specs.Folds.{IsTreeWitness}
use Rattle.dl_tree.specs.Below.{minus, MayFollow, FoldsBelow, SplitsAtSome, IsClosedIn}
use Rattle.dl_tree.specs.Each.{IsEach}
use Rattle.dl_tree.specs.Masks.{place, set_of}
use Rattle.dl_tree.specs.Tests.{crosses, column, tests_at, AreTops, SomeSplit}
use Rattle.dl_tree.specs.Rows.{role_at, HasBit, TellsRow, LeadsTo, ChainLeadsTo}
use Rattle.dl_tree.specs.Plans.{IsPlanFor, IsNext, IsRowFor, TellsBelowFor, FoldsAt, FoldsBelowAt, IsFoldRow}
use Rattle.dl_tree.specs.Table.{IsRowOf, IsTableOf}
use Rattle.dl_tree.specs.declared.atoms.AtomRows.{AtomRows}
use Rattle.dl_tree.proofs.FoldLemmas.{true_or_false, not_both, and_right, not_true}
use Rattle.dl_tree.proofs.GraftLemmas.{FoldsBelow-connected, FoldsBelow-parts, FoldsBelow-none}
use Rattle.dl_tree.proofs.DeepLemmas.{Folds-SplitsAtSome, Folds-Chain}
use Rattle.dl_tree.proofs.MaskLemmas.{member_known, true_one}
use Rattle.dl_tree.proofs.SubsetLemmas.{set_of_minus}
use Rattle.dl_tree.proofs.SplitLemmas.{to_some, from_some}
use Rattle.dl_tree.proofs.TopLemmas.{may_from}
use Rattle.dl_tree.proofs.NumberingLemmas.{numbering}
use Rattle.dl_tree.proofs.NeighbourLemmas.{neighbour, no_neighbour}
use Rattle.dl_tree.proofs.PartLemmas.{part_is_whole, part_le}
use Rattle.dl_tree.proofs.RowLemmas.{TellsRow-same}

-- ---- the variables of a set are below a bound

total : List ℕ → ℕ
total [] = 0
total (x ∷ xs) = x + total xs

below_total : (xs : List ℕ) (v : ℕ) → list_any (nat_eq v) xs ≡ true → v ≤ total xs
unfolding total
below_total [] v h = absurd (not_both h refl)
below_total (x ∷ xs) v h = by (nat_eq v x) refl (below_total xs v)
  where
    by : (b : Bool) → nat_eq v x ≡ b → (list_any (nat_eq v) xs ≡ true → v ≤ total xs) → v ≤ x + total xs
    by true e rest = let k = eqb-true v x e in omega (arith, k)
    by false e rest = let k = rest (rw e at h) in omega (arith, k)

-- the empty set has the number 0
pub no_member : (ex : List ℕ) (v : ℕ) → set_of ex 0 v ≡ false
no_member ex v = by (true_or_false (set_of ex 0 v))
  where
    by : (set_of ex 0 v ≡ true) ⊎ (set_of ex 0 v ≡ false) → set_of ex 0 v ≡ false
    by (inl h) = let o = true_one (bit_at 0 (place ex v)) h in let z = bit_at-zero (place ex v) in absurd (omega (arith, o, z))
    by (inr h) = h

-- a role of a list stands at a place
place_of : (rs : List Role) (t : Role) → Contains rs t → (i : ℕ) × (i < length rs) × (role_at rs i ≡ t)
place_of rs t c = (c.0, c.1, get_or_default rs c.0 (named 0) t c.1 ∙ c.2)

module _ (h : Hierarchy) (axioms : List Axiom) (q : Query) (links : List (ℕ × ℕ)) (atoms : List AtomRows) (below : List (List ℕ)) (s : ℕ)
    (next : IsNext h axioms q links atoms below s) where
  abbrev rs : List Role
  rs = roles h.predicates

  abbrev ex : List ℕ
  ex = existential_variables q

  abbrev set : ℕ → Bool
  set = set_of ex s

  -- ---- members at the role itself

  bases_told : (tops : List ℕ) (row : List ℕ) → AreTops links s tops
      → TellsRow (length rs) (λ i. SomeSplit (tests_at atoms i) (column below i) tops s) row
      → TellsRow (length rs) (λ i. SplitsAtSome axioms q set (role_at rs i)) row
  bases_told tops row are told =
      TellsRow-same _ _ (length rs) row same told
    where
      same : (i : ℕ) → i < length rs → SomeSplit (tests_at atoms i) (column below i) tops s ↔ SplitsAtSome axioms q set (role_at rs i)
      same i l = (
        λ w. to_some axioms q ex (role_at rs i) (tests_at atoms i) (next.plan.asked i l) (numbering q) next.plan.few (column below i) s next.fits
            (next.told i l) w.0 (are.some w.0 w.1) (are.within w.0 w.1) w.2,
        λ k.
            let w = from_some axioms q ex (role_at rs i) (tests_at atoms i) (next.plan.asked i l) (numbering q) next.plan.few (column below i) s
            next.fits (next.told i l) k in
            (w.0, are.each w.0 w.1 w.2 (may_from axioms q ex (role_at rs i) (tests_at atoms i) (next.plan.asked i l) links next.plan.masks (column below i) s w.0 w.3), w.3),
      )

  pub near : (tops : List ℕ) (row : List ℕ) → AreTops links s tops
      → TellsRow (length rs) (λ i. SomeSplit (tests_at atoms i) (column below i) tops s) row
      → list_any (crosses s) links ≡ true → TellsRow (length rs) (FoldsAt axioms q rs s) row
  near tops row are told e =
      let n = neighbour q ex links next.plan.masks s next.fits e in
      TellsRow-same _ _ (length rs) row
      (λ i l. let f = Folds-SplitsAtSome axioms q set (role_at rs i) n.0 n.1 in (f.1, f.0)) (bases_told tops row are told)

  pub alone : IsConnected q set → (tops : List ℕ) (row found : List ℕ) → AreTops links s tops
      → TellsRow (length rs) (λ i. SomeSplit (tests_at atoms i) (column below i) tops s) row
      → list_any (crosses s) links ≡ false → TellsRow (length rs) (ChainLeadsTo axioms rs row) found → TellsRow (length rs) (FoldsAt axioms q rs s) found
  alone connected tops row found are told e led = TellsRow-same _ _ (length rs) found same led
    where
      bases : TellsRow (length rs) (λ i. SplitsAtSome axioms q set (role_at rs i)) row
      bases = bases_told tops row are told

      folds : (t : Role) → ((words : ℕ → List Role) × IsTreeWitness axioms q set t words) ↔ ((r : Role) × Chain (MayFollow axioms) t r × SplitsAtSome axioms q set r)
      folds = Folds-Chain axioms q set (no_neighbour q ex links next.plan.masks s next.fits e) connected (suc (total ex))
          (λ v m. let k = below_total ex v (member_known ex s v next.fits m) in omega (arith, k))

      known : {t r : Role} → Chain (MayFollow axioms) t r → Contains rs t → Contains rs r
      known empty c = c
      known (step {a = t} {b = u} f chain) c = known chain (next.plan.followers t u f c)

      same : (i : ℕ) → i < length rs → ChainLeadsTo axioms rs row i ↔ FoldsAt axioms q rs s i
      same i l = (
        λ w. (folds (role_at rs i)).1 (role_at rs w.0, w.3, (bases.each w.0 w.1).0 w.2),
        λ f.
            let w = (folds (role_at rs i)).0 f in
            let p = place_of rs w.0 (known w.1 (Contains-get_or rs i (named 0) l)) in
            (p.0, p.1, (bases.each p.0 p.1).1 (subst (SplitsAtSome axioms q set) (sym p.2) w.2), subst (Chain (MayFollow axioms) (role_at rs i)) (sym p.2) w.1),
      )

  -- ---- what folds below a role

  pub below_connected : (row found : List ℕ) → IsFoldRow axioms q rs s row → TellsRow (length rs) (LeadsTo axioms rs row) found
      → TellsRow (length rs) (FoldsBelowAt axioms q rs s) found
  below_connected row found fold led = TellsRow-same _ _ (length rs) found same led
    where
      same : (i : ℕ) → i < length rs → LeadsTo axioms rs row i ↔ FoldsBelowAt axioms q rs s i
      same i l = (
        λ w. (FoldsBelow-connected axioms q set (role_at rs i) fold.connected).1 (role_at rs w.0, w.3, (fold.tells.each w.0 w.1).0 w.2),
        λ b.
            let w = (FoldsBelow-connected axioms q set (role_at rs i) fold.connected).0 b in
            let p = place_of rs w.0 (next.plan.followers (role_at rs i) w.0 w.1 (Contains-get_or rs i (named 0) l)) in (
              p.0,
              p.1,
              (fold.tells.each p.0 p.1).1 (subst (λ t. (words : ℕ → List Role) × IsTreeWitness axioms q set t words) (sym p.2) w.2),
              subst (MayFollow axioms (role_at rs i)) (sym p.2) w.1,
            ),
      )

  pub below_none : s ≡ 0 → (row : List ℕ) → TellsRow (length rs) (λ _. true ≡ true) row → TellsRow (length rs) (FoldsBelowAt axioms q rs s) row
  below_none e row told = TellsRow-same _ _ (length rs) row
      (λ i l. (λ _. FoldsBelow-none axioms q set (role_at rs i) (λ v. ap (λ n. set_of ex n v) e ∙ no_member ex v), λ _. refl)) told

  -- a part that isn't all of the set
  module _ (part : ℕ) (fp : part < 2 ^ length ex) (connected : IsConnected q (set_of ex part)) (closed : IsClosedIn q (set_of ex part) set) (other : part ≡ s → ⊥) where
    pub not_connected : IsConnected q set → ⊥
    not_connected all = other (part_is_whole q ex (numbering q) part s fp next.fits closed connected all)

    less : part < s
    less = by (cases part s (part_le q ex (numbering q) part s fp next.fits closed))
      where
        cases : (a b : ℕ) → a ≤ b → (a < b) ⊎ (a ≡ b)
        cases a b l = grind arith

        by : (part < s) ⊎ (part ≡ s) → part < s
        by (inl l) = l
        by (inr e) = absurd (other e)

    byte : part < 2 ^ 8
    byte = let p = pow_mono next.plan.few in omega (arith, p, fp)

    rest : set_of ex (bit_and s (bit_not w8 part)) ≡ minus set (set_of ex part)
    rest = set_of_minus ex s part next.plan.few next.fits byte

    rest_less : bit_and s (bit_not w8 part) < s
    rest_less = by (cases (bit_and s (bit_not w8 part)) (and_le_l s (bit_not w8 part)))
      where
        cases : (n : ℕ) → n ≤ s → (n < s) ⊎ (n ≡ s)
        cases n h = grind arith

        by : (bit_and s (bit_not w8 part) < s) ⊎ (bit_and s (bit_not w8 part) ≡ s) → bit_and s (bit_not w8 part) < s
        by (inl h) = h
        by (inr e) =
            let v = connected.member in
            let gone : minus set (set_of ex part) v ≡ true =
            subst (λ z. z v ≡ true) rest (subst (λ n. set_of ex n v ≡ true) (sym e) (closed.within v connected.is_member)) in
            absurd (not_both connected.is_member (not_true (set_of ex part v) (and_right (set v) _ gone)))

    pub below_parts : (row : List ℕ)
        → TellsRow (length rs) (λ i. (column below i part ≡ true) × (column below i (bit_and s (bit_not w8 part)) ≡ true)) row
        → TellsRow (length rs) (FoldsBelowAt axioms q rs s) row
    below_parts row told = TellsRow-same _ _ (length rs) row same told
      where
        same : (i : ℕ) → i < length rs
            → ((column below i part ≡ true) × (column below i (bit_and s (bit_not w8 part)) ≡ true)) ↔ FoldsBelowAt axioms q rs s i
        same i l =
            let parts = FoldsBelow-parts axioms q (set_of ex part) set (role_at rs i) closed in
            let one = next.told i l part less in
            let two = next.told i l (bit_and s (bit_not w8 part)) rest_less in (
              λ w. parts.1 (one.0 w.0, subst (λ z. FoldsBelow axioms q z (role_at rs i)) rest (two.0 w.1)),
              λ b. let w = parts.0 b in (one.1 w.0, two.1 (subst (λ z. FoldsBelow axioms q z (role_at rs i)) (sym rest) w.1)),
            )

  -- ---- the row of a table

  pub row_of_fold : (bits : List ℕ) (row : List Role) → IsFoldRow axioms q rs s bits → ArePicked role_cmp rs (HasBit bits) row → IsRowOf axioms rs q s row
  row_of_fold bits row fold picked = record {
    ascending = picked.ascending;
    exact = λ t. (
      λ c.
          let w = (picked.exact t).0 c in
          let e : role_at rs w.0 ≡ t = StandsAt-default (named 0) w.1 in
          let f = subst (λ z. (words : ℕ → List Role) × IsTreeWitness axioms q set z words) e ((fold.tells.each w.0 w.1.within).0 w.2) in
          (next.fits, fold.connected, record { in_hierarchy = (w.0, w.1.within, w.1.is); words = f.0; folds = f.1 }),
      λ w.
          let r = w.2 in
          let p = place_of rs t r.in_hierarchy in
          (picked.exact t).1 (
            p.0,
            subst (StandsAt rs p.0) p.2 (StandsAt-get rs p.0 (named 0) p.1),
            (fold.tells.each p.0 p.1).1 (subst (λ z. (words : ℕ → List Role) × IsTreeWitness axioms q set z words) (sym p.2) (r.words, r.folds)),
          ),
    );
  }

-- the row of a number that stands for no connected set of variables
pub row_of_none : (axioms : List Axiom) (list : List Role) (q : Query) (s : ℕ) (row : List Role) → row ≡ []
    → (s < 2 ^ length (existential_variables q) → IsConnected q (set_of (existential_variables q) s) → ⊥) → IsRowOf axioms list q s row
row_of_none axioms list q s row is_nil not = record {
  ascending = sorted-none role_cmp row is_nil;
  exact = λ t. (λ c. absurd (Contains-nil t (subst (λ l. Contains l t) is_nil c)), λ w. absurd (not w.0 w.1));
}

-- the empty set isn't connected
pub empty_not_connected : (q : Query) (ex : List ℕ) → IsConnected q (set_of ex 0) → ⊥
empty_not_connected q ex c = not_both c.is_member (no_member ex c.member)

-- ---- a table

-- what is known of all sets up to a number is known for the next one
pub next_of : (h : Hierarchy) (links : List (ℕ × ℕ)) (atoms : List AtomRows) (below slice : List (List ℕ)) (s last : ℕ)
    → IsEach [] s (TellsBelowFor h links atoms last) below → slice ≡ below → s ≤ last → (axioms : List Axiom) (q : Query)
    → IsPlanFor h axioms q links atoms → last < 2 ^ length (existential_variables q) → IsNext h axioms q links atoms slice s
next_of h links atoms below slice s last told same l axioms q plan fits =
    subst (λ b. IsNext h axioms q links atoms b s) (sym same) (record {
      plan = plan;
      fits = omega (arith, l, fits);
      told = λ i k m j. (told.each m j axioms q plan fits).each i k;
    })

-- past the last row all are empty
pub table_told : (h : Hierarchy) (axioms : List Axiom) (q : Query) (links : List (ℕ × ℕ)) (atoms : List AtomRows) (last : ℕ) (rows : List (List Role))
    → IsPlanFor h axioms q links atoms → last + 1 ≡ 2 ^ length (existential_variables q) → IsEach [] (last + 1) (IsRowFor h links atoms last) rows
    → IsTableOf axioms (roles h.predicates) q rows
table_told h axioms q links atoms last rows plan all told number l = by (cases number (last + 1))
  where
    cases : (a b : ℕ) → (a < b) ⊎ (b ≤ a)
    cases a b = grind arith

    by : (number < last + 1) ⊎ (last + 1 ≤ number) → IsRowOf axioms (roles h.predicates) q number (slice_index_or rows number [])
    by (inl k) = told.each number k axioms q plan (omega (arith, all))
    by (inr k) =
        row_of_none axioms (roles h.predicates) q number (slice_index_or rows number [])
        (get_or_past rows number [] (let n = told.as_many in omega (arith, n, k))) (λ fits c. absurd (omega (arith, all, k, fits)))

-- a query without existential variables has empty rows alone
pub table_empty : (axioms : List Axiom) (list : List Role) (q : Query) (rows : List (List Role)) → length (existential_variables q) ≡ 0 → rows ≡ []
    → IsTableOf axioms list q rows
table_empty axioms list q rows none is_nil number l =
    row_of_none axioms list q number (slice_index_or rows number []) (ap (λ z. get_or z number []) is_nil) (λ fits c.
    let one : number < 1 = subst (λ k. number < 2 ^ k) none fits in
    let z : number ≡ 0 = omega (arith, one) in
    empty_not_connected q (existential_variables q) (subst (λ n. IsConnected q (set_of (existential_variables q) n)) z c))

pub table_same : (axioms : List Axiom) (list : List Role) (q : Query) (rows all : List (List Role)) → ((k : ℕ) → slice_index_or all k [] ≡ slice_index_or rows k [])
    → IsTableOf axioms list q rows → IsTableOf axioms list q all
table_same axioms list q rows all same told number l = subst (IsRowOf axioms list q number) (sym (same number)) (told number l)
