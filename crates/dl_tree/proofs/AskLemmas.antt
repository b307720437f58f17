-- What the atoms of a query ask of each role, row by row.
use Rattle.std.proofs.Common.{◌≡◌, ◌⊎◌, ℕ, ◌+◌, ◌*◌, ◌%◌, ◌<◌, ◌≤◌, Bool, true, false, not, ◌&&◌, ◌||◌, List, [], ◌∷◌, ◌++◌, take, length, get_or, nat_eq, refl, sym, ap, subst, ◌∙◌, inl, inr, arith}
use Rattle.std.specs.List.{Contains, list_all}
use Rattle.std.proofs.lemmas.List.{map-append, take_more, length-map, get_or-map}
use Rattle.std.proofs.lemmas.List.Folds.{list_all-append}
use Rattle.std.proofs.lemmas.List.Elements.{Contains-append_left, Contains-push, Contains-push_cases}
use Rattle.std.proofs.lemmas.Nat.Bits.{bit_at-zero}
use Rattle.dl_terms.specs.declared.role.Role.{Role}
use Rattle.dl_terms.specs.declared.axiom.Axiom.{Axiom}
use Rattle.dl_terms.specs.declared.query.Atom.{Atom}
use Rattle.dl_terms.proofs.MemberLemmas.{Contains-nil}
use Rattle.dl_reach.specs.Rows.{row_has}
use Rattle.dl_tree.specs.Rows.{role_at, HasBit, TellsRow}
use Rattle.dl_tree.specs.Tests.{has, test_stands, test_at, tests_at, splits_at, column, SomeSplit}
use Rattle.dl_tree.specs.TestsOf.{IsTestOf, no_test, no_atom, no_rows, AreTestsOf, AreRowsOf}
use Rattle.dl_tree.specs.declared.atoms.AtomTest.TheVariants.{Link}
use Rattle.dl_tree.specs.declared.atoms.AtomRows.{AtomRows}
use Rattle.dl_tree.proofs.FoldLemmas.{and_left, and_right, both}
use Rattle.dl_tree.proofs.RowLemmas.{of_one}

-- the tests of a role, from what the atoms ask of all
pub tests_of : (axioms : List Axiom) (atoms : List Atom) (ex : List ℕ) (roles : List Role) (rows : List AtomRows) → AreRowsOf axioms atoms ex roles rows
    → (i : ℕ) → i < length roles → AreTestsOf axioms atoms ex (role_at roles i) (tests_at rows i)
tests_of axioms atoms ex roles rows are i within = record {
  as_many = length-map rows (test_at i) ∙ are.as_many;
  each = λ k l.
      subst (IsTestOf axioms ex (role_at roles i) (get_or atoms k no_atom))
      (sym (get_or-map (test_at i) rows k no_rows no_test (subst (λ n. k < n) (sym are.as_many) l))) (are.each k l i within);
}

-- no bits
pub row_has-none : (i : ℕ) → row_has [] i ≡ false
row_has-none i = ap (λ b. nat_eq b 1) (bit_at-zero (i % 64))

module _ (row : List ℕ) (s m i : ℕ) (below : ℕ → Bool) where
  -- one atom more
  pub asked_next : (atoms : List AtomRows) (n : ℕ) (d : AtomRows) (new : List ℕ) (start : Bool) → n < length atoms
      → row_has row i ≡ (start && list_all (test_stands s m) (tests_at (take n atoms) i))
      → row_has new i ≡ (row_has row i && test_stands s m (test_at i (get_or atoms n d)))
      → row_has new i ≡ (start && list_all (test_stands s m) (tests_at (take (n + 1) atoms) i))
  asked_next atoms n d new start within so_far here =
      here ∙ ap (λ b. b && test_stands s m (test_at i (get_or atoms n d))) so_far
      ∙ assoc start (list_all (test_stands s m) (tests_at (take n atoms) i)) (test_stands s m (test_at i (get_or atoms n d)))
      ∙ ap (λ b. start && b) (sym (
      ap (λ l. list_all (test_stands s m) (tests_at l i)) (take_more atoms n d within)
      ∙ ap (list_all (test_stands s m)) (map-append (test_at i) (take n atoms) (get_or atoms n d ∷ []))
      ∙ list_all-append (test_stands s m) (tests_at (take n atoms) i) (test_at i (get_or atoms n d) ∷ [])
      ∙ ap (λ b. list_all (test_stands s m) (tests_at (take n atoms) i) && b) (and_true (test_stands s m (test_at i (get_or atoms n d))))))
    where
      assoc : (a b c : Bool) → ((a && b) && c) ≡ (a && (b && c))
      assoc true b c = refl
      assoc false b c = refl

      and_true : (a : Bool) → (a && true) ≡ a
      and_true true = refl
      and_true false = refl

-- a role atom, by what it asks where both roles pass, and where one does
bools : (r c p q x u v y out into : Bool)
    → (((r && ((c && (p || q || (x && true)) && (u || v || (y && true))) || false))
    && ((c && (p || q || (x && false)) && (u || v || (y && true))) || out))
    && ((c && (p || q || (x && true)) && (u || v || (y && false))) || into))
    ≡ (r && (c && (p || q || (x && out)) && (u || v || (y && into))))
bools false c p q x u v y out into = refl
bools true false p q x u v y out into = refl
bools true true true q x true v y out into = refl
bools true true true q x false true y out into = refl
bools true true true q x false false true out into = refl
bools true true true q x false false false out into = refl
bools true true false true x true v y out into = refl
bools true true false true x false true y out into = refl
bools true true false true x false false true out into = refl
bools true true false true x false false false out into = refl
bools true true false false true true v y out into = refl
bools true true false false true false true y out into = refl
bools true true false false true false false true out into = refl
bools true true false false true false false false true into = refl
bools true true false false true false false false false into = refl
bools true true false false false u v y out into = refl

pub link_asks : (s m from to : ℕ) (old one two new : Bool) (out into none : Bool) → none ≡ false
    → one ≡ (old && (test_stands s m (Link from to true true) || none)) → two ≡ (one && (test_stands s m (Link from to false true) || out))
    → new ≡ (two && (test_stands s m (Link from to true false) || into)) → new ≡ (old && test_stands s m (Link from to out into))
link_asks s m from to old one two new out into none e first second third =
    third ∙ ap (λ b. b && (test_stands s m (Link from to true false) || into)) (second ∙ ap (λ b. b && (test_stands s m (Link from to false true) || out))
    (first ∙ ap (λ b. old && (test_stands s m (Link from to true true) || b)) e))
    ∙ bools old (not (has from m) || not (has to m)) (not (has from s)) (has to s) (has from m) (not (has to s)) (has from s) (has to m) out into

-- ---- the sets of members, one after the other

module _ (atoms : List AtomRows) (below : List (List ℕ)) (s places : ℕ) where
  -- some of the first sets of members may stand at the role of a place
  abbrev pub Some : List ℕ → ℕ → Type 0
  Some tops i = SomeSplit (tests_at atoms i) (column below i) tops s

  pub some_none : (found : List ℕ) → places ≤ 64 * length found → ((i : ℕ) → row_has found i ≡ false) → TellsRow places (Some []) found
  some_none found wide none = record {
    as_many = wide;
    each = λ i l. (λ h. absurd (differ (sym h ∙ none i)), λ w. absurd (Contains-nil w.0 w.1));
  }
    where
      differ : true ≡ false → ⊥
      differ e = cc

  pub some_next : (tops : List ℕ) (n d : ℕ) (found row new : List ℕ) → n < length tops → TellsRow places (Some (take n tops)) found
      → ((i : ℕ) → row_has row i ≡ splits_at (tests_at atoms i) (column below i) s (get_or tops n d)) → length new ≡ length found
      → ((i : ℕ) → i < 64 * length found → row_has new i ≡ (row_has found i || row_has row i)) → TellsRow places (Some (take (n + 1) tops)) new
  some_next tops n d found row new within told here len bits =
      subst (λ l. TellsRow places (Some l) new) (sym (take_more tops n d within)) (record {
        as_many = let w = told.as_many in omega (arith, w, len);
        each = λ i l.
            let inside : i < 64 * length found = let w = told.as_many in omega (arith, w, l) in (
              λ h. forth i l (one_of (row_has found i) (row_has row i) (sym (bits i inside) ∙ h)),
              λ w. bits i inside ∙ of_one (row_has found i) (row_has row i) (back i l w.0 w.2 (Contains-push_cases (take n tops) (get_or tops n d) w.0 w.1)),
            );
      })
    where
      one_of : (a b : Bool) → (a || b) ≡ true → (a ≡ true) ⊎ (b ≡ true)
      one_of true b e = inl e
      one_of false b e = inr e

      forth : (i : ℕ) → i < places → (row_has found i ≡ true) ⊎ (row_has row i ≡ true) → Some (take n tops ++ get_or tops n d ∷ []) i
      forth i l (inl h) = let w = (told.each i l).0 h in (w.0, Contains-append_left (take n tops) (get_or tops n d ∷ []) w.0 w.1, w.2)
      forth i l (inr h) = (get_or tops n d, Contains-push (take n tops) (get_or tops n d), sym (here i) ∙ h)

      back : (i : ℕ) → i < places → (m : ℕ) → splits_at (tests_at atoms i) (column below i) s m ≡ true
          → Contains (take n tops) m ⊎ (get_or tops n d ≡ m) → (row_has found i ≡ true) ⊎ (row_has row i ≡ true)
      back i l m e (inl c) = inl ((told.each i l).1 (m, c, e))
      back i l m e (inr same) = inr (here i ∙ ap (splits_at (tests_at atoms i) (column below i) s) same ∙ e)

-- the bits that the rows of two sets both have
pub met_tells : (rows : List (List ℕ)) (n one other : ℕ) (first second copy new : List ℕ) → TellsRow n (HasBit first) copy → length new ≡ length copy
    → ((i : ℕ) → row_has new i ≡ (row_has copy i && row_has second i)) → first ≡ get_or rows one [] → second ≡ get_or rows other []
    → TellsRow n (λ i. (column rows i one ≡ true) × (column rows i other ≡ true)) new
met_tells rows n one other first second copy new told len bits is is_too = record {
  as_many = let w = told.as_many in omega (arith, w, len);
  each = λ i l. (
    λ h.
        let e = sym (bits i) ∙ h in (
          ap (λ r. row_has r i) (sym is) ∙ (told.each i l).0 (and_left (row_has copy i) (row_has second i) e),
          ap (λ r. row_has r i) (sym is_too) ∙ and_right (row_has copy i) (row_has second i) e,
        ),
    λ w.
        bits i
        ∙ both (row_has copy i) (row_has second i) ((told.each i l).1 (ap (λ r. row_has r i) is ∙ w.0)) (ap (λ r. row_has r i) is_too ∙ w.1),
  );
}
