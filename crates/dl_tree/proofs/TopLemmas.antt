-- Members that may stand at some role may do so as far as the role atoms ask.
use Rattle.std.proofs.Common.{◌≡◌, ℕ, ◌+◌, ◌≤◌, Bool, true, false, not, ◌&&◌, ◌||◌, List, [], ◌∷◌, ◌++◌, ◌⊎◌, nat_eq, bit_and, w8, refl, sym, ap, subst, ◌∙◌, inl, inr, true≢false, arith}
use Rattle.std.specs.Int.{bit_not}
use Rattle.std.specs.List.{Contains, list_all}
use Rattle.std.proofs.lemmas.List.Elements.{Contains-append_left, Contains-push, Contains-push_cases}
use Rattle.dl_terms.specs.declared.role.Role.{Role}
use Rattle.dl_terms.specs.declared.axiom.Axiom.{Axiom}
use Rattle.dl_terms.specs.declared.query.Term.{Term}
use Rattle.dl_terms.specs.declared.query.Atom.TheVariants as atom
use Rattle.dl_terms.specs.declared.query.Query.{Query}
use Rattle.dl_terms.proofs.MemberLemmas.{Contains-nil, list_all-Contains}
use Rattle.dl_tree.specs.Masks.{bit_of, AreLinkMasks}
use Rattle.dl_tree.specs.Tests.{has, test_stands, splits_at, may_split, AreTops}
use Rattle.dl_tree.specs.TestsOf.{IsTestOf, AreTestsOf}
use Rattle.dl_tree.specs.declared.atoms.AtomTest.{AtomTest}
use Rattle.dl_tree.specs.declared.atoms.AtomTest.TheVariants as test
use Rattle.dl_tree.proofs.FoldLemmas.{both}
use Rattle.dl_tree.proofs.SplitLemmas.{three, test_for, list_all-each}

-- more is asked of a role that is known
weaker : (a b c o : Bool) → (a || b || (c && o)) ≡ true → (a || b || (c && true)) ≡ true
weaker true b c o e = refl
weaker false true c o e = refl
weaker false false true o e = refl
weaker false false false o e = e

link_weaker : (s m f t : ℕ) (out into : Bool) → test_stands s m (test.Link f t out into) ≡ true → test_stands s m (test.Link f t true true) ≡ true
link_weaker s m f t out into e =
    let l = (three (not (has f m) || not (has t m)) (not (has f s) || has t s || (has f m && out)) (not (has t s) || has f s || (has t m && into))).0 e in
    (three (not (has f m) || not (has t m)) (not (has f s) || has t s || (has f m && true)) (not (has t s) || has f s || (has t m && true))).1 (
      l.0,
      weaker (not (has f s)) (has t s) (has f m) out l.1,
      weaker (not (has t s)) (has f s) (has t m) into l.2,
    )

module _ (axioms : List Axiom) (q : Query) (ex : List ℕ) (t : Role) (tests : List AtomTest) (are : AreTestsOf axioms q.atoms ex t tests)
    (links : List (ℕ × ℕ)) (masks : AreLinkMasks q ex links) where
  link_from : (s m : ℕ) (p : ℕ) (u w : Term) (x : AtomTest) → IsTestOf axioms ex t (atom.Link p u w) x → test_stands s m x ≡ true
      → test_stands s m (test.Link (bit_of ex u) (bit_of ex w) true true) ≡ true
  link_from s m p u w (test.Is bit holds) is e = absurd is
  link_from s m p u w (test.Link f g out into) is e =
      subst (λ z. test_stands s m (test.Link z (bit_of ex w) true true) ≡ true) is.0
      (subst (λ z. test_stands s m (test.Link f z true true) ≡ true) is.1 (link_weaker s m f g out into e))

  pub may_from : (below : ℕ → Bool) (s m : ℕ) → splits_at tests below s m ≡ true → may_split links s m ≡ true
  may_from below s m e =
      let l = (three (nat_eq (bit_and m s) m) (below (bit_and s (bit_not w8 m))) (list_all (test_stands s m) tests)).0 e in
      both (nat_eq (bit_and m s) m) _ l.0
      (list_all-each axioms q ex t (λ z. test_stands s m (test.Link z.0 z.1 true true)) links (λ z c. by z c l.2))
    where
      by : (z : ℕ × ℕ) → Contains links z → list_all (test_stands s m) tests ≡ true → test_stands s m (test.Link z.0 z.1 true true) ≡ true
      by z c all =
          let a = masks.from z c in
          let x = test_for axioms q ex t tests are (atom.Link a.0 a.1 a.2) a.3 in
          subst (λ y. test_stands s m (test.Link y.0 y.1 true true) ≡ true) (sym a.4)
          (link_from s m a.0 a.1 a.2 x.0 x.2 (list_all-Contains (test_stands s m) tests x.0 all x.1))

-- ---- the search for them, as far as it has come

pub record TopsTo (links : List (ℕ × ℕ)) (s n : ℕ) (found : List ℕ) : Type 0 where
  pub some : (m : ℕ) → Contains found m → 1 ≤ m
  pub within : (m : ℕ) → Contains found m → m ≤ n
  pub each : (m : ℕ) → 1 ≤ m → m ≤ n → may_split links s m ≡ true → Contains found m

pub TopsTo-none : (links : List (ℕ × ℕ)) (s : ℕ) (found : List ℕ) → found ≡ [] → TopsTo links s 0 found
TopsTo-none links s found none = record {
  some = λ m c. absurd (Contains-nil m (subst (λ l. Contains l m) none c));
  within = λ m c. absurd (Contains-nil m (subst (λ l. Contains l m) none c));
  each = λ m one l. absurd (omega (arith, one, l));
}

last_or_less : (m n : ℕ) → m ≤ n + 1 → (m ≤ n) ⊎ (m ≡ n + 1)
last_or_less m n l = grind arith

pub TopsTo-push : (links : List (ℕ × ℕ)) (s n : ℕ) (old new : List ℕ) → TopsTo links s n old → new ≡ old ++ (n + 1) ∷ [] → TopsTo links s (n + 1) new
TopsTo-push links s n old new so_far pushed = record {
  some = λ m c. some m (Contains-push_cases old (n + 1) m (subst (λ l. Contains l m) pushed c));
  within = λ m c. within m (Contains-push_cases old (n + 1) m (subst (λ l. Contains l m) pushed c));
  each = λ m one l e. subst (λ z. Contains z m) (sym pushed) (each m one e (last_or_less m n l));
}
  where
    some : (m : ℕ) → Contains old m ⊎ (n + 1 ≡ m) → 1 ≤ m
    some m (inl c) = so_far.some m c
    some m (inr e) = omega (arith, e)

    within : (m : ℕ) → Contains old m ⊎ (n + 1 ≡ m) → m ≤ n + 1
    within m (inl c) = let l = so_far.within m c in omega (arith, l)
    within m (inr e) = omega (arith, e)

    each : (m : ℕ) → 1 ≤ m → may_split links s m ≡ true → (m ≤ n) ⊎ (m ≡ n + 1) → Contains (old ++ (n + 1) ∷ []) m
    each m one e (inl l) = Contains-append_left old ((n + 1) ∷ []) m (so_far.each m one l e)
    each m one e (inr same) = subst (Contains (old ++ (n + 1) ∷ [])) (sym same) (Contains-push old (n + 1))

pub TopsTo-pass : (links : List (ℕ × ℕ)) (s n : ℕ) (old new : List ℕ) → TopsTo links s n old → may_split links s (n + 1) ≡ false → new ≡ old
    → TopsTo links s (n + 1) new
TopsTo-pass links s n old new so_far not same = subst (TopsTo links s (n + 1)) (sym same) (record {
  some = so_far.some;
  within = λ m c. let l = so_far.within m c in omega (arith, l);
  each = λ m one l e. each m one e (last_or_less m n l);
})
  where
    each : (m : ℕ) → 1 ≤ m → may_split links s m ≡ true → (m ≤ n) ⊎ (m ≡ n + 1) → Contains old m
    each m one e (inl l) = so_far.each m one l e
    each m one e (inr same) = absurd (true≢false (sym e ∙ ap (may_split links s) same ∙ not))

pub TopsTo-all : (links : List (ℕ × ℕ)) (s n : ℕ) (found : List ℕ) → n ≡ s → TopsTo links s n found → AreTops links s found
TopsTo-all links s n found all so_far = record {
  some = so_far.some;
  within = λ m c. let l = so_far.within m c in omega (arith, l, all);
  each = λ m one l e. so_far.each m one (omega (arith, l, all)) e;
}
