-- The tests of bits say whether a set splits at a role.
use Rattle.std.proofs.Common.{◌≡◌, ℕ, zero, suc, ◌<◌, ◌≤◌, ◌^◌, Bool, true, false, not, ◌&&◌, ◌||◌, List, [], ◌∷◌, ◌⊎◌, ◌↔◌, length, get_or, nat_eq, eqb-true, bit_and, w8, refl, sym, ap, subst, ◌∙◌, inl, inr, true≢false, arith}
use Rattle.std.specs.Int.{bit_at, bit_not}
use Rattle.std.specs.List.{Contains, list_all}
use Rattle.std.proofs.lemmas.Nat.{and_le_l, and_le_r, pow_pos}
use Rattle.std.proofs.lemmas.Nat.Bits.{bit_at_and, bit_at-lt, same_from_bits_below, bit_at-zero}
use Rattle.std.proofs.lemmas.Cmp.{nat_eq_equiv}
use Rattle.std.proofs.Math.Pow.{pow_mono}
use Rattle.dl_terms.specs.declared.role.Role.{Role}
use Rattle.dl_terms.specs.declared.axiom.Axiom.{Axiom}
use Rattle.dl_terms.specs.declared.query.Term.{Term}
use Rattle.std.proofs.lemmas.List.{get_or_default}
use Rattle.std.proofs.lemmas.List.Elements.{Contains-get_or}
use Rattle.dl_terms.specs.declared.query.Atom.{Atom}
use Rattle.dl_terms.specs.declared.query.Atom.TheVariants as atom
use Rattle.dl_terms.specs.declared.query.Query.{Query}
use Rattle.dl_terms.proofs.MemberLemmas.{Contains-first, Contains-later, list_all-Contains}
use Rattle.dl_tree.specs.Sets.{is_in}
use Rattle.dl_tree.specs.Below.{minus, FoldsBelow, LinkStands, AtomStands, SplitsAtSome}
use Rattle.dl_tree.specs.Masks.{place, set_of, bit_of}
use Rattle.dl_tree.specs.Tests.{has, test_stands, splits_at}
use Rattle.dl_tree.specs.TestsOf.{IsTestOf, no_atom, no_test, AreTestsOf, TellsBelow, IsNumbering}
use Rattle.dl_tree.specs.declared.atoms.AtomTest.{AtomTest}
use Rattle.dl_tree.specs.declared.atoms.AtomTest.TheVariants as test
use Rattle.dl_tree.proofs.FoldLemmas.{true_or_false, not_both, and_left, and_right, both, not_true}
use Rattle.dl_tree.proofs.MaskLemmas.{in_from_bit, bit_from_in, member_known, one_true, true_one, not_one_zero}
use Rattle.dl_tree.proofs.SubsetLemmas.{set_of_minus, minus_fits, mask_of, mask_fits, set_of_mask}

-- ---- a term is in a set where its bit is

pub has_in : (ex : List ℕ) (mask : ℕ) (u : Term) → mask < 2 ^ length ex → has (bit_of ex u) mask ≡ is_in (set_of ex mask) u
has_in ex mask u fits = by (true_or_false (nat_eq (bit_and (bit_of ex u) mask) 0)) (true_or_false (is_in (set_of ex mask) u))
  where
    by : (nat_eq (bit_and (bit_of ex u) mask) 0 ≡ true) ⊎ (nat_eq (bit_and (bit_of ex u) mask) 0 ≡ false)
        → (is_in (set_of ex mask) u ≡ true) ⊎ (is_in (set_of ex mask) u ≡ false) → has (bit_of ex u) mask ≡ is_in (set_of ex mask) u
    by (inl h) (inl e) = absurd (bit_from_in ex mask u fits e (eqb-true (bit_and (bit_of ex u) mask) 0 h))
    by (inl h) (inr e) = ap not h ∙ sym e
    by (inr h) (inl e) = ap not h ∙ sym e
    by (inr h) (inr e) = absurd (not_both (in_from_bit ex mask u (λ i. not_both (ap (λ n. nat_eq n 0) i) h)) e)

-- ---- booleans

abbrev class_test : Bool → Bool → Bool
class_test a holds = not a || holds

class_test_is : (a holds : Bool) → (class_test a holds ≡ true) ↔ (a ≡ true → holds ≡ true)
class_test_is true holds = (λ e _. e, λ f. f refl)
class_test_is false holds = (λ e h. absurd (true≢false (sym h)), λ f. refl)

apart_is : (c d : Bool) → ((not c || not d) ≡ true) ↔ (c ≡ true → d ≡ true → ⊥)
apart_is true true = (λ e _ _. true≢false (sym e), λ f. absurd (f refl refl))
apart_is true false = (λ e _ g. true≢false (sym g), λ f. refl)
apart_is false d = (λ e g _. true≢false (sym g), λ f. refl)

border_is : (a b c o : Bool) → ((not a || b || (c && o)) ≡ true) ↔ (a ≡ true → b ≡ false → (c ≡ true) × (o ≡ true))
border_is false b c o = (λ e g _. absurd (true≢false (sym g)), λ f. refl)
border_is true true c o = (λ e _ g. absurd (true≢false g), λ f. refl)
border_is true false c o = (λ e _ _. (and_left c o e, and_right c o e), λ f. both c o (f refl refl).0 (f refl refl).1)

pub three : (x y z : Bool) → ((x && y && z) ≡ true) ↔ ((x ≡ true) × (y ≡ true) × (z ≡ true))
three true true z = (λ e. (refl, refl, e), λ f. f.2)
three true false z = (λ e. absurd (true≢false (sym e)), λ f. f.1)
three false y z = (λ e. absurd (true≢false (sym e)), λ f. f.0)

module _ (axioms : List Axiom) (q : Query) (ex : List ℕ) (t : Role) where
  -- ---- a test of an atom

  pub test_is : (s m : ℕ) → s < 2 ^ length ex → m < 2 ^ length ex → (a : Atom) (x : AtomTest) → IsTestOf axioms ex t a x
      → (test_stands s m x ≡ true) ↔ AtomStands axioms (set_of ex s) (set_of ex m) t a
  test_is s m fs fm (atom.Is c u) (test.Is bit holds) h =
      let e : has bit m ≡ is_in (set_of ex m) u = ap (λ b. has b m) h.0 ∙ has_in ex m u fm in (
        λ k g. h.1.0 ((class_test_is (is_in (set_of ex m) u) holds).0 (subst (λ b. class_test b holds ≡ true) e k) g),
        λ f. subst (λ b. class_test b holds ≡ true) (sym e) ((class_test_is (is_in (set_of ex m) u) holds).1 (λ g. h.1.1 (f g))),
      )
  test_is s m fs fm (atom.Link p u w) (test.Link from to out into) h = (forth, back)
    where
      a : has from s ≡ is_in (set_of ex s) u
      a = ap (λ b. has b s) h.0 ∙ has_in ex s u fs

      b : has to s ≡ is_in (set_of ex s) w
      b = ap (λ z. has z s) h.1 ∙ has_in ex s w fs

      c : has from m ≡ is_in (set_of ex m) u
      c = ap (λ z. has z m) h.0 ∙ has_in ex m u fm

      d : has to m ≡ is_in (set_of ex m) w
      d = ap (λ z. has z m) h.1 ∙ has_in ex m w fm

      parts : (test_stands s m (test.Link from to out into) ≡ true)
          ↔ (((not (has from m) || not (has to m)) ≡ true) × ((not (has from s) || has to s || (has from m && out)) ≡ true)
          × ((not (has to s) || has from s || (has to m && into)) ≡ true))
      parts = three (not (has from m) || not (has to m)) (not (has from s) || has to s || (has from m && out)) (not (has to s) || has from s || (has to m && into))

      forth : test_stands s m (test.Link from to out into) ≡ true → LinkStands axioms (set_of ex s) (set_of ex m) t p u w
      forth k =
          let l = parts.0 k in
          record {
            apart = λ e g. (apart_is (has from m) (has to m)).0 l.0 (c ∙ e) (d ∙ g);
            out = λ e g. let o = (border_is (has from s) (has to s) (has from m) out).0 l.1 (a ∙ e) (b ∙ g) in (sym c ∙ o.0, h.2.0 o.1);
            into = λ e g. let o = (border_is (has to s) (has from s) (has to m) into).0 l.2 (b ∙ e) (a ∙ g) in (sym d ∙ o.0, h.3.0 o.1);
          }

      back : LinkStands axioms (set_of ex s) (set_of ex m) t p u w → test_stands s m (test.Link from to out into) ≡ true
      back k = parts.1 (
        (apart_is (has from m) (has to m)).1 (λ e g. k.apart (sym c ∙ e) (sym d ∙ g)),
        (border_is (has from s) (has to s) (has from m) out).1 (λ e g. let o = k.out (sym a ∙ e) (sym b ∙ g) in (c ∙ o.0, h.2.1 o.1)),
        (border_is (has to s) (has from s) (has to m) into).1 (λ e g. let o = k.into (sym b ∙ e) (sym a ∙ g) in (d ∙ o.0, h.3.1 o.1)),
      )
  test_is s m fs fm (atom.Is c u) (test.Link from to out into) h = absurd h
  test_is s m fs fm (atom.Link p u w) (test.Is bit holds) h = absurd h

  pub list_all-each : {X : Type 0} (f : X → Bool) (xs : List X) → ((x : X) → Contains xs x → f x ≡ true) → list_all f xs ≡ true
  list_all-each f [] h = refl
  list_all-each f (x ∷ xs) h = both (f x) (list_all f xs) (h x (Contains-first x xs)) (list_all-each f xs (λ y c. h y (Contains-later x y xs c)))

  -- ---- subsets

  pub within_is : (s m : ℕ) → bit_and m s ≡ m → (v : ℕ) → set_of ex m v ≡ true → set_of ex s v ≡ true
  within_is s m e v h =
      let o = true_one (bit_at m (place ex v)) h in
      let k = bit_at_and m s (place ex v) in
      let l : bit_at (bit_and m s) (place ex v) ≡ bit_at m (place ex v) = ap (λ n. bit_at n (place ex v)) e in
      let g = bit_at-lt s (place ex v) in
      one_true (bit_at s (place ex v)) (omega (arith, o, k, l, g))

  pub is_within : (s m : ℕ) → IsNumbering ex → s < 2 ^ length ex → m < 2 ^ length ex → ((v : ℕ) → set_of ex m v ≡ true → set_of ex s v ≡ true) → bit_and m s ≡ m
  is_within s m numbering fs fm within =
      same_from_bits_below (length ex) (bit_and m s) m (minus_fits ex m s fm) fm (λ i l. bit i l (true_or_false (set_of ex m (get_or ex i 0))))
    where
      bit : (i : ℕ) → i < length ex → (set_of ex m (get_or ex i 0) ≡ true) ⊎ (set_of ex m (get_or ex i 0) ≡ false) → bit_at (bit_and m s) i ≡ bit_at m i
      bit i l (inl h) =
          let p = numbering i l in
          let a : bit_at m i ≡ 1 = ap (bit_at m) (sym p) ∙ true_one (bit_at m (place ex (get_or ex i 0))) h in
          let b : bit_at s i ≡ 1 = ap (bit_at s) (sym p) ∙ true_one (bit_at s (place ex (get_or ex i 0))) (within (get_or ex i 0) h) in
          let k = bit_at_and m s i in
          omega (arith, a, b, k)
      bit i l (inr h) =
          let p = numbering i l in
          let a : bit_at m i ≡ 0 = ap (bit_at m) (sym p) ∙ not_one_zero (bit_at m (place ex (get_or ex i 0))) (bit_at-lt m (place ex (get_or ex i 0))) h in
          let k = bit_at_and m s i in
          omega (arith, a, k)

  -- a number that isn't 0 has a member
  some_member : (m : ℕ) → IsNumbering ex → m < 2 ^ length ex → 1 ≤ m → (v : ℕ) × (set_of ex m v ≡ true)
  some_member m numbering fm some = by (search_from (length ex) (omega arith))
    where
      search_from : (n : ℕ) → n ≤ length ex → ((v : ℕ) × (set_of ex m v ≡ true)) ⊎ ((i : ℕ) → i < n → bit_at m i ≡ 0)
      search_from zero l = inr (λ i h. absurd (omega (arith, h)))
      search_from (suc n) l = step (search_from n (omega (arith, l))) (true_or_false (set_of ex m (get_or ex n 0)))
        where
          step : ((v : ℕ) × (set_of ex m v ≡ true)) ⊎ ((i : ℕ) → i < n → bit_at m i ≡ 0) → (set_of ex m (get_or ex n 0) ≡ true) ⊎ (set_of ex m (get_or ex n 0) ≡ false)
              → ((v : ℕ) × (set_of ex m v ≡ true)) ⊎ ((i : ℕ) → i < suc n → bit_at m i ≡ 0)
          step (inl h) g = inl h
          step (inr h) (inl g) = inl (get_or ex n 0, g)
          step (inr h) (inr g) = inr last
            where
              last : (i : ℕ) → i < suc n → bit_at m i ≡ 0
              last i k = at (cases i k)
                where
                  cases : (i : ℕ) → i < suc n → (i < n) ⊎ (i ≡ n)
                  cases i k = grind arith

                  at : (i < n) ⊎ (i ≡ n) → bit_at m i ≡ 0
                  at (inl j) = h i j
                  at (inr e) =
                      let p = numbering n l in
                      ap (bit_at m) (e ∙ sym p) ∙ not_one_zero (bit_at m (place ex (get_or ex n 0))) (bit_at-lt m (place ex (get_or ex n 0))) g

      by : ((v : ℕ) × (set_of ex m v ≡ true)) ⊎ ((i : ℕ) → i < length ex → bit_at m i ≡ 0) → (v : ℕ) × (set_of ex m v ≡ true)
      by (inl h) = h
      by (inr h) =
          let z = same_from_bits_below (length ex) m 0 fm (pow_pos (length ex)) (λ i l. h i l ∙ sym (bit_at-zero i)) in
          absurd (omega (arith, z, some))

  module _ (tests : List AtomTest) (are : AreTestsOf axioms q.atoms ex t tests) where
    -- each atom has a test, and each test is of an atom
    pub test_for : (a : Atom) → Contains q.atoms a → (x : AtomTest) × Contains tests x × IsTestOf axioms ex t a x
    test_for a c =
        let l : c.0 < length tests = let n = are.as_many in let k = c.1 in omega (arith, n, k) in
        let e : get_or q.atoms c.0 no_atom ≡ a = get_or_default q.atoms c.0 no_atom a c.1 ∙ c.2 in
        (get_or tests c.0 no_test, Contains-get_or tests c.0 no_test l, subst (λ z. IsTestOf axioms ex t z (get_or tests c.0 no_test)) e (are.each c.0 c.1))

    pub atom_for : (x : AtomTest) → Contains tests x → (a : Atom) × Contains q.atoms a × IsTestOf axioms ex t a x
    atom_for x c =
        let l : c.0 < length q.atoms = let n = are.as_many in let k = c.1 in omega (arith, n, k) in
        let e : get_or tests c.0 no_test ≡ x = get_or_default tests c.0 no_test x c.1 ∙ c.2 in
        (get_or q.atoms c.0 no_atom, Contains-get_or q.atoms c.0 no_atom l, subst (IsTestOf axioms ex t (get_or q.atoms c.0 no_atom)) e (are.each c.0 l))

  -- ---- a set splits where the tests say so

  module _ (tests : List AtomTest) (are : AreTestsOf axioms q.atoms ex t tests) (numbering : IsNumbering ex) (few : length ex ≤ 8)
      (below : ℕ → Bool) (s : ℕ) (fs : s < 2 ^ length ex) (tells : TellsBelow axioms q ex t below s) where
    byte : (m : ℕ) → m < 2 ^ length ex → m < 2 ^ 8
    byte m h = let p = pow_mono few in omega (arith, p, h)

    -- less is left
    rest_less : (m : ℕ) → m < 2 ^ length ex → bit_and m s ≡ m → 1 ≤ m → bit_and s (bit_not w8 m) < s
    rest_less m fm same some = by (cases (bit_and s (bit_not w8 m)) (and_le_l s (bit_not w8 m)))
      where
        cases : (n : ℕ) → n ≤ s → (n < s) ⊎ (n ≡ s)
        cases n h = grind arith

        by : (bit_and s (bit_not w8 m) < s) ⊎ (bit_and s (bit_not w8 m) ≡ s) → bit_and s (bit_not w8 m) < s
        by (inl h) = h
        by (inr e) =
            let v = some_member m numbering fm some in
            let both_in = within_is s m same v.0 v.1 in
            let gone : minus (set_of ex s) (set_of ex m) v.0 ≡ true =
            subst (λ z. z v.0 ≡ true) (set_of_minus ex s m few fs (byte m fm)) (subst (λ n. set_of ex n v.0 ≡ true) (sym e) both_in) in
            absurd (not_both v.1 (not_true (set_of ex m v.0) (and_right (set_of ex s v.0) (not (set_of ex m v.0)) gone)))

    pub to_some : (m : ℕ) → 1 ≤ m → m ≤ s → splits_at tests below s m ≡ true → SplitsAtSome axioms q (set_of ex s) t
    to_some m some small e = record {
      top = set_of ex m;
      member = (some_member m numbering fm some).0;
      is_member = (some_member m numbering fm some).1;
      splits = record {
        within = within_is s m same;
        stands = λ a c. let x = test_for tests are a c in (test_is s m fs fm a x.0 x.2).0 (list_all-Contains (test_stands s m) tests x.0 l.2 x.1);
        rest = subst (λ z. FoldsBelow axioms q z t) (set_of_minus ex s m few fs (byte m fm)) ((tells (bit_and s (bit_not w8 m)) less).0 l.1);
      };
    }
      where
        fm : m < 2 ^ length ex
        fm = omega (arith, small, fs)

        l : (nat_eq (bit_and m s) m ≡ true) × (below (bit_and s (bit_not w8 m)) ≡ true) × (list_all (test_stands s m) tests ≡ true)
        l = (three (nat_eq (bit_and m s) m) (below (bit_and s (bit_not w8 m))) (list_all (test_stands s m) tests)).0 e

        same : bit_and m s ≡ m
        same = eqb-true (bit_and m s) m l.0

        less : bit_and s (bit_not w8 m) < s
        less = rest_less m fm same some

    pub from_some : SplitsAtSome axioms q (set_of ex s) t → (m : ℕ) × (1 ≤ m) × (m ≤ s) × (splits_at tests below s m ≡ true)
    from_some h = (
      m,
      positive,
      small,
      (three (nat_eq (bit_and m s) m) (below (bit_and s (bit_not w8 m))) (list_all (test_stands s m) tests)).1 (
        ap (λ n. nat_eq n m) same ∙ nat_eq_equiv.refl m,
        (tells (bit_and s (bit_not w8 m)) (rest_less m fm same positive)).1 rest,
        list_all-each (test_stands s m) tests (λ x c. let a = atom_for tests are x c in (test_is s m fs fm a.0 x a.2).1 (subst (λ z. AtomStands axioms (set_of ex s) z t a.0) (sym is_top) (h.splits.stands a.0 a.1))),
      ),
    )
      where
        m : ℕ
        m = mask_of ex h.top

        fm : m < 2 ^ length ex
        fm = mask_fits ex h.top

        is_top : set_of ex m ≡ h.top
        is_top = set_of_mask ex h.top (λ v e. member_known ex s v fs (h.splits.within v e))

        same : bit_and m s ≡ m
        same = is_within s m numbering fs fm (λ v e. h.splits.within v (subst (λ z. z v ≡ true) is_top e))

        small : m ≤ s
        small = let k = and_le_r m s in omega (arith, k, same)

        positive : 1 ≤ m
        positive = at (cases m)
          where
            cases : (n : ℕ) → (n ≡ 0) ⊎ (1 ≤ n)
            cases n = grind arith

            at : (m ≡ 0) ⊎ (1 ≤ m) → 1 ≤ m
            at (inr k) = k
            at (inl z) =
                let o = true_one (bit_at m (place ex h.member)) (subst (λ z. z h.member ≡ true) (sym is_top) h.is_member) in
                let y : bit_at m (place ex h.member) ≡ 0 = ap (λ n. bit_at n (place ex h.member)) z ∙ bit_at-zero (place ex h.member) in
                absurd (omega (arith, o, y))

        rest : FoldsBelow axioms q (set_of ex (bit_and s (bit_not w8 m))) t
        rest = subst (λ z. FoldsBelow axioms q z t) (sym (set_of_minus ex s m few fs (byte m fm) ∙ ap (minus (set_of ex s)) is_top)) h.splits.rest
