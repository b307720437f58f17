-- Each match splits: the variables at unnamed elements fold, part by part, below the names of the others.
use Rattle.std.proofs.Common.{◌≡◌, ℕ, ◌<◌, Bool, true, false, cond, List, [], ◌∷◌, ◌⊎◌, refl, sym, ap, subst, ◌∙◌, inl, inr, true≢false}
use Rattle.std.specs.List.{Contains, AllByRecursion}
use Rattle.dl_terms.specs.Roles.{named}
use Rattle.dl_terms.specs.Structure.{HoldsAtName, Element, IsWordAt}
use Rattle.dl_terms.specs.Answers.{value_of, IsMatch}
use Rattle.dl_terms.specs.declared.role.Role.{Role}
use Rattle.dl_terms.specs.declared.role.Basic.TheVariants.{Class, SomeOf}
use Rattle.dl_terms.specs.declared.axiom.Axiom.{Axiom}
use Rattle.dl_terms.specs.declared.axiom.Fact.{Fact}
use Rattle.dl_terms.specs.declared.query.Term.{Term}
use Rattle.dl_terms.specs.declared.query.Term.TheVariants.{Var, Name}
use Rattle.dl_terms.specs.declared.query.Atom.{Atom}
use Rattle.dl_terms.specs.declared.query.Atom.TheVariants.{Is, Link}
use Rattle.dl_terms.specs.declared.query.Query.{Query}
use Rattle.dl_tree.specs.Sets.{is_in, touches, AreLinked, forward, backward, IsConnected, IsOutsideNeighbour}
use Rattle.dl_tree.specs.Folds.{HoldsAtWord, JoinsWords, word_of, AtomHoldsAtWords, IsInTree}
use Rattle.dl_join.specs.Disjuncts.{name_of}
use Rattle.dl_tree.specs.Below.{minus, IsClosedIn}
use Rattle.dl_rewrite.specs.Parts.{AreParts, TermsAre, PartHas}
use Rattle.dl_tree.proofs.WordLemmas.{HoldsAt-word}
use Rattle.dl_tree.proofs.ConnectedLemmas.{joined_names, one_root, neighbours_at_root}
use Rattle.dl_tree.proofs.FoldLemmas.{true_or_false, or_cases}
use Rattle.dl_tree.proofs.GraftLemmas.{rest_is_closed}
use Rattle.dl_rewrite.proofs.SoundLemmas.{closed_trans, neighbour_outside}

module _ (axioms : List Axiom) (facts : List Fact) (q : Query) (m : ℕ → Element) (match : IsMatch axioms facts q m) where
  -- the words of the members of a part
  abbrev pub words_in : (ℕ → Bool) → ℕ → List Role
  words_in c v = cond (c v) (m v).word []

  word_in : (c : ℕ → Bool) (u : Term) → is_in c u ≡ true → word_of (words_in c) u ≡ (value_of m u).word
  word_in c (Var v) e = ap (λ b. cond b (m v).word []) e
  word_in c (Name a) e = refl

  word_out : (c : ℕ → Bool) (u : Term) → is_in c u ≡ false → word_of (words_in c) u ≡ []
  word_out c (Var v) e = ap (λ b. cond b (m v).word []) e
  word_out c (Name a) e = refl

  -- a part of variables at unnamed elements, whose outside neighbours are at names
  module _ (c : ℕ → Bool) (connected : IsConnected q c) (unnamed : (v : ℕ) → c v ≡ true → (m v).word ≡ [] → ⊥)
      (bounded : (v : ℕ) → c v ≡ true → v < q.vars)
      (neighbours : (u : Term) → IsOutsideNeighbour q c u → (value_of m u).word ≡ []) where
    root : (a : ℕ) × (t : Role) × ((v : ℕ) → c v ≡ true → ((m v).name ≡ a) × ((rest : List Role) × ((m v).word ≡ t ∷ rest)))
    root = one_root axioms facts q m match c connected unnamed

    unnamed_term : (u : Term) → is_in c u ≡ true → (value_of m u).word ≡ [] → ⊥
    unnamed_term (Var v) e = unnamed v e
    unnamed_term (Name a) e = absurd (true≢false (sym e))

    linked_word : (w u : Term) → is_in c w ≡ true → AreLinked q w u → word_of (words_in c) u ≡ (value_of m u).word
    linked_word (Var v) u e k = by (true_or_false (is_in c u))
      where
        by : (is_in c u ≡ true) ⊎ (is_in c u ≡ false) → word_of (words_in c) u ≡ (value_of m u).word
        by (inl g) = word_in c u g
        by (inr g) = word_out c u g ∙ sym (neighbours u (record { outside = g; member = v; is_member = e; linked = k }))
    linked_word (Name a) u e k = absurd (true≢false (sym e))

    joined : (p : ℕ) (u w : Term) → Contains q.atoms (Link p u w) → (is_in c u ≡ true) ⊎ (is_in c w ≡ true)
        → JoinsWords axioms (named p) (word_of (words_in c) u) (word_of (words_in c) w)
    joined p u w k touched = by touched
      where
        at : (((value_of m u).word ≡ []) × ((value_of m w).word ≡ []) → ⊥) → word_of (words_in c) u ≡ (value_of m u).word
            → word_of (words_in c) w ≡ (value_of m w).word → JoinsWords axioms (named p) (word_of (words_in c) u) (word_of (words_in c) w)
        at some e g =
            subst (λ z. JoinsWords axioms (named p) z (word_of (words_in c) w)) (sym e)
            (subst (JoinsWords axioms (named p) (value_of m u).word) (sym g)
            (joined_names axioms facts (named p) (value_of m u) (value_of m w) some (match.atoms (Link p u w) k)).1)

        by : (is_in c u ≡ true) ⊎ (is_in c w ≡ true) → JoinsWords axioms (named p) (word_of (words_in c) u) (word_of (words_in c) w)
        by (inl e) = at (λ n. unnamed_term u e n.0) (word_in c u e) (linked_word u w e (forward k))
        by (inr e) = at (λ n. unnamed_term w e n.1) (linked_word w u e (backward k)) (word_in c w e)

    held : (b : ℕ) (u : Term) → Contains q.atoms (Is b u) → is_in c u ≡ true → HoldsAtWord axioms (Class b) (word_of (words_in c) u)
    held b u k e = by (HoldsAt-word axioms facts (Class b) (value_of m u) (match.atoms (Is b u) k))
      where
        by : (((value_of m u).word ≡ []) × HoldsAtName axioms facts (Class b) (value_of m u).name) ⊎ HoldsAtWord axioms (Class b) (value_of m u).word
            → HoldsAtWord axioms (Class b) (word_of (words_in c) u)
        by (inl h) = absurd (unnamed_term u e h.0)
        by (inr h) = subst (HoldsAtWord axioms (Class b)) (sym (word_in c u e)) h

    atoms : (b : Atom) → Contains q.atoms b → touches c b ≡ true → AtomHoldsAtWords axioms (words_in c) b
    atoms (Is b u) k e = held b u k e
    atoms (Link p u w) k e = joined p u w k (or_cases (is_in c u) (is_in c w) e)

    -- the word of a member as a word at the one name
    at_root : (v : ℕ) → c v ≡ true → HoldsAtName axioms facts (SomeOf root.1) root.0 × IsInTree axioms root.1 (words_in c v)
    at_root v e =
        let k = root.2 v e in
        let w : IsWordAt axioms facts root.0 (root.1 ∷ k.1.0) =
        subst (λ a. IsWordAt axioms facts a (root.1 ∷ k.1.0)) k.0 (subst (IsWordAt axioms facts (m v).name) k.1.1 (match.elements v (bounded v e))) in
        (w.0, record { rest = k.1.0; is_first = word_in c (Var v) e ∙ k.1.1; follows = w.1 })

    -- the part folds below its one name
    pub part_of_match : (roles : List Role) → ((t : Role) (a : ℕ) → HoldsAtName axioms facts (SomeOf t) a → Contains roles t)
        → PartHas axioms facts roles q (λ v. (m v).name) c
    unfolding root
    part_of_match roles known = record {
      root = root.0;
      role = root.1;
      is_role = record {
        in_hierarchy = known root.1 root.0 (at_root connected.member connected.is_member).0;
        words = words_in c;
        folds = record {
          outside = λ v e. word_out c (Var v) e;
          inside = λ v e. (at_root v e).1;
          atoms = atoms;
        };
      };
      holds = (at_root connected.member connected.is_member).0;
      terms = terms;
    }
      where
        name_of_value : (u : Term) → name_of (λ v. (m v).name) u ≡ (value_of m u).name
        name_of_value (Var v) = refl
        name_of_value (Name a) = refl

        member_at : (u : Term) → is_in c u ≡ true → (value_of m u).name ≡ root.0
        member_at (Var v) e = (root.2 v e).0
        member_at (Name a) e = absurd (true≢false (sym e))

        outside_at : (w u : Term) → is_in c w ≡ true → AreLinked q w u → is_in c u ≡ false → (value_of m u).name ≡ root.0
        outside_at (Var v) u e k g =
            let n : IsOutsideNeighbour q c u = record { outside = g; member = v; is_member = e; linked = k } in
            ap (λ x. x.name) (neighbours_at_root axioms facts q m match c connected unnamed u n (neighbours u n))
        outside_at (Name a) u e k g = absurd (true≢false (sym e))

        near_at : (w u : Term) → is_in c w ≡ true → AreLinked q w u → (is_in c u ≡ true) ⊎ (is_in c u ≡ false) → name_of (λ v. (m v).name) u ≡ root.0
        near_at w u e k (inl g) = name_of_value u ∙ member_at u g
        near_at w u e k (inr g) = name_of_value u ∙ outside_at w u e k g

        both_at : (p : ℕ) (u w : Term) → Contains q.atoms (Link p u w) → (is_in c u ≡ true) ⊎ (is_in c w ≡ true)
            → TermsAre (λ v. (m v).name) root.0 (Link p u w)
        both_at p u w k (inl e) = (name_of_value u ∙ member_at u e, near_at u w e (forward k) (true_or_false (is_in c w)))
        both_at p u w k (inr e) = (near_at w u e (backward k) (true_or_false (is_in c u)), name_of_value w ∙ member_at w e)

        terms : (b : Atom) → Contains q.atoms b → touches c b ≡ true → TermsAre (λ v. (m v).name) root.0 b
        terms (Is b u) k e = name_of_value u ∙ member_at u e
        terms (Link p u w) k e = both_at p u w k (or_cases (is_in c u) (is_in c w) e)

  -- ---- all parts of the variables at unnamed elements

  module _ (roles : List Role) (known : (t : Role) (a : ℕ) → HoldsAtName axioms facts (SomeOf t) a → Contains roles t) (s : ℕ → Bool)
      (unnamed : (v : ℕ) → s v ≡ true → (m v).word ≡ [] → ⊥) (bounded : (v : ℕ) → s v ≡ true → v < q.vars)
      (linked_outside : (t u : Term) → AreLinked q t u → is_in s u ≡ false → (value_of m u).word ≡ []) where
    pub all_parts : (parts : List (ℕ → Bool)) (r : ℕ → Bool) → AreParts q r parts → IsClosedIn q r s
        → AllByRecursion (PartHas axioms facts roles q (λ v. (m v).name)) parts
    all_parts [] r are closed = tt
    all_parts (c ∷ parts) r are closed = (
      part_of_match c are.0 (λ v e. unnamed v (within v e)) (λ v e. bounded v (within v e))
          (λ u k. linked_outside (Var k.member) u k.linked (neighbour_outside q c s (closed_trans q c r s are.1 closed) u k)) roles known,
      all_parts parts (minus r c) are.2 (closed_trans q (minus r c) r s (rest_is_closed axioms q c r are.1) closed),
    )
      where
        within : (v : ℕ) → c v ≡ true → s v ≡ true
        within v e = closed.within v (are.1.within v e)
