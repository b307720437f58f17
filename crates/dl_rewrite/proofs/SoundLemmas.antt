-- Where parts fold below names, there is a match: elements below the names are put in, part by part.
use Rattle.std.proofs.Common.{◌≡◌, ℕ, Bool, true, false, ◌||◌, cond, List, [], ◌∷◌, ◌⊎◌, refl, sym, ap, subst, ◌∙◌, inl, inr, true≢false}
use Rattle.std.specs.List.{Contains, AllByRecursion}
use Rattle.dl_terms.specs.Roles.{named}
use Rattle.dl_terms.specs.Structure.{HoldsAtName, Element, individual, IsWordAt, IsElement, HoldsAt, Joins}
use Rattle.dl_terms.specs.Answers.{value_of, AtomHolds, IsMatch}
use Rattle.dl_terms.specs.declared.role.Role.{Role}
use Rattle.dl_terms.specs.declared.role.Basic.TheVariants.{Class, SomeOf}
use Rattle.dl_terms.specs.declared.axiom.Axiom.{Axiom}
use Rattle.dl_terms.specs.declared.axiom.Fact.{Fact}
use Rattle.dl_terms.specs.declared.query.Term.{Term}
use Rattle.dl_terms.specs.declared.query.Term.TheVariants.{Var, Name}
use Rattle.dl_terms.specs.declared.query.Atom.{Atom}
use Rattle.dl_terms.specs.declared.query.Atom.TheVariants.{Is, Link}
use Rattle.dl_terms.specs.declared.query.Query.{Query}
use Rattle.dl_tree.specs.Sets.{is_in, touches, AreLinked, forward, backward, IsOutsideNeighbour}
use Rattle.dl_tree.specs.Folds.{word_of, IsTreeWitness}
use Rattle.dl_join.specs.Disjuncts.{name_of}
use Rattle.dl_tree.specs.Below.{minus, IsClosedIn}
use Rattle.dl_rewrite.specs.Parts.{AreParts, TermsAre, PartHas, HoldsWhere}
use Rattle.dl_tree.proofs.WordLemmas.{word-HoldsAt, words-Joins}
use Rattle.dl_tree.proofs.FoldLemmas.{true_or_false, not_both, or_left, or_right, in_minus, in_within, word_outside}
use Rattle.dl_tree.proofs.GraftLemmas.{rest_is_closed}

-- ---- closed parts

pub closed_itself : (q : Query) (s : ℕ → Bool) → IsClosedIn q s s
closed_itself q s = record { within = λ v e. e; forward = λ p u w c e g. g; backward = λ p u w c e g. g }

pub closed_trans : (q : Query) (c r s : ℕ → Bool) → IsClosedIn q c r → IsClosedIn q r s → IsClosedIn q c s
closed_trans q c r s one two = record {
  within = λ v e. two.within v (one.within v e);
  forward = λ p u w k e g. one.forward p u w k e (two.forward p u w k (in_within c r one.within u e) g);
  backward = λ p u w k e g. one.backward p u w k e (two.backward p u w k (in_within c r one.within w e) g);
}

-- an outside neighbour of a closed part is outside the whole set
pub neighbour_outside : (q : Query) (c s : ℕ → Bool) → IsClosedIn q c s → (u : Term) → IsOutsideNeighbour q c u → is_in s u ≡ false
neighbour_outside q c s closed u h = by (true_or_false (is_in s u)) h.linked
  where
    by : (is_in s u ≡ true) ⊎ (is_in s u ≡ false) → AreLinked q (Var h.member) u → is_in s u ≡ false
    by (inl e) (forward {p = p} k) = absurd (not_both (closed.forward p (Var h.member) u k h.is_member e) h.outside)
    by (inl e) (backward {p = p} k) = absurd (not_both (closed.backward p u (Var h.member) k h.is_member e) h.outside)
    by (inr e) k = e

not_true : (b : Bool) → (b ≡ true → ⊥) → b ≡ false
not_true true h = absurd (h refl)
not_true false h = refl

pub or_false_left : (a b : Bool) → (a || b) ≡ false → a ≡ false
or_false_left true b e = e
or_false_left false b e = refl

pub or_false_right : (a b : Bool) → (a || b) ≡ false → b ≡ false
or_false_right true b e = absurd (true≢false e)
or_false_right false b e = e

pub or_false : (a b : Bool) → a ≡ false → b ≡ false → (a || b) ≡ false
or_false a b e g = rw (e, g) refl

module _ (axioms : List Axiom) (facts : List Fact) (q : Query) where
  -- elements for the variables, with which the atoms without a member of a set hold
  pub record HoldsOutside (r : ℕ → Bool) (m : ℕ → Element) : Type 0 where
    pub elements : (v : ℕ) → IsElement axioms facts (m v)
    pub atoms : (a : Atom) → Contains q.atoms a → touches r a ≡ false → AtomHolds axioms facts m a

  abbrev pub put : (ℕ → Bool) → ℕ → (ℕ → List Role) → (ℕ → Element) → ℕ → Element
  put c a words m v = cond (c v) (record { name = a; word = words v }) (m v)

  module _ (r c : ℕ → Bool) (m : ℕ → Element) (h : HoldsOutside r m) (t : Role) (a : ℕ) (words : ℕ → List Role)
      (f : IsTreeWitness axioms q c t words) (holds : HoldsAtName axioms facts (SomeOf t) a)
      (near : (u : Term) → IsOutsideNeighbour q c u → value_of m u ≡ individual a) where
    new : ℕ → Element
    new = put c a words m

    put_in : (u : Term) → is_in c u ≡ true → value_of new u ≡ record { name = a; word = word_of words u }
    unfolding new
    put_in (Var v) e = ap (λ b. cond b (record { name = a; word = words v }) (m v)) e
    put_in (Name n) e = absurd (true≢false (sym e))

    pub put_out : (u : Term) → is_in c u ≡ false → value_of (put c a words m) u ≡ value_of m u
    put_out (Var v) e = ap (λ b. cond b (record { name = a; word = words v }) (m v)) e
    put_out (Name n) e = refl

    neighbour_of : (w u : Term) → is_in c w ≡ true → AreLinked q w u → is_in c u ≡ false → IsOutsideNeighbour q c u
    neighbour_of (Var v) u e k g = record { outside = g; member = v; is_member = e; linked = k }
    neighbour_of (Name n) u e k g = absurd (true≢false (sym e))

    put_near : (w u : Term) → is_in c w ≡ true → AreLinked q w u → value_of new u ≡ record { name = a; word = word_of words u }
    unfolding new
    put_near w u e k = by (true_or_false (is_in c u))
      where
        by : (is_in c u ≡ true) ⊎ (is_in c u ≡ false) → value_of (put c a words m) u ≡ record { name = a; word = word_of words u }
        by (inl g) = put_in u g
        by (inr g) = put_out u g ∙ near u (neighbour_of w u e k g) ∙ ap (λ z. record { name = a; word = z }) (sym (word_outside c words f.outside u g))

    -- the atoms with a member of the part hold below the name
    joined : (p : ℕ) (u w : Term) → Contains q.atoms (Link p u w) → (is_in c u ≡ true) ⊎ (is_in c w ≡ true)
        → Joins axioms facts (named p) (value_of new u) (value_of new w)
    joined p u w k touched = by touched
      where
        at : touches c (Link p u w) ≡ true → value_of new u ≡ record { name = a; word = word_of words u }
            → value_of new w ≡ record { name = a; word = word_of words w } → Joins axioms facts (named p) (value_of new u) (value_of new w)
        at e i j =
            subst (λ z. Joins axioms facts (named p) z (value_of new w)) (sym i)
            (subst (Joins axioms facts (named p) (record { name = a; word = word_of words u })) (sym j)
            (words-Joins axioms facts (named p) (record { name = a; word = word_of words u }) (record { name = a; word = word_of words w }) refl (f.atoms (Link p u w) k e)))

        by : (is_in c u ≡ true) ⊎ (is_in c w ≡ true) → Joins axioms facts (named p) (value_of new u) (value_of new w)
        by (inl e) = at (or_left (is_in c u) (is_in c w) e) (put_in u e) (put_near u w e (forward k))
        by (inr e) = at (or_right (is_in c u) (is_in c w) e) (put_near w u e (backward k)) (put_in w e)

    held : (b : ℕ) (u : Term) → Contains q.atoms (Is b u) → is_in c u ≡ true → HoldsAt axioms facts (Class b) (value_of new u)
    held b u k e =
        subst (HoldsAt axioms facts (Class b)) (sym (put_in u e))
        (word-HoldsAt axioms facts (Class b) (record { name = a; word = word_of words u }) (f.atoms (Is b u) k e))

    -- the others are as before
    apart : (u : Term) → is_in (minus r c) u ≡ false → is_in c u ≡ false → is_in r u ≡ false
    apart u e g = not_true (is_in r u) (λ i. not_both (in_minus r c u i g) e)

    atoms_new : (b : Atom) → Contains q.atoms b → touches (minus r c) b ≡ false → AtomHolds axioms facts new b
    unfolding new
    atoms_new (Is b u) k e = by (true_or_false (is_in c u))
      where
        by : (is_in c u ≡ true) ⊎ (is_in c u ≡ false) → HoldsAt axioms facts (Class b) (value_of (put c a words m) u)
        by (inl g) = held b u k g
        by (inr g) = subst (HoldsAt axioms facts (Class b)) (sym (put_out u g)) (h.atoms (Is b u) k (apart u e g))
    atoms_new (Link p u w) k e = by (true_or_false (is_in c u)) (true_or_false (is_in c w))
      where
        left : is_in (minus r c) u ≡ false
        left = or_false_left (is_in (minus r c) u) (is_in (minus r c) w) e

        right : is_in (minus r c) w ≡ false
        right = or_false_right (is_in (minus r c) u) (is_in (minus r c) w) e

        by : (is_in c u ≡ true) ⊎ (is_in c u ≡ false) → (is_in c w ≡ true) ⊎ (is_in c w ≡ false)
            → Joins axioms facts (named p) (value_of (put c a words m) u) (value_of (put c a words m) w)
        by (inl g) i = joined p u w k (inl g)
        by (inr g) (inl i) = joined p u w k (inr i)
        by (inr g) (inr i) =
            subst (λ z. Joins axioms facts (named p) z (value_of (put c a words m) w)) (sym (put_out u g))
            (subst (Joins axioms facts (named p) (value_of m u)) (sym (put_out w i))
            (h.atoms (Link p u w) k (or_false (is_in r u) (is_in r w) (apart u left g) (apart w right i))))

    elements_new : (v : ℕ) → IsElement axioms facts (new v)
    unfolding new
    elements_new v = by (true_or_false (c v))
      where
        by : (c v ≡ true) ⊎ (c v ≡ false) → IsElement axioms facts (put c a words m v)
        by (inl e) =
            let i = f.inside v e in
            subst (IsElement axioms facts) (sym (put_in (Var v) e)) (subst (IsWordAt axioms facts a) (sym i.is_first) (holds, i.follows))
        by (inr e) = subst (IsElement axioms facts) (sym (put_out (Var v) e)) (h.elements v)

    -- one part put in
    pub put_part : HoldsOutside (minus r c) (put c a words m)
    unfolding new
    put_part = record { elements = elements_new; atoms = atoms_new }

  -- an outside neighbour of a part that folds below a name stands for it
  pub neighbour_at : (roles : List Role) (names : ℕ → ℕ) (c : ℕ → Bool) (h : PartHas axioms facts roles q names c) (u : Term)
      → IsOutsideNeighbour q c u → name_of names u ≡ h.root
  neighbour_at roles names c h u k = by k.linked
    where
      by : AreLinked q (Var k.member) u → name_of names u ≡ h.root
      by (forward {p = p} l) = let e : TermsAre names h.root (Link p (Var k.member) u) = h.terms (Link p (Var k.member) u) l (or_left (c k.member) (is_in c u) k.is_member) in e.1
      by (backward {p = p} l) = let e : TermsAre names h.root (Link p u (Var k.member)) = h.terms (Link p u (Var k.member)) l (or_right (is_in c u) (c k.member) k.is_member) in e.0

  -- ---- all parts put in

  module _ (roles : List Role) (s : ℕ → Bool) (names : ℕ → ℕ) where
    -- elements for the variables, as the names say outside the set
    pub record IsFilled (r : ℕ → Bool) (m : ℕ → Element) : Type 0 where
      pub outside : HoldsOutside r m
      pub named : (u : Term) → is_in s u ≡ false → value_of m u ≡ individual (name_of names u)

    pub put_all : (parts : List (ℕ → Bool)) (r : ℕ → Bool) (m : ℕ → Element) → AreParts q r parts
        → AllByRecursion (PartHas axioms facts roles q names) parts → IsClosedIn q r s → IsFilled r m
        → (n : ℕ → Element) × (none : ℕ → Bool) × ((v : ℕ) → none v ≡ false) × IsFilled none n
    put_all [] r m are has closed filled = (m, r, are, filled)
    put_all (c ∷ parts) r m are has closed filled =
        put_all parts (minus r c) (put c has.0.root has.0.is_role.words m) are.2 has.1
        (closed_trans q (minus r c) r s (rest_is_closed axioms q c r are.1) closed)
        (record {
          outside = put_part r c m filled.outside has.0.role has.0.root has.0.is_role.words has.0.is_role.folds has.0.holds
              (λ u k. filled.named u (neighbour_outside q c s (closed_trans q c r s are.1 closed) u k) ∙ ap individual (neighbour_at roles names c has.0 u k));
          named = λ u e.
              put_out r c m filled.outside has.0.role has.0.root has.0.is_role.words has.0.is_role.folds has.0.holds
              (λ w k. filled.named w (neighbour_outside q c s (closed_trans q c r s are.1 closed) w k) ∙ ap individual (neighbour_at roles names c has.0 w k)) u
              (not_true (is_in c u) (λ i. not_both (in_within c s (closed_trans q c r s are.1 closed).within u i) e))
              ∙ filled.named u e;
        })

    value_of_names : (u : Term) → value_of (λ v. individual (names v)) u ≡ individual (name_of names u)
    value_of_names (Var v) = refl
    value_of_names (Name a) = refl

    none_touched : (none : ℕ → Bool) → ((v : ℕ) → none v ≡ false) → (b : Atom) → touches none b ≡ false
    none_touched none e (Is c u) = term u
      where
        term : (u : Term) → is_in none u ≡ false
        term (Var v) = e v
        term (Name a) = refl
    none_touched none e (Link p u w) = or_false (is_in none u) (is_in none w) (term u) (term w)
      where
        term : (u : Term) → is_in none u ≡ false
        term (Var v) = e v
        term (Name a) = refl

    -- where the parts of a set fold below names and the other atoms hold of names, there is a match that has these names outside the set
    pub match_of : (parts : List (ℕ → Bool)) → AreParts q s parts → HoldsWhere axioms facts roles q s parts names
        → (m : ℕ → Element) × IsMatch axioms facts q m × ((v : ℕ) → s v ≡ false → m v ≡ individual (names v))
    match_of parts are h =
        let g = put_all parts s (λ v. individual (names v)) are h.each_part (closed_itself q s)
        (record { outside = record { elements = λ v. tt; atoms = h.atoms }; named = λ u e. value_of_names u }) in (
          g.0,
          record { elements = λ v _. g.3.outside.elements v; atoms = λ b k. g.3.outside.atoms b k (none_touched g.1 g.2 b) },
          λ v e. g.3.named (Var v) e,
        )
