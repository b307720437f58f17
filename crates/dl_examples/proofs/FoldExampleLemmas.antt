-- The worked examples of folds.
use Rattle.std.proofs.Common.{◌≡◌, ℕ, zero, suc, ◌⊎◌, Bool, true, false, List, [], ◌∷◌, refl, sym, subst, inl, inr, true≢false, lit<}
use Rattle.std.specs.List.{Contains}
use Rattle.dl_terms.specs.Chain.{Chain, empty, step}
use Rattle.dl_terms.specs.Roles.{named, inverse_of}
use Rattle.dl_terms.specs.Below.{RoleBelow, ConceptBelow}
use Rattle.dl_examples.specs.Examples.{role_p, role_s, link, property_p, property_s, a_has_a_p, a_p_has_an_s, a_p_has_a_p, has_a_p_with_an_s, share_a_p, some_loop}
use Rattle.dl_terms.specs.declared.role.Role.{Role}
use Rattle.dl_terms.specs.declared.role.Basic.TheVariants.{SomeOf}
use Rattle.dl_terms.specs.declared.axiom.Axiom.{Axiom}
use Rattle.dl_terms.specs.declared.query.Atom.{Atom}
use Rattle.dl_terms.specs.declared.query.Term.{Term}
use Rattle.dl_terms.specs.declared.query.Term.TheVariants.{Var}
use Rattle.dl_terms.specs.declared.query.Atom.TheVariants.{Link}
use Rattle.dl_terms.proofs.MemberLemmas.{Contains-two}
use Rattle.dl_terms.proofs.BelowLemmas.{RoleBelow-keeps, ConceptBelow-inclusion}
use Rattle.dl_terms.proofs.MatchLemmas.{is_role_of}
use Rattle.dl_tree.specs.Sets.{is_in, touches, AreLinked, forward, backward, IsStepWithin, IsConnected, IsOutsideNeighbour}
use Rattle.dl_tree.specs.Folds.{JoinsWords, to_longer, AtomHoldsAtWords, IsInTree, IsTreeWitness}
use Rattle.dl_examples.specs.Folds.{one_and_two, two_alone, first_three, two_in_a_row}
use Rattle.dl_tree.proofs.FoldLemmas.{or_left, not_both}
use Rattle.dl_tree.proofs.WordLemmas.{JoinsWords-itself, JoinsWords-from_root}

abbrev along : List Axiom
along = a_has_a_p ∷ a_p_has_an_s ∷ []

-- ---- q(x) :- P(x, y), S(y, z), with y and z unnamed

pub p_then_s : ℕ → List Role
p_then_s zero = []
p_then_s (suc zero) = role_p ∷ []
p_then_s (suc (suc zero)) = role_p ∷ role_s ∷ []
p_then_s (suc (suc (suc v))) = []

pub y_and_z_fold : IsTreeWitness along has_a_p_with_an_s one_and_two role_p p_then_s
unfolding p_then_s
y_and_z_fold = record { outside = outside; inside = inside; atoms = atoms }
  where
    outside : (v : ℕ) → one_and_two v ≡ false → p_then_s v ≡ []
    outside zero e = refl
    outside (suc zero) e = absurd (true≢false e)
    outside (suc (suc zero)) e = absurd (true≢false e)
    outside (suc (suc (suc v))) e = refl

    inside : (v : ℕ) → one_and_two v ≡ true → IsInTree along role_p (p_then_s v)
    inside zero e = absurd (true≢false (sym e))
    inside (suc zero) e = record { rest = []; is_first = refl; follows = tt }
    inside (suc (suc zero)) e = record { rest = role_s ∷ []; is_first = refl; follows = (ConceptBelow-inclusion along (1, lit< tt, refl), tt) }
    inside (suc (suc (suc v))) e = absurd (true≢false (sym e))

    atoms : (a : Atom) → Contains has_a_p_with_an_s.atoms a → touches one_and_two a ≡ true → AtomHoldsAtWords along p_then_s a
    atoms a c e = by (Contains-two (link property_p 0 1) (link property_s 1 2) a c)
      where
        by : (link property_p 0 1 ≡ a) ⊎ (link property_s 1 2 ≡ a) → AtomHoldsAtWords along p_then_s a
        by (inl h) = subst (AtomHoldsAtWords along p_then_s) h (to_longer refl empty)
        by (inr h) = subst (AtomHoldsAtWords along p_then_s) h (to_longer refl empty)

pub y_and_z_are_connected : IsConnected has_a_p_with_an_s one_and_two
y_and_z_are_connected = record { member = 1; is_member = refl; chains = chains }
  where
    chains : (v w : ℕ) → one_and_two v ≡ true → one_and_two w ≡ true → Chain (IsStepWithin has_a_p_with_an_s one_and_two) v w
    chains zero w e f = absurd (true≢false (sym e))
    chains (suc zero) zero e f = absurd (true≢false (sym f))
    chains (suc zero) (suc zero) e f = empty
    chains (suc zero) (suc (suc zero)) e f = step (record { from = refl; to = refl; linked = forward (1, lit< tt, refl) }) empty
    chains (suc zero) (suc (suc (suc w))) e f = absurd (true≢false (sym f))
    chains (suc (suc zero)) zero e f = absurd (true≢false (sym f))
    chains (suc (suc zero)) (suc zero) e f = step (record { from = refl; to = refl; linked = backward (1, lit< tt, refl) }) empty
    chains (suc (suc zero)) (suc (suc zero)) e f = empty
    chains (suc (suc zero)) (suc (suc (suc w))) e f = absurd (true≢false (sym f))
    chains (suc (suc (suc v))) w e f = absurd (true≢false (sym e))

-- x is their outside neighbour, so S is no role of theirs
pub not_by_s : (words : ℕ → List Role) → IsTreeWitness along has_a_p_with_an_s one_and_two role_s words → ⊥
not_by_s words f = below (JoinsWords-from_root along (named property_p) role_s (f.inside 1 refl).rest joined).1
  where
    joined : JoinsWords along (named property_p) [] (role_s ∷ (f.inside 1 refl).rest)
    joined =
        subst (λ z. JoinsWords along (named property_p) z (role_s ∷ (f.inside 1 refl).rest)) (f.outside 0 refl)
        (subst (JoinsWords along (named property_p) (words 0)) (f.inside 1 refl).is_first (f.atoms (link property_p 0 1) (0, lit< tt, refl) refl))

    below : RoleBelow along role_s role_p → ⊥
    below d = true≢false (sym (RoleBelow-keeps along (is_role_of (role_s ∷ [])) refl d refl))

-- ---- q() :- P(y, y)

-- no variable with a loop folds
pub no_loop : (axioms : List Axiom) (s : ℕ → Bool) (t : Role) (words : ℕ → List Role) → s 0 ≡ true → IsTreeWitness axioms some_loop s t words → ⊥
no_loop axioms s t words e f =
    JoinsWords-itself axioms (named property_p) (words 0) (f.atoms (link property_p 0 0) (0, lit< tt, refl) (or_left (s 0) (s 0) e))

-- ---- q(x, z) :- P(x, y), P(z, y), with y unnamed

pub just_p : ℕ → List Role
just_p zero = []
just_p (suc zero) = []
just_p (suc (suc zero)) = role_p ∷ []
just_p (suc (suc (suc v))) = []

pub y_folds : (axioms : List Axiom) → IsTreeWitness axioms share_a_p two_alone role_p just_p
unfolding just_p
y_folds axioms = record { outside = outside; inside = inside; atoms = atoms }
  where
    outside : (v : ℕ) → two_alone v ≡ false → just_p v ≡ []
    outside zero e = refl
    outside (suc zero) e = refl
    outside (suc (suc zero)) e = absurd (true≢false e)
    outside (suc (suc (suc v))) e = refl

    inside : (v : ℕ) → two_alone v ≡ true → IsInTree axioms role_p (just_p v)
    inside zero e = absurd (true≢false (sym e))
    inside (suc zero) e = absurd (true≢false (sym e))
    inside (suc (suc zero)) e = record { rest = []; is_first = refl; follows = tt }
    inside (suc (suc (suc v))) e = absurd (true≢false (sym e))

    atoms : (a : Atom) → Contains share_a_p.atoms a → touches two_alone a ≡ true → AtomHoldsAtWords axioms just_p a
    atoms a c e = by (Contains-two (link property_p 0 2) (link property_p 1 2) a c)
      where
        by : (link property_p 0 2 ≡ a) ⊎ (link property_p 1 2 ≡ a) → AtomHoldsAtWords axioms just_p a
        by (inl h) = subst (AtomHoldsAtWords axioms just_p) h (to_longer refl empty)
        by (inr h) = subst (AtomHoldsAtWords axioms just_p) h (to_longer refl empty)

-- ---- q() :- P(v0, v1), P(v1, v2), with no variable named

pub in_a_row : ℕ → List Role
in_a_row zero = role_p ∷ []
in_a_row (suc zero) = role_p ∷ role_p ∷ []
in_a_row (suc (suc zero)) = role_p ∷ role_p ∷ role_p ∷ []
in_a_row (suc (suc (suc v))) = []

pub all_fold : IsTreeWitness (a_p_has_a_p ∷ []) two_in_a_row first_three role_p in_a_row
unfolding in_a_row
all_fold = record { outside = outside; inside = inside; atoms = atoms }
  where
    outside : (v : ℕ) → first_three v ≡ false → in_a_row v ≡ []
    outside zero e = absurd (true≢false e)
    outside (suc zero) e = absurd (true≢false e)
    outside (suc (suc zero)) e = absurd (true≢false e)
    outside (suc (suc (suc v))) e = refl

    again : ConceptBelow (a_p_has_a_p ∷ []) (SomeOf (inverse_of role_p)) (SomeOf role_p)
    again = ConceptBelow-inclusion (a_p_has_a_p ∷ []) (0, lit< tt, refl)

    inside : (v : ℕ) → first_three v ≡ true → IsInTree (a_p_has_a_p ∷ []) role_p (in_a_row v)
    inside zero e = record { rest = []; is_first = refl; follows = tt }
    inside (suc zero) e = record { rest = role_p ∷ []; is_first = refl; follows = (again, tt) }
    inside (suc (suc zero)) e = record { rest = role_p ∷ role_p ∷ []; is_first = refl; follows = (again, (again, tt)) }
    inside (suc (suc (suc v))) e = absurd (true≢false (sym e))

    atoms : (a : Atom) → Contains two_in_a_row.atoms a → touches first_three a ≡ true → AtomHoldsAtWords (a_p_has_a_p ∷ []) in_a_row a
    atoms a c e = by (Contains-two (link property_p 0 1) (link property_p 1 2) a c)
      where
        by : (link property_p 0 1 ≡ a) ⊎ (link property_p 1 2 ≡ a) → AtomHoldsAtWords (a_p_has_a_p ∷ []) in_a_row a
        by (inl h) = subst (AtomHoldsAtWords (a_p_has_a_p ∷ []) in_a_row) h (to_longer refl empty)
        by (inr h) = subst (AtomHoldsAtWords (a_p_has_a_p ∷ []) in_a_row) h (to_longer refl empty)

-- and they have no outside neighbour
pub none_outside : (u : Term) → IsOutsideNeighbour two_in_a_row first_three u → ⊥
none_outside u h = by h.linked
  where
    at : (v w p : ℕ) (a b : Term) → is_in first_three (Var v) ≡ true → is_in first_three (Var w) ≡ true
        → link property_p v w ≡ Link p a b → (is_in first_three a ≡ true) × (is_in first_three b ≡ true)
    at v w p a b e f g = (
      let k : Var v ≡ a = cc in subst (λ z. is_in first_three z ≡ true) k e,
      let k : Var w ≡ b = cc in subst (λ z. is_in first_three z ≡ true) k f,
    )

    ends : (p : ℕ) (a b : Term) → Contains two_in_a_row.atoms (Link p a b) → (is_in first_three a ≡ true) × (is_in first_three b ≡ true)
    ends p a b c = of (Contains-two (link property_p 0 1) (link property_p 1 2) (Link p a b) c)
      where
        of : (link property_p 0 1 ≡ Link p a b) ⊎ (link property_p 1 2 ≡ Link p a b) → (is_in first_three a ≡ true) × (is_in first_three b ≡ true)
        of (inl g) = at 0 1 p a b refl refl g
        of (inr g) = at 1 2 p a b refl refl g

    by : AreLinked two_in_a_row (Var h.member) u → ⊥
    by (forward {p = p} c) = not_both (ends p (Var h.member) u c).1 h.outside
    by (backward {p = p} c) = not_both (ends p u (Var h.member) c).0 h.outside
