-- The first broken axiom, in the canonical structure and in finite models of what the axioms include.
use Rattle.std.proofs.Common.{◌≡◌, ℕ, ◌⊎◌, inl, inr, List, [], ◌∷◌, ◌++◌, Option, Some, None, refl, sym, ap, subst, ◌∙◌, ⊎_elim, append_assoc}
use Rattle.std.specs.List.{All, Contains, flat_map, filter_map}
use Rattle.std.proofs.lemmas.List.Elements.{All-nil, All-append, All-map, All-contains, Contains-append_left}
use Rattle.dl_terms.specs.NormalForm.{axiom_rows, as_negative, axiom_negatives, nothing_negative, negatives}
use Rattle.dl_terms.specs.Structure.{Element}
use Rattle.dl_terms.specs.Broken.{IsMet, IsFirstBroken}
use Rattle.dl_terms.specs.Auxiliaries.{HasNoAuxiliary}
use Rattle.dl_terms.specs.declared.role.Basic.TheVariants.{Class}
use Rattle.dl_terms.specs.declared.role.Negative.{Negative}
use Rattle.dl_terms.specs.declared.role.Negative.TheVariants.{Basics}
use Rattle.dl_terms.specs.declared.axiom.Axiom.{Axiom}
use Rattle.dl_terms.specs.declared.axiom.Fact.{Fact}
use Rattle.dl_terms.proofs.MemberLemmas.{Contains-nil, Contains-first, Contains-later, Contains-middle, Contains-one}
use Rattle.dl_models.specs.Meaning.{Structure, FactHolds, NothingIsEmpty, Accepts, IsModel}
use Rattle.dl_models.specs.Inclusions.{IsFirstRefused}
use Rattle.dl_models.specs.Structures.{canonical}
use Rattle.dl_models.proofs.ListLemmas.{All-split}
use Rattle.dl_models.proofs.HomomorphismLemmas.{IsHomomorphism, accepted-not-met, not-met}
use Rattle.dl_models.proofs.CanonicalLemmas.{all_accepted, identity, facts_hold}

-- ---- where an item stands in two lists, one behind the other

two_ends : {A : Type 0} (xs ys zs ws : List A) (x : A) → xs ++ ys ≡ zs ++ x ∷ ws
    → Contains xs x ⊎ ((more : List A) × (zs ≡ xs ++ more) × (ys ≡ more ++ x ∷ ws))
two_ends [] ys zs ws x e = inr (zs, refl, e)
two_ends (y ∷ xs) ys [] ws x e =
    let same : y ≡ x = cc in
    inl (subst (Contains (y ∷ xs)) same (Contains-first y xs))
two_ends {A} (y ∷ xs) ys (z ∷ zs) ws x e =
    let same : y ≡ z = cc in
    let rest : xs ++ ys ≡ zs ++ x ∷ ws = cc in
    ⊎_elim (λ (c : Contains xs x). inl (Contains-later y x xs c))
    (λ (k : (more : List A) × (zs ≡ xs ++ more) × (ys ≡ more ++ x ∷ ws)).
    inr (k.0, ap (λ l. z ∷ l) k.1 ∙ ap (λ w. w ∷ (xs ++ k.0)) (sym same), k.2)) (two_ends xs ys zs ws x rest)

-- ---- negatives, each beside its axiom

beside : (b : Axiom) (o : Option Axiom) (n : Negative) → Contains (axiom_negatives b) (o, n) → o ≡ Some b
beside b o n c =
    let IsBeside : Option Axiom × Negative → Type 0 = λ p. p.0 ≡ Some b in
    All-contains IsBeside (axiom_negatives b) (o, n)
    (All-map IsBeside (λ n. (Some b, n)) (filter_map as_negative (axiom_rows b)) (λ k d within. refl)) c

at_nothing : (nothing : Option ℕ) (o : Option Axiom) (n : Negative) → Contains (nothing_negative nothing) (o, n) → o ≡ None
at_nothing None o n c = absurd (Contains-nil (o, n) c)
at_nothing (Some m) o n c = sym (ap (λ p. p.0) (Contains-one (None, Basics (Class m) (Class m)) (o, n) c))

no_axiom : (a : Axiom) → None ≡ Some a → ⊥
no_axiom a e = cc

-- where an axiom and one of its negatives stand among all
pub record StandsAmong (axioms : List Axiom) (before : List (Option Axiom × Negative)) (a : Axiom) (n : Negative) : Type 1 where
  pub earlier : List Axiom
  pub later : List Axiom
  pub is_there : axioms ≡ earlier ++ a ∷ later
  pub own : Contains (axiom_negatives a) (Some a, n)
  pub behind : (P : Option Axiom × Negative → Type 0) → All P before → All P (flat_map axiom_negatives earlier)

pub stands_among : (axioms : List Axiom) (nothing : Option ℕ) (before after : List (Option Axiom × Negative)) (a : Axiom) (n : Negative)
    → negatives axioms nothing ≡ before ++ (Some a, n) ∷ after → StandsAmong axioms before a n
stands_among [] nothing before after a n e =
    absurd (no_axiom a (sym (at_nothing nothing (Some a) n
    (subst (λ l. Contains l (Some a, n)) (sym e) (Contains-middle before after (Some a, n))))))
stands_among (b ∷ axioms) nothing before after a n e =
    ⊎_elim (λ (c : Contains (axiom_negatives b) (Some a, n)). here c)
    (λ (k : (more : List (Option Axiom × Negative)) × (before ≡ axiom_negatives b ++ more)
    × (negatives axioms nothing ≡ more ++ (Some a, n) ∷ after)). there k.0 k.1 (stands_among axioms nothing k.0 after a n k.2))
    (two_ends (axiom_negatives b) (negatives axioms nothing) before after (Some a, n) (joined ∙ e))
  where
    joined : axiom_negatives b ++ negatives axioms nothing ≡ negatives (b ∷ axioms) nothing
    joined = sym (append_assoc (axiom_negatives b) (flat_map axiom_negatives axioms) (nothing_negative nothing))

    is_it : Contains (axiom_negatives b) (Some a, n) → b ≡ a
    is_it c = let e = beside b (Some a) n c in cc

    here : Contains (axiom_negatives b) (Some a, n) → StandsAmong (b ∷ axioms) before a n
    here c = record {
      earlier = [];
      later = axioms;
      is_there = ap (λ b. b ∷ axioms) (is_it c);
      own = subst (λ b. Contains (axiom_negatives b) (Some a, n)) (is_it c) c;
      behind = λ P all. All-nil P;
    }

    there : (more : List (Option Axiom × Negative)) → before ≡ axiom_negatives b ++ more → StandsAmong axioms more a n → StandsAmong (b ∷ axioms) before a n
    there more is rest = record {
      earlier = b ∷ rest.earlier;
      later = rest.later;
      is_there = ap (λ l. b ∷ l) rest.is_there;
      own = rest.own;
      behind = λ P all.
          let both = All-split P (axiom_negatives b) more (subst (All P) is all) in
          All-append P (axiom_negatives b) (flat_map axiom_negatives rest.earlier) both.0 (rest.behind P both.1);
    }

-- the negative of owl:Nothing stands behind all others
last_among : (axioms : List Axiom) (nothing : Option ℕ) (before after : List (Option Axiom × Negative)) (n : Negative)
    → negatives axioms nothing ≡ before ++ (None, n) ∷ after
    → Contains (nothing_negative nothing) (None, n)
    × ((P : Option Axiom × Negative → Type 0) → All P before → All P (flat_map axiom_negatives axioms))
last_among [] nothing before after n e =
    (subst (λ l. Contains l (None, n)) (sym e) (Contains-middle before after (None, n)), λ P all. All-nil P)
last_among (b ∷ axioms) nothing before after n e =
    ⊎_elim (λ (c : Contains (axiom_negatives b) (None, n)). absurd (no_axiom b (beside b None n c)))
    (λ (k : (more : List (Option Axiom × Negative)) × (before ≡ axiom_negatives b ++ more)
    × (negatives axioms nothing ≡ more ++ (None, n) ∷ after)). there k.0 k.1 (last_among axioms nothing k.0 after n k.2))
    (two_ends (axiom_negatives b) (negatives axioms nothing) before after (None, n) (joined ∙ e))
  where
    joined : axiom_negatives b ++ negatives axioms nothing ≡ negatives (b ∷ axioms) nothing
    joined = sym (append_assoc (axiom_negatives b) (flat_map axiom_negatives axioms) (nothing_negative nothing))

    there : (more : List (Option Axiom × Negative)) → before ≡ axiom_negatives b ++ more
        → Contains (nothing_negative nothing) (None, n) × ((P : Option Axiom × Negative → Type 0) → All P more → All P (flat_map axiom_negatives axioms))
        → Contains (nothing_negative nothing) (None, n) × ((P : Option Axiom × Negative → Type 0) → All P before → All P (flat_map axiom_negatives (b ∷ axioms)))
    there more is rest = (
      rest.0,
      λ P all.
          let both = All-split P (axiom_negatives b) more (subst (All P) is all) in
          All-append P (axiom_negatives b) (flat_map axiom_negatives axioms) both.0 (rest.1 P both.1),
    )

-- ---- a structure to which the canonical one maps

module _ (i : Structure) (axioms : List Axiom) (facts : List Fact) (nothing : Option ℕ) (no_auxiliary : All HasNoAuxiliary axioms)
    (held : All (FactHolds i) facts) (image : Element → i.Value) (is : IsHomomorphism i axioms facts image) where
  -- it doesn't accept the first broken axiom
  pub refused : (a : Axiom) → IsFirstBroken axioms facts nothing (Some a) → ¬ Accepts i a
  refused a h accepted =
      let at = stands_among axioms nothing h.before h.after a h.negative h.is_there in
      let named = All-contains HasNoAuxiliary axioms a no_auxiliary (subst (λ l. Contains l a) (sym at.is_there) (Contains-middle at.earlier at.later a)) in
      All-contains (λ n. ¬ IsMet axioms facts n.1) (axiom_negatives a) (Some a, h.negative)
      (accepted-not-met i axioms facts held image is a named accepted) at.own h.met

  -- or owl:Nothing isn't empty in it
  empty-not-met : (nothing : Option ℕ) (n : Negative) → Contains (nothing_negative nothing) (None, n) → NothingIsEmpty i nothing → ¬ IsMet axioms facts n
  empty-not-met None n c empty = absurd (Contains-nil (None, n) c)
  empty-not-met (Some m) n c empty =
      let e : Basics (Class m) (Class m) ≡ n = ap (λ p. p.1) (Contains-one (None, Basics (Class m) (Class m)) (None, n) c) in
      subst (λ n. ¬ IsMet axioms facts n) e
      (not-met i axioms facts held image is (Basics (Class m) (Class m)) (tt, tt) (λ x element k l. empty x element k))

  pub not_empty : IsFirstBroken axioms facts nothing None → ¬ NothingIsEmpty i nothing
  not_empty h empty =
      let at = last_among axioms nothing h.before h.after h.negative h.is_there in
      empty-not-met nothing h.negative at.0 empty h.met

  -- so it is no model
  pub no_model : (broken : Option Axiom) → IsFirstBroken axioms facts nothing broken → ¬ IsModel i axioms facts nothing
  no_model (Some a) h model =
      let at = stands_among axioms nothing h.before h.after a h.negative h.is_there in
      refused a h (All-contains (Accepts i) axioms a model.axioms_accepted
      (subst (λ l. Contains l a) (sym at.is_there) (Contains-middle at.earlier at.later a)))
  no_model None h model = not_empty h model.nothing_in_it

-- ---- the canonical structure

module _ (axioms : List Axiom) (facts : List Fact) (nothing : Option ℕ) (no_auxiliary : All HasNoAuxiliary axioms) where
  -- of the axioms, the first that it doesn't accept is the first broken one
  pub first_refused : (a : Axiom) → IsFirstBroken axioms facts nothing (Some a) → IsFirstRefused (canonical axioms facts) axioms a
  first_refused a h =
      let at = stands_among axioms nothing h.before h.after a h.negative h.is_there in
      record {
        before = at.earlier;
        after = at.later;
        is_there = at.is_there;
        accepted =
            all_accepted axioms facts no_auxiliary at.earlier
            (λ b c. subst (λ l. Contains l b) (sym at.is_there) (Contains-append_left at.earlier (a ∷ at.later) b c))
            (at.behind (λ n. ¬ IsMet axioms facts n.1) h.first);
        refused =
            refused (canonical axioms facts) axioms facts nothing no_auxiliary (facts_hold axioms facts) (λ z. z) (identity axioms facts) a h;
      }

  -- where owl:Nothing is what is broken, it accepts all
  pub all_but_nothing : IsFirstBroken axioms facts nothing None
      → All (Accepts (canonical axioms facts)) axioms × ¬ NothingIsEmpty (canonical axioms facts) nothing
  all_but_nothing h =
      let at = last_among axioms nothing h.before h.after h.negative h.is_there in (
        all_accepted axioms facts no_auxiliary axioms (λ a c. c) (at.1 (λ n. ¬ IsMet axioms facts n.1) h.first),
        not_empty (canonical axioms facts) axioms facts nothing no_auxiliary (facts_hold axioms facts) (λ z. z) (identity axioms facts) h,
      )
