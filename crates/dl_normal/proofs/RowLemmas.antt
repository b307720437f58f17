-- Rows of one kind, and a normal form that gains rows.
use Rattle.std.proofs.Common.{◌≡◌, ℕ, ◌+◌, ◌<◌, List, [], ◌∷◌, ◌++◌, map, flat_map, filter_map, length, take, get_or, refl, sym, ap, subst, ◌∙◌, append_assoc, append-nil}
use Rattle.std.proofs.lemmas.List.{map-append, take_more}
use Rattle.std.proofs.lemmas.List.Concat.{flat_map-append}
use Rattle.std.proofs.lemmas.List.Elements.{filter_map-append}
use Rattle.dl_terms.specs.NormalForm.{Row, role_in, concept_in, never, as_role_in, as_concept_in, as_negative}
use Rattle.dl_terms.specs.declared.role.Role.{Role}
use Rattle.dl_terms.specs.declared.role.Basic.{Basic}
use Rattle.dl_terms.specs.declared.role.Negative.{Negative}
use Rattle.dl_terms.specs.declared.role.Normal.{Normal}
use Rattle.dl_normal.specs.Growing.{Gains}

-- ---- the three lists of rows of one kind

roles-role : (ps : List (Role × Role)) → filter_map as_role_in (map (λ p. role_in p.0 p.1) ps) ≡ ps
roles-role [] = refl
roles-role (p ∷ ps) = ap (λ l. p ∷ l) (roles-role ps)

concepts-role : (ps : List (Role × Role)) → filter_map as_concept_in (map (λ p. role_in p.0 p.1) ps) ≡ []
concepts-role [] = refl
concepts-role (p ∷ ps) = concepts-role ps

negatives-role : (ps : List (Role × Role)) → filter_map as_negative (map (λ p. role_in p.0 p.1) ps) ≡ []
negatives-role [] = refl
negatives-role (p ∷ ps) = negatives-role ps

roles-concept : (ps : List (Basic × Basic)) → filter_map as_role_in (map (λ p. concept_in p.0 p.1) ps) ≡ []
roles-concept [] = refl
roles-concept (p ∷ ps) = roles-concept ps

concepts-concept : (ps : List (Basic × Basic)) → filter_map as_concept_in (map (λ p. concept_in p.0 p.1) ps) ≡ ps
concepts-concept [] = refl
concepts-concept (p ∷ ps) = ap (λ l. p ∷ l) (concepts-concept ps)

negatives-concept : (ps : List (Basic × Basic)) → filter_map as_negative (map (λ p. concept_in p.0 p.1) ps) ≡ []
negatives-concept [] = refl
negatives-concept (p ∷ ps) = negatives-concept ps

module _ {A : Type 0} (f : A → Negative) where
  roles-never : (xs : List A) → filter_map as_role_in (map (λ x. never (f x)) xs) ≡ []
  roles-never [] = refl
  roles-never (x ∷ xs) = roles-never xs

  concepts-never : (xs : List A) → filter_map as_concept_in (map (λ x. never (f x)) xs) ≡ []
  concepts-never [] = refl
  concepts-never (x ∷ xs) = concepts-never xs

  negatives-never : (index : ℕ) (xs : List A)
      → map {B = ℕ × Negative} (λ n. (index, n)) (filter_map as_negative (map (λ x. never (f x)) xs)) ≡ map (λ x. (index, f x)) xs
  negatives-never index [] = refl
  negatives-never index (x ∷ xs) = ap (λ l. (index, f x) ∷ l) (negatives-never index xs)

-- ---- gaining rows

-- as before, with nothing behind
same_end : {A : Type 0} (xs ys : List A) → ys ≡ [] → xs ≡ xs ++ ys
same_end xs ys e = sym (append-nil xs) ∙ ap (λ l. xs ++ l) (sym e)

pub Gains-none : (index : ℕ) (n : Normal) → Gains index [] n n
Gains-none index n = record { roles = same_end _ _ refl; concepts = same_end _ _ refl; negatives = same_end _ _ refl }

-- two ends, one behind the other
joined : {A : Type 0} (a b c xs ys zs : List A) → b ≡ a ++ xs → c ≡ b ++ ys → zs ≡ xs ++ ys → c ≡ a ++ zs
joined a b c xs ys zs e f g = f ∙ ap (λ l. l ++ ys) e ∙ append_assoc a xs ys ∙ ap (λ l. a ++ l) (sym g)

pub Gains-append : (index : ℕ) (rows more : List Row) (a b c : Normal) → Gains index rows a b → Gains index more b c → Gains index (rows ++ more) a c
Gains-append index rows more a b c g h = record {
  roles = joined _ _ _ _ _ _ g.roles h.roles (filter_map-append as_role_in rows more);
  concepts = joined _ _ _ _ _ _ g.concepts h.concepts (filter_map-append as_concept_in rows more);
  negatives = joined _ _ _ _ _ _ g.negatives h.negatives
      (ap (map (λ n. (index, n))) (filter_map-append as_negative rows more)
      ∙ map-append (λ n. (index, n)) (filter_map as_negative rows) (filter_map as_negative more));
}

module _ (index : ℕ) (old new : Normal) where
  pub Gains-roles : (ps : List (Role × Role)) → new.roles ≡ old.roles ++ ps → new.concepts ≡ old.concepts → new.negatives ≡ old.negatives
      → Gains index (map (λ p. role_in p.0 p.1) ps) old new
  Gains-roles ps e f g = record {
    roles = e ∙ ap (λ l. old.roles ++ l) (sym (roles-role ps));
    concepts = f ∙ same_end _ _ (concepts-role ps);
    negatives = g ∙ same_end _ _ (ap (map (λ n. (index, n))) (negatives-role ps));
  }

  pub Gains-concepts : (ps : List (Basic × Basic)) → new.roles ≡ old.roles → new.concepts ≡ old.concepts ++ ps → new.negatives ≡ old.negatives
      → Gains index (map (λ p. concept_in p.0 p.1) ps) old new
  Gains-concepts ps e f g = record {
    roles = e ∙ same_end _ _ (roles-concept ps);
    concepts = f ∙ ap (λ l. old.concepts ++ l) (sym (concepts-concept ps));
    negatives = g ∙ same_end _ _ (ap (map (λ n. (index, n))) (negatives-concept ps));
  }

  pub Gains-negatives : {A : Type 0} (f : A → Negative) (xs : List A) → new.roles ≡ old.roles → new.concepts ≡ old.concepts
      → new.negatives ≡ old.negatives ++ map (λ x. (index, f x)) xs → Gains index (map (λ x. never (f x)) xs) old new
  Gains-negatives f xs e h g = record {
    roles = e ∙ same_end _ _ (roles-never f xs);
    concepts = h ∙ same_end _ _ (concepts-never f xs);
    negatives = g ∙ ap (λ l. old.negatives ++ l) (sym (negatives-never f index xs));
  }

-- one more item of a list of which each has rows
pub flat_map-more : {A B : Type 0} (f : A → List B) (xs : List A) (i : ℕ) (d : A) → i < length xs
    → flat_map f (take (i + 1) xs) ≡ flat_map f (take i xs) ++ f (get_or xs i d)
flat_map-more f xs i d within =
    ap (flat_map f) (take_more xs i d within) ∙ flat_map-append f (take i xs) (get_or xs i d ∷ [])
    ∙ ap (λ l. flat_map f (take i xs) ++ l) (append-nil (f (get_or xs i d)))

pub Gains-more : {A : Type 0} (index : ℕ) (f : A → List Row) (xs : List A) (i : ℕ) (d : A) (a b c : Normal) → i < length xs
    → Gains index (flat_map f (take i xs)) a b → Gains index (f (get_or xs i d)) b c → Gains index (flat_map f (take (i + 1) xs)) a c
Gains-more index f xs i d a b c within g h =
    subst (λ rows. Gains index rows a c) (sym (flat_map-more f xs i d within)) (Gains-append index (flat_map f (take i xs)) (f (get_or xs i d)) a b c g h)
