-- A tuple is a certain answer exactly where it is one for some set of existential variables at elements without a name.
use Rattle.std.proofs.Common.{◌≡◌, ℕ, ◌<◌, Bool, true, false, not, ◌&&◌, List, [], ◌∷◌, ◌++◌, ◌⊎◌, ◌↔◌, map, nat_eq, eqb-true, refl, sym, ap, ap₂, subst, ◌∙◌, inl, inr, true≢false}
use Rattle.std.specs.List.{Contains, flat_map, list_any}
use Rattle.std.proofs.lemmas.Cmp.{nat_eq_equiv}
use Rattle.std.proofs.lemmas.Map.Views.{list_any-from_Contains, Contains-from_any}
use Rattle.std.proofs.lemmas.List.Elements.{Contains-append_left, Contains-append_right}
use Rattle.dl_terms.specs.Roles.{named}
use Rattle.dl_terms.specs.Structure.{HoldsAtName, Element, individual, HoldsAt, Joins}
use Rattle.dl_terms.specs.Answers.{value_of, AtomHolds, IsCertain}
use Rattle.dl_terms.specs.Queries.{term_variables, atom_variables, body_variables, is_existential, IsWellFormed}
use Rattle.dl_terms.specs.declared.role.Role.{Role}
use Rattle.dl_terms.specs.declared.role.Basic.TheVariants.{Class, SomeOf}
use Rattle.dl_terms.specs.declared.axiom.Axiom.{Axiom}
use Rattle.dl_terms.specs.declared.axiom.Fact.{Fact}
use Rattle.dl_terms.specs.declared.query.Term.{Term}
use Rattle.dl_terms.specs.declared.query.Term.TheVariants.{Var, Name}
use Rattle.dl_terms.specs.declared.query.Atom.{Atom}
use Rattle.dl_terms.specs.declared.query.Atom.TheVariants.{Is, Link}
use Rattle.dl_terms.specs.declared.query.Query.{Query}
use Rattle.dl_terms.proofs.MemberLemmas.{Contains-first, Contains-later, Contains-nil, Contains-cons, All-Contains}
use Rattle.dl_tree.specs.Sets.{is_in, touches, AreLinked, forward, backward}
use Rattle.dl_rewrite.specs.Parts.{AreParts, IsAnswerWhere, AreExistential}
use Rattle.dl_tree.proofs.FoldLemmas.{true_or_false, not_both, and_left, and_right, both, not_true, not_false}
use Rattle.dl_rewrite.proofs.SoundLemmas.{closed_itself, match_of, or_false_left, or_false_right}
use Rattle.dl_rewrite.proofs.CompleteLemmas.{all_parts}

-- ---- variables of atoms

Contains-flat_map : {X A : Type 0} (f : X → List A) (xs : List X) (x : X) (a : A) → Contains xs x → Contains (f x) a → Contains (flat_map f xs) a
Contains-flat_map f [] x a c d = absurd (Contains-nil x c)
Contains-flat_map f (y ∷ xs) x a c d = by (Contains-cons y x xs c) (λ e. Contains-flat_map f xs x a e d)
  where
    by : (y ≡ x) ⊎ Contains xs x → (Contains xs x → Contains (flat_map f xs) a) → Contains (f y ++ flat_map f xs) a
    by (inl e) later = Contains-append_left (f y) (flat_map f xs) a (subst (λ z. Contains (f z) a) (sym e) d)
    by (inr e) later = Contains-append_right (f y) (flat_map f xs) a (later e)

-- a term of the body
abbrev IsInBody : Query → Term → Type 0
IsInBody q (Var v) = Contains (body_variables q) v
IsInBody q (Name a) = Unit {0}

term_in : (q : Query) (a : Atom) (u : Term) → Contains q.atoms a → ((v : ℕ) → Contains (term_variables u) v → Contains (atom_variables a) v) → IsInBody q u
term_in q a (Var v) c h = Contains-flat_map atom_variables q.atoms a v c (h v (Contains-first v []))
term_in q a (Name n) c h = tt

class_in : (q : Query) (c : ℕ) (u : Term) → Contains q.atoms (Is c u) → IsInBody q u
class_in q c u k = term_in q (Is c u) u k (λ v h. h)

link_in_left : (q : Query) (p : ℕ) (u w : Term) → Contains q.atoms (Link p u w) → IsInBody q u
link_in_left q p u w k = term_in q (Link p u w) u k (λ v h. Contains-append_left (term_variables u) (term_variables w) v h)

link_in_right : (q : Query) (p : ℕ) (u w : Term) → Contains q.atoms (Link p u w) → IsInBody q w
link_in_right q p u w k = term_in q (Link p u w) w k (λ v h. Contains-append_right (term_variables u) (term_variables w) v h)

linked_in : (q : Query) (t u : Term) → AreLinked q t u → IsInBody q u
linked_in q t u (forward {p = p} k) = link_in_right q p t u k
linked_in q t u (backward {p = p} k) = link_in_left q p u t k

any_of : (xs : List ℕ) (v : ℕ) → Contains xs v → list_any (nat_eq v) xs ≡ true
any_of xs v c = list_any-from_Contains nat_eq_equiv v xs c

of_any : (xs : List ℕ) (v : ℕ) → list_any (nat_eq v) xs ≡ true → Contains xs v
of_any xs v e = Contains-from_any (λ x y h. eqb-true x y h) v xs e

-- a head variable isn't existential
head_is_not : (q : Query) (v : ℕ) → Contains q.head v → is_existential q v ≡ true → ⊥
head_is_not q v c e =
    not_both (any_of q.head v c) (not_true (list_any (nat_eq v) q.head) (and_right (list_any (nat_eq v) (body_variables q)) (not (list_any (nat_eq v) q.head)) e))

-- a variable of the body that isn't existential is in the head
head_is : (q : Query) (v : ℕ) → Contains (body_variables q) v → is_existential q v ≡ false → Contains q.head v
head_is q v c e = by (true_or_false (list_any (nat_eq v) q.head))
  where
    by : (list_any (nat_eq v) q.head ≡ true) ⊎ (list_any (nat_eq v) q.head ≡ false) → Contains q.head v
    by (inl h) = of_any q.head v h
    by (inr h) = absurd (not_both (both (list_any (nat_eq v) (body_variables q)) (not (list_any (nat_eq v) q.head)) (any_of (body_variables q) v c) (not_false (list_any (nat_eq v) q.head) h)) e)

-- ---- heads

named_head : (m : ℕ → Element) (head tuple : List ℕ) → map m head ≡ map individual tuple → (v : ℕ) → Contains head v → (m v).word ≡ []
named_head m [] tuple e v c = absurd (Contains-nil v c)
named_head m (x ∷ head) [] e v c = cc
named_head m (x ∷ head) (a ∷ tuple) e v c = by (Contains-cons x v head c) (λ d. named_head m head tuple later v d)
  where
    first : m x ≡ individual a
    first = cc

    later : map m head ≡ map individual tuple
    later = cc

    by : (x ≡ v) ⊎ Contains head v → (Contains head v → (m v).word ≡ []) → (m v).word ≡ []
    by (inl h) more = ap (λ z. (m z).word) (sym h) ∙ ap (λ z. z.word) first
    by (inr h) more = more h

names_of_head : (m : ℕ → Element) (head tuple : List ℕ) → map m head ≡ map individual tuple → map (λ v. (m v).name) head ≡ tuple
names_of_head m [] [] e = refl
names_of_head m [] (a ∷ tuple) e = cc
names_of_head m (x ∷ head) [] e = cc
names_of_head m (x ∷ head) (a ∷ tuple) e = ap₂ (λ y ys. y ∷ ys) (ap (λ z. z.name) first) (names_of_head m head tuple later)
  where
    first : m x ≡ individual a
    first = cc

    later : map m head ≡ map individual tuple
    later = cc

head_of_names : (m : ℕ → Element) (names : ℕ → ℕ) (head : List ℕ) → ((v : ℕ) → Contains head v → m v ≡ individual (names v))
    → map m head ≡ map individual (map names head)
head_of_names m names [] h = refl
head_of_names m names (x ∷ head) h =
    ap₂ (λ y ys. y ∷ ys) (h x (Contains-first x head)) (head_of_names m names head (λ v c. h v (Contains-later x v head c)))

module _ (axioms : List Axiom) (facts : List Fact) (roles : List Role) (q : Query) (tuple : List ℕ) where
  -- ---- an answer for a set is certain

  pub certain_of : (s : ℕ → Bool) (parts : List (ℕ → Bool)) → AreExistential q s → AreParts q s parts
      → IsAnswerWhere axioms facts roles q s parts tuple → IsCertain axioms facts q tuple
  certain_of s parts ex are h =
      let g = match_of axioms facts q roles s h.names parts are h.holds in
      record {
        elements = g.0;
        is_match = g.1;
        is_head = head_of_names g.0 h.names q.head (λ v c. g.2 v (outside v c (true_or_false (s v)))) ∙ ap (map individual) h.is_head;
      }
    where
      outside : (v : ℕ) → Contains q.head v → (s v ≡ true) ⊎ (s v ≡ false) → s v ≡ false
      outside v c (inl e) = absurd (head_is_not q v c (ex v e))
      outside v c (inr e) = e

  -- ---- a certain answer is one for the set of its existential variables at unnamed elements

  abbrev is_empty : List Role → Bool
  is_empty [] = true
  is_empty (t ∷ w) = false

  is_empty_true : (w : List Role) → is_empty w ≡ true → w ≡ []
  is_empty_true [] e = refl
  is_empty_true (t ∷ w) e = absurd (true≢false (sym e))

  abbrev pub unnamed_variables : (ℕ → Element) → ℕ → Bool
  unnamed_variables m v = is_existential q v && not (is_empty (m v).word)

  module _ (well : IsWellFormed q) (known : (t : Role) (a : ℕ) → HoldsAtName axioms facts (SomeOf t) a → Contains roles t)
      (c : IsCertain axioms facts q tuple) where
    m : ℕ → Element
    m = c.elements

    s : ℕ → Bool
    unfolding m
    s = unnamed_variables m

    unnamed : (v : ℕ) → s v ≡ true → (m v).word ≡ [] → ⊥
    unfolding s m
    unnamed v e g =
        not_both (ap is_empty g) (not_true (is_empty (m v).word) (and_right (is_existential q v) (not (is_empty (m v).word)) e))

    bounded : (v : ℕ) → s v ≡ true → v < q.vars
    unfolding s m
    bounded v e =
        All-Contains (λ v. v < q.vars) (body_variables q) v well.variables
        (of_any (body_variables q) v (and_left (list_any (nat_eq v) (body_variables q)) (not (list_any (nat_eq v) q.head))
        (and_left (is_existential q v) (not (is_empty (m v).word)) e)))

    -- a term of the body outside the set is at a name
    at_name : (u : Term) → IsInBody q u → is_in s u ≡ false → (value_of m u).word ≡ []
    unfolding s m
    at_name (Var v) b e = by (true_or_false (is_existential q v)) (true_or_false (is_empty (m v).word))
      where
        by : (is_existential q v ≡ true) ⊎ (is_existential q v ≡ false) → (is_empty (m v).word ≡ true) ⊎ (is_empty (m v).word ≡ false) → (m v).word ≡ []
        by (inr g) h = named_head m q.head tuple c.is_head v (head_is q v b g)
        by (inl g) (inl h) = is_empty_true (m v).word h
        by (inl g) (inr h) = absurd (not_both (both (is_existential q v) (not (is_empty (m v).word)) g (not_false (is_empty (m v).word) h)) e)
    at_name (Name a) b e = refl

    names : ℕ → ℕ
    names v = (m v).name

    same_value : (u : Term) → (value_of m u).word ≡ [] → value_of m u ≡ value_of (λ v. individual (names v)) u
    unfolding names
    same_value (Var v) e = λ i. record { name = (m v).name; word = e i }
    same_value (Name a) e = refl

    atoms : (a : Atom) → Contains q.atoms a → touches s a ≡ false → AtomHolds axioms facts (λ v. individual (names v)) a
    unfolding m
    atoms (Is b u) k e = subst (HoldsAt axioms facts (Class b)) (same_value u (at_name u (class_in q b u k) e)) (c.is_match.atoms (Is b u) k)
    atoms (Link p u w) k e =
        subst (λ z. Joins axioms facts (named p) z (value_of (λ v. individual (names v)) w))
        (same_value u (at_name u (link_in_left q p u w k) (or_false_left (is_in s u) (is_in s w) e)))
        (subst (Joins axioms facts (named p) (value_of m u))
        (same_value w (at_name w (link_in_right q p u w k) (or_false_right (is_in s u) (is_in s w) e))) (c.is_match.atoms (Link p u w) k))

    pub answer_of : (parts : List (ℕ → Bool)) → AreParts q (unnamed_variables c.elements) parts
        → IsAnswerWhere axioms facts roles q (unnamed_variables c.elements) parts tuple
    unfolding s m names
    answer_of parts are = record {
      names = names;
      is_head = names_of_head m q.head tuple c.is_head;
      holds = record {
        atoms = atoms;
        each_part = all_parts axioms facts q m c.is_match roles known s unnamed bounded (λ t u k e. at_name u (linked_in q t u k) e) parts s are (closed_itself q s);
      };
    }

  pub unnamed_existential : (c : IsCertain axioms facts q tuple) → AreExistential q (unnamed_variables c.elements)
  unnamed_existential c v e = and_left (is_existential q v) (not (is_empty (c.elements v).word)) e

  -- however sets are cut into parts
  pub Certain-Where : (parts_of : (ℕ → Bool) → List (ℕ → Bool)) → IsWellFormed q
      → ((t : Role) (a : ℕ) → HoldsAtName axioms facts (SomeOf t) a → Contains roles t)
      → ((s : ℕ → Bool) → AreExistential q s → AreParts q s (parts_of s))
      → IsCertain axioms facts q tuple ↔ ((s : ℕ → Bool) × AreExistential q s × IsAnswerWhere axioms facts roles q s (parts_of s) tuple)
  Certain-Where parts_of well known are = (
    λ c. (unnamed_variables c.elements, unnamed_existential c, answer_of well known c (parts_of (unnamed_variables c.elements)) (are (unnamed_variables c.elements) (unnamed_existential c))),
    λ h. certain_of h.0 (parts_of h.0) h.1 (are h.0 h.1) h.2,
  )
