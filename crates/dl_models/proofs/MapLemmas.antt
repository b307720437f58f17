-- The canonical structure mapped to a finite model of the same axioms and facts: a name to its element, and a word
-- along neighbours that are found in the model's lists.
use Rattle.std.proofs.Common.{◌≡◌, ℕ, ◌<◌, ◌↔◌, Bool, true, false, ◌&&◌, List, [], ◌∷◌, ◌++◌, refl, sym, ap, subst}
use Rattle.std.specs.List.{All, Contains, list_any}
use Rattle.std.proofs.lemmas.List.Elements.{All-contains}
use Rattle.dl_terms.specs.Roles.{named}
use Rattle.dl_terms.specs.Below.{RoleBelow, ConceptBelow}
use Rattle.dl_terms.specs.Structure.{HoldsAtName, by_class, by_source, by_target, Element, individual, child, Follows, IsWordAt, IsElement, HoldsAt, at_name, at_end, Joins, by_fact, by_fact_turned, to_child, from_child}
use Rattle.dl_terms.specs.declared.role.Base.{Base}
use Rattle.dl_terms.specs.declared.role.Base.TheVariants.{Named, Auxiliary}
use Rattle.dl_terms.specs.declared.role.Role.{Role}
use Rattle.dl_terms.specs.declared.role.Basic.{Basic}
use Rattle.dl_terms.specs.declared.role.Basic.TheVariants.{Class, SomeOf}
use Rattle.dl_terms.specs.declared.axiom.Axiom.{Axiom}
use Rattle.dl_terms.specs.declared.axiom.Fact.{Fact}
use Rattle.dl_terms.specs.declared.axiom.Fact.TheVariants as fact
use Rattle.dl_terms.proofs.MemberLemmas.{both_true}
use Rattle.dl_models.specs.Meaning.{turned, BaseLinks, RoleLinks, IsInBasic, FactHolds}
use Rattle.dl_models.specs.Inclusions.{SatisfiesInclusions}
use Rattle.dl_models.specs.Structures.{finite}
use Rattle.dl_models.specs.declared.interp.Interp.{Interp}
use Rattle.dl_models.proofs.HomomorphismLemmas.{IsHomomorphism}
use Rattle.dl_models.proofs.RowLemmas.{inverse-links}
use Rattle.dl_models.proofs.BelowLemmas.{role_below, concept_below}
use Rattle.dl_models.proofs.SearchLemmas.{and_true, pair_eq, triple_eq, pair_right, triple_right, member-exact, found, found-below, found-passes}

module _ (model : Interp) where
  -- ---- tests of the model

  abbrev pub is_named : ℕ → ℕ → Bool
  is_named a x = list_any (λ p. pair_eq p (a, x)) model.names

  abbrev pub is_in : ℕ → ℕ → Bool
  is_in c x = list_any (λ p. pair_eq p (c, x)) model.classes

  abbrev pub is_link : ℕ → ℕ → ℕ → Bool
  is_link p x y = list_any (λ l. triple_eq l (p, x, y)) model.links

  abbrev pub turned_test : Bool → (ℕ → ℕ → Bool) → ℕ → ℕ → Bool
  turned_test false f x y = f x y
  turned_test true f x y = f y x

  abbrev pub base_links : Base → ℕ → ℕ → Bool
  base_links (Named p) x y = is_link p x y
  base_links (Auxiliary p t c) x y = turned_test t (is_link p) x y && is_in c y

  abbrev pub role_links : Role → ℕ → ℕ → Bool
  role_links r x y = turned_test r.inverse (base_links r.base) x y

  pub is_named-exact : (a x : ℕ) → (is_named a x ≡ true) ↔ Contains model.names (a, x)
  is_named-exact a x = member-exact pair_eq pair_right model.names (a, x)

  pub is_in-exact : (c x : ℕ) → (is_in c x ≡ true) ↔ Contains model.classes (c, x)
  is_in-exact c x = member-exact pair_eq pair_right model.classes (c, x)

  pub is_link-exact : (p x y : ℕ) → (is_link p x y ≡ true) ↔ Contains model.links (p, x, y)
  is_link-exact p x y = member-exact triple_eq triple_right model.links (p, x, y)

  turned-exact : (t : Bool) (f : ℕ → ℕ → Bool) (R : ℕ → ℕ → Type 0) → ((x y : ℕ) → (f x y ≡ true) ↔ R x y) → (x y : ℕ)
      → (turned_test t f x y ≡ true) ↔ turned t R x y
  turned-exact false f R exact x y = exact x y
  turned-exact true f R exact x y = exact y x

  base-exact : (b : Base) (x y : ℕ) → (base_links b x y ≡ true) ↔ BaseLinks (finite model) b x y
  base-exact (Named p) x y = is_link-exact p x y
  base-exact (Auxiliary p t c) x y =
      let link = turned-exact t (is_link p) (λ x y. Contains model.links (p, x, y)) (is_link-exact p) x y in (
        λ e.
            let h = both_true (turned_test t (is_link p) x y) (is_in c y) e in
            (link.0 h.0, (is_in-exact c y).0 h.1),
        λ k. and_true (turned_test t (is_link p) x y) (is_in c y) (link.1 k.0) ((is_in-exact c y).1 k.1),
      )

  pub role-exact : (r : Role) (x y : ℕ) → (role_links r x y ≡ true) ↔ RoleLinks (finite model) r x y
  role-exact r x y = turned-exact r.inverse (base_links r.base) (BaseLinks (finite model) r.base) (base-exact r.base) x y

  -- ---- the map

  -- an element by whose number a name is named, and a neighbour
  abbrev pub named_by : ℕ → ℕ
  named_by a = found (is_named a) model.size

  abbrev pub neighbour : Role → ℕ → ℕ
  neighbour r x = found (role_links r x) model.size

  abbrev pub walk : ℕ → List Role → ℕ
  walk x [] = x
  walk x (r ∷ word) = walk (neighbour r x) word

  abbrev pub image : Element → ℕ
  image z = walk (named_by z.name) z.word

  pub named_by-is : (a x : ℕ) → Contains model.names (a, x) → named_by a ≡ x
  named_by-is a x c =
      model.valid.one_element a (named_by a) x
      ((is_named-exact a (named_by a)).0 (found-passes (is_named a) model.size x (model.valid.of_names a x c) ((is_named-exact a x).1 c))) c

  walk-below : (x : ℕ) (word : List Role) → x < model.size → walk x word < model.size
  walk-below x [] lt = lt
  walk-below x (r ∷ word) lt = walk-below (neighbour r x) word (found-below (role_links r x) model.size model.valid.some_element)

  pub image-below : (z : Element) → image z < model.size
  image-below z = walk-below (named_by z.name) z.word (found-below (is_named z.name) model.size model.valid.some_element)

  pub image-individual : (a : ℕ) → image (individual a) ≡ named_by a
  image-individual a = refl

  -- where there is a neighbour, one is found
  neighbour-links : (r : Role) (x : ℕ) → IsInBasic (finite model) (SomeOf r) x → RoleLinks (finite model) r x (neighbour r x)
  neighbour-links r x h =
      (role-exact r x (neighbour r x)).0 (found-passes (role_links r x) model.size h.0 h.1 ((role-exact r x h.0).1 h.2))

  neighbour-below : (r : Role) (x : ℕ) → neighbour r x < model.size
  neighbour-below r x = found-below (role_links r x) model.size model.valid.some_element

  module _ (axioms : List Axiom) (facts : List Fact) (is : SatisfiesInclusions (finite model) axioms) (held : All (FactHolds (finite model)) facts) where
    fact_holds : (f : Fact) → Contains facts f → FactHolds (finite model) f
    fact_holds f c = All-contains (FactHolds (finite model)) facts f held c

    up : {b c : Basic} → ConceptBelow axioms b c → (x : ℕ) → x < model.size → IsInBasic (finite model) b x → IsInBasic (finite model) c x
    up d = concept_below (finite model) axioms is d

    over : {r s : Role} → RoleBelow axioms r s → (x y : ℕ) → x < model.size → y < model.size → RoleLinks (finite model) r x y
        → RoleLinks (finite model) s x y
    over d = role_below (finite model) axioms is d

    class_at : (c a : ℕ) → Contains facts (fact.Is c a) → Contains model.classes (c, named_by a)
    class_at c a h =
        let k = fact_holds (fact.Is c a) h in
        subst (λ x. Contains model.classes (c, x)) (sym (named_by-is a k.0 k.1)) k.2

    link_at : (p a b : ℕ) → Contains facts (fact.Link p a b) → Contains model.links (p, named_by a, named_by b)
    link_at p a b h =
        let k = fact_holds (fact.Link p a b) h in
        subst (λ x. Contains model.links (p, x, named_by b)) (sym (named_by-is a k.0 k.2))
        (subst (λ y. Contains model.links (p, k.0, y)) (sym (named_by-is b k.1 k.3)) k.4)

    named_by-below : (a : ℕ) → named_by a < model.size
    named_by-below a = found-below (is_named a) model.size model.valid.some_element

    at_name-in : (b : Basic) (a : ℕ) → HoldsAtName axioms facts b a → IsInBasic (finite model) b (named_by a)
    at_name-in b a (by_class {c = c} h d) = up d (named_by a) (named_by-below a) (class_at c a h)
    at_name-in b a (by_source {p = p} {o = o} h d) =
        up d (named_by a) (named_by-below a) (named_by o, named_by-below o, link_at p a o h)
    at_name-in b a (by_target {p = p} {o = o} h d) =
        up d (named_by a) (named_by-below a) (named_by o, named_by-below o, link_at p o a h)

    -- a word that may stand at an element of the model
    abbrev MayStand : ℕ → List Role → Type 0
    MayStand x [] = Unit {0}
    MayStand x (r ∷ word) = IsInBasic (finite model) (SomeOf r) x × Follows axioms r word

    next-stands : (x : ℕ) (r : Role) (word : List Role) → x < model.size → MayStand x (r ∷ word) → MayStand (neighbour r x) word
    next-stands x r [] lt h = tt
    next-stands x r (t ∷ word) lt h =
        let link = neighbour-links r x h.0 in
        (up h.1.0 (neighbour r x) (neighbour-below r x) (x, lt, (inverse-links (finite model) r (neighbour r x) x).1 link), h.1.1)

    last-links : (x : ℕ) (word : List Role) (r : Role) → x < model.size → MayStand x (word ++ r ∷ [])
        → RoleLinks (finite model) r (walk x word) (walk x (word ++ r ∷ []))
    last-links x [] r lt h = neighbour-links r x h.0
    last-links x (t ∷ word) r lt h =
        last-links (neighbour t x) word r (neighbour-below t x) (next-stands x t (word ++ r ∷ []) lt h)

    word-stands : (a : ℕ) (word : List Role) → IsWordAt axioms facts a word → MayStand (named_by a) word
    word-stands a [] h = tt
    word-stands a (r ∷ word) h = (at_name-in (SomeOf r) a h.0, h.1)

    -- a role leads from the image of an element to that of its child
    child-links : (z : Element) (r : Role) → IsElement axioms facts (child z r) → RoleLinks (finite model) r (image z) (image (child z r))
    child-links z r h = last-links (named_by z.name) z.word r (named_by-below z.name) (word-stands z.name (z.word ++ r ∷ []) h)

    -- ---- what the map keeps

    image-in : (b : Basic) (z : Element) → IsElement axioms facts z → HoldsAt axioms facts b z → IsInBasic (finite model) b (image z)
    image-in b z element (at_name e h) =
        subst (λ word. IsInBasic (finite model) b (walk (named_by z.name) word)) (sym e) (at_name-in b z.name h)
    image-in b z element (at_end y r e d) =
        subst (λ z. IsInBasic (finite model) b (image z)) (sym e)
        (up d (image (child y r)) (image-below (child y r))
        (image y, image-below y, (inverse-links (finite model) r (image (child y r)) (image y)).1 (child-links y r (subst (IsElement axioms facts) e element))))

    image-name : (z : Element) → z.word ≡ [] → image z ≡ named_by z.name
    image-name z e = ap (walk (named_by z.name)) e

    image-links : (s : Role) (z w : Element) → IsElement axioms facts z → IsElement axioms facts w → Joins axioms facts s z w
        → RoleLinks (finite model) s (image z) (image w)
    image-links s z w ez ew (by_fact {p = p} e f h d) =
        over d (image z) (image w) (image-below z) (image-below w)
        (subst (λ x. Contains model.links (p, x, image w)) (sym (image-name z e))
        (subst (λ y. Contains model.links (p, named_by z.name, y)) (sym (image-name w f)) (link_at p z.name w.name h)))
    image-links s z w ez ew (by_fact_turned {p = p} e f h d) =
        over d (image z) (image w) (image-below z) (image-below w)
        (subst (λ x. Contains model.links (p, image w, x)) (sym (image-name z e))
        (subst (λ y. Contains model.links (p, y, named_by z.name)) (sym (image-name w f)) (link_at p w.name z.name h)))
    image-links s z w ez ew (to_child {r = r} e d) =
        over d (image z) (image w) (image-below z) (image-below w)
        (subst (λ y. RoleLinks (finite model) r (image z) (image y)) (sym e) (child-links z r (subst (IsElement axioms facts) e ew)))
    image-links s z w ez ew (from_child {r = r} e d) =
        (inverse-links (finite model) s (image w) (image z)).0
        (over d (image w) (image z) (image-below w) (image-below z)
        (subst (λ x. RoleLinks (finite model) r (image w) (image x)) (sym e) (child-links w r (subst (IsElement axioms facts) e ez))))

    -- it is a homomorphism
    pub mapped : IsHomomorphism (finite model) axioms facts image
    mapped = record {
      elements = λ z element. image-below z;
      classes = λ c z element h. image-in (Class c) z element h;
      roles = λ p z w ez ew h. image-links (named p) z w ez ew h;
      names = λ a x h. subst (λ x. Contains model.names (a, x)) (sym (named_by-is a x h)) h;
    }
