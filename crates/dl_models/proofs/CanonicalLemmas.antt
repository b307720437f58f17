-- The canonical structure against the meaning of axioms: where nothing is broken it accepts each of them.
use Rattle.std.proofs.Common.{◌≡◌, ℕ, zero, suc, ◌↔◌, Bool, true, false, List, [], ◌∷◌, Option, Some, None, map, refl, sym, subst, ⊎_elim, arith}
use Rattle.std.specs.List.{All, Contains, flat_map, filter_map}
use Rattle.std.proofs.lemmas.List.Elements.{All-head, All-tail, All-weaker, All-contains, All-contains_itself}
use Rattle.dl_terms.specs.Chain.{empty}
use Rattle.dl_terms.specs.Roles.{named, inverse_of, auxiliary_of}
use Rattle.dl_terms.specs.Below.{RoleStep, RoleBelow, ConceptBelow}
use Rattle.dl_terms.specs.Structure.{by_class, Element, individual, child, IsElement, HoldsAt, at_name, at_end, Joins, by_fact, by_fact_turned, to_child, from_child}
use Rattle.dl_terms.specs.Answers.{value_of, AtomHolds as HoldsOfElements, IsCertain}
use Rattle.dl_terms.specs.NormalForm.{Row, role_in, concept_in, never, ring, pairs, part_rows, axiom_rows, rows_of, as_role_in, as_concept_in, as_negative, axiom_negatives, nothing_negative}
use Rattle.dl_terms.specs.Broken.{turned_atom, role_name, role_atom, basic_atom, IsMet, NothingIsBroken}
use Rattle.dl_terms.specs.Auxiliaries.{IsNamed, RoleHasNoAuxiliary, BasicHasNoAuxiliary, PartHasNoAuxiliary, HasNoAuxiliary}
use Rattle.dl_terms.specs.declared.role.Base.{Base}
use Rattle.dl_terms.specs.declared.role.Base.TheVariants.{Named, Auxiliary}
use Rattle.dl_terms.specs.declared.role.Role.{Role}
use Rattle.dl_terms.specs.declared.role.Basic.{Basic}
use Rattle.dl_terms.specs.declared.role.Basic.TheVariants.{Class, SomeOf}
use Rattle.dl_terms.specs.declared.role.Negative.{Negative}
use Rattle.dl_terms.specs.declared.role.Negative.TheVariants.{Basics, Roles, NoLoop}
use Rattle.dl_terms.specs.declared.axiom.Part.{Part}
use Rattle.dl_terms.specs.declared.axiom.Part.TheVariants as part
use Rattle.dl_terms.specs.declared.axiom.Axiom.{Axiom}
use Rattle.dl_terms.specs.declared.axiom.Axiom.TheVariants.{SubClass, EquivalentClasses, DisjointClasses, SubRole, EquivalentRoles, DisjointRoles, InverseRoles, Domain, Range, Symmetric, Asymmetric, Irreflexive}
use Rattle.dl_terms.specs.declared.axiom.Fact.{Fact}
use Rattle.dl_terms.specs.declared.axiom.Fact.TheVariants as fact
use Rattle.dl_terms.specs.declared.query.Term.{Term}
use Rattle.dl_terms.specs.declared.query.Term.TheVariants.{Var, Name}
use Rattle.dl_terms.specs.declared.query.Atom.{Atom}
use Rattle.dl_terms.specs.declared.query.Atom.TheVariants as atom
use Rattle.dl_terms.specs.declared.query.Query.{Query}
use Rattle.dl_terms.proofs.MemberLemmas.{Contains-first, Contains-one, Contains-two}
use Rattle.dl_terms.proofs.BelowLemmas.{inverse_of-inverse_of, RoleBelow-trans, RoleBelow-inverse, ConceptBelow-trans, ConceptBelow-refl, RoleBelow-refl, ConceptBelow-inclusion, Chain-one}
use Rattle.dl_terms.proofs.StructureLemmas.{HoldsAt-below, IsElement-child, HoldsAt-Joins}
use Rattle.dl_models.specs.Meaning.{turned, BaseLinks, RoleLinks, IsInBasic, IsInPart, IsWithin, IsApart, RoleIsWithin, RoleIsApart, FactHolds, NothingIsEmpty, StandsFor, AtomHolds, GivesHead, QueryHolds, Accepts, IsModel}
use Rattle.dl_models.specs.Structures.{canonical}
use Rattle.dl_models.proofs.HomomorphismLemmas.{IsHomomorphism}
use Rattle.dl_models.proofs.ListLemmas.{Contains-flat_map, Contains-filter_map, Contains-map, All-split, All-of_map, All-of_flat_map, AllPairs-pairs, ring-leads}

-- three elements as the values of variables
abbrev pub values : Element → Element → Element → ℕ → Element
values x y z zero = x
values x y z (suc zero) = y
values x y z (suc (suc v)) = z

module _ (axioms : List Axiom) (facts : List Fact) where
  -- ---- what joins

  pub Joins-inverse : (s : Role) (x y : Element) → Joins axioms facts s x y → Joins axioms facts (inverse_of s) y x
  Joins-inverse s x y (by_fact e f h d) = by_fact_turned f e h (RoleBelow-inverse axioms d)
  Joins-inverse s x y (by_fact_turned e f h d) = by_fact f e h (RoleBelow-inverse axioms d)
  Joins-inverse s x y (to_child {r = r} e d) = from_child e (subst (RoleBelow axioms r) (sym (inverse_of-inverse_of s)) d)
  Joins-inverse s x y (from_child e d) = to_child e d

  Joins-below : (r s : Role) (x y : Element) → RoleBelow axioms r s → Joins axioms facts r x y → Joins axioms facts s x y
  Joins-below r s x y up (by_fact e f h d) = by_fact e f h (RoleBelow-trans axioms d up)
  Joins-below r s x y up (by_fact_turned e f h d) = by_fact_turned e f h (RoleBelow-trans axioms d up)
  Joins-below r s x y up (to_child e d) = to_child e (RoleBelow-trans axioms d up)
  Joins-below r s x y up (from_child e d) = from_child e (RoleBelow-trans axioms d (RoleBelow-inverse axioms up))

  -- the meaning of a role and of a basic concept is what joins and what holds

  base-links : (b : Base) (t : Bool) → IsNamed b → (x y : Element)
      → turned t (BaseLinks (canonical axioms facts) b) x y ↔ Joins axioms facts (record { base = b; inverse = t }) x y
  base-links (Named p) false h x y = (λ k. k, λ k. k)
  base-links (Named p) true h x y = (Joins-inverse (named p) y x, Joins-inverse (inverse_of (named p)) x y)
  base-links (Auxiliary p i c) t h x y = absurd h

  pub links-joins : (r : Role) → RoleHasNoAuxiliary r → (x y : Element) → RoleLinks (canonical axioms facts) r x y ↔ Joins axioms facts r x y
  links-joins r h x y = base-links r.base r.inverse h x y

  pub in-holds : (b : Basic) → BasicHasNoAuxiliary b → (x : Element) → IsElement axioms facts x
      → IsInBasic (canonical axioms facts) b x ↔ HoldsAt axioms facts b x
  in-holds (Class c) h x e = (λ k. k, λ k. k)
  in-holds (SomeOf r) h x e =
      let neighbour = HoldsAt-Joins axioms facts r x e in (
        λ k. neighbour.1 (k.0, k.1, (links-joins r h x k.0).0 k.2),
        λ k. let y = neighbour.0 k in (y.0, y.1, (links-joins r h x y.0).1 y.2),
      )

  -- ---- negatives that are met

  role-atom : (b : Base) (t : Bool) → IsNamed b → (m : ℕ → Element) (u v : ℕ)
      → Joins axioms facts (record { base = b; inverse = t }) (m u) (m v) → HoldsOfElements axioms facts m (turned_atom t (role_name b) (Var u) (Var v))
  role-atom (Named p) false h m u v k = k
  role-atom (Named p) true h m u v k = Joins-inverse (inverse_of (named p)) (m u) (m v) k
  role-atom (Auxiliary p i c) t h m u v k = absurd h

  two-atoms : (m : ℕ → Element) (one two : Atom) → HoldsOfElements axioms facts m one → HoldsOfElements axioms facts m two
      → (a : Atom) → Contains (one ∷ two ∷ []) a → HoldsOfElements axioms facts m a
  two-atoms m one two h k a c =
      ⊎_elim (λ (e : one ≡ a). subst (HoldsOfElements axioms facts m) e h) (λ (e : two ≡ a). subst (HoldsOfElements axioms facts m) e k)
      (Contains-two one two a c)

  each-element : (x y z : Element) → IsElement axioms facts x → IsElement axioms facts y → IsElement axioms facts z
      → (v : ℕ) → IsElement axioms facts (values x y z v)
  each-element x y z ex ey ez zero = ex
  each-element x y z ex ey ez (suc zero) = ey
  each-element x y z ex ey ez (suc (suc v)) = ez

  -- a neighbour that "some r" asks for; a class asks for none
  neighbour_of : (b : Basic) (x : Element) → IsElement axioms facts x → HoldsAt axioms facts b x → (y : Element) × IsElement axioms facts y
      × (BasicHasNoAuxiliary b → (m : ℕ → Element) (v : ℕ) → x ≡ m 0 → y ≡ m v → HoldsOfElements axioms facts m (basic_atom b v))
  neighbour_of (Class c) x e h = (x, e, λ named m v at to. subst (HoldsAt axioms facts (Class c)) at h)
  neighbour_of (SomeOf r) x e h =
      let y = (HoldsAt-Joins axioms facts r x e).0 h in (
        y.0,
        y.1,
        λ named m v at to. role-atom r.base r.inverse named m 0 v
            (subst (λ x. Joins axioms facts r x (m v)) at (subst (λ z. Joins axioms facts r x z) to y.2)),
      )

  basics-met : (b c : Basic) → BasicHasNoAuxiliary b → BasicHasNoAuxiliary c → (x : Element) → IsElement axioms facts x → HoldsAt axioms facts b x
      → HoldsAt axioms facts c x → IsMet axioms facts (Basics b c)
  basics-met (Class d) c h k x e in_b in_c =
      let z = neighbour_of c x e in_c in
      let m = values x z.0 z.0 in (
        m,
        record {
          elements = λ v lt. each-element x z.0 z.0 e z.1 z.1 v;
          atoms = two-atoms m (basic_atom (Class d) 1) (basic_atom c 1) in_b (z.2 k m 1 refl refl);
        },
      )
  basics-met (SomeOf r) c h k x e in_b in_c =
      let y = neighbour_of (SomeOf r) x e in_b in
      let z = neighbour_of c x e in_c in
      let m = values x y.0 z.0 in (
        m,
        record {
          elements = λ v lt. each-element x y.0 z.0 e y.1 z.1 v;
          atoms = two-atoms m (basic_atom (SomeOf r) 1) (basic_atom c 2) (y.2 h m 1 refl refl) (z.2 k m 2 refl refl);
        },
      )

  roles-met : (r s : Role) → RoleHasNoAuxiliary r → RoleHasNoAuxiliary s → (x y : Element) → IsElement axioms facts x → IsElement axioms facts y
      → Joins axioms facts r x y → Joins axioms facts s x y → IsMet axioms facts (Roles r s)
  roles-met r s h k x y ex ey j l =
      let m = values x y y in (
        m,
        record {
          elements = λ v lt. each-element x y y ex ey ey v;
          atoms = two-atoms m (role_atom r (Var 0) (Var 1)) (role_atom s (Var 0) (Var 1)) (role-atom r.base r.inverse h m 0 1 j)
              (role-atom s.base s.inverse k m 0 1 l);
        },
      )

  loop-met : (r : Role) → RoleHasNoAuxiliary r → (x : Element) → IsElement axioms facts x → Joins axioms facts r x x → IsMet axioms facts (NoLoop r)
  loop-met r h x e j =
      let m = λ (v : ℕ). x in (
        m,
        record {
          elements = λ v lt. e;
          atoms = λ a c. subst (HoldsOfElements axioms facts m) (Contains-one (role_atom r (Var 0) (Var 0)) a c) (role-atom r.base r.inverse h m 0 0 j);
        },
      )

  -- ---- what each row says

  abbrev pub Says : Row → Type 0
  Says (role_in r s) = RoleBelow axioms r s
  Says (concept_in b c) = ConceptBelow axioms b c
  Says (never n) = ¬ IsMet axioms facts n

  holds-up : {b c : Basic} → ConceptBelow axioms b c → (x : Element) → HoldsAt axioms facts b x → HoldsAt axioms facts c x
  holds-up d x h = HoldsAt-below axioms facts _ _ x d h

  is_apart : (b c : Basic) → BasicHasNoAuxiliary b → BasicHasNoAuxiliary c → ¬ IsMet axioms facts (Basics b c) → IsApart (canonical axioms facts) b c
  is_apart b c h k unmet x e in_b in_c = unmet (basics-met b c h k x e ((in-holds b h x e).0 in_b) ((in-holds c k x e).0 in_c))

  role_is_apart : (r s : Role) → RoleHasNoAuxiliary r → RoleHasNoAuxiliary s → ¬ IsMet axioms facts (Roles r s) → RoleIsApart (canonical axioms facts) r s
  role_is_apart r s h k unmet x y ex ey j l = unmet (roles-met r s h k x y ex ey ((links-joins r h x y).0 j) ((links-joins s k x y).0 l))

  is_within : (b c : Basic) → BasicHasNoAuxiliary b → BasicHasNoAuxiliary c → ConceptBelow axioms b c → IsWithin (canonical axioms facts) b c
  is_within b c h k d x e in_b = (in-holds c k x e).1 (holds-up d x ((in-holds b h x e).0 in_b))

  role_is_within : (r s : Role) → RoleHasNoAuxiliary r → RoleHasNoAuxiliary s → RoleBelow axioms r s → RoleIsWithin (canonical axioms facts) r s
  role_is_within r s h k d x y ex ey j = (links-joins s k x y).1 (Joins-below r s x y d ((links-joins r h x y).0 j))

  in_part : (b : Basic) → BasicHasNoAuxiliary b → (p : Part) → PartHasNoAuxiliary p → All Says (part_rows b p) → (x : Element) → IsElement axioms facts x
      → HoldsAt axioms facts b x → IsInPart (canonical axioms facts) x p
  in_part b h part.Thing k says x e is = tt
  in_part b h (part.Class c) k says x e is = holds-up (All-head Says (concept_in b (Class c)) [] says) x is
  in_part b h (part.Any r) k says x e is =
      (in-holds (SomeOf r) k x e).1 (holds-up (All-head Says (concept_in b (SomeOf r)) [] says) x is)
  in_part b h (part.Fill r c) k says x e is =
      let u = auxiliary_of r c in
      let rest = All-tail Says (concept_in b (SomeOf u)) (role_in u r ∷ concept_in (SomeOf (inverse_of u)) (Class c) ∷ []) says in
      let last = All-tail Says (role_in u r) (concept_in (SomeOf (inverse_of u)) (Class c) ∷ []) rest in
      let some_u = All-head Says (concept_in b (SomeOf u)) (role_in u r ∷ concept_in (SomeOf (inverse_of u)) (Class c) ∷ []) says in
      let u_in_r = All-head Says (role_in u r) (concept_in (SomeOf (inverse_of u)) (Class c) ∷ []) rest in
      let in_c = All-head Says (concept_in (SomeOf (inverse_of u)) (Class c)) [] last in (
        child x u,
        IsElement-child axioms facts x u e (holds-up some_u x is),
        (links-joins r k x (child x u)).1 (to_child refl u_in_r),
        at_end x u refl in_c,
      )
  in_part b h (part.Not d) k says x e is =
      λ in_d. All-head Says (never (Basics b d)) [] says (basics-met b d h k x e is ((in-holds d k x e).0 in_d))

  in_parts : (b : Basic) → BasicHasNoAuxiliary b → (ps : List Part) → All PartHasNoAuxiliary ps → All Says (flat_map (part_rows b) ps)
      → (x : Element) → IsElement axioms facts x → IsInBasic (canonical axioms facts) b x → All (IsInPart (canonical axioms facts) x) ps
  in_parts b h ps k says x e is =
      let each = All-of_flat_map Says (part_rows b) ps says in
      λ j d within. in_part b h _ (k j d within) (each j d within) x e ((in-holds b h x e).0 is)

  -- an axiom whose rows hold is accepted
  accepts_by_rows : (a : Axiom) → HasNoAuxiliary a → All Says (axiom_rows a) → Accepts (canonical axioms facts) a
  accepts_by_rows (SubClass b ps) h says = in_parts b h.0 ps h.1 says
  accepts_by_rows (EquivalentClasses bs) h says =
      λ b c at to. is_within b c (All-contains BasicHasNoAuxiliary bs b h at) (All-contains BasicHasNoAuxiliary bs c h to)
      (ring-leads (ConceptBelow axioms) (ConceptBelow-refl axioms) (λ x y z d f. ConceptBelow-trans axioms d f) bs
      (All-of_map Says (λ p. concept_in p.0 p.1) (ring bs) says) b c at to)
  accepts_by_rows (DisjointClasses bs) h says =
      let each = AllPairs-pairs (λ b c. ¬ IsMet axioms facts (Basics b c)) bs (All-of_map Says (λ p. never (Basics p.0 p.1)) (pairs bs) says) in
      λ i j d lt within. is_apart _ _ (h i d (omega (arith, lt, within))) (h j d within) (each i j d lt within)
  accepts_by_rows (SubRole r s) h says = role_is_within r s h.0 h.1 (All-head Says (role_in r s) [] says)
  accepts_by_rows (EquivalentRoles rs) h says =
      λ r s at to. role_is_within r s (All-contains RoleHasNoAuxiliary rs r h at) (All-contains RoleHasNoAuxiliary rs s h to)
      (ring-leads (RoleBelow axioms) (RoleBelow-refl axioms) (λ x y z d f. RoleBelow-trans axioms d f) rs
      (All-of_map Says (λ p. role_in p.0 p.1) (ring rs) says) r s at to)
  accepts_by_rows (DisjointRoles rs) h says =
      let each = AllPairs-pairs (λ r s. ¬ IsMet axioms facts (Roles r s)) rs (All-of_map Says (λ p. never (Roles p.0 p.1)) (pairs rs) says) in
      λ i j d lt within. role_is_apart _ _ (h i d (omega (arith, lt, within))) (h j d within) (each i j d lt within)
  accepts_by_rows (InverseRoles r s) h says =
      let to = All-head Says (role_in r (inverse_of s)) (role_in (inverse_of s) r ∷ []) says in
      let back = All-head Says (role_in (inverse_of s) r) [] (All-tail Says (role_in r (inverse_of s)) (role_in (inverse_of s) r ∷ []) says) in
      λ x y ex ey. (
        λ j. (links-joins s h.1 y x).1 (subst (λ t. Joins axioms facts t y x) (inverse_of-inverse_of s)
            (Joins-inverse (inverse_of s) x y (Joins-below r (inverse_of s) x y to ((links-joins r h.0 x y).0 j)))),
        λ j. (links-joins r h.0 x y).1 (Joins-below (inverse_of s) r x y back (Joins-inverse s y x ((links-joins s h.1 y x).0 j))),
      )
  accepts_by_rows (Domain r ps) h says = λ x y ex ey j. in_parts (SomeOf r) h.0 ps h.1 says x ex (y, ey, j)
  accepts_by_rows (Range r ps) h says =
      λ x y ex ey j. in_parts (SomeOf (inverse_of r)) h.0 ps h.1 says y ey
      (x, ex, (links-joins (inverse_of r) h.0 y x).1 (Joins-inverse r x y ((links-joins r h.0 x y).0 j)))
  accepts_by_rows (Symmetric r) h says =
      let to = All-head Says (role_in r (inverse_of r)) [] says in
      λ x y ex ey j. (links-joins r h y x).1 (subst (λ t. Joins axioms facts t y x) (inverse_of-inverse_of r)
      (Joins-inverse (inverse_of r) x y (Joins-below r (inverse_of r) x y to ((links-joins r h x y).0 j))))
  accepts_by_rows (Asymmetric r) h says =
      let unmet = All-head Says (never (Roles r (inverse_of r))) [] says in
      λ x y ex ey j l. unmet (roles-met r (inverse_of r) h h x y ex ey ((links-joins r h x y).0 j) (Joins-inverse r y x ((links-joins r h y x).0 l)))
  accepts_by_rows (Irreflexive r) h says =
      let unmet = All-head Says (never (NoLoop r)) [] says in
      λ x e j. unmet (loop-met r h x e ((links-joins r h x x).0 j))

  -- ---- an axiom of which no negative is met

  abbrev NotMet : Option Axiom × Negative → Type 0
  NotMet n = ¬ IsMet axioms facts n.1

  row_says : (a : Axiom) → Contains axioms a → All NotMet (axiom_negatives a) → (row : Row) → Contains (axiom_rows a) row → Says row
  row_says a c unmet (role_in r s) h =
      Chain-one (RoleStep.inclusion (Contains-filter_map as_role_in (rows_of axioms) (role_in r s) (r, s) (Contains-flat_map axiom_rows axioms a (role_in r s) c h) refl))
  row_says a c unmet (concept_in b d) h =
      ConceptBelow-inclusion axioms
      (Contains-filter_map as_concept_in (rows_of axioms) (concept_in b d) (b, d) (Contains-flat_map axiom_rows axioms a (concept_in b d) c h) refl)
  row_says a c unmet (never n) h =
      All-contains NotMet (axiom_negatives a) (Some a, n) unmet
      (Contains-map (λ n. (Some a, n)) (filter_map as_negative (axiom_rows a)) n (Contains-filter_map as_negative (axiom_rows a) (never n) n h refl))

  -- it is accepted
  accepted_at : (a : Axiom) → Contains axioms a → HasNoAuxiliary a → All NotMet (axiom_negatives a) → Accepts (canonical axioms facts) a
  accepted_at a c h unmet =
      accepts_by_rows a h (All-weaker (Contains (axiom_rows a)) Says (row_says a c unmet) (axiom_rows a) (All-contains_itself (axiom_rows a)))

  pub all_accepted : All HasNoAuxiliary axioms → (some : List Axiom) → ((a : Axiom) → Contains some a → Contains axioms a)
      → All NotMet (flat_map axiom_negatives some) → All (Accepts (canonical axioms facts)) some
  all_accepted no_auxiliary some within unmet =
      let each = All-of_flat_map NotMet axiom_negatives some unmet in
      All-weaker (Contains some) (Accepts (canonical axioms facts))
      (λ a c. accepted_at a (within a c) (All-contains HasNoAuxiliary axioms a no_auxiliary (within a c))
      (All-contains (λ a. All NotMet (axiom_negatives a)) some a each c)) some (All-contains_itself some)

  fact_holds : (f : Fact) → Contains facts f → FactHolds (canonical axioms facts) f
  fact_holds (fact.Is c a) h = (individual a, refl, at_name refl (by_class h empty))
  fact_holds (fact.Link p a b) h = (individual a, individual b, refl, refl, by_fact refl refl h empty)

  pub facts_hold : All (FactHolds (canonical axioms facts)) facts
  facts_hold = All-weaker (Contains facts) (FactHolds (canonical axioms facts)) fact_holds facts (All-contains_itself facts)

  nothing-in : (n : Option ℕ) → All NotMet (nothing_negative n) → NothingIsEmpty (canonical axioms facts) n
  nothing-in None unmet = tt
  nothing-in (Some n) unmet =
      λ x element h. All-contains NotMet (nothing_negative (Some n)) (None, Basics (Class n) (Class n)) unmet
      (Contains-first (None, Basics (Class n) (Class n)) []) (basics-met (Class n) (Class n) tt tt x element h h)

  -- where nothing is broken, it is a model
  pub is_model : (nothing : Option ℕ) → All HasNoAuxiliary axioms → NothingIsBroken axioms facts nothing
      → IsModel (canonical axioms facts) axioms facts nothing
  is_model nothing no_auxiliary whole =
      let both = All-split NotMet (flat_map axiom_negatives axioms) (nothing_negative nothing) whole in
      record {
        axioms_accepted = all_accepted no_auxiliary axioms (λ a c. c) both.0;
        facts_hold = facts_hold;
        nothing_in_it = nothing-in nothing both.1;
      }

  -- ---- queries in it

  -- it maps to itself
  pub identity : IsHomomorphism (canonical axioms facts) axioms facts (λ z. z)
  identity = record {
    elements = λ z element. element;
    classes = λ c z element h. h;
    roles = λ p z w ez ew h. h;
    names = λ a x h. refl;
  }

  term-value : (m : ℕ → Element) (t : Term) (x : Element) → StandsFor (canonical axioms facts) m t x → value_of m t ≡ x
  term-value m (Var v) x e = e
  term-value m (Name a) x e = sym e

  atom-value : (m : ℕ → Element) (a : Atom) → AtomHolds (canonical axioms facts) m a → HoldsOfElements axioms facts m a
  atom-value m (atom.Is c t) h = subst (HoldsAt axioms facts (Class c)) (sym (term-value m t h.0 h.1)) h.2
  atom-value m (atom.Link p t u) h =
      subst (λ x. Joins axioms facts (named p) x (value_of m u)) (sym (term-value m t h.0 h.2))
      (subst (Joins axioms facts (named p) h.0) (sym (term-value m u h.1 h.3)) h.4)

  head-value : (m : ℕ → Element) (head tuple : List ℕ) → GivesHead (canonical axioms facts) m head tuple → map m head ≡ map individual tuple
  head-value m [] [] h = refl
  head-value m [] (a ∷ tuple) h = absurd h
  head-value m (v ∷ head) [] h = absurd h
  head-value m (v ∷ head) (a ∷ tuple) h =
      let first = h.0 in
      let rest = head-value m head tuple h.1 in
      cc

  -- what holds in it is certain
  pub holds-certain : (q : Query) (tuple : List ℕ) → QueryHolds (canonical axioms facts) q tuple → IsCertain axioms facts q tuple
  holds-certain q tuple h = record {
    elements = h.values;
    is_match = record { elements = h.elements; atoms = λ a c. atom-value h.values a (h.atoms a c) };
    is_head = head-value h.values q.head tuple h.head;
  }
