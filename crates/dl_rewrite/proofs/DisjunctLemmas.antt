-- A disjunct has a tuple over names exactly where it is an answer for the disjunct's set.
use Rattle.std.proofs.Common.{◌≡◌, ℕ, Bool, true, false, List, [], ◌∷◌, ◌⊎◌, ◌↔◌, map, refl, sym, ap, ap₂, subst, ◌∙◌, inl, inr}
use Rattle.std.specs.List.{Contains, AllByRecursion}
use Rattle.dl_terms.specs.Roles.{named}
use Rattle.dl_terms.specs.Structure.{HoldsAtName, individual, HoldsAt, at_name, at_end, Joins}
use Rattle.dl_terms.specs.Answers.{value_of, AtomHolds}
use Rattle.dl_terms.specs.declared.role.Role.{Role}
use Rattle.dl_terms.specs.declared.role.Basic.{Basic}
use Rattle.dl_terms.specs.declared.role.Basic.TheVariants.{Class, SomeOf}
use Rattle.dl_terms.specs.declared.axiom.Axiom.{Axiom}
use Rattle.dl_terms.specs.declared.axiom.Fact.{Fact}
use Rattle.dl_terms.specs.declared.query.Term.{Term}
use Rattle.dl_terms.specs.declared.query.Term.TheVariants.{Var, Name}
use Rattle.dl_terms.specs.declared.query.Atom.{Atom}
use Rattle.dl_terms.specs.declared.query.Atom.TheVariants.{Is, Link}
use Rattle.dl_terms.specs.declared.query.Query.{Query}
use Rattle.dl_terms.specs.declared.query.Probe.{Probe}
use Rattle.dl_terms.specs.declared.query.Disjunct.{Disjunct}
use Rattle.dl_terms.proofs.StructureLemmas.{individual-child}
use Rattle.dl_terms.proofs.MemberLemmas.{Contains-first, Contains-later, Contains-nil, Contains-cons, Contains-one}
use Rattle.dl_tree.specs.Sets.{is_in, touches}
use Rattle.dl_rewrite.specs.OverNames.{HoldsOneOf, ProbeHolds, HasOverNames}
use Rattle.dl_join.specs.Disjuncts.{name_of}
use Rattle.dl_rewrite.specs.Parts.{TermsAre, PartHas, IsAnswerWhere}
use Rattle.dl_rewrite.specs.Unifiers.{put_for, AreUnified, IsMostGeneralUnifier, probe_of}
use Rattle.dl_rewrite.specs.Disjuncts.{Part, IsTermOf, IsPart, AreToUnify, part_probe, IsDisjunctOf}
use Rattle.dl_tree.proofs.FoldLemmas.{or_left, or_right}
use Rattle.dl_rewrite.proofs.UnifierLemmas.{name_put, AreUnified-put}

-- ---- lists

each_of : {X Y : Type 0} (P : Y → Type 0) (f : X → Y) (xs : List X) → AllByRecursion P (map f xs) → (x : X) → Contains xs x → P (f x)
each_of P f [] all x c = absurd (Contains-nil x c)
each_of P f (y ∷ xs) all x c = by (Contains-cons y x xs c) (λ d. each_of P f xs all.1 x d)
  where
    by : (y ≡ x) ⊎ Contains xs x → (Contains xs x → P (f x)) → P (f x)
    by (inl e) later = subst (λ z. P (f z)) e all.0
    by (inr d) later = later d

of_each : {X Y : Type 0} (P : Y → Type 0) (f : X → Y) (xs : List X) → ((x : X) → Contains xs x → P (f x)) → AllByRecursion P (map f xs)
of_each P f [] h = tt
of_each P f (x ∷ xs) h = (h x (Contains-first x xs), of_each P f xs (λ y c. h y (Contains-later x y xs c)))

in_map : {X Y : Type 0} (f : X → Y) (xs : List X) (y : Y) → Contains (map f xs) y → (x : X) × Contains xs x × (f x ≡ y)
in_map f [] y c = absurd (Contains-nil y c)
in_map {X} f (x ∷ xs) y c = by (Contains-cons (f x) y (map f xs) c) (λ d. in_map f xs y d)
  where
    by : (f x ≡ y) ⊎ Contains (map f xs) y → (Contains (map f xs) y → (z : X) × Contains xs z × (f z ≡ y)) → (z : X) × Contains (x ∷ xs) z × (f z ≡ y)
    by (inl e) later = (x, Contains-first x xs, e)
    by (inr d) later = let h = later d in (h.0, Contains-later x h.0 xs h.1, h.2)

map_in : {X Y : Type 0} (f : X → Y) (xs : List X) (x : X) → Contains xs x → Contains (map f xs) (f x)
map_in f [] x c = absurd (Contains-nil x c)
map_in f (y ∷ xs) x c = by (Contains-cons y x xs c) (λ d. map_in f xs x d)
  where
    by : (y ≡ x) ⊎ Contains xs x → (Contains xs x → Contains (map f xs) (f x)) → Contains (f y ∷ map f xs) (f x)
    by (inl e) later = subst (Contains (f y ∷ map f xs)) (ap f e) (Contains-first (f y) (map f xs))
    by (inr d) later = Contains-later (f y) (f x) (map f xs) (later d)

module _ (axioms : List Axiom) (facts : List Fact) (roles : List Role) (q : Query) (s : ℕ → Bool) (parts : List Part) (pairs : List (Term × Term)) (to : ℕ → Term)
    (are : (c : Part) → Contains parts c → IsPart axioms roles q c) (to_unify : AreToUnify q parts pairs) (unifies : IsMostGeneralUnifier pairs to) where
  value_of_names : (names : ℕ → ℕ) (u : Term) → value_of (λ v. individual (names v)) u ≡ individual (name_of names u)
  value_of_names names (Var v) = refl
  value_of_names names (Name a) = refl

  at_individual : (b : Basic) (a : ℕ) → HoldsAt axioms facts b (individual a) → HoldsAtName axioms facts b a
  at_individual b a (at_name e h) = h
  at_individual b a (at_end y r e d) = absurd (individual-child a y r e)

  -- an atom holds over names where its probe does
  atom_probe : (names : ℕ → ℕ) (f : ℕ → ℕ) → ((u : Term) → name_of names (put_for to u) ≡ name_of f u) → (a : Atom)
      → ProbeHolds axioms facts names (probe_of to a) ↔ AtomHolds axioms facts (λ v. individual (f v)) a
  atom_probe names f same (Is c u) = (forth, back)
    where
      e : individual (name_of names (put_for to u)) ≡ value_of (λ v. individual (f v)) u
      e = ap individual (same u) ∙ sym (value_of_names f u)

      forth : HoldsOneOf axioms facts (Class c ∷ []) (name_of names (put_for to u)) → HoldsAt axioms facts (Class c) (value_of (λ v. individual (f v)) u)
      forth h = subst (HoldsAt axioms facts (Class c)) e (at_name refl (subst (λ b. HoldsAtName axioms facts b (name_of names (put_for to u))) (sym (Contains-one (Class c) h.basic h.is_one)) h.holds))

      back : HoldsAt axioms facts (Class c) (value_of (λ v. individual (f v)) u) → HoldsOneOf axioms facts (Class c ∷ []) (name_of names (put_for to u))
      back h = record { basic = Class c; is_one = Contains-first (Class c) []; holds = at_individual (Class c) (name_of names (put_for to u)) (subst (HoldsAt axioms facts (Class c)) (sym e) h) }
  atom_probe names f same (Link p u w) = (forth, back)
    where
      e : (t : Term) → individual (name_of names (put_for to t)) ≡ value_of (λ v. individual (f v)) t
      e t = ap individual (same t) ∙ sym (value_of_names f t)

      forth : Joins axioms facts (named p) (individual (name_of names (put_for to u))) (individual (name_of names (put_for to w)))
          → Joins axioms facts (named p) (value_of (λ v. individual (f v)) u) (value_of (λ v. individual (f v)) w)
      forth h = subst (λ z. Joins axioms facts (named p) z (value_of (λ v. individual (f v)) w)) (e u) (subst (Joins axioms facts (named p) (individual (name_of names (put_for to u)))) (e w) h)

      back : Joins axioms facts (named p) (value_of (λ v. individual (f v)) u) (value_of (λ v. individual (f v)) w)
          → Joins axioms facts (named p) (individual (name_of names (put_for to u))) (individual (name_of names (put_for to w)))
      back h = subst (λ z. Joins axioms facts (named p) z (individual (name_of names (put_for to w)))) (sym (e u)) (subst (Joins axioms facts (named p) (value_of (λ v. individual (f v)) u)) (sym (e w)) h)

  module _ (d : Disjunct) (is : IsDisjunctOf q s parts to d) (tuple : List ℕ) where
    -- ---- from names for the disjunct

    from_put : (names : ℕ → ℕ) (u : Term) → name_of names (put_for to u) ≡ name_of (λ v. name_of names (to v)) u
    from_put names (Var v) = refl
    from_put names (Name a) = refl

    terms_of : (f : ℕ → ℕ) (a : Atom) (n : ℕ) → ((t : Term) → IsTermOf t a → name_of f t ≡ n) → TermsAre f n a
    terms_of f (Is c u) n h = h u refl
    terms_of f (Link p u w) n h = (h u (inl refl), h w (inr refl))

    head_same : (names : ℕ → ℕ) (vs : List ℕ) → map (name_of names) (map to vs) ≡ map (λ v. name_of names (to v)) vs
    head_same names [] = refl
    head_same names (v ∷ vs) = ap (λ z. name_of names (to v) ∷ z) (head_same names vs)

    pub answer_of : HasOverNames axioms facts d tuple → IsAnswerWhere axioms facts roles q s (map (λ c. c.set) parts) tuple
    answer_of h = record {
      names = λ v. name_of h.names (to v);
      is_head = sym (head_same h.names q.head) ∙ ap (map (name_of h.names)) (sym is.head) ∙ h.is_head;
      holds = record {
        atoms = λ a c e. (atom_probe h.names (λ v. name_of h.names (to v)) (from_put h.names) a).0 (h.probes (probe_of to a) (is.each_atom a c e));
        each_part = of_each (PartHas axioms facts roles q (λ v. name_of h.names (to v))) (λ c. c.set) parts has;
      };
    }
      where
        has : (c : Part) → Contains parts c → PartHas axioms facts roles q (λ v. name_of h.names (to v)) c.set
        has c k =
            let one : HoldsOneOf axioms facts (map SomeOf c.roles) (name_of h.names (to c.member)) = h.probes (part_probe to c) (is.each_part c k) in
            let r = in_map SomeOf c.roles one.basic one.is_one in
            record {
              root = name_of h.names (to c.member);
              role = r.0;
              is_role = ((are c k).exact r.0).0 r.1;
              holds = subst (λ b. HoldsAtName axioms facts b (name_of h.names (to c.member))) (sym r.2) one.holds;
              terms = λ a i e. terms_of (λ v. name_of h.names (to v)) a (name_of h.names (to c.member))
                  (λ t j. sym (AreUnified-put pairs to unifies h.names (Var c.member, t) (to_unify.each c a t k i e j)));
            }

    -- ---- from names for the set

    term_at : (f : ℕ → ℕ) (a : Atom) (n : ℕ) (t : Term) → TermsAre f n a → IsTermOf t a → name_of f t ≡ n
    term_at f (Is c u) n t h e = ap (name_of f) e ∙ h
    term_at f (Link p u w) n t h (inl e) = ap (name_of f) e ∙ h.0
    term_at f (Link p u w) n t h (inr e) = ap (name_of f) e ∙ h.1

    touched : (c : ℕ → Bool) (v : ℕ) (a : Atom) → c v ≡ true → IsTermOf (Var v) a → touches c a ≡ true
    touched c v (Is b u) e h = subst (λ z. is_in c z ≡ true) h e
    touched c v (Link p u w) e (inl h) = or_left (is_in c u) (is_in c w) (subst (λ z. is_in c z ≡ true) h e)
    touched c v (Link p u w) e (inr h) = or_right (is_in c u) (is_in c w) (subst (λ z. is_in c z ≡ true) h e)

    pub names_of : IsAnswerWhere axioms facts roles q s (map (λ c. c.set) parts) tuple → HasOverNames axioms facts d tuple
    names_of h = record {
      names = h.names;
      is_head = ap (map (name_of h.names)) is.head ∙ head_same h.names q.head ∙ map_same q.head ∙ h.is_head;
      probes = λ p c. probe p (is.only p c);
    }
      where
        has : (c : Part) → Contains parts c → PartHas axioms facts roles q h.names c.set
        has c k = each_of (PartHas axioms facts roles q h.names) (λ c. c.set) parts h.holds.each_part c k

        at_member : (c : Part) (k : Contains parts c) → h.names c.member ≡ (has c k).root
        at_member c k =
            let i = are c k in
            term_at h.names i.atom (has c k).root (Var c.member) ((has c k).terms i.atom i.is_atom (touched c.set c.member i.atom i.is_member i.is_term)) i.is_term

        ones : (e : Term × Term) → Contains pairs e → AreUnified h.names e
        ones e c =
            let o = to_unify.only e c in
            ap (name_of h.names) o.6 ∙ at_member o.0 o.2 ∙ sym (term_at h.names o.1 (has o.0 o.2).root e.1 ((has o.0 o.2).terms o.1 o.3 o.4) o.5)

        same : (u : Term) → name_of h.names (put_for to u) ≡ name_of h.names u
        same u = name_put pairs to unifies h.names ones u

        map_same : (vs : List ℕ) → map (λ v. name_of h.names (to v)) vs ≡ map h.names vs
        map_same [] = refl
        map_same (v ∷ vs) = ap₂ (λ y ys. y ∷ ys) (same (Var v)) (map_same vs)

        part_holds : (c : Part) → Contains parts c → ProbeHolds axioms facts h.names (part_probe to c)
        part_holds c k = record {
          basic = SomeOf (has c k).role;
          is_one = map_in SomeOf c.roles (has c k).role (((are c k).exact (has c k).role).1 (has c k).is_role);
          holds = subst (HoldsAtName axioms facts (SomeOf (has c k).role)) (sym (same (Var c.member) ∙ at_member c k)) (has c k).holds;
        }

        probe : (p : Probe) → ((a : Atom) × Contains q.atoms a × (touches s a ≡ false) × (p ≡ probe_of to a)) ⊎ ((c : Part) × Contains parts c × (p ≡ part_probe to c))
            → ProbeHolds axioms facts h.names p
        probe p (inl i) = subst (ProbeHolds axioms facts h.names) (sym i.3) ((atom_probe h.names h.names same i.0).1 (h.holds.atoms i.0 i.1 i.2))
        probe p (inr i) = subst (ProbeHolds axioms facts h.names) (sym i.2) (part_holds i.0 i.1)
