-- The shape of the disjunct of a set: its variables, and that each variable of its head is in a probe.
use Rattle.std.proofs.Common.{◌≡◌, ℕ, ◌<◌, Bool, true, false, List, ◌⊎◌, length, map, slice_index_or, refl, sym, ap, subst, ◌∙◌, inl, inr}
use Rattle.std.specs.List.{Any, Contains}
use Rattle.std.proofs.lemmas.List.{get_or_default}
use Rattle.std.proofs.lemmas.List.Elements.{All-from_recursion}
use Rattle.dl_terms.specs.Queries.{body_variables, existential_variables, IsWellFormed}
use Rattle.dl_terms.specs.declared.role.Role.{Role}
use Rattle.dl_terms.specs.declared.axiom.Axiom.{Axiom}
use Rattle.dl_terms.specs.declared.axiom.Fact.{Fact}
use Rattle.dl_terms.specs.declared.query.Term.{Term}
use Rattle.dl_terms.specs.declared.query.Term.TheVariants.{Var, Name}
use Rattle.dl_terms.specs.declared.query.Atom.{Atom}
use Rattle.dl_terms.specs.declared.query.Atom.TheVariants.{Is, Link}
use Rattle.dl_terms.specs.declared.query.Query.{Query}
use Rattle.dl_terms.specs.declared.query.Probe.{Probe}
use Rattle.dl_terms.specs.declared.query.Disjunct.{Disjunct}
use Rattle.dl_terms.proofs.MemberLemmas.{All-Contains}
use Rattle.dl_hier.proofs.MemberLemmas.{Contains-map, Contains-map_of}
use Rattle.dl_join.specs.Disjuncts.{name_of, HasVariable, IsSafe}
use Rattle.dl_tree.specs.Sets.{is_in, touches}
use Rattle.dl_tree.specs.Masks.{set_of}
use Rattle.dl_tree.proofs.FoldLemmas.{true_or_false, or_left, or_right}
use Rattle.dl_rewrite.specs.Parts.{TermsAre, PartHas, HoldsWhere}
use Rattle.dl_rewrite.specs.Unifiers.{put_for, AreUnified, probe_of}
use Rattle.dl_rewrite.specs.Rewriting.{HasNoDisjunct}
use Rattle.dl_rewrite.specs.Disjuncts.{IsTermOf, part_probe}
use Rattle.dl_rewrite.specs.Shape.{IsShapedFor}
use Rattle.dl_rewrite.specs.Steps.{member_of, part_at, ArePartsOf, pairs_of, term_at, IsTermBelow, AreMostGeneralUnifier, HaveNoUnifier, AreTermsBelow, probes_of}
use Rattle.dl_rewrite.proofs.PairLemmas.{pair_in, pair_of}
use Rattle.dl_rewrite.proofs.UnifiedLemmas.{below_put}
use Rattle.dl_rewrite.proofs.CutLemmas.{covered, body_atom, member_in, part_body}
use Rattle.dl_rewrite.proofs.StepLemmas.{term_below, var_below, atom_in, part_in, only, IsOutside, IsOfPart, length-map}

-- a member of a set in an atom that touches it
member_at : (s : ℕ → Bool) (u : Term) → is_in s u ≡ true → (v : ℕ) × (s v ≡ true) × (Var v ≡ u)
member_at s (Var v) e = (v, e, refl)
member_at s (Name a) e = cc

member_of_atom : (s : ℕ → Bool) (a : Atom) → touches s a ≡ true → (v : ℕ) × (s v ≡ true) × IsTermOf (Var v) a
member_of_atom s (Is c u) e = member_at s u e
member_of_atom s (Link p u w) e = by (true_or_false (is_in s u)) (true_or_false (is_in s w))
  where
    by : (is_in s u ≡ true) ⊎ (is_in s u ≡ false) → (is_in s w ≡ true) ⊎ (is_in s w ≡ false) → (v : ℕ) × (s v ≡ true) × IsTermOf (Var v) (Link p u w)
    by (inl h) k = let m = member_at s u h in (m.0, m.1, inl m.2)
    by (inr h) (inl k) = let m = member_at s w k in (m.0, m.1, inr m.2)
    by (inr h) (inr k) = cc

touched_by : (s : ℕ → Bool) (v : ℕ) (a : Atom) → s v ≡ true → IsTermOf (Var v) a → touches s a ≡ true
touched_by s v (Is c u) e h = subst (λ z. is_in s z ≡ true) h e
touched_by s v (Link p u w) e (inl h) = or_left (is_in s u) (is_in s w) (subst (λ z. is_in s z ≡ true) h e)
touched_by s v (Link p u w) e (inr h) = or_right (is_in s u) (is_in s w) (subst (λ z. is_in s z ≡ true) h e)

-- a variable of a probe
variable_term : (to : ℕ → Term) (v : ℕ) (a : Atom) → HasVariable v (probe_of to a) → (t : Term) × IsTermOf t a × (put_for to t ≡ Var v)
variable_term to v (Is c u) h = (u, refl, h)
variable_term to v (Link p u w) (inl h) = (u, inl refl, h)
variable_term to v (Link p u w) (inr h) = (w, inr refl, h)

has_variable : (to : ℕ → Term) (v h : ℕ) (a : Atom) → to h ≡ Var v → IsTermOf (Var h) a → HasVariable v (probe_of to a)
has_variable to v h (Is c u) e is = subst (λ z. put_for to z ≡ Var v) is e
has_variable to v h (Link p u w) e (inl is) = inl (subst (λ z. put_for to z ≡ Var v) is e)
has_variable to v h (Link p u w) e (inr is) = inr (subst (λ z. put_for to z ≡ Var v) is e)

Any-of : {A : Type 0} (P : A → Type 0) (xs : List A) (x : A) → Contains xs x → P x → Any P xs
Any-of P xs x c p = (c.0, x, c.1, c.2, p)

module _ (q : Query) (well : IsWellFormed q) (ex : List ℕ) (listed : ex ≡ existential_variables q) (set : ℕ)
    (parts : List ℕ) (are : ArePartsOf q ex set parts) where
  member_below : (m : ℕ) → Contains parts m → IsTermBelow q.vars (Var (member_of ex m))
  member_below m k = var_below q well (member_of ex m) (part_body q ex listed set parts are m k)

  -- the pairs are of variables below the query's number
  pub pairs_below : AreTermsBelow q.vars (pairs_of ex q.atoms parts)
  pairs_below = λ k e l. of (slice_index_or (pairs_of ex q.atoms parts) k e) (pair_of ex q.atoms parts (slice_index_or (pairs_of ex q.atoms parts) k e) (k, l, get_or_default (pairs_of ex q.atoms parts) k (slice_index_or (pairs_of ex q.atoms parts) k e) e l))
    where
      of : (e : Term × Term)
          → (m : ℕ) × (a : Atom) × Contains parts m × Contains q.atoms a × (touches (set_of ex m) a ≡ true) × IsTermOf e.1 a × (e.0 ≡ Var (member_of ex m))
          → IsTermBelow q.vars e.0 × IsTermBelow q.vars e.1
      of e o = (subst (IsTermBelow q.vars) (sym o.6) (member_below o.0 o.2), term_below q well o.1 o.3 e.1 o.5)

  module _ (rows : List (List Role)) (to : List Term) (d : Disjunct) (head : d.head ≡ map (term_at to) q.head)
      (probes : d.probes ≡ probes_of ex rows q.atoms set parts to) (vars : d.vars ≡ q.vars)
      (make : AreMostGeneralUnifier q.vars (pairs_of ex q.atoms parts) to) where
    put_below : (t : Term) → IsTermBelow q.vars t → (v : ℕ) → put_for (term_at to) t ≡ Var v → v < d.vars
    put_below t h v e =
        subst (λ n. v < n) (sym vars) (subst (IsTermBelow q.vars) e (below_put q.vars to make.below make.as_many t h))

    below : (v : ℕ) (p : Probe) → Contains d.probes p → HasVariable v p → v < d.vars
    below v p c h = by (only q ex rows set parts to d head probes p c)
      where
        by : IsOutside q ex rows set parts to d head probes p ⊎ IsOfPart q ex rows set parts to d head probes p → v < d.vars
        by (inl o) =
            let t = variable_term (term_at to) v o.0 (subst (HasVariable v) o.3 h) in
            put_below t.0 (term_below q well o.0 o.1 t.0 t.1) v t.2
        by (inr o) = put_below (Var (member_of ex o.0)) (member_below o.0 o.1) v (subst (HasVariable v) o.2 h)

    safe : IsSafe d
    safe = λ v c.
        let w = Contains-map (term_at to) q.head (Var v) (subst (λ z. Contains z (Var v)) head c) in
        let a = body_atom q w.0 (All-Contains (Contains (body_variables q)) q.head w.0 well.head_in_body w.1) in
        by v w.0 w.2 a.0 a.1 a.2 (true_or_false (touches (set_of ex set) a.0))
      where
        in_part : (v h : ℕ) → term_at to h ≡ Var v → (a : Atom) → Contains q.atoms a → IsTermOf (Var h) a → (w : ℕ)
            → IsTermOf (Var w) a → (c : ℕ → Bool) → Contains (map (set_of ex) parts) c → c w ≡ true → Any (HasVariable v) d.probes
        in_part v h e a i is w iw c k cw =
            let m = Contains-map (set_of ex) parts c k in
            let one = make.unifies.one (Var (member_of ex m.0), Var h)
            (pair_in ex q.atoms parts m.0 a (Var h) m.1 i (touched_by (set_of ex m.0) w a (subst (λ s. s w ≡ true) (sym m.2) cw) iw) is) in
            Any-of (HasVariable v) d.probes (part_probe (term_at to) (part_at ex rows m.0)) (part_in q ex rows set parts to d head probes m.0 m.1) (one ∙ e)

        by : (v h : ℕ) → term_at to h ≡ Var v → (a : Atom) → Contains q.atoms a → IsTermOf (Var h) a
            → (touches (set_of ex set) a ≡ true) ⊎ (touches (set_of ex set) a ≡ false) → Any (HasVariable v) d.probes
        by v h e a i is (inr t) =
            Any-of (HasVariable v) d.probes (probe_of (term_at to) a) (atom_in q ex rows set parts to d head probes a i t)
            (has_variable (term_at to) v h a e is)
        by v h e a i is (inl t) =
            let w = member_of_atom (set_of ex set) a t in
            let c = covered q (set_of ex set) (map (set_of ex) parts) are.cut w.0 w.1 in
            in_part v h e a i is w.0 w.2 c.0 c.1 c.2

    pub is_shaped : IsShapedFor q d
    is_shaped = record {
      head = ap length head ∙ length-map (term_at to) q.head;
      below = below;
      safe = safe;
    }

-- ---- pairs that can't be one

term_named : (names : ℕ → ℕ) (a : Atom) (n : ℕ) (t : Term) → TermsAre names n a → IsTermOf t a → name_of names t ≡ n
term_named names (Is c u) n t h e = ap (name_of names) e ∙ h
term_named names (Link p u w) n t h (inl e) = ap (name_of names) e ∙ h.0
term_named names (Link p u w) n t h (inr e) = ap (name_of names) e ∙ h.1

module _ (axioms : List Axiom) (roles : List Role) (q : Query) (ex : List ℕ) (listed : ex ≡ existential_variables q) (set : ℕ)
    (parts : List ℕ) (are : ArePartsOf q ex set parts) where
  ones : (facts : List Fact) (names : ℕ → ℕ) → HoldsWhere axioms facts roles q (set_of ex set) (map (set_of ex) parts) names
      → (e : Term × Term) → Contains (pairs_of ex q.atoms parts) e → AreUnified names e
  ones facts names h e c =
      let o = pair_of ex q.atoms parts e c in
      let all = All-from_recursion (PartHas axioms facts roles q names) (map (set_of ex) parts) h.each_part in
      let has = All-Contains (PartHas axioms facts roles q names) (map (set_of ex) parts) (set_of ex o.0) all (Contains-map_of (set_of ex) parts o.0 o.2) in
      let b = body_atom q (member_of ex o.0) (part_body q ex listed set parts are o.0 o.2) in
      let t = touched_by (set_of ex o.0) (member_of ex o.0) b.0 (member_in q ex listed set parts are o.0 o.2) b.2 in
      ap (name_of names) o.6 ∙ term_named names b.0 has.root (Var (member_of ex o.0)) (has.terms b.0 b.1 t) b.2
      ∙ sym (term_named names o.1 has.root e.1 (has.terms o.1 o.3 o.4) o.5)

  pub none_merges : HaveNoUnifier (pairs_of ex q.atoms parts) → HasNoDisjunct axioms roles q (set_of ex set)
  none_merges apart = record {
    parts = map (set_of ex) parts;
    cut = are.cut;
    none = λ facts names h. apart names (ones facts names h);
  }
