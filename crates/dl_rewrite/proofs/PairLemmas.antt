-- The pairs of terms that have to be one, as the steps list them, and the parts of a set by number.
use Rattle.std.proofs.Common.{◌≡◌, ℕ, true, false, cond, List, [], ◌∷◌, ◌⊎◌, map, sym, ap, subst, inl, inr}
use Rattle.std.specs.List.{Contains}
use Rattle.dl_terms.specs.declared.role.Role.{Role}
use Rattle.dl_terms.specs.declared.query.Term.{Term}
use Rattle.dl_terms.specs.declared.query.Term.TheVariants.{Var}
use Rattle.dl_terms.specs.declared.query.Atom.{Atom}
use Rattle.dl_terms.specs.declared.query.Atom.TheVariants.{Is, Link}
use Rattle.dl_terms.specs.declared.query.Query.{Query}
use Rattle.dl_terms.proofs.MemberLemmas.{Contains-first, Contains-nil, Contains-one, Contains-two, Contains-later}
use Rattle.dl_hier.proofs.MemberLemmas.{Contains-map, Contains-map_of, Contains-flat_map, Contains-flat_map_of}
use Rattle.dl_tree.specs.Sets.{touches}
use Rattle.dl_tree.specs.Masks.{set_of}
use Rattle.dl_tree.proofs.FoldLemmas.{true_or_false}
use Rattle.dl_rewrite.specs.Disjuncts.{IsTermOf, AreToUnify}
use Rattle.dl_rewrite.specs.Steps.{member_of, part_at, atom_terms, atom_pairs, part_pairs, pairs_of}

pub term_in : (a : Atom) (t : Term) → IsTermOf t a → Contains (atom_terms a) t
term_in (Is c u) t e = subst (Contains (u ∷ [])) (sym e) (Contains-first u [])
term_in (Link p u w) t (inl e) = subst (Contains (u ∷ w ∷ [])) (sym e) (Contains-first u (w ∷ []))
term_in (Link p u w) t (inr e) = subst (Contains (u ∷ w ∷ [])) (sym e) (Contains-later u w (w ∷ []) (Contains-first w []))

term_of : (a : Atom) (t : Term) → Contains (atom_terms a) t → IsTermOf t a
term_of (Is c u) t h = sym (Contains-one u t h)
term_of (Link p u w) t h = by (Contains-two u w t h)
  where
    by : (u ≡ t) ⊎ (w ≡ t) → (t ≡ u) ⊎ (t ≡ w)
    by (inl e) = inl (sym e)
    by (inr e) = inr (sym e)

module _ (ex : List ℕ) (atoms : List Atom) (parts : List ℕ) where
  pub pair_in : (m : ℕ) (a : Atom) (t : Term) → Contains parts m → Contains atoms a → touches (set_of ex m) a ≡ true
      → IsTermOf t a → Contains (pairs_of ex atoms parts) (Var (member_of ex m), t)
  pair_in m a t cm ca touched is =
      Contains-flat_map_of (part_pairs ex atoms) parts m (Var (member_of ex m), t) cm
      (Contains-flat_map_of (atom_pairs ex m) atoms a (Var (member_of ex m), t) ca
      (subst (λ b. Contains {X = Term × Term} (cond b (map (λ z. (Var (member_of ex m), z)) (atom_terms a)) []) (Var (member_of ex m), t)) (sym touched)
      (Contains-map_of (λ z. (Var (member_of ex m), z)) (atom_terms a) t (term_in a t is))))

  of_atom : (m : ℕ) (a : Atom) (e : Term × Term) → Contains (atom_pairs ex m a) e
      → (touches (set_of ex m) a ≡ true) × IsTermOf e.1 a × (e.0 ≡ Var (member_of ex m))
  of_atom m a e h = by (true_or_false (touches (set_of ex m) a))
    where
      f : Term → Term × Term
      f z = (Var (member_of ex m), z)

      by : (touches (set_of ex m) a ≡ true) ⊎ (touches (set_of ex m) a ≡ false)
          → (touches (set_of ex m) a ≡ true) × IsTermOf e.1 a × (e.0 ≡ Var (member_of ex m))
      by (inl y) =
          let w = Contains-map (λ z. (Var (member_of ex m), z)) (atom_terms a) e
          (subst (λ b. Contains {X = Term × Term} (cond b (map (λ z. (Var (member_of ex m), z)) (atom_terms a)) []) e) y h) in
          (y, subst (λ z. IsTermOf z a) (ap (λ z. z.1) w.2) (term_of a w.0 w.1), sym (ap (λ z. z.0) w.2))
      by (inr n) =
          absurd (Contains-nil e
          (subst (λ b. Contains {X = Term × Term} (cond b (map (λ z. (Var (member_of ex m), z)) (atom_terms a)) []) e) n h))

  pub pair_of : (e : Term × Term) → Contains (pairs_of ex atoms parts) e
      → (m : ℕ) × (a : Atom) × Contains parts m × Contains atoms a × (touches (set_of ex m) a ≡ true) × IsTermOf e.1 a
      × (e.0 ≡ Var (member_of ex m))
  pair_of e h =
      let p = Contains-flat_map (part_pairs ex atoms) parts e h in
      let k = Contains-flat_map (atom_pairs ex p.0) atoms e p.2 in
      let o = of_atom p.0 k.0 e k.2 in
      (p.0, k.0, p.1, k.1, o.0, o.1, o.2)

-- the pairs are those that have to be unified
pub pairs_to_unify : (q : Query) (ex : List ℕ) (rows : List (List Role)) (parts : List ℕ)
    → AreToUnify q (map (part_at ex rows) parts) (pairs_of ex q.atoms parts)
pairs_to_unify q ex rows parts = record {
  each = λ c a t k i touched is.
      let w = Contains-map (part_at ex rows) parts c k in
      subst (λ z. Contains (pairs_of ex q.atoms parts) (Var z.member, t)) w.2
      (pair_in ex q.atoms parts w.0 a t w.1 i (subst (λ z. touches z.set a ≡ true) (sym w.2) touched) is);
  only = λ e h.
      let o = pair_of ex q.atoms parts e h in
      (part_at ex rows o.0, o.1, Contains-map_of (part_at ex rows) parts o.0 o.2, o.3, o.4, o.5, o.6);
}
