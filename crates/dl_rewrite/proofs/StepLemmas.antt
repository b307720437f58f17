-- The disjunct of a set, from what the steps give: that it is the disjunct, and its shape.
use Rattle.std.proofs.Common.{◌≡◌, ℕ, suc, ◌<◌, ◌≤◌, true, false, cond, List, [], ◌∷◌, ◌⊎◌, length, map, refl, sym, ap, subst, inl, inr}
use Rattle.std.specs.List.{Contains, flat_map}
use Rattle.std.proofs.lemmas.List.Elements.{Contains-append_left, Contains-append_right, Contains-append_cases}
use Rattle.dl_terms.specs.Queries.{term_variables, atom_variables, body_variables, existential_variables, IsWellFormed}
use Rattle.dl_terms.specs.declared.role.Role.{Role}
use Rattle.dl_terms.specs.declared.axiom.Axiom.{Axiom}
use Rattle.dl_terms.specs.declared.query.Term.{Term}
use Rattle.dl_terms.specs.declared.query.Term.TheVariants.{Var, Name}
use Rattle.dl_terms.specs.declared.query.Atom.{Atom}
use Rattle.dl_terms.specs.declared.query.Atom.TheVariants.{Is, Link}
use Rattle.dl_terms.specs.declared.query.Query.{Query}
use Rattle.dl_terms.specs.declared.query.Probe.{Probe}
use Rattle.dl_terms.specs.declared.query.Disjunct.{Disjunct}
use Rattle.dl_terms.proofs.MemberLemmas.{Contains-first, Contains-nil, Contains-one, All-Contains}
use Rattle.dl_hier.proofs.MemberLemmas.{Contains-map, Contains-map_of, Contains-flat_map, Contains-flat_map_of}
use Rattle.dl_tree.specs.Sets.{touches}
use Rattle.dl_tree.specs.Masks.{set_of}
use Rattle.dl_tree.specs.Table.{IsTableOf}
use Rattle.dl_tree.proofs.FoldLemmas.{true_or_false}
use Rattle.dl_rewrite.specs.Parts.{AreParts}
use Rattle.dl_rewrite.specs.Unifiers.{probe_of}
use Rattle.dl_rewrite.specs.Disjuncts.{Part, IsTermOf, IsPart, part_probe, IsDisjunctOf}
use Rattle.dl_rewrite.specs.Rewriting.{IsDisjunctFor}
use Rattle.dl_rewrite.specs.Steps.{part_at, ArePartsOf, pairs_of, term_at, IsTermBelow, AreMostGeneralUnifier, outside_probe, probes_of}
use Rattle.dl_rewrite.proofs.PairLemmas.{pairs_to_unify}
use Rattle.dl_rewrite.proofs.CutLemmas.{is_part}

-- ---- terms of the body

pub var_in : (a : Atom) (v : ℕ) → IsTermOf (Var v) a → Contains (atom_variables a) v
var_in (Is c u) v e = subst (λ z. Contains (term_variables z) v) e (Contains-first v [])
var_in (Link p u w) v (inl e) =
    Contains-append_left (term_variables u) (term_variables w) v (subst (λ z. Contains (term_variables z) v) e (Contains-first v []))
var_in (Link p u w) v (inr e) =
    Contains-append_right (term_variables u) (term_variables w) v (subst (λ z. Contains (term_variables z) v) e (Contains-first v []))

module _ (q : Query) (well : IsWellFormed q) where
  pub var_below : (v : ℕ) → Contains (body_variables q) v → v < q.vars
  var_below v c = All-Contains (λ v. v < q.vars) (body_variables q) v well.variables c

  pub term_below : (a : Atom) → Contains q.atoms a → (t : Term) → IsTermOf t a → IsTermBelow q.vars t
  term_below a c (Var v) is = var_below v (Contains-flat_map_of atom_variables q.atoms a v c (var_in a v is))
  term_below a c (Name n) is = tt

-- ---- the disjunct

sets_of : (ex : List ℕ) (rows : List (List Role)) (parts : List ℕ) → map (λ c. c.set) (map (part_at ex rows) parts) ≡ map (set_of ex) parts
sets_of ex rows [] = refl
sets_of ex rows (m ∷ parts) = ap (λ z. set_of ex m ∷ z) (sets_of ex rows parts)

pub length-map : {A B : Type 0} (f : A → B) (xs : List A) → length (map f xs) ≡ length xs
length-map f [] = refl
length-map f (x ∷ xs) = ap (λ n. suc n) (length-map f xs)

module _ (q : Query) (ex : List ℕ) (rows : List (List Role)) (set : ℕ) (parts : List ℕ) (to : List Term) (d : Disjunct)
    (head : d.head ≡ map (term_at to) q.head) (probes : d.probes ≡ probes_of ex rows q.atoms set parts to) where
  pub atom_in : (a : Atom) → Contains q.atoms a → touches (set_of ex set) a ≡ false → Contains d.probes (probe_of (term_at to) a)
  atom_in a c e =
      subst (λ ps. Contains ps (probe_of (term_at to) a)) (sym probes)
      (Contains-append_left (flat_map (outside_probe ex set to) q.atoms) (map (λ m. part_probe (term_at to) (part_at ex rows m)) parts) (probe_of (term_at to) a)
      (Contains-flat_map_of (outside_probe ex set to) q.atoms a (probe_of (term_at to) a) c
      (subst (λ b. Contains (cond b [] (probe_of (term_at to) a ∷ [])) (probe_of (term_at to) a)) (sym e) (Contains-first (probe_of (term_at to) a) []))))

  pub part_in : (m : ℕ) → Contains parts m → Contains d.probes (part_probe (term_at to) (part_at ex rows m))
  part_in m k =
      subst (λ ps. Contains ps (part_probe (term_at to) (part_at ex rows m))) (sym probes)
      (Contains-append_right (flat_map (outside_probe ex set to) q.atoms) (map (λ m. part_probe (term_at to) (part_at ex rows m)) parts)
      (part_probe (term_at to) (part_at ex rows m)) (Contains-map_of (λ m. part_probe (term_at to) (part_at ex rows m)) parts m k))

  abbrev pub IsOutside : Probe → Type 0
  IsOutside p = (a : Atom) × Contains q.atoms a × (touches (set_of ex set) a ≡ false) × (p ≡ probe_of (term_at to) a)

  abbrev pub IsOfPart : Probe → Type 0
  IsOfPart p = (m : ℕ) × Contains parts m × (p ≡ part_probe (term_at to) (part_at ex rows m))

  from_atom : (p : Probe) → Contains (flat_map (outside_probe ex set to) q.atoms) p → IsOutside p
  from_atom p k =
      let w = Contains-flat_map (outside_probe ex set to) q.atoms p k in
      by w.0 w.1 w.2 (true_or_false (touches (set_of ex set) w.0))
    where
      by : (a : Atom) → Contains q.atoms a → Contains (outside_probe ex set to a) p
          → (touches (set_of ex set) a ≡ true) ⊎ (touches (set_of ex set) a ≡ false)
          → (a : Atom) × Contains q.atoms a × (touches (set_of ex set) a ≡ false) × (p ≡ probe_of (term_at to) a)
      by a c h (inl e) = absurd (Contains-nil p (subst (λ b. Contains (cond b [] (probe_of (term_at to) a ∷ [])) p) e h))
      by a c h (inr e) =
          (a, c, e, sym (Contains-one (probe_of (term_at to) a) p (subst (λ b. Contains (cond b [] (probe_of (term_at to) a ∷ [])) p) e h)))

  pub only : (p : Probe) → Contains d.probes p → IsOutside p ⊎ IsOfPart p
  only p k =
      by (Contains-append_cases (flat_map (outside_probe ex set to) q.atoms) (map (λ m. part_probe (term_at to) (part_at ex rows m)) parts) p
      (subst (λ ps. Contains ps p) probes k))
    where
      by : Contains (flat_map (outside_probe ex set to) q.atoms) p ⊎ Contains (map (λ m. part_probe (term_at to) (part_at ex rows m)) parts) p
          → IsOutside p ⊎ ((m : ℕ) × Contains parts m × (p ≡ part_probe (term_at to) (part_at ex rows m)))
      by (inl h) = inl (from_atom p h)
      by (inr h) =
          let w = Contains-map (λ m. part_probe (term_at to) (part_at ex rows m)) parts p h in inr (w.0, w.1, sym w.2)

  pub is_disjunct : IsDisjunctOf q (set_of ex set) (map (part_at ex rows) parts) (term_at to) d
  is_disjunct = record {
    head = head;
    each_atom = atom_in;
    each_part = λ c k.
        let w = Contains-map (part_at ex rows) parts c k in
        subst (λ z. Contains d.probes (part_probe (term_at to) z)) w.2 (part_in w.0 w.1);
    only = λ p k. by p (only p k);
  }
    where
      by : (p : Probe) → IsOutside p ⊎ IsOfPart p
          → ((a : Atom) × Contains q.atoms a × (touches (set_of ex set) a ≡ false) × (p ≡ probe_of (term_at to) a))
          ⊎ ((c : Part) × Contains (map (part_at ex rows) parts) c × (p ≡ part_probe (term_at to) c))
      by p (inl h) = inl h
      by p (inr h) = inr (part_at ex rows h.0, Contains-map_of (part_at ex rows) parts h.0 h.1, h.2)

  module _ (axioms : List Axiom) (roles : List Role) (listed : ex ≡ existential_variables q) (few : length ex ≤ 8)
      (table : IsTableOf axioms roles q rows) (are : ArePartsOf q ex set parts)
      (make : AreMostGeneralUnifier q.vars (pairs_of ex q.atoms parts) to) where
    pub disjunct_for : IsDisjunctFor axioms roles q (set_of ex set) d
    disjunct_for = record {
      parts = map (part_at ex rows) parts;
      cut = subst (AreParts q (set_of ex set)) (sym (sets_of ex rows parts)) are.cut;
      are_parts = λ c k.
          let w = Contains-map (part_at ex rows) parts c k in
          subst (IsPart axioms roles q) w.2 (is_part axioms roles q ex rows listed few table set parts are w.0 w.1);
      pairs = pairs_of ex q.atoms parts;
      to_unify = pairs_to_unify q ex rows parts;
      to = term_at to;
      unifies = make.unifies;
      is_disjunct = is_disjunct;
    }
