-- A set cut into parts by number: what each part is, and what covers the set.
use Rattle.std.proofs.Common.{◌≡◌, ℕ, ◌<◌, ◌≤◌, ◌^◌, Bool, true, false, not, ◌&&◌, cond, List, [], ◌∷◌, ◌⊎◌, length, map, nat_eq, eqb-true, slice_index_or, refl, sym, ap, subst, ◌∙◌, inl, inr, arith, true≢false}
use Rattle.std.specs.List.{Contains, list_all, list_any, range_with_len}
use Rattle.std.proofs.lemmas.List.Elements.{All-from_recursion, Contains-append_cases}
use Rattle.std.proofs.lemmas.Map.Views.{Contains-from_any}
use Rattle.std.proofs.Math.Pow.{pow_mono}
use Rattle.dl_terms.specs.Queries.{term_variables, atom_variables, body_variables, is_existential, existential_variables}
use Rattle.dl_terms.specs.declared.role.Role.{Role}
use Rattle.dl_terms.specs.declared.axiom.Axiom.{Axiom}
use Rattle.dl_terms.specs.declared.query.Term.{Term}
use Rattle.dl_terms.specs.declared.query.Term.TheVariants.{Var, Name}
use Rattle.dl_terms.specs.declared.query.Atom.{Atom}
use Rattle.dl_terms.specs.declared.query.Atom.TheVariants.{Is, Link}
use Rattle.dl_terms.specs.declared.query.Query.{Query}
use Rattle.dl_terms.proofs.MemberLemmas.{Contains-first, Contains-later, Contains-nil, Contains-cons, Contains-one, All-Contains}
use Rattle.dl_hier.proofs.MemberLemmas.{Contains-map_of, Contains-flat_map}
use Rattle.dl_join.proofs.ProbeLemmas.{Contains-filter}
use Rattle.dl_tree.specs.Sets.{IsConnected}
use Rattle.dl_tree.specs.Below.{minus}
use Rattle.dl_tree.specs.Folds.{IsGeneratingRole}
use Rattle.dl_tree.specs.Masks.{set_of}
use Rattle.dl_tree.specs.Table.{IsTableOf}
use Rattle.dl_tree.proofs.FoldLemmas.{true_or_false, not_both, and_left, both, not_false}
use Rattle.dl_tree.proofs.MaskLemmas.{member_known}
use Rattle.dl_rewrite.specs.Parts.{AreParts, PartHas}
use Rattle.dl_rewrite.specs.Disjuncts.{IsTermOf, IsPart}
use Rattle.dl_rewrite.specs.Rewriting.{HasNoDisjunct}
use Rattle.dl_rewrite.specs.Steps.{first_in, member_of, part_at, ArePartsOf}

-- ---- parts

-- each part is connected and within the set
pub each_part : (q : Query) (s : ℕ → Bool) (cs : List (ℕ → Bool)) → AreParts q s cs → (c : ℕ → Bool) → Contains cs c
    → IsConnected q c × ((v : ℕ) → c v ≡ true → s v ≡ true)
each_part q s [] are c k = absurd (Contains-nil c k)
each_part q s (d ∷ cs) are c k = by (Contains-cons d c cs k) (λ h. each_part q (minus s d) cs are.2 c h)
  where
    by : (d ≡ c) ⊎ Contains cs c
        → (Contains cs c → IsConnected q c × ((v : ℕ) → c v ≡ true → minus s d v ≡ true))
        → IsConnected q c × ((v : ℕ) → c v ≡ true → s v ≡ true)
    by (inl e) later = subst (λ z. IsConnected q z × ((v : ℕ) → z v ≡ true → s v ≡ true)) e (are.0, are.1.within)
    by (inr h) later = let r = later h in (r.0, λ v m. and_left (s v) (not (d v)) (r.1 v m))

-- each member is in a part
pub covered : (q : Query) (s : ℕ → Bool) (cs : List (ℕ → Bool)) → AreParts q s cs → (v : ℕ) → s v ≡ true
    → (c : ℕ → Bool) × Contains cs c × (c v ≡ true)
covered q s [] are v e = absurd (not_both e (are v))
covered q s (d ∷ cs) are v e = by (true_or_false (d v)) (λ h. covered q (minus s d) cs are.2 v h)
  where
    by : (d v ≡ true) ⊎ (d v ≡ false) → (minus s d v ≡ true → (c : ℕ → Bool) × Contains cs c × (c v ≡ true))
        → (c : ℕ → Bool) × Contains (d ∷ cs) c × (c v ≡ true)
    by (inl h) rest = (d, Contains-first d cs, h)
    by (inr h) rest =
        let r = rest (both (s v) (not (d v)) e (not_false (d v) h)) in
        (r.0, Contains-later d r.0 cs r.1, r.2)

-- ---- variables of the body

pub of_any : (xs : List ℕ) (v : ℕ) → list_any (nat_eq v) xs ≡ true → Contains xs v
of_any xs v e = Contains-from_any (λ x y h. eqb-true x y h) v xs e

of_term : (u : Term) (v : ℕ) → Contains (term_variables u) v → Var v ≡ u
of_term (Var w) v c = ap Var (sym (Contains-one w v c))
of_term (Name a) v c = absurd (Contains-nil v c)

of_atom : (a : Atom) (v : ℕ) → Contains (atom_variables a) v → IsTermOf (Var v) a
of_atom (Is c u) v k = of_term u v k
of_atom (Link p u w) v k = by (Contains-append_cases (term_variables u) (term_variables w) v k)
  where
    by : Contains (term_variables u) v ⊎ Contains (term_variables w) v → (Var v ≡ u) ⊎ (Var v ≡ w)
    by (inl h) = inl (of_term u v h)
    by (inr h) = inr (of_term w v h)

-- a variable of the body stands in an atom
pub body_atom : (q : Query) (v : ℕ) → Contains (body_variables q) v → (a : Atom) × Contains q.atoms a × IsTermOf (Var v) a
body_atom q v c = let w = Contains-flat_map atom_variables q.atoms v c in (w.0, w.1, of_atom w.0 v w.2)

-- an existential variable does
pub in_body : (q : Query) (v : ℕ) → Contains (existential_variables q) v → Contains (body_variables q) v
in_body q v c =
    let k = Contains-filter (is_existential q) (range_with_len 0 q.vars) v c in
    of_any (body_variables q) v (and_left (list_any (nat_eq v) (body_variables q)) (not (list_any (nat_eq v) q.head)) k.1)

-- ---- the variable of a part

pub first-is : (s : ℕ → Bool) (ex : List ℕ) (v : ℕ) → Contains ex v → s v ≡ true → s (first_in s ex) ≡ true
first-is s [] v c e = absurd (Contains-nil v c)
first-is s (x ∷ xs) v c e = by (true_or_false (s x)) (Contains-cons x v xs c) (λ k. first-is s xs v k e)
  where
    by : (s x ≡ true) ⊎ (s x ≡ false) → (x ≡ v) ⊎ Contains xs v → (Contains xs v → s (first_in s xs) ≡ true)
        → s (cond (s x) x (first_in s xs)) ≡ true
    by (inl f) k rest = subst (λ b. s (cond b x (first_in s xs)) ≡ true) (sym f) f
    by (inr f) (inl same) rest = absurd (not_both e (ap s (sym same) ∙ f))
    by (inr f) (inr k) rest = subst (λ b. s (cond b x (first_in s xs)) ≡ true) (sym f) (rest k)

-- ---- parts by number

module _ (q : Query) (ex : List ℕ) (listed : ex ≡ existential_variables q) (set : ℕ) (parts : List ℕ) (are : ArePartsOf q ex set parts) where
  fits : (m : ℕ) → Contains parts m → m < 2 ^ length ex
  fits m k = All-Contains (λ n. n < 2 ^ length ex) parts m are.fit k

  connected : (m : ℕ) → Contains parts m → IsConnected q (set_of ex m)
  connected m k = (each_part q (set_of ex set) (map (set_of ex) parts) are.cut (set_of ex m) (Contains-map_of (set_of ex) parts m k)).0

  known : (m v : ℕ) → Contains parts m → set_of ex m v ≡ true → Contains ex v
  known m v k e = of_any ex v (member_known ex m v (fits m k) e)

  pub member_in : (m : ℕ) → Contains parts m → set_of ex m (member_of ex m) ≡ true
  member_in m k =
      let c = connected m k in first-is (set_of ex m) ex c.member (known m c.member k c.is_member) c.is_member

  pub part_body : (m : ℕ) → Contains parts m → Contains (body_variables q) (member_of ex m)
  part_body m k =
      in_body q (member_of ex m) (subst (λ l. Contains l (member_of ex m)) listed (known m (member_of ex m) k (member_in m k)))

module _ (axioms : List Axiom) (roles : List Role) (q : Query) (ex : List ℕ) (rows : List (List Role))
    (listed : ex ≡ existential_variables q) (few : length ex ≤ 8) (table : IsTableOf axioms roles q rows) (set : ℕ)
    (parts : List ℕ) (are : ArePartsOf q ex set parts) where
  in_table : (m : ℕ) → Contains parts m → m < 256
  in_table m k =
      let f = fits q ex listed set parts are m k in let p : 2 ^ length ex ≤ 2 ^ 8 = pow_mono few in omega (arith, f, p)

  pub is_part : (m : ℕ) → Contains parts m → IsPart axioms roles q (part_at ex rows m)
  is_part m k =
      let row = table m (in_table m k) in
      let a = body_atom q (member_of ex m) (part_body q ex listed set parts are m k) in
      record {
        exact = λ t. (
          λ c. subst (λ l. IsGeneratingRole axioms roles q (set_of l m) t) (sym listed) ((row.exact t).0 c).2,
          λ is. (row.exact t).1 (
            subst (λ l. m < 2 ^ length l) listed (fits q ex listed set parts are m k),
            subst (λ l. IsConnected q (set_of l m)) listed (connected q ex listed set parts are m k),
            subst (λ l. IsGeneratingRole axioms roles q (set_of l m) t) listed is,
          ),
        );
        is_member = member_in q ex listed set parts are m k;
        atom = a.0;
        is_atom = a.1;
        is_term = a.2;
      }

  -- a part without a role leaves the set without a disjunct
  pub none_folds : (m : ℕ) → Contains parts m → slice_index_or rows m [] ≡ [] → HasNoDisjunct axioms roles q (set_of ex set)
  none_folds m k empty = record {
    parts = map (set_of ex) parts;
    cut = are.cut;
    none = λ facts names h.
        let all = All-from_recursion (PartHas axioms facts roles q names) (map (set_of ex) parts) h.each_part in
        let has = All-Contains (PartHas axioms facts roles q names) (map (set_of ex) parts) (set_of ex m) all (Contains-map_of (set_of ex) parts m k) in
        Contains-nil has.role (subst (λ l. Contains l has.role) empty (((is_part m k).exact has.role).1 has.is_role));
  }

-- some item fails a test that not all pass
pub some_fails : {A : Type 0} (test : A → Bool) (xs : List A) → list_all test xs ≡ false → (x : A) × Contains xs x × (test x ≡ false)
some_fails test [] e = absurd (true≢false e)
some_fails {A} test (x ∷ xs) e = by (true_or_false (test x)) (λ h. some_fails test xs h)
  where
    by : (test x ≡ true) ⊎ (test x ≡ false) → (list_all test xs ≡ false → (y : A) × Contains xs y × (test y ≡ false))
        → (y : A) × Contains (x ∷ xs) y × (test y ≡ false)
    by (inl h) rest =
        let r = rest (sym (ap (λ b. b && list_all test xs) h) ∙ e) in (r.0, Contains-later x r.0 xs r.1, r.2)
    by (inr h) rest = (x, Contains-first x xs, h)

empty_of : {A : Type 0} (xs : List A) → length xs ≡ 0 → xs ≡ []
empty_of [] e = refl
empty_of (x ∷ xs) e = absurd (omega (arith, e))

pub is_empty : {A : Type 0} (xs : List A) → not (nat_eq (length xs) 0) ≡ false → xs ≡ []
is_empty xs e = by (true_or_false (nat_eq (length xs) 0))
  where
    by : (nat_eq (length xs) 0 ≡ true) ⊎ (nat_eq (length xs) 0 ≡ false) → xs ≡ []
    by (inl h) = empty_of xs (eqb-true (length xs) 0 h)
    by (inr h) = absurd (not_both (ap not h) e)
