-- A search atom by atom: what is found for the first atom and the rest, and what holds where nothing is found.
use Rattle.std.proofs.Common.{◌≡◌, ℕ, suc, ◌+◌, ◌<◌, ◌≤◌, ◌↔◌, Bool, true, false, cond, List, [], ◌∷◌, Result, length, take, get_or, nat_lt, refl, sym, ap, subst, ◌∙◌, ⊎_elim, true≢false, lt-ltb, ltb-true}
use Rattle.std.specs.List.{All, Contains}
use Rattle.std.specs.Result.{IfOk}
use Rattle.std.proofs.lemmas.Result.{IfOk-weaker}
use Rattle.std.proofs.lemmas.List.{take_more, take_all}
use Rattle.std.proofs.lemmas.List.Elements.{All-nil, All-cons, All-head, All-tail, All-weaker, All-contains, All-contains_itself, Contains-append_cases}
use Rattle.dl_terms.specs.declared.memory.NoMemory.{NoMemory}
use Rattle.dl_terms.specs.declared.query.Term.{Term}
use Rattle.dl_terms.specs.declared.query.Term.TheVariants.{Var, Name}
use Rattle.dl_terms.specs.declared.query.Atom.{Atom}
use Rattle.dl_terms.specs.declared.query.Atom.TheVariants.{Is, Link}
use Rattle.dl_terms.specs.declared.query.Query.{Query}
use Rattle.dl_terms.proofs.MemberLemmas.{Contains-one, Contains-nil}
use Rattle.dl_models.specs.Meaning.{StandsFor, AtomHolds, GivesHead, QueryHolds}
use Rattle.dl_models.specs.Structures.{finite}
use Rattle.dl_models.specs.Values.{Agrees, CanAgree, Adds}
use Rattle.dl_models.specs.declared.interp.Interp.{Interp}
use Rattle.dl_models.proofs.OperandLemmas.{any_default}

-- ---- an item of a list, as a member

pub pair-member : (ps : List (ℕ × ℕ)) (i c : ℕ) → i < length ps → (get_or ps i (0, 0)).0 ≡ c → Contains ps (c, (get_or ps i (0, 0)).1)
pair-member ps i c lt e =
    let item = get_or ps i (0, 0) in
    (i, lt, any_default ps i (c, item.1) (0, 0) lt ∙ ap (λ k. (k, item.1)) e)

pub triple-member : (ls : List (ℕ × ℕ × ℕ)) (i p : ℕ) → i < length ls → (get_or ls i (0, 0, 0)).0 ≡ p
    → Contains ls (p, (get_or ls i (0, 0, 0)).1, (get_or ls i (0, 0, 0)).2)
triple-member ls i p lt e =
    let item = get_or ls i (0, 0, 0) in
    (i, lt, any_default ls i (p, item.1, item.2) (0, 0, 0) lt ∙ ap (λ k. (k, item.1, item.2)) e)

module _ (model : Interp) where
  abbrev AllHold : (ℕ → ℕ) → List Atom → Type 0
  AllHold m atoms = All (AtomHolds (finite model) m) atoms

  abbrev TermsStand : (ℕ → ℕ) → List (Term × ℕ) → Type 0
  TermsStand m terms = All (λ t. StandsFor (finite model) m t.0 t.1) terms

  -- values for atoms; for one atom and others; for terms that have elements, and atoms
  abbrev pub ForAtoms : List (ℕ × ℕ) → List Atom → Type 0
  ForAtoms given atoms = (m : ℕ → ℕ) × Agrees m given × AllHold m atoms

  abbrev pub ForAtom : List (ℕ × ℕ) → Atom → List Atom → Type 0
  ForAtom given a atoms = (m : ℕ → ℕ) × Agrees m given × AtomHolds (finite model) m a × AllHold m atoms

  abbrev pub ForTerms : List (ℕ × ℕ) → List (Term × ℕ) → List Atom → Type 0
  ForTerms given terms atoms = (m : ℕ → ℕ) × Agrees m given × TermsStand m terms × AllHold m atoms

  pub atom-first : (r : Result Bool NoMemory) (given : List (ℕ × ℕ)) (atoms : List Atom) (a : Atom) (rest : List Atom) → atoms ≡ a ∷ rest
      → IfOk r (λ b. (b ≡ true) ↔ ForAtom given a rest) → IfOk r (λ b. (b ≡ true) ↔ ForAtoms given atoms)
  atom-first r given atoms a rest e =
      IfOk-weaker r (λ b. (b ≡ true) ↔ ForAtom given a rest) (λ b. (b ≡ true) ↔ ForAtoms given atoms)
      (λ b exact. (
        λ t. let h = exact.0 t in
            (h.0, h.1, subst (AllHold h.0) (sym e) (All-cons (AtomHolds (finite model) h.0) a rest h.2 h.3)),
        λ h. let all = subst (AllHold h.0) e h.2 in
            exact.1 (h.0, h.1, All-head (AtomHolds (finite model) h.0) a rest all, All-tail (AtomHolds (finite model) h.0) a rest all),
      ))

  -- ---- a class atom

  pub class-found : (given : List (ℕ × ℕ)) (c : ℕ) (t : Term) (x : ℕ) (atoms : List Atom) (b : Bool) → b ≡ true
      → (b ≡ true) ↔ ForTerms given ((t, x) ∷ []) atoms → Contains model.classes (c, x) → (true ≡ true) ↔ ForAtom given (Is c t) atoms
  class-found given c t x atoms b found exact c_in = (
    λ e. let h = exact.0 found in
        (h.0, h.1, (x, All-head (λ t. StandsFor (finite model) h.0 t.0 t.1) (t, x) [] h.2, c_in), h.3),
    λ h. refl,
  )

  pub class-more : (given ps : List (ℕ × ℕ)) (c : ℕ) (t : Term) (atoms : List Atom) (i : ℕ) (d : ℕ × ℕ) → i < length ps
      → ((m : ℕ → ℕ) → Agrees m given → (x : ℕ) → Contains (take i ps) (c, x) → StandsFor (finite model) m t x → ¬ AllHold m atoms)
      → ¬ ForTerms given ((t, (get_or ps i d).1) ∷ []) atoms
      → (m : ℕ → ℕ) → Agrees m given → (x : ℕ) → Contains (take (i + 1) ps) (c, x) → StandsFor (finite model) m t x → ¬ AllHold m atoms
  class-more given ps c t atoms i d lt none failed m a x c_in stands all =
      ⊎_elim (λ (early : Contains (take i ps) (c, x)). none m a x early stands all)
      (λ (last : Contains (get_or ps i d ∷ []) (c, x)).
      let at : x ≡ (get_or ps i d).1 = sym (ap (λ p. p.1) (Contains-one (get_or ps i d) (c, x) last)) in
      let Here : Term × ℕ → Type 0 = λ t. StandsFor (finite model) m t.0 t.1 in
      failed (m, a, All-cons Here (t, (get_or ps i d).1) [] (subst (StandsFor (finite model) m t) at stands) (All-nil Here), all))
      (Contains-append_cases (take i ps) (get_or ps i d ∷ []) (c, x) (subst (λ l. Contains l (c, x)) (take_more ps i d lt) c_in))

  pub class-none : (given ps : List (ℕ × ℕ)) (c : ℕ) (t : Term) (atoms : List Atom) (i : ℕ) → ps ≡ model.classes → length ps ≤ i
      → ((m : ℕ → ℕ) → Agrees m given → (x : ℕ) → Contains (take i ps) (c, x) → StandsFor (finite model) m t x → ¬ AllHold m atoms)
      → (false ≡ true) ↔ ForAtom given (Is c t) atoms
  class-none given ps c t atoms i same long none = (
    λ e. absurd (true≢false (sym e)),
    λ h. absurd
        (none h.0 h.1 h.2.0 (subst (λ l. Contains l (c, h.2.0)) (sym (take_all i ps long ∙ same)) h.2.2) h.2.1 h.3),
  )

  -- ---- a role atom

  pub role-found : (given : List (ℕ × ℕ)) (p : ℕ) (t u : Term) (x y : ℕ) (atoms : List Atom) (b : Bool) → b ≡ true
      → (b ≡ true) ↔ ForTerms given ((t, x) ∷ (u, y) ∷ []) atoms → Contains model.links (p, x, y) → (true ≡ true) ↔ ForAtom given (Link p t u) atoms
  role-found given p t u x y atoms b found exact p_in = (
    λ e. let h = exact.0 found in
        let Here : Term × ℕ → Type 0 = λ t. StandsFor (finite model) h.0 t.0 t.1 in
        (h.0, h.1, (x, y, All-head Here (t, x) ((u, y) ∷ []) h.2, All-head Here (u, y) [] (All-tail Here (t, x) ((u, y) ∷ []) h.2), p_in), h.3),
    λ h. refl,
  )

  pub role-more : (given : List (ℕ × ℕ)) (ls : List (ℕ × ℕ × ℕ)) (p : ℕ) (t u : Term) (atoms : List Atom) (i : ℕ) (d : ℕ × ℕ × ℕ) → i < length ls
      → ((m : ℕ → ℕ) → Agrees m given → (x y : ℕ) → Contains (take i ls) (p, x, y) → StandsFor (finite model) m t x → StandsFor (finite model) m u y
      → ¬ AllHold m atoms)
      → ¬ ForTerms given ((t, (get_or ls i d).1) ∷ (u, (get_or ls i d).2) ∷ []) atoms
      → (m : ℕ → ℕ) → Agrees m given → (x y : ℕ) → Contains (take (i + 1) ls) (p, x, y) → StandsFor (finite model) m t x → StandsFor (finite model) m u y
      → ¬ AllHold m atoms
  role-more given ls p t u atoms i d lt none failed m a x y p_in at to all =
      ⊎_elim (λ (early : Contains (take i ls) (p, x, y)). none m a x y early at to all)
      (λ (last : Contains (get_or ls i d ∷ []) (p, x, y)).
      let e = Contains-one (get_or ls i d) (p, x, y) last in
      let Here : Term × ℕ → Type 0 = λ t. StandsFor (finite model) m t.0 t.1 in
      failed (
        m,
        a,
        All-cons Here (t, (get_or ls i d).1) ((u, (get_or ls i d).2) ∷ []) (subst (StandsFor (finite model) m t) (sym (ap (λ q. q.1) e)) at)
            (All-cons Here (u, (get_or ls i d).2) [] (subst (StandsFor (finite model) m u) (sym (ap (λ q. q.2) e)) to) (All-nil Here)),
        all,
      ))
      (Contains-append_cases (take i ls) (get_or ls i d ∷ []) (p, x, y) (subst (λ l. Contains l (p, x, y)) (take_more ls i d lt) p_in))

  pub role-none : (given : List (ℕ × ℕ)) (ls : List (ℕ × ℕ × ℕ)) (p : ℕ) (t u : Term) (atoms : List Atom) (i : ℕ) → ls ≡ model.links → length ls ≤ i
      → ((m : ℕ → ℕ) → Agrees m given → (x y : ℕ) → Contains (take i ls) (p, x, y) → StandsFor (finite model) m t x → StandsFor (finite model) m u y
      → ¬ AllHold m atoms)
      → (false ≡ true) ↔ ForAtom given (Link p t u) atoms
  role-none given ls p t u atoms i same long none = (
    λ e. absurd (true≢false (sym e)),
    λ h. absurd
        (none h.0 h.1 h.2.0 h.2.1 (subst (λ l. Contains l (p, h.2.0, h.2.1)) (sym (take_all i ls long ∙ same)) h.2.4) h.2.2 h.2.3 h.3),
  )

  -- ---- terms, and then atoms

  pub with-not : (given old : List (ℕ × ℕ)) (terms : List (Term × ℕ)) (atoms : List Atom) → old ≡ given
      → ((m : ℕ → ℕ) → Agrees m old → ¬ TermsStand m terms) → (false ≡ true) ↔ ForTerms given terms atoms
  with-not given old terms atoms same never =
      (λ e. absurd (true≢false (sym e)), λ h. absurd (never h.0 (subst (Agrees h.0) (sym same) h.1) h.2))

  pub with-more : (r : Result Bool NoMemory) (given old new shown : List (ℕ × ℕ)) (terms : List (Term × ℕ)) (atoms : List Atom) → old ≡ given → shown ≡ new
      → Adds (λ m. TermsStand m terms) old new → IfOk r (λ b. (b ≡ true) ↔ ForAtoms shown atoms) → IfOk r (λ b. (b ≡ true) ↔ ForTerms given terms atoms)
  with-more r given old new shown terms atoms same seen adds =
      IfOk-weaker r (λ b. (b ≡ true) ↔ ForAtoms shown atoms) (λ b. (b ≡ true) ↔ ForTerms given terms atoms)
      (λ b exact. (
        λ t. let h = exact.0 t in let k = (adds.exact h.0).0 (subst (Agrees h.0) seen h.1) in
            (h.0, subst (Agrees h.0) same k.0, k.1, h.2),
        λ h. exact.1 (h.0, subst (Agrees h.0) (sym seen) ((adds.exact h.0).1 (subst (Agrees h.0) (sym same) h.1, h.2)), h.3),
      ))

  -- ---- a whole query

  -- values that are elements: what isn't is 0
  abbrev inside : (ℕ → ℕ) → ℕ → ℕ
  inside m v = cond (nat_lt (m v) model.size) (m v) 0

  inside-same : (m : ℕ → ℕ) (v : ℕ) → m v < model.size → inside m v ≡ m v
  inside-same m v lt = ap (λ b. cond b (m v) 0) (lt-ltb (m v) model.size lt)

  inside-below : (m : ℕ → ℕ) (v : ℕ) → inside m v < model.size
  inside-below m v = by (nat_lt (m v) model.size) refl
    where
      by : (b : Bool) → nat_lt (m v) model.size ≡ b → cond b (m v) 0 < model.size
      by true e = ltb-true (m v) model.size e
      by false e = model.valid.some_element

  inside-stands : (m : ℕ → ℕ) (t : Term) (x : ℕ) → x < model.size → StandsFor (finite model) m t x → StandsFor (finite model) (inside m) t x
  inside-stands m (Var v) x lt h = inside-same m v (subst (λ y. y < model.size) (sym h) lt) ∙ h
  inside-stands m (Name a) x lt h = h

  inside-atom : (m : ℕ → ℕ) (a : Atom) → AtomHolds (finite model) m a → AtomHolds (finite model) (inside m) a
  inside-atom m (Is c t) h = (h.0, inside-stands m t h.0 (model.valid.of_classes c h.0 h.2) h.1, h.2)
  inside-atom m (Link p t u) h =
      let both = model.valid.of_links p h.0 h.1 h.4 in
      (h.0, h.1, inside-stands m t h.0 both.0 h.2, inside-stands m u h.1 both.1 h.3, h.4)

  inside-head : (m : ℕ → ℕ) (head tuple : List ℕ) → GivesHead (finite model) m head tuple → GivesHead (finite model) (inside m) head tuple
  inside-head m [] [] h = tt
  inside-head m [] (a ∷ tuple) h = h
  inside-head m (v ∷ head) [] h = h
  inside-head m (v ∷ head) (a ∷ tuple) h =
      (subst (λ x. Contains model.names (a, x)) (sym (inside-same m v (model.valid.of_names a (m v) h.0))) h.0, inside-head m head tuple h.1)

  head-long : (m : ℕ → ℕ) (head tuple : List ℕ) → GivesHead (finite model) m head tuple → length head ≡ length tuple
  head-long m [] [] h = refl
  head-long m [] (a ∷ tuple) h = absurd h
  head-long m (v ∷ head) [] h = absurd h
  head-long m (v ∷ head) (a ∷ tuple) h = ap suc (head-long m head tuple h.1)

  pub none-given : (given : List (ℕ × ℕ)) → given ≡ [] → CanAgree given
  none-given given e = (λ v. 0, λ v x c. absurd (Contains-nil (v, x) (subst (λ l. Contains l (v, x)) e c)))

  pub query-long : (q : Query) (tuple head : List ℕ) → head ≡ q.head → ¬ length head ≡ length tuple → (false ≡ true) ↔ QueryHolds (finite model) q tuple
  query-long q tuple head same other =
      (λ e. absurd (true≢false (sym e)), λ h. absurd (other (ap length same ∙ head-long h.values q.head tuple h.head)))

  pub query-holds : (r : Result Bool NoMemory) (q : Query) (tuple head : List ℕ) (atoms : List Atom) (old new shown : List (ℕ × ℕ)) → head ≡ q.head
      → atoms ≡ q.atoms → old ≡ [] → shown ≡ new → Adds (λ m. GivesHead (finite model) m head tuple) old new
      → IfOk r (λ b. (b ≡ true) ↔ ForAtoms shown atoms) → IfOk r (λ b. (b ≡ true) ↔ QueryHolds (finite model) q tuple)
  query-holds r q tuple head atoms old new shown is_head is_atoms none seen adds =
      IfOk-weaker r (λ b. (b ≡ true) ↔ ForAtoms shown atoms) (λ b. (b ≡ true) ↔ QueryHolds (finite model) q tuple)
      (λ b exact. (
        λ t. let h = exact.0 t in
            record {
              values = inside h.0;
              elements = λ v lt. inside-below h.0 v;
              atoms = λ a c. inside-atom h.0 a (All-contains (AtomHolds (finite model) h.0) q.atoms a (subst (AllHold h.0) is_atoms h.2) c);
              head = inside-head h.0 q.head tuple
                  (subst (λ l. GivesHead (finite model) h.0 l tuple) is_head ((adds.exact h.0).0 (subst (Agrees h.0) seen h.1)).1);
            },
        λ h. exact.1 (
          h.values,
          subst (Agrees h.values) (sym seen) ((adds.exact h.values).1
              (λ v x c. absurd (Contains-nil (v, x) (subst (λ l. Contains l (v, x)) none c)), subst (λ l. GivesHead (finite model) h.values l tuple) (sym is_head) h.head)),
          subst (AllHold h.values) (sym is_atoms) (All-weaker (Contains q.atoms) (AtomHolds (finite model) h.values) h.atoms q.atoms (All-contains_itself q.atoms)),
        ),
      ))
