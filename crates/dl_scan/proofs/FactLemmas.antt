-- The facts of visible rows, as members of a list.
use Rattle.std.proofs.Common.{◌≡◌, ℕ, Bool, true, false, cond, ◌==◌, filter, List, [], ◌∷◌, ◌++◌, Option, Some, None, ◌⊎◌, inl, inr, refl, sym, ap, subst, ◌∙◌, true≢false}
use Rattle.std.specs.List.{Contains, filter_map, cons_option}
use Rattle.std.proofs.lemmas.List.Elements.{filter-append, filter_map-append}
use Rattle.dl_terms.specs.declared.axiom.Fact.{Fact}
use Rattle.dl_terms.proofs.MemberLemmas.{Contains-nil, Contains-cons, Contains-first, Contains-later}
use Rattle.dl_row.specs.Rows.{Epoch, fact_of, fact_by, fact_in, fact_named, name_at, names_of, visible}
use Rattle.dl_row.specs.declared.row.Row.{Row}
use Rattle.dl_scan.specs.Pairs.{visible_facts}

-- ---- members of filtered lists

pub Contains-filter : {A : Type 0} (p : A → Bool) (xs : List A) (x : A) → Contains (filter p xs) x → Contains xs x × (p x ≡ true)
Contains-filter p [] x c = absurd (Contains-nil x c)
Contains-filter {A} p (y ∷ ys) x c = by (p y) refl (Contains-filter p ys x) c
  where
    by : (b : Bool) → p y ≡ b → (Contains (filter p ys) x → Contains ys x × (p x ≡ true)) → Contains (cond b (y ∷ filter p ys) (filter p ys)) x
        → Contains (y ∷ ys) x × (p x ≡ true)
    by true e rest d = elim (Contains-cons y x (filter p ys) d) [
      | inl same ↦ (subst (Contains (y ∷ ys)) same (Contains-first y ys), subst (λ z. p z ≡ true) same e)
      | inr later ↦ let r = rest later in (Contains-later y x ys r.0, r.1)
    ]
    by false e rest d = let r = rest d in (Contains-later y x ys r.0, r.1)

pub Contains-filter_of : {A : Type 0} (p : A → Bool) (xs : List A) (x : A) → Contains xs x → p x ≡ true → Contains (filter p xs) x
Contains-filter_of p [] x c is = absurd (Contains-nil x c)
Contains-filter_of {A} p (y ∷ ys) x c is = by (p y) refl (λ d. Contains-filter_of p ys x d is) (Contains-cons y x ys c)
  where
    by : (b : Bool) → p y ≡ b → (Contains ys x → Contains (filter p ys) x) → (y ≡ x) ⊎ Contains ys x → Contains (cond b (y ∷ filter p ys) (filter p ys)) x
    by true e rest (inl same) = subst (Contains (y ∷ filter p ys)) same (Contains-first y (filter p ys))
    by true e rest (inr later) = Contains-later y x (filter p ys) (rest later)
    by false e rest (inl same) = absurd (true≢false (sym is ∙ ap p (sym same) ∙ e))
    by false e rest (inr later) = rest later

pub Contains-filter_map : {A B : Type 0} (h : A → Option B) (xs : List A) (y : B) → Contains (filter_map h xs) y → (x : A) × Contains xs x × (h x ≡ Some y)
Contains-filter_map h [] y c = absurd (Contains-nil y c)
Contains-filter_map {A} {B} h (x ∷ xs) y c = by (h x) refl (Contains-filter_map h xs y) c
  where
    by : (o : Option B) → h x ≡ o → (Contains (filter_map h xs) y → (z : A) × Contains xs z × (h z ≡ Some y)) → Contains (cons_option o (filter_map h xs)) y
        → (z : A) × Contains (x ∷ xs) z × (h z ≡ Some y)
    by (Some w) e rest d = elim (Contains-cons w y (filter_map h xs) d) [
      | inl same ↦ (x, Contains-first x xs, e ∙ ap Some same)
      | inr later ↦ let r = rest later in (r.0, Contains-later x r.0 xs r.1, r.2)
    ]
    by None e rest d = let r = rest d in (r.0, Contains-later x r.0 xs r.1, r.2)

pub Contains-filter_map_of : {A B : Type 0} (h : A → Option B) (xs : List A) (x : A) (y : B) → Contains xs x → h x ≡ Some y → Contains (filter_map h xs) y
Contains-filter_map_of h [] x y c is = absurd (Contains-nil x c)
Contains-filter_map_of {A} {B} h (z ∷ zs) x y c is = by (h z) refl (λ d. Contains-filter_map_of h zs x y d is) (Contains-cons z x zs c)
  where
    by : (o : Option B) → h z ≡ o → (Contains zs x → Contains (filter_map h zs) y) → (z ≡ x) ⊎ Contains zs x → Contains (cons_option o (filter_map h zs)) y
    by (Some w) e rest (inl same) =
        let is_it : Some w ≡ Some y = sym e ∙ ap h same ∙ is in
        let equal : w ≡ y = cc in
        subst (Contains (w ∷ filter_map h zs)) equal (Contains-first w (filter_map h zs))
    by (Some w) e rest (inr later) = Contains-later w y (filter_map h zs) (rest later)
    by None e rest (inl same) = let is_it : None ≡ Some y = sym e ∙ ap h same ∙ is in absurd (cc)
    by None e rest (inr later) = rest later

-- ---- the facts of visible rows

-- a visible row stands for the fact
pub record IsSaid (epochs : List Epoch) (version : ℕ) (rows : List Row) (f : Fact) : Type 0 where
  pub row : Row
  pub there : Contains rows row
  pub seen : visible version row ≡ true
  pub stands : fact_of epochs row ≡ Some f

module _ (epochs : List Epoch) (version : ℕ) (rows : List Row) (f : Fact) where
  pub said : Contains (visible_facts epochs version rows) f → IsSaid epochs version rows f
  said c =
      let w = Contains-filter_map (fact_of epochs) (filter (visible version) rows) f c in
      let v = Contains-filter (visible version) rows w.0 w.1 in
      record { row = w.0; there = v.0; seen = v.1; stands = w.2 }

  pub said_of : IsSaid epochs version rows f → Contains (visible_facts epochs version rows) f
  said_of s =
      Contains-filter_map_of (fact_of epochs) (filter (visible version) rows) s.row f (Contains-filter_of (visible version) rows s.row s.there s.seen) s.stands

-- what a row says that stands for a fact by an epoch
pub record IsNamed (e : Epoch) (row : Row) (f : Fact) : Type 0 where
  pub name : ℕ
  pub epoch : (e.id == row.epoch) ≡ true
  pub numbered : name_at (names_of row.kind e) row.number ≡ Some name
  pub is : fact_by row.kind row.s row.o name ≡ f

pub named : (e : Epoch) (row : Row) (f : Fact) → fact_of (e ∷ []) row ≡ Some f → IsNamed e row f
named e row f h = by (e.id == row.epoch) refl h
  where
    with_name : (o : Option ℕ) → name_at (names_of row.kind e) row.number ≡ o → (e.id == row.epoch) ≡ true → fact_named row o ≡ Some f → IsNamed e row f
    with_name (Some name) numbered same is = record { name = name; epoch = same; numbered = numbered; is = cc }
    with_name None numbered same is = cc

    by : (b : Bool) → (e.id == row.epoch) ≡ b → fact_in row (cond b (Some e) None) ≡ Some f → IsNamed e row f
    by true same is = with_name (name_at (names_of row.kind e) row.number) refl same is
    by false same is = cc

pub named_of : (e : Epoch) (row : Row) (f : Fact) → IsNamed e row f → fact_of (e ∷ []) row ≡ Some f
named_of e row f n = ap (λ b. fact_in row (cond b (Some e) None)) n.epoch ∙ ap (fact_named row) n.numbered ∙ ap Some n.is

-- ---- rows of two lists

module _ (epochs : List Epoch) (version : ℕ) (one two : List Row) where
  pub facts-append : visible_facts epochs version (one ++ two) ≡ visible_facts epochs version one ++ visible_facts epochs version two
  facts-append =
      ap (filter_map (fact_of epochs)) (filter-append (visible version) one two)
      ∙ filter_map-append (fact_of epochs) (filter (visible version) one) (filter (visible version) two)

-- without an epoch no row stands for a fact
pub no_facts : (version : ℕ) (rows : List Row) (f : Fact) → Contains (visible_facts [] version rows) f → ⊥
no_facts version rows f c = let s = said [] version rows f c in let h = s.stands in cc
