-- The list of the existential variables, and the bit of a variable, as loops find them.
use Rattle.std.proofs.Common.{◌≡◌, ℕ, zero, suc, ◌+◌, ◌<◌, ◌^◌, Bool, true, false, cond, ◌||◌, List, [], ◌∷◌, ◌++◌, length, get_or, nat_eq, eqb-true, refl, sym, ap, subst, ◌∙◌, arith}
use Rattle.std.specs.List.{Contains, filter, flat_map, list_any, range_with_len}
use Rattle.std.proofs.lemmas.Cmp.{nat_eq_equiv}
use Rattle.std.proofs.lemmas.List.Folds.{list_any-append}
use Rattle.std.proofs.lemmas.List.Elements.{filter-append}
use Rattle.dl_terms.specs.declared.query.Term.{Term}
use Rattle.dl_terms.specs.declared.query.Term.TheVariants.{Var}
use Rattle.dl_terms.specs.declared.query.Atom.{Atom}
use Rattle.dl_terms.specs.declared.query.Atom.TheVariants.{Is, Link}
use Rattle.dl_terms.specs.declared.query.Query.{Query}
use Rattle.dl_hier.proofs.MemberLemmas.{Contains-flat_map, Contains-flat_map_of}
use Rattle.dl_terms.proofs.MemberLemmas.{Contains-one, Contains-first, Contains-nil}
use Rattle.dl_tree.specs.Masks.{place, bit_of, atom_links, AreLinkMasks}

append-nil : (xs : List ℕ) → xs ++ [] ≡ xs
append-nil [] = refl
append-nil (x ∷ xs) = ap (λ z. x ∷ z) (append-nil xs)

pub any-flat_map : {A B : Type 0} (p : B → Bool) (f : A → List B) (xs : List A) → list_any p (flat_map f xs) ≡ list_any (λ x. list_any p (f x)) xs
any-flat_map p f [] = refl
any-flat_map p f (x ∷ xs) = list_any-append p (f x) (flat_map f xs) ∙ ap (λ b. list_any p (f x) || b) (any-flat_map p f xs)

-- one more number of a range
split : (p : ℕ → Bool) (x : ℕ) (xs : List ℕ) → filter p (x ∷ xs) ≡ cond (p x) (x ∷ []) [] ++ filter p xs
split p x xs = by (p x) refl
  where
    by : (b : Bool) → p x ≡ b → filter p (x ∷ xs) ≡ cond (p x) (x ∷ []) [] ++ filter p xs
    by true e = rw e refl
    by false e = rw e refl

range_more : (n a : ℕ) → range_with_len a (n + 1) ≡ range_with_len a n ++ (a + n) ∷ []
range_more zero a = let e : a ≡ a + 0 = omega arith in ap (λ k. k ∷ []) e
range_more (suc n) a =
    let e : a + 1 + n ≡ a + suc n = omega arith in
    let ih : range_with_len (a + 1) (n + 1) ≡ range_with_len (a + 1) n ++ (a + suc n) ∷ [] =
    range_more n (a + 1) ∙ ap (λ k. range_with_len (a + 1) n ++ k ∷ []) e in
    let l : suc n + 1 ≡ suc (n + 1) = omega arith in
    ap (range_with_len a) l ∙ ap (λ z. a ∷ z) ih

pub filter-range : (p : ℕ → Bool) (n : ℕ) → filter p (range_with_len 0 (n + 1)) ≡ filter p (range_with_len 0 n) ++ cond (p n) (n ∷ []) []
filter-range p n =
    let e : 0 + n ≡ n = omega arith in
    ap (filter p) (range_more n 0 ∙ ap (λ k. range_with_len 0 n ++ k ∷ []) e) ∙ filter-append p (range_with_len 0 n) (n ∷ [])
    ∙ ap (λ z. filter p (range_with_len 0 n) ++ z) (split p n [] ∙ append-nil (cond (p n) (n ∷ []) []))

-- the loop over the variables
pub found_next : (p : ℕ → Bool) (v : ℕ) (old new : List ℕ) → old ≡ filter p (range_with_len 0 v) → p v ≡ true → new ≡ old ++ v ∷ []
    → new ≡ filter p (range_with_len 0 (v + 1))
found_next p v old new so_far passes pushed =
    pushed ∙ ap (λ z. z ++ v ∷ []) so_far ∙ ap (λ b. filter p (range_with_len 0 v) ++ cond b (v ∷ []) []) (sym passes) ∙ sym (filter-range p v)

pub found_same : (p : ℕ → Bool) (v : ℕ) (old new : List ℕ) → old ≡ filter p (range_with_len 0 v) → p v ≡ false → new ≡ old
    → new ≡ filter p (range_with_len 0 (v + 1))
found_same p v old new so_far fails same =
    same ∙ so_far ∙ sym (append-nil (filter p (range_with_len 0 v))) ∙ ap (λ b. filter p (range_with_len 0 v) ++ cond b (v ∷ []) []) (sym fails)
    ∙ sym (filter-range p v)

-- the first place at which a variable stands
place-at : (ex : List ℕ) (v i : ℕ) → i < length ex → get_or ex i 0 ≡ v → ((k : ℕ) → k < i → get_or ex k 0 ≡ v → ⊥)
    → (list_any (nat_eq v) ex ≡ true) × (place ex v ≡ i)
place-at [] v i l e first = absurd (omega (arith, l))
place-at (x ∷ ex) v zero l e first =
    let same : nat_eq v x ≡ true = ap (nat_eq v) e ∙ nat_eq_equiv.refl v in (rw same refl, rw same refl)
place-at (x ∷ ex) v (suc i) l e first = by (nat_eq v x) refl (place-at ex v i (omega (arith, l)) e (λ k h. first (suc k) (omega (arith, h))))
  where
    by : (b : Bool) → nat_eq v x ≡ b → (list_any (nat_eq v) ex ≡ true) × (place ex v ≡ i)
        → (list_any (nat_eq v) (x ∷ ex) ≡ true) × (place (x ∷ ex) v ≡ suc i)
    by true same ih = absurd (first 0 (omega arith) (sym (eqb-true v x same)))
    by false other ih = (rw other ih.0, rw other (let p = ih.1 in omega (arith, p)))

pub bit-at : (ex : List ℕ) (v i : ℕ) → i < length ex → get_or ex i 0 ≡ v → ((k : ℕ) → k < i → get_or ex k 0 ≡ v → ⊥)
    → bit_of ex (Var v) ≡ 2 ^ i
bit-at ex v i l e first =
    let p = place-at ex v i l e first in ap (λ b. cond b (2 ^ place ex v) 0) p.0 ∙ ap (λ k. 2 ^ k) p.1

any-none : (ex : List ℕ) (v : ℕ) → ((k : ℕ) → k < length ex → get_or ex k 0 ≡ v → ⊥) → list_any (nat_eq v) ex ≡ false
any-none [] v none = refl
any-none (x ∷ ex) v none = by (nat_eq v x) refl (any-none ex v (λ k h. none (suc k) (omega (arith, h))))
  where
    by : (b : Bool) → nat_eq v x ≡ b → list_any (nat_eq v) ex ≡ false → list_any (nat_eq v) (x ∷ ex) ≡ false
    by true same ih = absurd (none 0 (omega arith) (sym (eqb-true v x same)))
    by false other ih = rw other ih

pub bit-none : (ex : List ℕ) (v : ℕ) → ((k : ℕ) → k < length ex → get_or ex k 0 ≡ v → ⊥) → bit_of ex (Var v) ≡ 0
bit-none ex v none = ap (λ b. cond b (2 ^ place ex v) 0) (any-none ex v none)

-- the bits of the role atoms of a query
pub link_masks : (q : Query) (ex : List ℕ) (links : List (ℕ × ℕ)) → links ≡ flat_map (atom_links ex) q.atoms → AreLinkMasks q ex links
link_masks q ex links is = record {
  to = λ p u w c. subst (λ l. Contains l (bit_of ex u, bit_of ex w)) (sym is)
      (Contains-flat_map_of (atom_links ex) q.atoms (Link p u w) (bit_of ex u, bit_of ex w) c (Contains-first (bit_of ex u, bit_of ex w) []));
  from = λ e c. let w = Contains-flat_map (atom_links ex) q.atoms e (subst (λ l. Contains l e) is c) in of_atom e w.0 w.1 w.2;
}
  where
    of_atom : (e : ℕ × ℕ) (a : Atom) → Contains q.atoms a → Contains (atom_links ex a) e
        → (p : ℕ) × (u : Term) × (w : Term) × Contains q.atoms (Link p u w) × (e ≡ (bit_of ex u, bit_of ex w))
    of_atom e (Is c u) h k = absurd (Contains-nil e k)
    of_atom e (Link p u w) h k = (p, u, w, h, sym (Contains-one (bit_of ex u, bit_of ex w) e k))
