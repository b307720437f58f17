-- Numbers of names: a list that has each name at one place gives it one number.
use Rattle.std.proofs.Common.{◌≡◌, ℕ, zero, suc, ◌+◌, ◌-◌, ◌<◌, Bool, true, false, cond, ◌==◌, List, [], ◌∷◌, length, get_or, slice_get, Contains, Option, Some, None, refl, sym, ap, subst, ◌∙◌, arith}
use Rattle.std.proofs.lemmas.Bool.{eq-eqb, eqb-true}
use Rattle.dl_row.specs.Rows.{name_at, number_from, number_of}
use Rattle.dl_row.specs.declared.row.Kind.{Kind}
use Rattle.dl_row.specs.declared.row.Kind.TheVariants.{Class, Role}
use Rattle.dl_epoch.specs.Frozen.{Frozen, IsFrozen}
use Rattle.dl_epoch.proofs.EpochLemmas.{has_contains}
use Rattle.dl_epoch.proofs.NumberingLemmas.{classes_numbered, roles_numbered}
use Rattle.dl_numbers.specs.Numbers.{HasNumber}
use Rattle.dl_numbers.specs.Runs.{AreNumbered}
use Rattle.dl_migrate.specs.Naming.{names_by, signed_by}

pub some_none : {A : Type 0} {x : A} → None ≡ Some x → ⊥
some_none {A} e = subst by e tt
  where
    by : Option A → Type 0
    by None = Unit {0}
    by (Some y) = ⊥

pub some_some : {A : Type 0} {x y : A} → Some x ≡ Some y → x ≡ y
some_some {A} {x} {y} e = ap by e
  where
    by : Option A → A
    by None = x
    by (Some z) = z

-- ---- what stands at a place

get_read : (xs : List ℕ) (k x d : ℕ) → slice_get xs k ≡ Some x → (k < length xs) × (get_or xs k d ≡ x)
get_read [] k x d e = absurd (some_none e)
get_read (y ∷ xs) zero x d e = (omega arith, some_some e)
get_read (y ∷ xs) (suc k) x d e = let ih = get_read xs k x d e in (let h = ih.0 in omega (arith, h), ih.1)

get_there : (xs : List ℕ) (k d : ℕ) → k < length xs → slice_get xs k ≡ Some (get_or xs k d)
get_there [] k d h = absurd (omega (arith, h))
get_there (y ∷ xs) zero d h = refl
get_there (y ∷ xs) (suc k) d h = get_there xs k d (omega (arith, h))

-- each name stands at one place
pub record StandOnce (names : List ℕ) : Type 0 where
  pub place : (i j x : ℕ) → slice_get names i ≡ Some x → slice_get names j ≡ Some x → i ≡ j

numbered-once : (names numbered : List ℕ) → AreNumbered names numbered → StandOnce numbered
numbered-once names numbered are = record {
  place = λ i j x e f.
      let same = are.one x (i + 1) (j + 1) (number i x e) (number j x f) in
      omega (arith, same);
}
  where
    number : (k x : ℕ) → slice_get numbered k ≡ Some x → HasNumber numbered x (k + 1)
    number k x e = let back : k + 1 - 1 ≡ k = omega arith in record {
      from_one = omega arith;
      is = subst (λ n. slice_get numbered n ≡ Some x) (sym back) e;
    }

-- ---- numbers

pub number_from-suc : (n : ℕ) (names : List ℕ) (x : ℕ) → number_from (suc n) names x ≡ suc (number_from n names x)
number_from-suc n [] x = refl
number_from-suc n (y ∷ names) x = by (y == x) (number_from-suc (suc n) names x)
  where
    by : (b : Bool) → number_from (suc (suc n)) names x ≡ suc (number_from (suc n) names x)
        → cond b (suc n) (number_from (suc (suc n)) names x) ≡ suc (cond b n (number_from (suc n) names x))
    by true ih = refl
    by false ih = ih

number_at : (names : List ℕ) (k x : ℕ) → StandOnce names → slice_get names k ≡ Some x → number_from 0 names x ≡ k
number_at [] k x once e = absurd (some_none e)
number_at (y ∷ names) zero x once e = ap (λ b. cond b 0 (number_from 1 names x)) (eq-eqb y x (some_some e))
number_at (y ∷ names) (suc k) x once e = by (y == x) refl (number_at names k x (record { place = λ i j z a b. rest i j z a b }) e)
  where
    rest : (i j z : ℕ) → slice_get names i ≡ Some z → slice_get names j ≡ Some z → i ≡ j
    rest i j z a b = let h = once.place (suc i) (suc j) z a b in omega (arith, h)

    by : (b : Bool) → (y == x) ≡ b → number_from 0 names x ≡ k → cond b 0 (number_from 1 names x) ≡ suc k
    by true h ih = let s = once.place 0 (suc k) x (ap Some (eqb-true y x h)) e in absurd (omega (arith, s))
    by false h ih = number_from-suc 0 names x ∙ ap suc ih

pub number_is : (names : List ℕ) (k x : ℕ) → StandOnce names → slice_get names k ≡ Some x → number_of names x ≡ suc k
number_is names k x once e = number_from-suc 0 names x ∙ ap suc (number_at names k x once e)

-- a name has the number at which it stands
pub name_of_number : (names : List ℕ) (x : ℕ) → StandOnce names → Contains names x → name_at names (number_of names x) ≡ Some x
name_of_number names x once c =
    let there = get_there names c.0 x c.1 ∙ ap Some c.2 in
    ap (name_at names) (number_is names c.0 x once there) ∙ there

-- the name of a number, by one list, has this number by another
pub same_number : (numbered other : List ℕ) (number read result name : ℕ) → StandOnce other → HasNumber numbered read number → HasNumber other read result
    → name_at numbered number ≡ Some name → result ≡ number_of other name
same_number numbered other zero read result name once h g e = absurd (some_none e)
same_number numbered other (suc m) read zero name once h g e = let one = g.from_one in absurd (omega (arith, one))
same_number numbered other (suc m) read (suc k) name once h g e = sym (number_is other k name once (subst (λ x. slice_get other k ≡ Some x) same at))
  where
    before : (n : ℕ) → suc n - 1 ≡ n
    before n = omega arith

    same : read ≡ name
    same = some_some (sym (subst (λ n. slice_get numbered n ≡ Some read) (before m) h.is) ∙ e)

    at : slice_get other k ≡ Some read
    at = subst (λ n. slice_get other n ≡ Some read) (before k) g.is

-- ---- the numbers of an epoch

-- the names of the signature have numbers, by the rule
frozen-numbered : (e : Frozen) → IsFrozen e → (k : Kind) → AreNumbered (signed_by k e.signature) (names_by k e)
frozen-numbered e is Class = classes_numbered e.axioms e.signature.classes is.signature.classes e.classes is.class_numbers
frozen-numbered e is Role = roles_numbered e.axioms e.signature.roles is.signature.roles e.roles is.role_numbers

pub frozen-once : (e : Frozen) → IsFrozen e → (k : Kind) → StandOnce (names_by k e)
frozen-once e is k = numbered-once (signed_by k e.signature) (names_by k e) (frozen-numbered e is k)

pub frozen-has : (e : Frozen) → IsFrozen e → (k : Kind) (name : ℕ) → Contains (signed_by k e.signature) name → Contains (names_by k e) name
frozen-has e is k name c =
    let n = (frozen-numbered e is k).each name c in
    has_contains (names_by k e) name n.0 n.1
