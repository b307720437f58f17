-- Looking epochs up, the epoch that covers a version, and numbers of names.
use Rattle.std.proofs.Common.{◌≡◌, ℕ, zero, suc, ◌≤◌, ◌<◌, Bool, true, false, ◌||◌, cond, ◌==◌, nat_le, List, [], ◌∷◌, ◌++◌, find, slice_get, Contains, Option, Some, None, refl, sym, ap, subst, ◌∙◌, true≢false, arith}
use Rattle.std.specs.Ordering.{is_eq, nat_cmp}
use Rattle.std.specs.List.{AllByRecursion}
use Rattle.std.proofs.lemmas.Bool.Decides.{nat_tests}
use Rattle.std.proofs.lemmas.List.Elements.{Contains-push}
use Rattle.dl_terms.specs.declared.axiom.Fact.{Fact}
use Rattle.dl_terms.specs.declared.axiom.Fact.TheVariants.{Is, Link}
use Rattle.dl_terms.proofs.OrderLemmas.{numbers_linear}
use Rattle.dl_terms.proofs.MemberLemmas.{Contains-first, Contains-later, All-Contains}
use Rattle.dl_edits.specs.Sets.{has, IsOnce}
use Rattle.dl_row.specs.Lists.{count, last_where, first_some, InOrder}
use Rattle.dl_row.specs.Rows.{Epoch, names_of, name_at, number_from, number_of, epoch_of, fact_by, fact_named, fact_in, fact_of, covering}
use Rattle.dl_core.specs.Root.{IsNumbered, AreEpochs}
use Rattle.dl_edits.specs.Signatures.{knows}
use Rattle.dl_core.specs.Next.{row_for}
use Rattle.dl_row.specs.declared.row.Kind.{Kind}
use Rattle.dl_row.specs.declared.row.Kind.TheVariants.{Class, Role}
use Rattle.dl_row.specs.declared.row.Row.{Row}
use Rattle.dl_migrate.proofs.NameLemmas.{number_from-suc}
pub use Rattle.dl_migrate.proofs.NameLemmas.{some_none, some_some}
use Rattle.dl_edits.proofs.CountLemmas.{has_count}
use Rattle.dl_row.proofs.CountLemmas.{same_is, same_itself}

-- ---- the first item, and the last, that passes a test

module _ {A : Type 0} (p : A → Bool) where
  pub find-append_found : (xs ys : List A) (x : A) → find p xs ≡ Some x → find p (xs ++ ys) ≡ Some x
  find-append_found [] ys x e = absurd (some_none e)
  find-append_found (z ∷ xs) ys x e = by (p z) e (find-append_found xs ys x)
    where
      by : (b : Bool) → cond b (Some z) (find p xs) ≡ Some x → (find p xs ≡ Some x → find p (xs ++ ys) ≡ Some x)
          → cond b (Some z) (find p (xs ++ ys)) ≡ Some x
      by true e ih = e
      by false e ih = ih e

  pub find_is : (xs : List A) (x : A) → find p xs ≡ Some x → (p x ≡ true) × Contains xs x
  find_is [] x e = absurd (some_none e)
  find_is (z ∷ xs) x e = by (p z) refl e (find_is xs x)
    where
      by : (b : Bool) → p z ≡ b → cond b (Some z) (find p xs) ≡ Some x → (find p xs ≡ Some x → (p x ≡ true) × Contains xs x)
          → (p x ≡ true) × Contains (z ∷ xs) x
      by true d e ih = (ap p (sym (some_some e)) ∙ d, subst (Contains (z ∷ xs)) (some_some e) (Contains-first z xs))
      by false d e ih = let h = ih e in (h.0, Contains-later z x xs h.1)

  pub last_where-push : (xs : List A) (y : A) → last_where p (xs ++ y ∷ []) ≡ first_some (cond (p y) (Some y) None) (last_where p xs)
  last_where-push [] y = by (p y)
    where
      by : (b : Bool) → first_some None (cond b (Some y) None) ≡ first_some (cond b (Some y) None) None
      by true = refl
      by false = refl
  last_where-push (x ∷ xs) y =
      ap (λ o. first_some o (cond (p x) (Some x) None)) (last_where-push xs y) ∙ by (cond (p y) (Some y) None) (last_where p xs) (cond (p x) (Some x) None)
    where
      by : (a b c : Option A) → first_some (first_some a b) c ≡ first_some a (first_some b c)
      by None b c = refl
      by (Some z) b c = refl

-- ---- epochs

-- an epoch that begins later covers no earlier version
pub covering-push_later : (es : List Epoch) (e : Epoch) (v : ℕ) → nat_le e.first v ≡ false → covering (es ++ e ∷ []) v ≡ covering es v
covering-push_later es e v h = last_where-push (λ d. nat_le d.first v) es e ∙ ap (λ b. first_some (cond b (Some e) None) (covering es v)) h

pub covering-push : (es : List Epoch) (e : Epoch) (v : ℕ) → nat_le e.first v ≡ true → covering (es ++ e ∷ []) v ≡ Some e
covering-push es e v h = last_where-push (λ d. nat_le d.first v) es e ∙ ap (λ b. first_some (cond b (Some e) None) (covering es v)) h

-- the last epoch is found by its id, which no older one has
pub last_is_found : (es : List Epoch) (e : Epoch) → InOrder (λ d e. d.id < e.id) (es ++ e ∷ []) → epoch_of (es ++ e ∷ []) e.id ≡ Some e
last_is_found [] e order = ap (λ b. cond b (Some e) None) (by e.id)
  where
    by : (n : ℕ) → (n == n) ≡ true
    by n = grind (arith, nat_tests)
last_is_found (d ∷ es) e order =
    ap (λ b. cond b (Some d) (epoch_of (es ++ e ∷ []) e.id)) (by d.id e.id (last es order.0)) ∙ last_is_found es e order.1
  where
    by : (m n : ℕ) → m < n → (m == n) ≡ false
    by m n h = grind (arith, nat_tests)

    last : (xs : List Epoch) → AllByRecursion (λ c. d.id < c.id) (xs ++ e ∷ []) → d.id < e.id
    last [] all = all.0
    last (x ∷ xs) all = last xs all.1

-- ---- numbers

number_found : (names : List ℕ) (x : ℕ) → has nat_cmp names x ≡ true → slice_get names (number_from 0 names x) ≡ Some x
number_found [] x h = absurd (true≢false (sym h))
number_found (y ∷ names) x h = by (y == x) (is_eq (nat_cmp x y)) refl refl h (number_found names x)
  where
    same : (a b : ℕ) → (a == b) ≡ true → a ≡ b
    same a b h = grind (arith, nat_tests)

    other : (a b : ℕ) → (a == b) ≡ false → a ≡ b → ⊥
    other a b h e = grind (arith, nat_tests)

    by : (b c : Bool) → (y == x) ≡ b → is_eq (nat_cmp x y) ≡ c → (c || has nat_cmp names x) ≡ true
        → (has nat_cmp names x ≡ true → slice_get names (number_from 0 names x) ≡ Some x)
        → slice_get (y ∷ names) (cond b 0 (number_from 1 names x)) ≡ Some x
    by true c e d h ih = ap Some (same y x e)
    by false true e d h ih = absurd (other y x e (sym (same_is numbers_linear x y d)))
    by false false e d h ih = ap (slice_get (y ∷ names)) (number_from-suc 0 names x) ∙ ih h

-- a name has the number at which it stands
pub name_of_number : (names : List ℕ) (x : ℕ) → has nat_cmp names x ≡ true → name_at names (number_of names x) ≡ Some x
name_of_number names x h = ap (name_at names) (number_from-suc 0 names x) ∙ number_found names x h

get_has : (names : List ℕ) (n x : ℕ) → slice_get names n ≡ Some x → has nat_cmp names x ≡ true
get_has [] n x e = absurd (some_none e)
get_has (y ∷ names) zero x e =
    ap (λ b. b || has nat_cmp names x) (ap (λ z. is_eq (nat_cmp x z)) (some_some e) ∙ same_itself numbers_linear x)
get_has (y ∷ names) (suc n) x e = by (is_eq (nat_cmp x y)) (get_has names n x e)
  where
    by : (b : Bool) → has nat_cmp names x ≡ true → (b || has nat_cmp names x) ≡ true
    by true h = refl
    by false h = h

pub number_has : (names : List ℕ) (n x : ℕ) → name_at names n ≡ Some x → has nat_cmp names x ≡ true
number_has names zero x e = absurd (some_none e)
number_has names (suc n) x e = get_has names n x e

-- the current epoch is numbered
pub current_numbered : (older : List Epoch) (current : Epoch) (version : ℕ) → AreEpochs older current version → IsNumbered current
current_numbered older current version are =
    All-Contains IsNumbered (older ++ current ∷ []) current are.numbered (Contains-push older current)

-- a name stands at one place, so a number is its name's
number_unique : (names : List ℕ) (n x : ℕ) → IsOnce nat_cmp names → slice_get names n ≡ Some x → number_from 0 names x ≡ n
number_unique [] n x once e = absurd (some_none e)
number_unique (y ∷ names) zero x once e = ap (λ b. cond b 0 (number_from 1 names x)) (same y x (some_some e))
  where
    same : (a b : ℕ) → a ≡ b → (a == b) ≡ true
    same a b h = grind (arith, nat_tests)
number_unique (y ∷ names) (suc n) x once e = by (y == x) refl (number_unique names n x (record { at_most = rest }) e)
  where
    rest : (z : ℕ) → count (λ w. is_eq (nat_cmp z w)) names ≤ 1
    rest z = let h = once.at_most z in omega (arith, h)

    twice : y ≡ x → ⊥
    twice h =
        let there = has_count nat_cmp names x in
        let is = ap {B = ℕ} (λ b. cond b 1 0) (number_has names (suc n) x e) in
        let first = ap {B = ℕ} (λ b. cond b 1 0) (ap (λ z. is_eq (nat_cmp x z)) h ∙ same_itself numbers_linear x) in
        let most = once.at_most x in
        omega (arith, there, is, first, most)

    same : (a b : ℕ) → (a == b) ≡ true → a ≡ b
    same a b h = grind (arith, nat_tests)

    by : (b : Bool) → (y == x) ≡ b → number_from 0 names x ≡ n → cond b 0 (number_from 1 names x) ≡ suc n
    by true h ih = absurd (twice (same y x h))
    by false h ih = number_from-suc 0 names x ∙ ap suc ih

pub number_is : (names : List ℕ) (n x : ℕ) → IsOnce nat_cmp names → name_at names n ≡ Some x → n ≡ number_of names x
number_is names zero x once e = absurd (some_none e)
number_is names (suc n) x once e = sym (number_from-suc 0 names x ∙ ap suc (number_unique names n x once e))

-- ---- rows

-- the row of a known fact stands for it
pub row_for_stands : (es : List Epoch) (e : Epoch) (v : ℕ) (f : Fact) → epoch_of es e.id ≡ Some e → IsNumbered e → knows e.signature f ≡ true
    → fact_of es (row_for e v f) ≡ Some f
row_for_stands es e v (Is c x) found numbered known =
    ap (fact_in (row_for e v (Is c x))) found
    ∙ ap (fact_named (row_for e v (Is c x))) (name_of_number e.classes c (numbered.classes c ∙ known))
row_for_stands es e v (Link p x y) found numbered known =
    ap (fact_in (row_for e v (Link p x y))) found
    ∙ ap (fact_named (row_for e v (Link p x y))) (name_of_number e.roles p (numbered.roles p ∙ known))

-- the epoch of a row that stands for a fact, which knows it
pub row_epoch : (es : List Epoch) (r : Row) (f : Fact) → fact_of es r ≡ Some f
    → (e : Epoch) × (epoch_of es r.epoch ≡ Some e) × (IsNumbered e → knows e.signature f ≡ true)
row_epoch es r f s = by (epoch_of es r.epoch) refl s
  where
    named : (k : Kind) (o : Option ℕ) (e : Epoch) → r.kind ≡ k → name_at (names_of k e) r.number ≡ o → fact_named r o ≡ Some f → IsNumbered e → knows e.signature f ≡ true
    named k None e i n h numbered = absurd (some_none h)
    named Class (Some c) e i n h numbered =
        subst (λ g. knows e.signature g ≡ true) (sym (ap (λ k. fact_by k r.s r.o c) i) ∙ some_some h) (sym (numbered.classes c) ∙ number_has e.classes r.number c n)
    named Role (Some p) e i n h numbered =
        subst (λ g. knows e.signature g ≡ true) (sym (ap (λ k. fact_by k r.s r.o p) i) ∙ some_some h) (sym (numbered.roles p) ∙ number_has e.roles r.number p n)

    by : (o : Option Epoch) → epoch_of es r.epoch ≡ o → fact_in r o ≡ Some f
        → (e : Epoch) × (epoch_of es r.epoch ≡ Some e) × (IsNumbered e → knows e.signature f ≡ true)
    by None found h = absurd (some_none h)
    by (Some e) found h = (e, found, named r.kind (name_at (names_of r.kind e) r.number) e refl refl h)

-- a row keeps its fact where its epoch is still found
pub same_fact : (es es' : List Epoch) (r : Row) (f : Fact) → ((e : Epoch) → epoch_of es r.epoch ≡ Some e → epoch_of es' r.epoch ≡ Some e)
    → fact_of es r ≡ Some f → fact_of es' r ≡ fact_of es r
same_fact es es' r f still s = let e = row_epoch es r f s in ap (fact_in r) (still e.0 e.1 ∙ sym e.1)
