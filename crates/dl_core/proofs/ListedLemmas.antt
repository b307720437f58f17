-- Loads of few names: a numbering gives each name once, in some order, and so one of few roots.
use Rattle.std.proofs.Common.{◌≡◌, ℕ, ◌⊎◌, inl, inr, cond, List, [], ◌∷◌, map, refl, sym, ap, ap₂, subst, ◌∙◌, arith}
use Rattle.std.specs.Ordering.{nat_cmp}
use Rattle.std.specs.List.{Contains}
use Rattle.dl_terms.proofs.OrderLemmas.{numbers_linear}
use Rattle.dl_terms.proofs.MemberLemmas.{Contains-nil, Contains-cons, Contains-first, Contains-later, Contains-one, Contains-two}
use Rattle.dl_row.specs.Lists.{ordered}
use Rattle.dl_row.specs.Rows.{Epoch, row_cmp}
use Rattle.dl_row.specs.declared.row.Kind.TheVariants as kind
use Rattle.dl_row.proofs.CountLemmas.{same_itself}
use Rattle.dl_epoch.specs.Known.{IsSignature}
use Rattle.dl_edits.specs.Sets.{has, IsOnce}
use Rattle.dl_edits.proofs.CountLemmas.{has_count}
use Rattle.dl_edits.proofs.SetLemmas.{has_there, there_has}
use Rattle.dl_edits.proofs.AscendLemmas.{signature-once}
use Rattle.dl_core.specs.History.{Load}
use Rattle.dl_core.specs.Root.{Root, IsNumbered}
use Rattle.dl_core.specs.Next.{Numbering, IsNumbering, epoch_from, row_for, loaded}

-- ---- lists that have few names, each once

abbrev HasThose : List ℕ → List ℕ → Type 0
HasThose names xs = (n : ℕ) → has nat_cmp xs n ≡ has nat_cmp names n

within : (names xs : List ℕ) → HasThose names xs → (n : ℕ) → Contains xs n → Contains names n
within names xs same n c = there_has numbers_linear names n (sym (same n) ∙ has_there numbers_linear xs n c)

all_of : (names xs : List ℕ) → HasThose names xs → (n : ℕ) → Contains names n → Contains xs n
all_of names xs same = within xs names (λ n. sym (same n))

not_again : (x : ℕ) (xs : List ℕ) → IsOnce nat_cmp (x ∷ xs) → Contains xs x → ⊥
not_again x xs once c =
    let here = ap {B = ℕ} (λ b. cond b 1 0) (same_itself numbers_linear x) in
    let there = ap {B = ℕ} (λ b. cond b 1 0) (has_there numbers_linear xs x c) in
    let least = has_count nat_cmp xs x in
    let most = once.at_most x in
    omega (arith, here, there, least, most)

rest_once : (x : ℕ) (xs : List ℕ) → IsOnce nat_cmp (x ∷ xs) → IsOnce nat_cmp xs
rest_once x xs once = record { at_most = λ z. let h = once.at_most z in omega (arith, h) }

no_item : (xs : List ℕ) → HasThose [] xs → xs ≡ []
no_item [] same = refl
no_item (x ∷ xs) same = absurd (Contains-nil x (within [] (x ∷ xs) same x (Contains-first x xs)))

one_item : (a : ℕ) (xs : List ℕ) → IsOnce nat_cmp xs → ((n : ℕ) → Contains xs n → a ≡ n) → Contains xs a → xs ≡ a ∷ []
one_item a [] once only c = absurd (Contains-nil a c)
one_item a (x ∷ []) once only c = ap (λ y. y ∷ []) (sym (only x (Contains-first x [])))
one_item a (x ∷ y ∷ ys) once only c =
    let first = only x (Contains-first x (y ∷ ys)) in
    let second = only y (Contains-later x y (y ∷ ys) (Contains-first y ys)) in
    absurd (not_again x (y ∷ ys) once (subst (Contains (y ∷ ys)) (sym second ∙ first) (Contains-first y ys)))

-- of two names the one comes first
led_by : (a b x : ℕ) (xs : List ℕ) → IsOnce nat_cmp (x ∷ xs) → ((n : ℕ) → Contains (x ∷ xs) n → (a ≡ n) ⊎ (b ≡ n))
    → Contains (x ∷ xs) b → (a ≡ b → ⊥) → a ≡ x → x ∷ xs ≡ a ∷ b ∷ []
led_by a b x xs once only c apart is = ap₂ (λ y ys. y ∷ ys) (sym is) (one_item b xs (rest_once x xs once) others there)
  where
    others : (n : ℕ) → Contains xs n → b ≡ n
    others n d = elim (only n (Contains-later x n xs d)) [
      | inl same ↦ absurd (not_again x xs once (subst (Contains xs) (sym same ∙ is) d))
      | inr same ↦ same
    ]

    there : Contains xs b
    there = elim (Contains-cons x b xs c) [ inl same ↦ absurd (apart (is ∙ same)) | inr later ↦ later ]

two_items : (a b : ℕ) (xs : List ℕ) → IsOnce nat_cmp xs → ((n : ℕ) → Contains xs n → (a ≡ n) ⊎ (b ≡ n)) → Contains xs a
    → Contains xs b → (a ≡ b → ⊥) → (xs ≡ a ∷ b ∷ []) ⊎ (xs ≡ b ∷ a ∷ [])
two_items a b [] once only ca cb apart = absurd (Contains-nil a ca)
two_items a b (x ∷ xs) once only ca cb apart = elim (only x (Contains-first x xs)) [
  | inl is ↦ inl (led_by a b x xs once only cb apart is)
  | inr is ↦ inr (led_by b a x xs once (λ n c. elim (only n c) [ inl e ↦ inr e | inr e ↦ inl e ]) ca (λ e. apart (sym e)) is)
]

-- ---- loads

-- the root of a load, by the names in number order
abbrev pub loaded_by : Load → List ℕ → List ℕ → Root
loaded_by l classes roles =
    let e : Epoch = record { id = 1; first = 1; axioms = l.axioms; signature = l.signature; classes = classes; roles = roles } in
    record {
      version = 1;
      older = [];
      current = e;
      pins = [];
      shards = l.shards;
      rows = ordered row_cmp (map (row_for e 1) l.facts);
    }

module _ (numbering : Numbering) (is : IsNumbering numbering) (l : Load) (up : IsSignature l.signature) (P : Root → Type 0) where
  numbered : IsNumbered (epoch_from numbering 1 1 l.axioms l.signature)
  numbered = is 1 1 l.axioms l.signature (signature-once l.signature up)

  loaded_is : (classes roles : List ℕ) → numbering kind.Class l.axioms l.signature ≡ classes
      → numbering kind.Role l.axioms l.signature ≡ roles → P (loaded_by l classes roles) → P (loaded numbering l)
  loaded_is classes roles c r p =
      subst (λ cs. P (loaded_by l cs (numbering kind.Role l.axioms l.signature))) (sym c)
      (subst (λ rs. P (loaded_by l classes rs)) (sym r) p)

  no_roles : l.signature.roles ≡ [] → numbering kind.Role l.axioms l.signature ≡ []
  no_roles none = no_item (numbering kind.Role l.axioms l.signature) (λ n. numbered.roles n ∙ ap (λ rs. has nat_cmp rs n) none)

  classes_of : (names : List ℕ) → l.signature.classes ≡ names → HasThose names (numbering kind.Class l.axioms l.signature)
  classes_of names are n = numbered.classes n ∙ ap (λ cs. has nat_cmp cs n) are

  -- what holds of the root of each way to number the names of a load holds of it
  pub loaded_without : l.signature.classes ≡ [] → l.signature.roles ≡ [] → P (loaded_by l [] []) → P (loaded numbering l)
  loaded_without none roles p =
      loaded_is [] [] (no_item (numbering kind.Class l.axioms l.signature) (classes_of [] none)) (no_roles roles) p

  pub loaded_one : (a : ℕ) → l.signature.classes ≡ a ∷ [] → l.signature.roles ≡ [] → P (loaded_by l (a ∷ []) []) → P (loaded numbering l)
  loaded_one a one roles p =
      let classes = numbering kind.Class l.axioms l.signature in
      let same = classes_of (a ∷ []) one in
      loaded_is (a ∷ []) []
      (one_item a classes numbered.classes_once (λ n c. Contains-one a n (within (a ∷ []) classes same n c))
      (all_of (a ∷ []) classes same a (Contains-first a []))) (no_roles roles) p

  pub loaded_two : (a b : ℕ) → (a ≡ b → ⊥) → l.signature.classes ≡ a ∷ b ∷ [] → l.signature.roles ≡ [] → P (loaded_by l (a ∷ b ∷ []) [])
      → P (loaded_by l (b ∷ a ∷ []) []) → P (loaded numbering l)
  loaded_two a b apart two roles p q = elim
      (two_items a b classes numbered.classes_once (λ n c. Contains-two a b n (within names classes same n c))
      (all_of names classes same a (Contains-first a (b ∷ [])))
      (all_of names classes same b (Contains-later a b (b ∷ []) (Contains-first b []))) apart) [
        | inl c ↦ loaded_is (a ∷ b ∷ []) [] c (no_roles roles) p
        | inr c ↦ loaded_is (b ∷ a ∷ []) [] c (no_roles roles) q
      ]
    where
      names : List ℕ
      names = a ∷ b ∷ []

      classes : List ℕ
      classes = numbering kind.Class l.axioms l.signature

      same : HasThose names classes
      same = classes_of names two
