-- The rule of numbers, as far as the core rests on it: it tells one list, which has each name once, and there is one
-- for the names of every signature, under any axioms. It rests on what dl_numbers says of the rule.
use Rattle.std.proofs.Common.{◌≡◌, ℕ, ◌+◌, ◌≤◌, ◌↔◌, Bool, true, false, cond, List, [], ◌∷◌, refl, sym, ap, ◌∙◌, true≢false, arith}
use Rattle.std.specs.Ordering.{nat_cmp, is_eq}
use Rattle.std.specs.List.{Contains}
use Rattle.std.specs.List.Sorted.{IsStrictlyIncreasing}
use Rattle.std.proofs.lemmas.Map.Keys.{IsStrictlyIncreasing-from_sorted}
use Rattle.dl_terms.specs.Below.{RoleBelow, ConceptBelow}
use Rattle.dl_terms.specs.Roles.{named}
use Rattle.dl_terms.specs.declared.axiom.Axiom.{Axiom}
use Rattle.dl_terms.specs.declared.role.Basic.TheVariants as basic
use Rattle.dl_terms.proofs.OrderLemmas.{numbers_linear}
use Rattle.dl_terms.proofs.BelowLemmas.{RoleBelow-refl, RoleBelow-trans, ConceptBelow-refl, ConceptBelow-trans}
use Rattle.dl_hier.proofs.DecidedLemmas.{Decided, role_decided, concept_decided}
use Rattle.dl_numbers.specs.Rule.{IsByRule}
use Rattle.dl_numbers.proofs.ListLemmas.{IsDistinct}
use Rattle.dl_numbers.proofs.ByRuleLemmas.{rule_is_one, rule_members, rule_distinct, rule_names, numbers_exist}
use Rattle.dl_row.specs.Lists.{count}
use Rattle.dl_row.specs.declared.row.Kind.TheVariants as kind
use Rattle.dl_row.proofs.CountLemmas.{same_is}
use Rattle.dl_epoch.specs.Frozen.{Frozen, IsFrozen, from_version}
use Rattle.dl_edits.specs.Sets.{has, with_items, IsOnce}
use Rattle.dl_edits.proofs.CountLemmas.{has_not}
use Rattle.dl_edits.proofs.SetLemmas.{has_there, there_has}
use Rattle.dl_edits.proofs.SetOfLemmas.{set_exists}
use Rattle.dl_core.specs.Next.{Numbering, epoch_from, IsNumbering, GoesByRule}

-- ---- lists of names

has_same : (xs ys : List ℕ) → ((n : ℕ) → Contains xs n ↔ Contains ys n) → (name : ℕ) → has nat_cmp xs name ≡ has nat_cmp ys name
has_same xs ys same name = by (has nat_cmp xs name) (has nat_cmp ys name) refl refl
  where
    by : (a b : Bool) → has nat_cmp xs name ≡ a → has nat_cmp ys name ≡ b → a ≡ b
    by true true e f = refl
    by true false e f =
        absurd (true≢false (sym (has_there numbers_linear ys name ((same name).0 (there_has numbers_linear xs name e))) ∙ f))
    by false true e f =
        absurd (true≢false (sym (has_there numbers_linear xs name ((same name).1 (there_has numbers_linear ys name f))) ∙ e))
    by false false e f = refl

distinct_once : (xs : List ℕ) → IsDistinct xs → IsOnce nat_cmp xs
distinct_once xs once = record { at_most = at_most xs once }
  where
    not_there : (b : Bool) (x : ℕ) (xs : List ℕ) → has nat_cmp xs x ≡ b → (Contains xs x → ⊥) → b ≡ false
    not_there true x xs e absent = absurd (absent (there_has numbers_linear xs x e))
    not_there false x xs e absent = refl

    at_most : (xs : List ℕ) → IsDistinct xs → (z : ℕ) → count (λ y. is_eq (nat_cmp z y)) xs ≤ 1
    at_most [] once z = omega arith
    at_most (x ∷ xs) once z = by (is_eq (nat_cmp z x)) refl (at_most xs once.1 z)
      where
        by : (b : Bool) → is_eq (nat_cmp z x) ≡ b → count (λ y. is_eq (nat_cmp z y)) xs ≤ 1
            → cond b 1 0 + count (λ y. is_eq (nat_cmp z y)) xs ≤ 1
        by true e rest =
            let none = has_not nat_cmp xs z (ap (has nat_cmp xs) (same_is numbers_linear z x e) ∙ not_there (has nat_cmp xs x) x xs refl once.0) in
            omega (arith, none)
        by false e rest = omega (arith, rest)

-- ---- the rule

-- for an order that is decided, over names in any order: the rule speaks of the set of them
module _ (names : List ℕ) (Below : ℕ → ℕ → Type 0) (same : (a : ℕ) → Below a a)
    (through : (a b c : ℕ) → Below a b → Below b c → Below a c) (decided : (a b : ℕ) → Decided (Below a b)) where
  set : List ℕ
  set = with_items nat_cmp names []

  set_up : IsStrictlyIncreasing set
  unfolding set
  set_up = IsStrictlyIncreasing-from_sorted set (set_exists numbers_linear names).ascending

  set_names : (n : ℕ) → Contains set n ↔ Contains names n
  unfolding set
  set_names = (set_exists numbers_linear names).members

  over_set : (numbered : List ℕ) → IsByRule names Below numbered → IsByRule set Below numbered
  over_set = rule_members names set Below (λ n. ((set_names n).1, (set_names n).0))

  numbered_names : (numbered : List ℕ) → IsByRule names Below numbered → (n : ℕ) → Contains numbered n ↔ Contains names n
  numbered_names numbered is n =
      let found = rule_names set set_up Below same through decided numbered (over_set numbered is) n in
      ((λ c. (set_names n).0 (found.0 c)), (λ c. found.1 ((set_names n).1 c)))

  pub rule_has : (numbered : List ℕ) → IsByRule names Below numbered → (name : ℕ) → has nat_cmp numbered name ≡ has nat_cmp names name
  rule_has numbered is = has_same numbered names (numbered_names numbered is)

  pub rule_once : (numbered : List ℕ) → IsByRule names Below numbered → IsOnce nat_cmp numbered
  rule_once numbered is =
      distinct_once numbered (rule_distinct set set_up Below same through decided numbered (over_set numbered is))

  numbers_of : (numbered : List ℕ) × IsByRule names Below numbered
  numbers_of =
      let found = numbers_exist set set_up Below same through decided in
      (found.0, rule_members set names Below set_names found.0 found.1)

-- ---- the orders of classes and of roles

module _ (axioms : List Axiom) (names : List ℕ) where
  abbrev ClassBelow : ℕ → ℕ → Type 0
  ClassBelow c d = ConceptBelow axioms (basic.Class c) (basic.Class d)

  abbrev NamedBelow : ℕ → ℕ → Type 0
  NamedBelow p q = RoleBelow axioms (named p) (named q)

  class_same : (c : ℕ) → ClassBelow c c
  class_same c = ConceptBelow-refl axioms (basic.Class c)

  class_through : (b c d : ℕ) → ClassBelow b c → ClassBelow c d → ClassBelow b d
  class_through b c d below above = ConceptBelow-trans axioms below above

  class_decided : (c d : ℕ) → Decided (ClassBelow c d)
  class_decided c d = concept_decided axioms (basic.Class c) (basic.Class d)

  named_same : (p : ℕ) → NamedBelow p p
  named_same p = RoleBelow-refl axioms (named p)

  named_through : (p q r : ℕ) → NamedBelow p q → NamedBelow q r → NamedBelow p r
  named_through p q r below above = RoleBelow-trans axioms below above

  named_decided : (p q : ℕ) → Decided (NamedBelow p q)
  named_decided p q = role_decided axioms (named p) (named q)

  class_has : (numbered : List ℕ) → IsByRule names ClassBelow numbered → (name : ℕ) → has nat_cmp numbered name ≡ has nat_cmp names name
  class_has = rule_has names ClassBelow class_same class_through class_decided

  class_once : (numbered : List ℕ) → IsByRule names ClassBelow numbered → IsOnce nat_cmp numbered
  class_once = rule_once names ClassBelow class_same class_through class_decided

  class_numbers : (numbered : List ℕ) × IsByRule names ClassBelow numbered
  class_numbers = numbers_of names ClassBelow class_same class_through class_decided

  role_has : (numbered : List ℕ) → IsByRule names NamedBelow numbered → (name : ℕ) → has nat_cmp numbered name ≡ has nat_cmp names name
  role_has = rule_has names NamedBelow named_same named_through named_decided

  role_once : (numbered : List ℕ) → IsByRule names NamedBelow numbered → IsOnce nat_cmp numbered
  role_once = rule_once names NamedBelow named_same named_through named_decided

  role_numbers : (numbered : List ℕ) × IsByRule names NamedBelow numbered
  role_numbers = numbers_of names NamedBelow named_same named_through named_decided

-- ---- the numbers of an epoch

module _ (e : Frozen) (frozen : IsFrozen e) where
  pub classes_once : IsOnce nat_cmp e.classes
  classes_once = class_once e.axioms e.signature.classes e.classes frozen.class_numbers

  pub roles_once : IsOnce nat_cmp e.roles
  roles_once = role_once e.axioms e.signature.roles e.roles frozen.role_numbers

-- ---- a numbering by the rule

pub rule_is_numbering : (numbering : Numbering) → GoesByRule numbering → IsNumbering numbering
rule_is_numbering numbering rule id first axioms s once =
    let classes = rule.classes axioms s in
    let roles = rule.roles axioms s in
    record {
      classes = class_has axioms s.classes (numbering kind.Class axioms s) classes;
      roles = role_has axioms s.roles (numbering kind.Role axioms s) roles;
      classes_once = class_once axioms s.classes (numbering kind.Class axioms s) classes;
      roles_once = role_once axioms s.roles (numbering kind.Role axioms s) roles;
      signature = once;
    }

-- a built epoch is the one that the numbering gives
pub ruled_epoch : (numbering : Numbering) → GoesByRule numbering → (e : Frozen) → IsFrozen e → (first : ℕ)
    → from_version first e ≡ epoch_from numbering e.id first e.axioms e.signature
ruled_epoch numbering rule e frozen first =
    let classes =
    rule_is_one e.signature.classes (λ c d. ConceptBelow e.axioms (basic.Class c) (basic.Class d)) e.classes _
    frozen.class_numbers (rule.classes e.axioms e.signature) in
    let roles =
    rule_is_one e.signature.roles (λ p q. RoleBelow e.axioms (named p) (named q)) e.roles _
    frozen.role_numbers (rule.roles e.axioms e.signature) in
    (λ i. record {
      id = e.id;
      first = first;
      axioms = e.axioms;
      signature = e.signature;
      classes = classes i;
      roles = roles i;
    })

-- there is a numbering by the rule
pub rule_exists : (numbering : Numbering) × GoesByRule numbering
rule_exists = (
  numbering,
  record {
    classes = λ axioms s. (class_numbers axioms s.classes).1;
    roles = λ axioms s. (role_numbers axioms s.roles).1;
  },
)
  where
    numbering : Numbering
    numbering kind.Class axioms s = (class_numbers axioms s.classes).0
    numbering kind.Role axioms s = (role_numbers axioms s.roles).0
