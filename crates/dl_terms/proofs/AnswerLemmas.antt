-- The certain answers, the first broken axiom and the defined reply are determined.
use Rattle.std.proofs.Common.{◌≡◌, ℕ, suc, List, [], ◌∷◌, ◌++◌, length, refl, sym, ap, subst, ◌∙◌, arith}
use Rattle.std.specs.List.{All, Contains}
use Rattle.std.specs.declared.option.Option.{Option}
use Rattle.std.specs.declared.cmp.Ordering.{Ordering}
use Rattle.dl_terms.specs.Answers.{AreCertain}
use Rattle.dl_terms.specs.Broken.{IsMet, IsFirstBroken, NothingIsBroken}
use Rattle.dl_terms.specs.NormalForm.{negatives}
use Rattle.dl_terms.specs.Reply.{Reply, inconsistent, found, IsReply}
use Rattle.dl_terms.specs.Reply.IsReply.{is_inconsistent, is_too_many, is_found}
use Rattle.dl_terms.specs.Sets.{IsSetOf}
use Rattle.dl_terms.specs.declared.axiom.Axiom.{Axiom}
use Rattle.dl_terms.specs.declared.axiom.Fact.{Fact}
use Rattle.dl_terms.specs.declared.query.Query.{Query}
use Rattle.dl_terms.proofs.OrderLemmas.{IsLinear, lists_linear, numbers_linear}
use Rattle.dl_terms.proofs.MemberLemmas.{sorted_unique, All-Contains, Contains-first, Contains-middle}

-- two lists that are both the certain answers of a query are the same list
pub AreCertain-unique : (axioms : List Axiom) (facts : List Fact) (q : Query) (xs ys : List (List ℕ)) → AreCertain axioms facts q xs
    → AreCertain axioms facts q ys → xs ≡ ys
AreCertain-unique axioms facts q xs ys one other =
    sorted_unique (lists_linear numbers_linear) xs ys one.ascending other.ascending (λ t c. (other.exact t).1 ((one.exact t).0 c))
    (λ t c. (one.exact t).1 ((other.exact t).0 c))

-- a set's list is determined by what it is the set of
pub IsSetOf-unique : {A : Type 0} {R : A → A → Ordering} → IsLinear R → (xs ys items : List A) → IsSetOf R xs items → IsSetOf R ys items → xs ≡ ys
IsSetOf-unique l xs ys items one other =
    sorted_unique l xs ys one.ascending other.ascending (λ z c. (other.members z).1 ((one.members z).0 c))
    (λ z c. (one.members z).1 ((other.members z).0 c))

first_of : {A : Type 0} → A → List A → A
first_of x [] = x
first_of x (y ∷ ys) = y

rest_of : {A : Type 0} → List A → List A
rest_of [] = []
rest_of (x ∷ xs) = xs

All-rest : {A : Type 0} (P : A → Type 0) (x : A) (xs : List A) → All P (x ∷ xs) → All P xs
All-rest P x xs all k d h = all (suc k) d (omega arith)

-- the first item that has a property is determined
pub first_unique : {A : Type 0} (P : A → Type 0) (xs ys xs' ys' : List A) (x y : A) → xs ++ x ∷ ys ≡ xs' ++ y ∷ ys' → All (λ z. ¬ P z) xs → P x
    → All (λ z. ¬ P z) xs' → P y → x ≡ y
unfolding first_of rest_of
first_unique P [] ys [] ys' x y e none p none' q = ap (first_of x) e
first_unique P [] ys (z ∷ zs) ys' x y e none p none' q =
    absurd (All-Contains (λ w. ¬ P w) (z ∷ zs) z none' (Contains-first z zs) (subst P (ap (first_of x) e) p))
first_unique P (z ∷ zs) ys [] ys' x y e none p none' q =
    absurd (All-Contains (λ w. ¬ P w) (z ∷ zs) z none (Contains-first z zs) (subst P (sym (ap (first_of y) e)) q))
first_unique P (z ∷ zs) ys (w ∷ ws) ys' x y e none p none' q =
    first_unique P zs ys ws ys' x y (ap rest_of e) (All-rest (λ v. ¬ P v) z zs none) p (All-rest (λ v. ¬ P v) w ws none') q

-- at most one axiom is the first broken one
pub IsFirstBroken-unique : (axioms : List Axiom) (facts : List Fact) (nothing : Option ℕ) (a b : Option Axiom)
    → IsFirstBroken axioms facts nothing a → IsFirstBroken axioms facts nothing b → a ≡ b
IsFirstBroken-unique axioms facts nothing a b one other =
    ap (λ p. p.0)
    (first_unique (λ n. IsMet axioms facts n.1) one.before one.after other.before other.after (a, one.negative) (b, other.negative)
    (sym one.is_there ∙ other.is_there) one.first one.met other.first other.met)

-- where an axiom is the first broken one, something is broken
IsFirstBroken-broken : (axioms : List Axiom) (facts : List Fact) (nothing : Option ℕ) (broken : Option Axiom)
    → IsFirstBroken axioms facts nothing broken → NothingIsBroken axioms facts nothing → ⊥
IsFirstBroken-broken axioms facts nothing broken one none =
    All-Contains (λ n. ¬ IsMet axioms facts n.1) (negatives axioms nothing) (broken, one.negative) none
    (subst (λ l. Contains l (broken, one.negative)) (sym one.is_there) (Contains-middle one.before one.after (broken, one.negative))) one.met

-- there is at most one defined reply
pub IsReply-unique : (axioms : List Axiom) (facts : List Fact) (nothing : Option ℕ) (q : Query) (limit : ℕ) (a b : Reply)
    → IsReply axioms facts nothing q limit a → IsReply axioms facts nothing q limit b → a ≡ b
IsReply-unique axioms facts nothing q limit _ _ (is_inconsistent {broken = x} one) (is_inconsistent {broken = y} other) =
    ap inconsistent (IsFirstBroken-unique axioms facts nothing x y one other)
IsReply-unique axioms facts nothing q limit _ _ (is_inconsistent {broken = x} one) (is_too_many none _ _) =
    absurd (IsFirstBroken-broken axioms facts nothing x one none)
IsReply-unique axioms facts nothing q limit _ _ (is_inconsistent {broken = x} one) (is_found none _ _) =
    absurd (IsFirstBroken-broken axioms facts nothing x one none)
IsReply-unique axioms facts nothing q limit _ _ (is_too_many none _ _) (is_inconsistent {broken = y} other) =
    absurd (IsFirstBroken-broken axioms facts nothing y other none)
IsReply-unique axioms facts nothing q limit _ _ (is_too_many _ _ _) (is_too_many _ _ _) = refl
IsReply-unique axioms facts nothing q limit _ _ (is_too_many {tuples = xs} _ certain over) (is_found {tuples = ys} _ also within) =
    absurd (omega (arith, ap length (AreCertain-unique axioms facts q xs ys certain also)))
IsReply-unique axioms facts nothing q limit _ _ (is_found none _ _) (is_inconsistent {broken = y} other) =
    absurd (IsFirstBroken-broken axioms facts nothing y other none)
IsReply-unique axioms facts nothing q limit _ _ (is_found {tuples = xs} _ certain within) (is_too_many {tuples = ys} _ also over) =
    absurd (omega (arith, ap length (AreCertain-unique axioms facts q xs ys certain also)))
IsReply-unique axioms facts nothing q limit _ _ (is_found {tuples = xs} _ certain _) (is_found {tuples = ys} _ also _) =
    ap found (AreCertain-unique axioms facts q xs ys certain also)
