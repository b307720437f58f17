-- The pairs below what is asked depend on the members of a list of facts alone, and their set on the pairs in any order.
use Rattle.std.proofs.Common.{◌↔◌, ◌⊎◌, inl, inr, ℕ, List, ◌++◌, sym, subst}
use Rattle.std.specs.List.{Contains}
use Rattle.std.proofs.lemmas.List.Elements.{Contains-append_left, Contains-append_right, Contains-append_cases}
use Rattle.std.specs.List.Sorted.{IsPermutation}
use Rattle.std.specs.declared.cmp.Ordering.{Ordering}
use Rattle.std.proofs.lemmas.List.Sorted.{Contains-permutation, IsPermutation-sym}
use Rattle.dl_terms.specs.Sets.{IsSetOf}
use Rattle.dl_terms.specs.declared.axiom.Fact.{Fact}
use Rattle.dl_hier.specs.declared.below.Below.{Below}
use Rattle.dl_row.specs.Rows.{Epoch}
use Rattle.dl_row.specs.declared.row.Row.{Row}
use Rattle.dl_scan.specs.Pairs.{IsPairBelow, member, plain, turned, visible_facts}
use Rattle.dl_scan.proofs.FactLemmas.{facts-append}

pub pair-more : (xs ys : List Fact) (below : Below) (p : ℕ × ℕ) → ((f : Fact) → Contains xs f → Contains ys f) → IsPairBelow xs below p → IsPairBelow ys below p
pair-more xs ys below p more (member listed fact same) = member listed (more _ fact) same
pair-more xs ys below p more (plain listed fact) = plain listed (more _ fact)
pair-more xs ys below p more (turned listed fact) = turned listed (more _ fact)

-- where each fact of a list is one of two others
module _ (xs ys zs : List Fact) (below : Below) (p : ℕ × ℕ) (either : (f : Fact) → Contains zs f ↔ (Contains xs f ⊎ Contains ys f)) where
  to : IsPairBelow zs below p → IsPairBelow xs below p ⊎ IsPairBelow ys below p
  to (member {c = c} listed fact same) = elim ((either _).0 fact) [
    | inl one ↦ inl (member listed one same)
    | inr other ↦ inr (member listed other same)
  ]
  to (plain {r = r} listed fact) = elim ((either _).0 fact) [
    | inl one ↦ inl (plain listed one)
    | inr other ↦ inr (plain listed other)
  ]
  to (turned {r = r} listed fact) = elim ((either _).0 fact) [
    | inl one ↦ inl (turned listed one)
    | inr other ↦ inr (turned listed other)
  ]

  pub pair-either : IsPairBelow zs below p ↔ (IsPairBelow xs below p ⊎ IsPairBelow ys below p)
  pair-either = (
    to,
    λ h. elim h [
      | inl one ↦ pair-more xs zs below p (λ f c. (either f).1 (inl c)) one
      | inr other ↦ pair-more ys zs below p (λ f c. (either f).1 (inr c)) other
    ],
  )

pub pair-append : (epochs : List Epoch) (version : ℕ) (one two : List Row) (below : Below) (p : ℕ × ℕ)
    → IsPairBelow (visible_facts epochs version (one ++ two)) below p
    ↔ (IsPairBelow (visible_facts epochs version one) below p ⊎ IsPairBelow (visible_facts epochs version two) below p)
pair-append epochs version one two below p = pair-either xs ys (visible_facts epochs version (one ++ two)) below p (λ f. (
  λ c. Contains-append_cases xs ys f (subst (λ l. Contains l f) (facts-append epochs version one two) c),
  λ c. subst (λ l. Contains l f) (sym (facts-append epochs version one two)) (elim c [
    | inl left ↦ Contains-append_left xs ys f left
    | inr right ↦ Contains-append_right xs ys f right
  ]),
))
  where
    xs : List Fact
    xs = visible_facts epochs version one

    ys : List Fact
    ys = visible_facts epochs version two

-- the set of a list is that of the list in any order
pub set_of_moved : {A : Type 0} {cmp : A → A → Ordering} (set moved items : List A) → IsPermutation items moved → IsSetOf cmp set moved → IsSetOf cmp set items
set_of_moved set moved items same of = record {
  ascending = of.ascending;
  members = λ x. (
    λ h. Contains-permutation moved items x (IsPermutation-sym items moved same) ((of.members x).0 h),
    λ h. (of.members x).1 (Contains-permutation items moved x same h),
  );
}
