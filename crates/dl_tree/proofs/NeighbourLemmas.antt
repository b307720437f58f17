-- Outside neighbours, by the bits of role atoms.
use Rattle.std.proofs.Common.{◌≡◌, ℕ, ◌<◌, ◌^◌, Bool, true, false, not, ◌&&◌, ◌||◌, List, ◌⊎◌, length, sym, ap, ap₂, ◌∙◌, inl, inr, true≢false}
use Rattle.std.specs.List.{Contains, list_any}
use Rattle.dl_terms.specs.declared.query.Term.{Term}
use Rattle.dl_terms.specs.declared.query.Term.TheVariants.{Var, Name}
use Rattle.dl_terms.specs.declared.query.Atom.TheVariants.{Link}
use Rattle.dl_terms.specs.declared.query.Query.{Query}
use Rattle.dl_hier.proofs.QueryLemmas.{Any-of, Any-member}
use Rattle.std.proofs.lemmas.List.Folds.{Any-from_list_any, list_any-from_Any}
use Rattle.dl_tree.specs.Sets.{is_in, AreLinked, forward, backward, IsOutsideNeighbour}
use Rattle.dl_tree.specs.Masks.{set_of, bit_of, AreLinkMasks}
use Rattle.dl_tree.specs.Tests.{crosses}
use Rattle.dl_tree.proofs.FoldLemmas.{not_both, and_left, and_right, not_true, or_cases}
use Rattle.dl_tree.proofs.SplitLemmas.{has_in}

any_found : {X : Type 0} (f : X → Bool) (xs : List X) → list_any f xs ≡ true → (x : X) × Contains xs x × (f x ≡ true)
any_found f xs e = Any-member (λ x. f x ≡ true) xs (Any-from_list_any f xs e)

any_of : {X : Type 0} (f : X → Bool) (xs : List X) (x : X) → Contains xs x → f x ≡ true → list_any f xs ≡ true
any_of f xs x c h = list_any-from_Any f xs (Any-of (λ y. f y ≡ true) xs x c h)

module _ (q : Query) (ex : List ℕ) (links : List (ℕ × ℕ)) (masks : AreLinkMasks q ex links) (s : ℕ) (fits : s < 2 ^ length ex) where
  abbrev set : ℕ → Bool
  set = set_of ex s

  abbrev border : Bool → Bool → Bool
  border a b = (a && not b) || (b && not a)

  -- a role atom crosses the border of the set where one of its terms is a member
  crosses_is : (u w : Term) → crosses s (bit_of ex u, bit_of ex w) ≡ border (is_in set u) (is_in set w)
  crosses_is u w = ap₂ border (has_in ex s u fits) (has_in ex s w fits)

  of_member : (u w : Term) → is_in set u ≡ true → is_in set w ≡ false → AreLinked q u w → (t : Term) × IsOutsideNeighbour q set t
  of_member (Var v) w e g l = (w, record { outside = g; member = v; is_member = e; linked = l })
  of_member (Name a) w e g l = absurd (true≢false (sym e))

  pub neighbour : list_any (crosses s) links ≡ true → (t : Term) × IsOutsideNeighbour q set t
  neighbour e =
      let f = any_found (crosses s) links e in
      let a = masks.from f.0 f.1 in
      by a.0 a.1 a.2 a.3 (or_cases (is_in set a.1 && not (is_in set a.2)) (is_in set a.2 && not (is_in set a.1)) (sym (crosses_is a.1 a.2) ∙ sym (ap (crosses s) a.4) ∙ f.2))
    where
      by : (p : ℕ) (u w : Term) → Contains q.atoms (Link p u w)
          → ((is_in set u && not (is_in set w)) ≡ true) ⊎ ((is_in set w && not (is_in set u)) ≡ true) → (t : Term) × IsOutsideNeighbour q set t
      by p u w c (inl h) = of_member u w (and_left (is_in set u) _ h) (not_true (is_in set w) (and_right (is_in set u) _ h)) (forward c)
      by p u w c (inr h) = of_member w u (and_left (is_in set w) _ h) (not_true (is_in set u) (and_right (is_in set w) _ h)) (backward c)

  pub no_neighbour : list_any (crosses s) links ≡ false → (t : Term) → IsOutsideNeighbour q set t → ⊥
  no_neighbour e t n = by n.linked
    where
      by : AreLinked q (Var n.member) t → ⊥
      by (forward {p = p} c) =
          not_both (any_of (crosses s) links _ (masks.to p (Var n.member) t c)
          (crosses_is (Var n.member) t ∙ ap₂ border n.is_member n.outside)) e
      by (backward {p = p} c) =
          not_both (any_of (crosses s) links _ (masks.to p t (Var n.member) c)
          (crosses_is t (Var n.member) ∙ ap₂ border n.outside n.is_member)) e
