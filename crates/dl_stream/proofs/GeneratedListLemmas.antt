-- Lists that grow, item by item.
use Rattle.std.proofs.Common.{◌≡◌, ℕ, ◌+◌, ◌-◌, ◌≤◌, List, [], ◌∷◌, ◌++◌, map, sym, ap, ◌∙◌, arith, append_assoc, append-nil}
use Rattle.std.specs.List.{range_with_len}
use Rattle.std.proofs.lemmas.List.FromFn.{map-range_with_len_more}

module _ {X : Type 0} (f : ℕ → X) where
  -- nothing is pushed yet
  pub none_pushed : (a : ℕ) (old : List X) → old ≡ old ++ map f (range_with_len a (a - a))
  none_pushed a old =
      let e : a - a ≡ 0 = omega arith in
      sym (ap (λ n. old ++ map f (range_with_len a n)) e ∙ append-nil old)

  -- one item more
  pub one_pushed : (a i : ℕ) (old mid new : List X) (x : X) → a ≤ i → mid ≡ old ++ map f (range_with_len a (i - a)) → new ≡ mid ++ x ∷ []
      → x ≡ f i → new ≡ old ++ map f (range_with_len a ((i + 1) - a))
  one_pushed a i old mid new x from so_far pushed is =
      let e : (i + 1) - a ≡ (i - a) + 1 = omega arith in
      pushed ∙ ap (λ l. l ++ x ∷ []) so_far ∙ append_assoc old (map f (range_with_len a (i - a))) (x ∷ [])
      ∙ ap (λ y. old ++ (map f (range_with_len a (i - a)) ++ y ∷ [])) is
      ∙ ap (λ l. old ++ l) (sym (map-range_with_len_more f a (i - a) i (omega arith)))
      ∙ ap (λ n. old ++ map f (range_with_len a n)) (sym e)
