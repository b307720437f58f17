-- Parts taken off a set, one after another, until nothing is left.
use Rattle.std.proofs.Common.{◌≡◌, ℕ, ◌<◌, ◌≤◌, ◌^◌, Bool, true, false, not, List, [], ◌∷◌, ◌++◌, length, map, nat_eq, bit_and, refl, sym, ap, subst, ◌∙◌, arith}
use Rattle.std.specs.Int.{bit_not, w8}
use Rattle.std.specs.List.{All}
use Rattle.std.proofs.lemmas.Nat.{and_le_l}
use Rattle.std.proofs.lemmas.Nat.Bits.{bit_at-zero}
use Rattle.std.proofs.lemmas.List.Elements.{All-push}
use Rattle.std.proofs.Math.Pow.{pow_mono}
use Rattle.dl_terms.specs.declared.query.Query.{Query}
use Rattle.dl_tree.specs.Sets.{IsConnected}
use Rattle.dl_tree.specs.Below.{minus, IsClosedIn}
use Rattle.dl_tree.specs.Masks.{place, set_of}
use Rattle.dl_tree.proofs.FoldLemmas.{not_both, and_right, not_true}
use Rattle.dl_tree.proofs.SubsetLemmas.{set_of_minus, minus_fits}
use Rattle.dl_rewrite.specs.Parts.{AreParts}
use Rattle.dl_rewrite.specs.Steps.{ArePartsOf}

-- the parts that were taken off, and what is left
pub record AreTaken (q : Query) (ex : List ℕ) (set rest : ℕ) (parts : List ℕ) : Type 0 where
  pub fits : rest < 2 ^ length ex
  pub fit : All (λ m. m < 2 ^ length ex) parts
  pub cut : (cs : List (ℕ → Bool)) → AreParts q (set_of ex rest) cs → AreParts q (set_of ex set) (map (set_of ex) parts ++ cs)

joined : (f : ℕ → ℕ → Bool) (parts : List ℕ) (m : ℕ) (cs : List (ℕ → Bool)) → map f (parts ++ m ∷ []) ++ cs ≡ map f parts ++ f m ∷ cs
joined f [] m cs = refl
joined f (x ∷ parts) m cs = ap (λ z. f x ∷ z) (joined f parts m cs)

append-nil : (xs : List (ℕ → Bool)) → xs ++ [] ≡ xs
append-nil [] = refl
append-nil (x ∷ xs) = ap (λ z. x ∷ z) (append-nil xs)

pub AreTaken-none : (q : Query) (ex : List ℕ) (set : ℕ) → set < 2 ^ length ex → (parts : List ℕ) → parts ≡ [] → AreTaken q ex set set parts
AreTaken-none q ex set fits parts none = record {
  fits = fits;
  fit = subst (All (λ m. m < 2 ^ length ex)) (sym none) (λ k d l. absurd (omega (arith, l)));
  cut = λ cs are. subst (λ ps. AreParts q (set_of ex set) (map (set_of ex) ps ++ cs)) (sym none) are;
}

byte : (ex : List ℕ) (m : ℕ) → length ex ≤ 8 → m < 2 ^ length ex → m < 2 ^ 8
byte ex m few fits = let p : 2 ^ length ex ≤ 2 ^ 8 = pow_mono few in omega (arith, fits, p)

module _ (q : Query) (ex : List ℕ) (set rest part : ℕ) (few : length ex ≤ 8) (fits : rest < 2 ^ length ex) (part_fits : part < 2 ^ length ex)
    (connected : IsConnected q (set_of ex part)) (closed : IsClosedIn q (set_of ex part) (set_of ex rest)) where
  left : set_of ex (bit_and rest (bit_not w8 part)) ≡ minus (set_of ex rest) (set_of ex part)
  left = set_of_minus ex rest part few fits (byte ex part few part_fits)

  pub AreTaken-push : (old new : List ℕ) → AreTaken q ex set rest old → new ≡ old ++ part ∷ []
      → AreTaken q ex set (bit_and rest (bit_not w8 part)) new
  AreTaken-push old new h pushed = record {
    fits = minus_fits ex rest (bit_not w8 part) fits;
    fit = subst (All (λ m. m < 2 ^ length ex)) (sym pushed) (All-push (λ m. m < 2 ^ length ex) old part h.fit part_fits);
    cut = λ cs are.
        subst (λ ps. AreParts q (set_of ex set) (map (set_of ex) ps ++ cs)) (sym pushed)
        (subst (AreParts q (set_of ex set)) (sym (joined (set_of ex) old part cs))
        (h.cut (set_of ex part ∷ cs) (connected, closed, subst (λ s. AreParts q s cs) left are)));
  }

  -- less is left
  pub fewer : bit_and rest (bit_not w8 part) < rest
  fewer = by (bit_and rest (bit_not w8 part)) rest (and_le_l rest (bit_not w8 part)) other
    where
      v : ℕ
      v = connected.member

      other : bit_and rest (bit_not w8 part) ≡ rest → ⊥
      other e =
          let inside : set_of ex rest connected.member ≡ true = closed.within connected.member connected.is_member in
          let gone : minus (set_of ex rest) (set_of ex part) connected.member ≡ true =
          subst (λ s. s connected.member ≡ true) (sym (ap (set_of ex) e) ∙ left) inside in
          not_both connected.is_member (not_true (set_of ex part connected.member) (and_right (set_of ex rest connected.member) (not (set_of ex part connected.member)) gone))

      by : (a b : ℕ) → a ≤ b → (a ≡ b → ⊥) → a < b
      by a b l n = grind arith

nothing : (ex : List ℕ) (v : ℕ) → set_of ex 0 v ≡ false
nothing ex v = ap (λ n. nat_eq n 1) (bit_at-zero (place ex v))

pub AreTaken-all : (q : Query) (ex : List ℕ) (set rest : ℕ) (parts : List ℕ) → AreTaken q ex set rest parts → rest ≡ 0 → ArePartsOf q ex set parts
AreTaken-all q ex set rest parts h none = record {
  cut = subst (AreParts q (set_of ex set)) (append-nil (map (set_of ex) parts))
      (h.cut [] (λ v. subst (λ r. set_of ex r v ≡ false) (sym none) (nothing ex v)));
  fit = h.fit;
}
