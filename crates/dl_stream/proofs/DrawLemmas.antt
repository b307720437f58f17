-- Draws, and the facts that are drawn one after the other.
use Rattle.std.proofs.Common.{◌≡◌, ℕ, suc, ◌/◌, false, cond, refl, ◌==◌, ◌+◌, ◌-◌, ◌*◌, ◌%◌, ◌^◌, ◌<◌, List, [], ◌∷◌, ◌++◌, sym, ap, ◌∙◌, arith, append_assoc}
use Rattle.std.proofs.lemmas.Bool.{ne_eqb}
use Rattle.std.proofs.Math.Nat.{mod-add-mod}
use Rattle.dl_terms.specs.declared.axiom.Fact.{Fact}
use Rattle.dl_terms.specs.declared.axiom.Fact.TheVariants as fact
use Rattle.dl_stream.specs.Generator.{next_state, drawn, individual, role, drawn_fact, behind_fact, drawn_facts}

-- the state after a draw, modulo 2^64 at each step
pub next_state-wraps : (x : ℕ) → (x * 6364136223846793005 % 2 ^ 64 + 1442695040888963407) % 2 ^ 64 ≡ next_state x
unfolding next_state
next_state-wraps x = mod-add-mod (x * 6364136223846793005) (2 ^ 64) 1442695040888963407

pub drawn-number : (k x : ℕ) → x / 2 ^ 33 % k ≡ drawn k x
unfolding drawn
drawn-number k x = refl

-- what a draw gives at a state that another name has
moved : (k n x y : ℕ) → n ≡ drawn k x → x ≡ y → n ≡ drawn k y
moved k n x y is same = is ∙ ap (drawn k) same

-- states one after the other
pub record AreNext (x one two three : ℕ) : Type 0 where
  pub first : one ≡ next_state x
  pub second : two ≡ next_state one
  pub third : three ≡ next_state two

module _ (x one two three : ℕ) (next : AreNext x one two three) where
  two_is : two ≡ next_state (next_state x)
  two_is = next.second ∙ ap next_state next.first

  three_is : three ≡ next_state (next_state (next_state x))
  three_is = next.third ∙ ap next_state two_is

  module _ (size kind : ℕ) (is_kind : kind ≡ drawn 2 one) where
    kind_is : kind ≡ drawn 2 (next_state x)
    kind_is = moved 2 kind one (next_state x) is_kind next.first

    -- a class and an individual
    pub class_fact : (c w : ℕ) → kind ≡ 0 → c ≡ drawn 32 two → w ≡ drawn size three → fact.Is c (32 + w) ≡ drawn_fact size x
    unfolding drawn_fact
    class_fact c w none is_c is_w =
        (λ i. fact.Is (moved 32 c two (next_state (next_state x)) is_c two_is i)
        (32 + moved size w three (next_state (next_state (next_state x))) is_w three_is i))
        ∙ ap (λ n. cond (n == 0) (fact.Is (drawn 32 (next_state (next_state x))) (individual (drawn size (next_state (next_state (next_state x))))))
        (fact.Link (role size (drawn 8 (next_state (next_state x)))) (individual (drawn size (next_state (next_state (next_state x)))))
        (individual (drawn size (next_state (next_state (next_state (next_state x))))))))
        (sym none ∙ kind_is)

    pub behind_class : kind ≡ 0 → three ≡ behind_fact size x
    unfolding behind_fact
    behind_class none =
        three_is
        ∙ ap (λ n. cond (n == 0) (next_state (next_state (next_state x))) (next_state (next_state (next_state (next_state x)))))
        (sym none ∙ kind_is)

    -- a role and two individuals
    module _ (four : ℕ) (fourth : four ≡ next_state three) (some : kind ≡ 0 → ⊥) where
      four_is : four ≡ next_state (next_state (next_state (next_state x)))
      four_is = fourth ∙ ap next_state three_is

      a_link : (drawn 2 (next_state x) == 0) ≡ false
      a_link = ap (λ n. n == 0) (sym kind_is) ∙ ne_eqb kind 0 some

      pub link_fact : (p v w : ℕ) → p ≡ drawn 8 two → v ≡ drawn size three → w ≡ drawn size four
          → fact.Link (32 + size + p) (32 + v) (32 + w) ≡ drawn_fact size x
      unfolding drawn_fact
      link_fact p v w is_p is_v is_w =
          (λ i. fact.Link (32 + size + moved 8 p two (next_state (next_state x)) is_p two_is i)
          (32 + moved size v three (next_state (next_state (next_state x))) is_v three_is i)
          (32 + moved size w four (next_state (next_state (next_state (next_state x)))) is_w four_is i))
          ∙ ap (λ b. cond b (fact.Is (drawn 32 (next_state (next_state x))) (individual (drawn size (next_state (next_state (next_state x))))))
          (fact.Link (role size (drawn 8 (next_state (next_state x)))) (individual (drawn size (next_state (next_state (next_state x)))))
          (individual (drawn size (next_state (next_state (next_state (next_state x))))))))
          (sym a_link)

      pub behind_link : four ≡ behind_fact size x
      unfolding behind_fact
      behind_link =
          four_is
          ∙ ap (λ b. cond b (next_state (next_state (next_state x))) (next_state (next_state (next_state (next_state x)))))
          (sym a_link)

module _ (size : ℕ) where
  drawn_facts-first : (x i n : ℕ) → i < n
      → drawn_facts size x (n - i) ≡ drawn_fact size x ∷ drawn_facts size (behind_fact size x) (n - (i + 1))
  drawn_facts-first x i n more = let e : n - i ≡ suc (n - (i + 1)) = omega arith in ap (drawn_facts size x) e

  -- one fact more
  pub facts_next : (all facts more : List Fact) (x y i n : ℕ) (f : Fact) → i < n
      → all ≡ facts ++ drawn_facts size x (n - i) → f ≡ drawn_fact size x → y ≡ behind_fact size x → more ≡ facts ++ f ∷ []
      → all ≡ more ++ drawn_facts size y (n - (i + 1))
  facts_next all facts more x y i n f left so_far is behind pushed =
      so_far ∙ ap (λ l. facts ++ l) (drawn_facts-first x i n left)
      ∙ sym (append_assoc facts (drawn_fact size x ∷ []) (drawn_facts size (behind_fact size x) (n - (i + 1))))
      ∙ ap (λ g. (facts ++ g ∷ []) ++ drawn_facts size (behind_fact size x) (n - (i + 1))) (sym is)
      ∙ ap (λ l. l ++ drawn_facts size (behind_fact size x) (n - (i + 1))) (sym pushed)
      ∙ ap (λ s. more ++ drawn_facts size s (n - (i + 1))) (sym behind)
