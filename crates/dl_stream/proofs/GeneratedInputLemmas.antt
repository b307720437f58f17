-- The generated input meets what loading, printing and asking want of it.
use Rattle.std.proofs.Common.{ℕ, zero, suc, ◌+◌, ◌*◌, ◌/◌, ◌<◌, ◌≤◌, Bool, true, false, cond, List, [], ◌∷◌, ◌++◌, All, map, ◌==◌, refl, arith}
use Rattle.std.specs.List.{AllByRecursion, Contains, range_with_len}
use Rattle.std.proofs.lemmas.List.Elements.{All-nil, All-cons, All-append, All-from_recursion}
use Rattle.dl_terms.specs.declared.axiom.Axiom.{Axiom}
use Rattle.dl_terms.specs.declared.axiom.Fact.TheVariants as fact
use Rattle.dl_terms.specs.Auxiliaries.{HasNoAuxiliary, PartHasNoAuxiliary}
use Rattle.dl_terms.specs.Occurring.{axiom_names, fact_names}
use Rattle.dl_terms.specs.Queries.{IsWellFormed}
use Rattle.dl_text.specs.NameText.{AreBelow}
use Rattle.dl_event.specs.Auxiliaries.{ItemHasNoAuxiliary}
use Rattle.dl_stream.specs.Commands.{ItemBelow, CommandBelow}
use Rattle.dl_stream.specs.Generator.{next_state, drawn, individual, role, class_below, role_below, class_filled, first_domain, generated_axioms, generated_edits, drawn_fact, behind_fact, drawn_facts, generated_query, generated_commands}

-- what holds of each item that is made, holds of all
all_made : {X : Type 0} (P : X → Type 0) (f : ℕ → X) (a n : ℕ) → ((i : ℕ) → a ≤ i → i < a + n → P (f i)) → All P (map f (range_with_len a n))
all_made P f a zero h = All-nil P
all_made P f a (suc n) h =
    All-cons P (f a) (map f (range_with_len (a + 1) n)) (h a (omega arith) (omega arith))
    (all_made P f (a + 1) n (λ i low high. h i (omega (arith, low)) (omega (arith, high))))

-- of all axioms, from each kind of them
all_axioms : (P : Axiom → Type 0) (size : ℕ) → ((i : ℕ) → 1 ≤ i → i < 32 → P (class_below i)) → ((j : ℕ) → j < 8 → P (role_below size j))
    → ((j : ℕ) → j < 8 → P (class_filled size j)) → P (first_domain size) → All P (generated_axioms size)
all_axioms P size classes roles filled domain =
    let one = all_made P class_below 1 31 classes in
    let two = all_made P (role_below size) 1 7 (λ j low high. roles j high) in
    let three = all_made P (class_filled size) 0 8 (λ j low high. filled j high) in
    let last = All-cons P (first_domain size) [] domain (All-nil P) in
    let c = map class_below (range_with_len 1 31) in
    let r = map (role_below size) (range_with_len 1 7) in
    let f = map (class_filled size) (range_with_len 0 8) in
    All-append P (c ++ r ++ f) (first_domain size ∷ []) (All-append P (c ++ r) f (All-append P c r one two) three) last

below : (count : ℕ) (xs : List ℕ) → AllByRecursion (λ n. n < count) xs → AreBelow count xs
below count xs h = All-from_recursion (λ n. n < count) xs h

pub axioms_without_auxiliary : (size : ℕ) → All HasNoAuxiliary (generated_axioms size)
axioms_without_auxiliary size =
    all_axioms HasNoAuxiliary size
    (λ i low high. (tt, All-cons PartHasNoAuxiliary _ [] tt (All-nil PartHasNoAuxiliary)))
    (λ j high. (tt, tt))
    (λ j high. (tt, All-cons PartHasNoAuxiliary _ [] tt (All-nil PartHasNoAuxiliary)))
    (tt, All-cons PartHasNoAuxiliary _ [] tt (All-nil PartHasNoAuxiliary))

pub axiom_names_below : (size : ℕ) → All (λ a. AreBelow (40 + size) (axiom_names a)) (generated_axioms size)
axiom_names_below size =
    all_axioms (λ a. AreBelow (40 + size) (axiom_names a)) size
    (λ i low high. below (40 + size) (i ∷ i / 2 ∷ []) (omega arith, (omega arith, tt)))
    (λ j high. below (40 + size) (role size j ∷ role size (j / 2) ∷ []) (omega arith, (omega arith, tt)))
    (λ j high. below (40 + size) (4 * j ∷ role size j ∷ (4 * j + 1) ∷ []) (omega arith, (omega arith, (omega arith, tt))))
    (below (40 + size) (role size 0 ∷ 3 ∷ []) (omega arith, (omega arith, tt)))

drawn-lt : (k x : ℕ) → 0 < k → drawn k x < k
unfolding drawn
drawn-lt k x some = omega arith

fact_below : (size x : ℕ) → 0 < size → AreBelow (40 + size) (fact_names (drawn_fact size x))
unfolding drawn_fact
fact_below size x some = by (drawn 2 (next_state x) == 0)
  where
    by : (b : Bool) → AreBelow (40 + size) (fact_names (cond b (fact.Is (drawn 32 (next_state (next_state x))) (individual (drawn size (next_state (next_state (next_state x))))))
        (fact.Link (role size (drawn 8 (next_state (next_state x)))) (individual (drawn size (next_state (next_state (next_state x)))))
        (individual (drawn size (next_state (next_state (next_state (next_state x)))))))))
    by true =
        let class = drawn-lt 32 (next_state (next_state x)) (omega arith) in
        let who = drawn-lt size (next_state (next_state (next_state x))) some in
        below (40 + size) (drawn 32 (next_state (next_state x)) ∷ individual (drawn size (next_state (next_state (next_state x)))) ∷ [])
        (omega (arith, class), (omega (arith, who), tt))
    by false =
        let kind = drawn-lt 8 (next_state (next_state x)) (omega arith) in
        let from = drawn-lt size (next_state (next_state (next_state x))) some in
        let to = drawn-lt size (next_state (next_state (next_state (next_state x)))) some in
        below (40 + size)
        (role size (drawn 8 (next_state (next_state x))) ∷ individual (drawn size (next_state (next_state (next_state x))))
        ∷ individual (drawn size (next_state (next_state (next_state (next_state x))))) ∷ [])
        (omega (arith, kind), (omega (arith, from), (omega (arith, to), tt)))

pub fact_names_below : (size x n : ℕ) → 0 < size → All (λ f. AreBelow (40 + size) (fact_names f)) (drawn_facts size x n)
fact_names_below size x zero some = All-nil (λ f. AreBelow (40 + size) (fact_names f))
fact_names_below size x (suc n) some =
    All-cons (λ f. AreBelow (40 + size) (fact_names f)) (drawn_fact size x) (drawn_facts size (behind_fact size x) n) (fact_below size x some)
    (fact_names_below size (behind_fact size x) n some)

pub command_names_below : (size : ℕ) → All (CommandBelow (40 + size)) (generated_commands size)
command_names_below size =
    All-from_recursion (CommandBelow (40 + size)) (generated_commands size)
    (tt, (asked, (edited, (tt, (tt, (tt, (tt, (asked, (tt, (tt, (asked, (tt, (tt, (tt, (tt, (tt, (tt, tt)))))))))))))))))
  where
    asked : AreBelow (40 + size) (0 ∷ role size 0 ∷ [])
    asked = below (40 + size) (0 ∷ role size 0 ∷ []) (omega arith, (omega arith, tt))

    edited : All (λ e. ItemBelow (40 + size) e.item) generated_edits
    edited =
        All-from_recursion (λ e. ItemBelow (40 + size) e.item) generated_edits
        (below (40 + size) (1 ∷ 0 ∷ []) (omega arith, (omega arith, tt)), (below (40 + size) (31 ∷ 0 ∷ []) (omega arith, (omega arith, tt)), tt))

pub edits_without_auxiliary : All (λ e. ItemHasNoAuxiliary e.item) generated_edits
edits_without_auxiliary =
    All-from_recursion (λ e. ItemHasNoAuxiliary e.item) generated_edits
    ((tt, All-cons PartHasNoAuxiliary _ [] tt (All-nil PartHasNoAuxiliary)), ((tt, All-cons PartHasNoAuxiliary _ [] tt (All-nil PartHasNoAuxiliary)), tt))

pub query_formed : (size : ℕ) → IsWellFormed (generated_query size)
query_formed size = record {
  variables = All-from_recursion (λ v. v < 2) (0 ∷ 0 ∷ 1 ∷ []) (omega arith, (omega arith, (omega arith, tt)));
  head_in_body = All-from_recursion (Contains (0 ∷ 0 ∷ 1 ∷ [])) (0 ∷ []) ((0, omega arith, refl), tt);
  some_atom = omega arith;
  atoms = omega arith;
  existential = omega arith;
  head = omega arith;
}
