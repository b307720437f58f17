-- Marks of a sieve, and what is gained where a test passes.
use Rattle.std.proofs.Common.{◌≡◌, ◌≢◌, ℕ, ◌+◌, ◌<◌, ◌%◌, ◌⊎◌, inl, inr, Bool, true, false, ◌||◌, nat_eq, List, [], ◌++◌, filter, length, replicate, take, get_or, slice_get, set, None, refl, sym, ap, subst, ◌∙◌, lit<}
use Rattle.std.specs.List.{All, Contains, list_any}
use Rattle.std.specs.Option.{unwrap_or}
use Rattle.std.proofs.Math.Bool.{or-true, or-false}
use Rattle.std.proofs.Math.Nat.{mod-lt}
use Rattle.std.proofs.lemmas.Bool.{eq-eqb}
use Rattle.std.proofs.lemmas.Bool.Decides.{eqb_tells}
use Rattle.std.proofs.lemmas.Option.{unwrap_or-slice_get}
use Rattle.std.proofs.lemmas.List.{get_or-set_same, get_or-set_other, get_or-replicate, length-replicate}
use Rattle.std.proofs.lemmas.List.Folds.{list_any_more, list_any_at}
use Rattle.std.proofs.lemmas.List.Elements.{Contains-append_left, Contains-append_right, Contains-append_cases}
use Rattle.dl_terms.proofs.MemberLemmas.{Contains-nil}
use Rattle.dl_scan.specs.Scans.{Gains}
use Rattle.dl_scan.specs.Sieves.{passes, has_remainder}
use Rattle.dl_scan.proofs.FactLemmas.{Contains-filter, Contains-filter_of}

-- there is a mark for each remainder
pub all_marks : (count : ℕ) (marks : List Bool) → count ≡ 65536 → marks ≡ replicate count false → length marks ≡ 65536
all_marks count marks all is = ap length is ∙ length-replicate count false ∙ all

-- where no mark is set, no name passes
pub none_passes : (count : ℕ) (marks : List Bool) → count ≡ 65536 → marks ≡ replicate count false
    → (name : ℕ) → passes marks name ≡ false
none_passes count marks all is name =
    ap (λ l. get_or l (name % 65536) true) is
    ∙ get_or-replicate count (name % 65536) false true (subst (λ n. name % 65536 < n) (sym all) (mod-lt name (lit< tt)))

-- the mark of one more pair is set: those names pass besides that have its remainder
pub marked_exactly : (marks : List Bool) (pairs : List (ℕ × ℕ)) (i : ℕ) (d : ℕ × ℕ) → i < length pairs
    → (get_or pairs i d).0 % 65536 < length marks
    → ((name : ℕ) → passes marks name ≡ list_any (has_remainder name) (take i pairs))
    → (name : ℕ) → passes (set marks ((get_or pairs i d).0 % 65536) true) name
    ≡ list_any (has_remainder name) (take (i + 1) pairs)
marked_exactly marks pairs i d lt inside before name =
    by (eqb_tells (name % 65536) place) ∙ sym (list_any_more (has_remainder name) pairs i d lt)
  where
    place : ℕ
    place = (get_or pairs i d).0 % 65536

    old : Bool
    old = list_any (has_remainder name) (take i pairs)

    by : ((nat_eq (name % 65536) place ≡ true) × (name % 65536 ≡ place))
        ⊎ ((nat_eq (name % 65536) place ≡ false) × (name % 65536 ≢ place))
        → passes (set marks place true) name ≡ (old || has_remainder name (get_or pairs i d))
    by (inl same) =
        subst (λ k. get_or (set marks place true) k true ≡ true) (sym same.1) (get_or-set_same marks place true true inside)
        ∙ sym (ap (λ b. old || b) same.0 ∙ or-true old)
    by (inr other) =
        get_or-set_other marks place (name % 65536) true true other.1 ∙ before name
        ∙ sym (ap (λ b. old || b) other.0 ∙ or-false old)

-- where those names pass that have the remainder of a pair, the first names of the pairs do
pub own_names_pass : (marks : List Bool) (pairs : List (ℕ × ℕ))
    → ((name : ℕ) → passes marks name ≡ list_any (has_remainder name) pairs) → All (λ p. passes marks p.0 ≡ true) pairs
own_names_pass marks pairs exact i d lt =
    let name = (get_or pairs i d).0 in
    exact name ∙ list_any_at (has_remainder name) pairs i d lt (eq-eqb (name % 65536) (name % 65536) refl)

-- where there is no mark, a name passes
pub unmarked : (marks : List Bool) (place : ℕ) → None ≡ slice_get marks place → get_or marks place true ≡ true
unmarked marks place none = sym (unwrap_or-slice_get marks place true) ∙ ap (λ o. unwrap_or o true) (sym none)

-- of what was gained, that which passes a test
pub Gains-sifted : {A : Type 0} (pass : A → Bool) (old new whole : List A) (P : A → Type 0) → Gains [] whole P
    → new ≡ old ++ filter pass whole → Gains old new (λ x. P x × (pass x ≡ true))
Gains-sifted pass old new whole P gains is x = (
  λ c. elim (Contains-append_cases old (filter pass whole) x (subst (λ l. Contains l x) is c)) [
    | inl before ↦ inl before
    | inr here ↦ (let f = Contains-filter pass whole x here in
        elim ((gains x).0 f.0) [ inl none ↦ absurd (Contains-nil x none) | inr p ↦ inr (p, f.1) ])
  ],
  λ h. subst (λ l. Contains l x) (sym is) (elim h [
    | inl before ↦ Contains-append_left old (filter pass whole) x before
    | inr k ↦ Contains-append_right old (filter pass whole) x (Contains-filter_of pass whole x ((gains x).1 (inr k.0)) k.1)
  ]),
)
