-- Disjuncts found one set after another, and that all of them are a rewriting.
use Rattle.std.proofs.Common.{◌≡◌, ℕ, ◌+◌, ◌<◌, ◌≤◌, ◌^◌, Bool, true, not, List, [], ◌∷◌, ◌++◌, ◌⊎◌, length, length-append, nat_eq, refl, sym, subst, inl, inr, arith}
use Rattle.std.specs.Prelude.{MatchOption}
use Rattle.std.specs.declared.option.Option.{Option}
use Rattle.std.specs.declared.option.Option.TheVariants.{Some, None}
use Rattle.std.specs.List.{All, Contains, list_any, range_with_len}
use Rattle.std.proofs.lemmas.List.Elements.{All-push, Contains-append_left, Contains-append_right, Contains-append_cases}
use Rattle.dl_terms.specs.Queries.{body_variables, is_existential, existential_variables, IsWellFormed}
use Rattle.dl_terms.specs.declared.role.Role.{Role}
use Rattle.dl_terms.specs.declared.axiom.Axiom.{Axiom}
use Rattle.dl_terms.specs.declared.query.Query.{Query}
use Rattle.dl_terms.specs.declared.query.Disjunct.{Disjunct}
use Rattle.dl_terms.proofs.MemberLemmas.{Contains-first, Contains-nil, Contains-one}
use Rattle.dl_join.proofs.ProbeLemmas.{Contains-filter}
use Rattle.dl_tree.specs.Masks.{set_of}
use Rattle.dl_tree.specs.Table.{IsTableOf}
use Rattle.dl_tree.proofs.FoldLemmas.{and_left}
use Rattle.dl_tree.proofs.MaskLemmas.{member_known}
use Rattle.dl_tree.proofs.SubsetLemmas.{mask_of, mask_fits, set_of_mask}
use Rattle.dl_tree.proofs.NumberingLemmas.{existential_known}
use Rattle.dl_rewrite.specs.Parts.{AreExistential}
use Rattle.dl_rewrite.specs.Rewriting.{IsDisjunctFor, HasNoDisjunct, IsRewriting}
use Rattle.dl_rewrite.specs.Shape.{IsShapedFor}
use Rattle.dl_rewrite.proofs.CutLemmas.{of_any}
use Rattle.dl_rewrite.proofs.StepLemmas.{var_below}

-- a set has its disjunct among these, or none
abbrev Told : List Axiom → List Role → Query → List ℕ → ℕ → List Disjunct → Type 0
Told axioms roles q ex m ds =
    ((d : Disjunct) × Contains ds d × IsDisjunctFor axioms roles q (set_of ex m) d) ⊎ HasNoDisjunct axioms roles q (set_of ex m)

-- the disjuncts of the sets of lesser number
pub record AreOfSets (axioms : List Axiom) (roles : List Role) (q : Query) (ex : List ℕ) (n : ℕ) (found : List Disjunct) : Type 0 where
  pub each : (m : ℕ) → m < n → ((d : Disjunct) × Contains found d × IsDisjunctFor axioms roles q (set_of ex m) d)
      ⊎ HasNoDisjunct axioms roles q (set_of ex m)
  pub only : (d : Disjunct) → Contains found d → (m : ℕ) × (m < 2 ^ length ex) × IsDisjunctFor axioms roles q (set_of ex m) d

pub record AreFound (q : Query) (ex : List ℕ) (rows : List (List Role)) (n : ℕ) (found : List Disjunct) : Type 0 where
  pub told : (axioms : List Axiom) (roles : List Role) → IsTableOf axioms roles q rows → AreOfSets axioms roles q ex n found
  pub few : length found ≤ n
  pub shaped : All (IsShapedFor q) found

pub AreFound-none : (q : Query) (ex : List ℕ) (rows : List (List Role)) (found : List Disjunct) → found ≡ [] → AreFound q ex rows 0 found
AreFound-none q ex rows found none = subst (AreFound q ex rows 0) (sym none) record {
  told = λ axioms roles table. record {
    each = λ m l. absurd (omega (arith, l));
    only = λ d c. absurd (Contains-nil d c);
  };
  few = omega arith;
  shaped = λ k d l. absurd (omega (arith, l));
}

cases : (m n : ℕ) → m < n + 1 → (m < n) ⊎ (m ≡ n)
cases m n l = grind arith

module _ (q : Query) (ex : List ℕ) (rows : List (List Role)) (n : ℕ) (old : List Disjunct) (h : AreFound q ex rows n old) where
  pub AreFound-skip : ((axioms : List Axiom) (roles : List Role) → IsTableOf axioms roles q rows → HasNoDisjunct axioms roles q (set_of ex n))
      → AreFound q ex rows (n + 1) old
  AreFound-skip none = record {
    told = λ axioms roles table.
        let t = h.told axioms roles table in
        record {
          each = λ m l. by axioms roles table m (cases m n l);
          only = t.only;
        };
    few = let f = h.few in omega (arith, f);
    shaped = h.shaped;
  }
    where
      by : (axioms : List Axiom) (roles : List Role) → IsTableOf axioms roles q rows → (m : ℕ) → (m < n) ⊎ (m ≡ n)
          → ((d : Disjunct) × Contains old d × IsDisjunctFor axioms roles q (set_of ex m) d) ⊎ HasNoDisjunct axioms roles q (set_of ex m)
      by axioms roles table m (inl l) = (h.told axioms roles table).each m l
      by axioms roles table m (inr e) =
          inr (subst (λ k. HasNoDisjunct axioms roles q (set_of ex k)) (sym e) (none axioms roles table))

  pub AreFound-push : (d : Disjunct) (new : List Disjunct) → n < 2 ^ length ex → IsShapedFor q d
      → ((axioms : List Axiom) (roles : List Role) → IsTableOf axioms roles q rows → IsDisjunctFor axioms roles q (set_of ex n) d)
      → new ≡ old ++ d ∷ [] → AreFound q ex rows (n + 1) new
  AreFound-push d new fits shape is pushed = subst (AreFound q ex rows (n + 1)) (sym pushed) record {
    told = λ axioms roles table. record {
      each = λ m l. by axioms roles table m (cases m n l);
      only = λ e c. of axioms roles table e (Contains-append_cases old (d ∷ []) e c);
    };
    few = let f = h.few in let a = length-append old (d ∷ []) in omega (arith, f, a);
    shaped = All-push (IsShapedFor q) old d h.shaped shape;
  }
    where
      more : (axioms : List Axiom) (roles : List Role) (m : ℕ) → Told axioms roles q ex m old → Told axioms roles q ex m (old ++ d ∷ [])
      more axioms roles m (inl w) = inl (w.0, Contains-append_left old (d ∷ []) w.0 w.1, w.2)
      more axioms roles m (inr w) = inr w

      by : (axioms : List Axiom) (roles : List Role) → IsTableOf axioms roles q rows → (m : ℕ) → (m < n) ⊎ (m ≡ n)
          → ((e : Disjunct) × Contains (old ++ d ∷ []) e × IsDisjunctFor axioms roles q (set_of ex m) e) ⊎ HasNoDisjunct axioms roles q (set_of ex m)
      by axioms roles table m (inl l) = more axioms roles m ((h.told axioms roles table).each m l)
      by axioms roles table m (inr e) =
          inl (d, Contains-append_right old (d ∷ []) d (Contains-first d []), subst (λ k. IsDisjunctFor axioms roles q (set_of ex k) d) (sym e) (is axioms roles table))

      of : (axioms : List Axiom) (roles : List Role) → IsTableOf axioms roles q rows → (e : Disjunct) → Contains old e ⊎ Contains (d ∷ []) e
          → (m : ℕ) × (m < 2 ^ length ex) × IsDisjunctFor axioms roles q (set_of ex m) e
      of axioms roles table e (inl c) = (h.told axioms roles table).only e c
      of axioms roles table e (inr c) = (n, fits, subst (IsDisjunctFor axioms roles q (set_of ex n)) (Contains-one d e c) (is axioms roles table))

-- all sets together
pub all_found : (axioms : List Axiom) (roles : List Role) (q : Query) (ex : List ℕ) → ex ≡ existential_variables q → IsWellFormed q → (n : ℕ) → n ≡ 2 ^ length ex
    → (found : List Disjunct) → AreOfSets axioms roles q ex n found → IsRewriting axioms roles q found
all_found axioms roles q ex listed well n count found h = record {
  each = λ s is.
      let at = set_of_mask ex s (known s is) in
      subst (λ z. ((d : Disjunct) × Contains found d × IsDisjunctFor axioms roles q z d) ⊎ HasNoDisjunct axioms roles q z) at
      (h.each (mask_of ex s) (subst (λ k. mask_of ex s < k) (sym count) (mask_fits ex s)));
  only = λ d c.
      let o = h.only d c in (set_of ex o.0, are o.0 o.1, o.2);
}
  where
    known : (s : ℕ → Bool) → AreExistential q s → (v : ℕ) → s v ≡ true → list_any (nat_eq v) ex ≡ true
    known s is v e =
        let x = is v e in
        let b = of_any (body_variables q) v (and_left (list_any (nat_eq v) (body_variables q)) (not (list_any (nat_eq v) q.head)) x) in
        subst (λ l. list_any (nat_eq v) l ≡ true) (sym listed) (existential_known q v (var_below q well v b) x)

    are : (m : ℕ) → m < 2 ^ length ex → AreExistential q (set_of ex m)
    are m fits v e =
        (Contains-filter (is_existential q) (range_with_len 0 q.vars) v
        (subst (λ l. Contains l v) listed (of_any ex v (member_known ex m v fits e)))).1

pub left_none : {X : Type 0} (o : Option X) (N : Type 0) (S : X → Type 0) → MatchOption o N S → ((x : X) → o ≡ Some x → ⊥) → N
left_none None N S h not = h
left_none (Some x) N S h not = absurd (not x refl)
