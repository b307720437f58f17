-- The same for lists of roles and of class expressions.
use Rattle.std.proofs.Common.{ℕ, suc, zero, ◌≤◌, List, [], ◌∷◌, ◌++◌, refl, sym, subst, arith, append_assoc, append-nil}
use Rattle.dl_names.specs.NameList.{Text}
use Rattle.dl_terms.specs.declared.role.Role.{Role}
use Rattle.dl_terms.specs.declared.role.Basic.{Basic}
use Rattle.dl_terms.specs.declared.axiom.Part.{Part}
use Rattle.dl_owl.specs.declared.document.Document.{Document}
use Rattle.dl_owl.specs.Symbols.{Symbol, closing}
use Rattle.dl_owl.specs.Prefixes.{Prefixes}
use Rattle.dl_owl.specs.Expressions as expressions
use Rattle.dl_owl.specs.Expected.{Expected, role_then, sub_then, roles_close, subs_close, sups_close, Move}
use Rattle.dl_owl.specs.Steps.{role_next, sub_next, sup_next}
use Rattle.dl_owl.proofs.Meaning.{Means, Comes}
use Rattle.dl_owl.proofs.Forth.{role-forth, sub-forth, sup-forth}

module _ (document : Document) (final : List Text) (p : Prefixes) (names : List Text) (ss : List Symbol) where
  abbrev C : Move → Type 0
  C m = Comes document final p m names ss

  abbrev M : Expected → List Text → List Symbol → Type 0
  M e names ss = Means document final p e names ss

  -- what is meant behind more of them
  behind : {V : Type 0} (k : List V → Expected) (before more others : List V) (after : List Text) (rest : List Symbol)
      → Means document final p (k (before ++ more ++ others)) after rest
      → Means document final p (k (before ++ (more ++ others))) after rest
  behind k before more others after rest h =
      subst (λ l. Means document final p (k l) after rest) (append_assoc before more others) h

  roles_more : (n : ℕ) (before : List Role) (k : List Role → Expected) (s : Symbol) (more : ℕ)
      → M (role_then (λ r. roles_close n (before ++ r ∷ []) k)) names (s ∷ ss) → more ≤ suc n → M (roles_close more before k) names (s ∷ ss)
  roles_more n before k s more h fits =
      let others = h.so in
      record {
        «value» = h.value ∷ others.value;
        rest = others.rest;
        after = others.after;
        is = (expressions.RolesThen.more h.is others.is.0, omega (arith, fits, others.is.1));
        so = behind k before (h.value ∷ []) others.value others.after others.rest others.so;
      }

  pub roles-forth : (n : ℕ) (before : List Role) (k : List Role → Expected) (s : Symbol)
      → C (role_next p (λ r. roles_close n (before ++ r ∷ []) k) s) → (more : ℕ) → more ≤ suc n → M (roles_close more before k) names (s ∷ ss)
  roles-forth n before k s h more fits = roles_more n before k s more (role-forth document final p names ss (λ r. roles_close n (before ++ r ∷ []) k) s h) fits

  subs_more : (n : ℕ) (before : List Basic) (k : List Basic → Expected) (s : Symbol) (more : ℕ)
      → M (sub_then (λ r. subs_close n (before ++ r ∷ []) k)) names (s ∷ ss) → more ≤ suc n → M (subs_close more before k) names (s ∷ ss)
  subs_more n before k s more h fits =
      let others = h.so in
      record {
        «value» = h.value ∷ others.value;
        rest = others.rest;
        after = others.after;
        is = (expressions.SubsThen.more h.is others.is.0, omega (arith, fits, others.is.1));
        so = behind k before (h.value ∷ []) others.value others.after others.rest others.so;
      }

  pub subs-forth : (n : ℕ) (before : List Basic) (k : List Basic → Expected) (s : Symbol)
      → C (sub_next p (λ r. subs_close n (before ++ r ∷ []) k) s) → (more : ℕ) → more ≤ suc n → M (subs_close more before k) names (s ∷ ss)
  subs-forth n before k s h more fits = subs_more n before k s more (sub-forth document final p names ss (λ r. subs_close n (before ++ r ∷ []) k) s h) fits

  pub sups-forth : (n : ℕ) (before : List Part) (k : List Part → Expected) (s : Symbol)
      → C (sup_next p (λ ps. sups_close n (before ++ ps) k) s) → M (sups_close (suc n) before k) names (s ∷ ss)
  sups-forth n before k s h =
      let first = sup-forth document final p names ss (λ ps. sups_close n (before ++ ps) k) s h in
      let others = first.so in
      record {
        «value» = first.value ++ others.value;
        rest = others.rest;
        after = others.after;
        is = record {
          «value» = first.value;
          rest = first.rest;
          after = first.after;
          is = first.is;
          so = (others.value, refl, others.is);
        };
        so = behind k before first.value others.value others.after others.rest others.so;
      }

  pub sups_any-forth : (before : List Part) (k : List Part → Expected) (s : Symbol)
      → C (sup_next p (λ ps. sups_close zero (before ++ ps) k) s) → M (sups_close zero before k) names (s ∷ ss)
  sups_any-forth before k s h =
      let first = sup-forth document final p names ss (λ ps. sups_close zero (before ++ ps) k) s h in
      let others = first.so in
      record {
        «value» = first.value ++ others.value;
        rest = others.rest;
        after = others.after;
        is = expressions.SupsThen.more first.is others.is;
        so = behind k before first.value others.value others.after others.rest others.so;
      }

  pub roles_end-forth : (before : List Role) (k : List Role → Expected) → M (k before) names ss → M (roles_close zero before k) names (closing ∷ ss)
  roles_end-forth before k h = record {
    «value» = [];
    rest = ss;
    after = names;
    is = (expressions.RolesThen.none, omega arith);
    so = subst (λ l. M (k l) names ss) (sym (append-nil before)) h;
  }

  pub subs_end-forth : (before : List Basic) (k : List Basic → Expected) → M (k before) names ss → M (subs_close zero before k) names (closing ∷ ss)
  subs_end-forth before k h = record {
    «value» = [];
    rest = ss;
    after = names;
    is = (expressions.SubsThen.none, omega arith);
    so = subst (λ l. M (k l) names ss) (sym (append-nil before)) h;
  }

  pub sups_end-forth : (before : List Part) (k : List Part → Expected) → M (k before) names ss → M (sups_close zero before k) names (closing ∷ ss)
  sups_end-forth before k h = record {
    «value» = [];
    rest = ss;
    after = names;
    is = expressions.SupsThen.none;
    so = subst (λ l. M (k l) names ss) (sym (append-nil before)) h;
  }
