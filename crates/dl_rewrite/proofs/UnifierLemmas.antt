-- Terms made one, pair by pair.
use Rattle.std.proofs.Common.{◌≡◌, ℕ, Bool, true, false, cond, List, [], ◌∷◌, ◌⊎◌, nat_eq, eqb-true, refl, sym, ap, subst, ◌∙◌, inl, inr}
use Rattle.std.specs.List.{Contains}
use Rattle.std.proofs.lemmas.Cmp.{nat_eq_equiv}
use Rattle.dl_terms.specs.declared.query.Term.{Term}
use Rattle.dl_terms.specs.declared.query.Term.TheVariants.{Var, Name}
use Rattle.dl_terms.proofs.MemberLemmas.{Contains-first, Contains-later, Contains-nil, Contains-cons}
use Rattle.dl_join.specs.Disjuncts.{name_of}
use Rattle.dl_rewrite.specs.Unifiers.{put_for, replaced, AreUnified, IsMostGeneralUnifier}
use Rattle.dl_tree.proofs.FoldLemmas.{true_or_false}

put_replaced : (to : ℕ → Term) (v : ℕ) (r t : Term) → put_for (λ w. replaced v r (to w)) t ≡ replaced v r (put_for to t)
put_replaced to v r (Var w) = refl
put_replaced to v r (Name a) = refl

replaced_itself : (v : ℕ) (r : Term) → replaced v r r ≡ r
replaced_itself v (Var w) = by (nat_eq w v)
  where
    by : (b : Bool) → cond b (Var w) (Var w) ≡ Var w
    by true = refl
    by false = refl
replaced_itself v (Name a) = refl

replaced_there : (v : ℕ) (r : Term) → replaced v r (Var v) ≡ r
replaced_there v r = ap (λ b. cond b r (Var v)) (nat_eq_equiv.refl v)

-- names that give the term the variable's name see no difference
name_replaced : (names : ℕ → ℕ) (v : ℕ) (r t : Term) → name_of names r ≡ names v → name_of names (replaced v r t) ≡ name_of names t
name_replaced names v r (Var w) e = by (true_or_false (nat_eq w v))
  where
    by : (nat_eq w v ≡ true) ⊎ (nat_eq w v ≡ false) → name_of names (cond (nat_eq w v) r (Var w)) ≡ names w
    by (inl h) = ap (λ b. name_of names (cond b r (Var w))) h ∙ e ∙ ap names (sym (eqb-true w v h))
    by (inr h) = ap (λ b. name_of names (cond b r (Var w))) h
name_replaced names v r (Name a) e = refl

pub name_put : (pairs : List (Term × Term)) (to : ℕ → Term) → IsMostGeneralUnifier pairs to → (names : ℕ → ℕ) → ((e : Term × Term) → Contains pairs e → AreUnified names e)
    → (t : Term) → name_of names (put_for to t) ≡ name_of names t
name_put pairs to m names h (Var v) = m.no_more names h v
name_put pairs to m names h (Name a) = refl

-- nothing has to be one
pub IsMostGeneralUnifier-none : IsMostGeneralUnifier [] Var
IsMostGeneralUnifier-none = record { one = λ e c. absurd (Contains-nil e c); no_more = λ names h v. refl }

-- a pair that is one already
pub IsMostGeneralUnifier-same : (pairs : List (Term × Term)) (to : ℕ → Term) (x y : Term) → IsMostGeneralUnifier pairs to → put_for to x ≡ put_for to y → IsMostGeneralUnifier ((x, y) ∷ pairs) to
IsMostGeneralUnifier-same pairs to x y m e = record { one = one; no_more = λ names h v. m.no_more names (λ f c. h f (Contains-later (x, y) f pairs c)) v }
  where
    one : (f : Term × Term) → Contains ((x, y) ∷ pairs) f → put_for to f.0 ≡ put_for to f.1
    one f c = by (Contains-cons (x, y) f pairs c)
      where
        by : ((x, y) ≡ f) ⊎ Contains pairs f → put_for to f.0 ≡ put_for to f.1
        by (inl h) = subst (λ g. put_for to g.0 ≡ put_for to g.1) h e
        by (inr d) = m.one f d

-- a pair of which one term has a variable put for it
pub IsMostGeneralUnifier-put : (pairs : List (Term × Term)) (to : ℕ → Term) (x y : Term) (v : ℕ) → IsMostGeneralUnifier pairs to → put_for to x ≡ Var v
    → IsMostGeneralUnifier ((x, y) ∷ pairs) (λ w. replaced v (put_for to y) (to w))
IsMostGeneralUnifier-put pairs to x y v m e = record { one = one; no_more = no_more }
  where
    r : Term
    r = put_for to y

    new : Term → Term
    new t = put_for (λ w. replaced v (put_for to y) (to w)) t

    here : put_for (λ w. replaced v (put_for to y) (to w)) x ≡ put_for (λ w. replaced v (put_for to y) (to w)) y
    here =
        put_replaced to v (put_for to y) x ∙ ap (replaced v (put_for to y)) e ∙ replaced_there v (put_for to y)
        ∙ sym (replaced_itself v (put_for to y)) ∙ sym (put_replaced to v (put_for to y) y)

    one : (f : Term × Term) → Contains ((x, y) ∷ pairs) f → put_for (λ w. replaced v (put_for to y) (to w)) f.0 ≡ put_for (λ w. replaced v (put_for to y) (to w)) f.1
    one f c = by (Contains-cons (x, y) f pairs c)
      where
        by : ((x, y) ≡ f) ⊎ Contains pairs f → put_for (λ w. replaced v (put_for to y) (to w)) f.0 ≡ put_for (λ w. replaced v (put_for to y) (to w)) f.1
        by (inl h) = subst (λ g. put_for (λ w. replaced v (put_for to y) (to w)) g.0 ≡ put_for (λ w. replaced v (put_for to y) (to w)) g.1) h here
        by (inr d) = put_replaced to v (put_for to y) f.0 ∙ ap (replaced v (put_for to y)) (m.one f d) ∙ sym (put_replaced to v (put_for to y) f.1)

    no_more : (names : ℕ → ℕ) → ((f : Term × Term) → Contains ((x, y) ∷ pairs) f → AreUnified names f) → (w : ℕ)
        → name_of names (replaced v (put_for to y) (to w)) ≡ names w
    no_more names h w = name_replaced names v (put_for to y) (to w) same ∙ m.no_more names old w
      where
        old : (f : Term × Term) → Contains pairs f → AreUnified names f
        old f c = h f (Contains-later (x, y) f pairs c)

        same : name_of names (put_for to y) ≡ names v
        same =
            name_put pairs to m names old y ∙ sym (h (x, y) (Contains-first (x, y) pairs)) ∙ sym (name_put pairs to m names old x)
            ∙ ap (name_of names) e

-- two different names can't be one
pub IsMostGeneralUnifier-clash : (pairs : List (Term × Term)) (to : ℕ → Term) (x y : Term) (a b : ℕ) → IsMostGeneralUnifier pairs to → put_for to x ≡ Name a → put_for to y ≡ Name b
    → (a ≡ b → ⊥) → (names : ℕ → ℕ) → ((e : Term × Term) → Contains ((x, y) ∷ pairs) e → AreUnified names e) → ⊥
IsMostGeneralUnifier-clash pairs to x y a b m e f apart names h =
    apart (sym (ap (name_of names) e) ∙ name_put pairs to m names old x ∙ h (x, y) (Contains-first (x, y) pairs)
    ∙ sym (name_put pairs to m names old y) ∙ ap (name_of names) f)
  where
    old : (g : Term × Term) → Contains pairs g → AreUnified names g
    old g c = h g (Contains-later (x, y) g pairs c)

-- names for the variables that are left make each pair one
pub AreUnified-put : (pairs : List (Term × Term)) (to : ℕ → Term) → IsMostGeneralUnifier pairs to → (names : ℕ → ℕ) → (e : Term × Term) → Contains pairs e
    → AreUnified (λ v. name_of names (to v)) e
AreUnified-put pairs to m names e c = name_of_put e.0 ∙ ap (name_of names) (m.one e c) ∙ sym (name_of_put e.1)
  where
    name_of_put : (t : Term) → name_of (λ v. name_of names (to v)) t ≡ name_of names (put_for to t)
    name_of_put (Var v) = refl
    name_of_put (Name a) = refl
