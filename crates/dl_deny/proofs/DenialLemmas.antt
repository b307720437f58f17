-- The denials of some negatives and of more, and those of the normal form of one axiom.
use Rattle.std.proofs.Common.{◌≡◌, ℕ, ◌+◌, ◌<◌, ◌≤◌, List, [], ◌∷◌, ◌++◌, Option, Some, Result, map, filter_map, flat_map, length, take, get_or, refl, sym, ap, ap₂, subst, ◌∙◌, append_assoc, append-nil}
use Rattle.std.specs.Result.{OnOk}
use Rattle.std.proofs.lemmas.Result.{on_ok_weaker}
use Rattle.std.proofs.lemmas.List.{map-append, take_more, take_all}
use Rattle.dl_terms.specs.NormalForm.{axiom_rows, as_negative, axiom_negatives, nothing_negative, negatives}
use Rattle.dl_terms.specs.Broken.{query_of}
use Rattle.dl_terms.specs.declared.memory.NoMemory.{NoMemory}
use Rattle.dl_terms.specs.declared.query.Query.{Query}
use Rattle.dl_terms.specs.declared.role.Negative.{Negative}
use Rattle.dl_terms.specs.declared.role.Normal.{Normal}
use Rattle.dl_terms.specs.declared.axiom.Axiom.{Axiom}
use Rattle.dl_normal.specs.Indexed.{IsNormalForm}
use Rattle.dl_normal.proofs.RowLemmas.{flat_map-more}
use Rattle.dl_deny.specs.declared.denial.Denial.{Denial}
use Rattle.dl_deny.specs.Denied.{denials_of}

-- the negatives of an axiom, each beside it in place of an index
abbrev pub beside : Axiom → List (ℕ × Negative) → List (Option Axiom × Negative)
beside a ns = map (λ p. (Some a, p.1)) ns

beside-indexed : (a : Axiom) (k : ℕ) (ns : List Negative) → beside a (map (λ n. (k, n)) ns) ≡ map (λ n. (Some a, n)) ns
beside-indexed a k [] = refl
beside-indexed a k (n ∷ ns) = ap (λ l. (Some a, n) ∷ l) (beside-indexed a k ns)

-- the normal form of one axiom has its negatives
pub beside-form : (a : Axiom) (form : Normal) → IsNormalForm (a ∷ []) form → beside a form.negatives ≡ axiom_negatives a
beside-form a form is =
    ap (beside a) (is.negatives ∙ append-nil (map (λ n. (0, n)) (filter_map as_negative (axiom_rows a))))
    ∙ beside-indexed a 0 (filter_map as_negative (axiom_rows a))

-- what was found grows by the denials of more negatives
pub found-more : (start old new : List Denial) (done more : List (Option Axiom × Negative)) → old ≡ start ++ denials_of done
    → new ≡ old ++ denials_of more → new ≡ start ++ denials_of (done ++ more)
found-more start old new done more so_far pushed =
    pushed ∙ ap (λ l. l ++ denials_of more) so_far ∙ append_assoc start (denials_of done) (denials_of more)
    ∙ ap (λ l. start ++ l) (sym (map-append _ done more))

-- one more negative of an axiom
pub found-negative : (start old new : List Denial) (a : Axiom) (ns : List (ℕ × Negative)) (i : ℕ) (n : ℕ × Negative) → i < length ns → n ≡ get_or ns i n
    → old ≡ start ++ denials_of (beside a (take i ns)) → new ≡ old ++ denials_of ((Some a, n.1) ∷ []) → new ≡ start ++ denials_of (beside a (take (i + 1) ns))
found-negative start old new a ns i n within at so_far pushed =
    found-more start old new (beside a (take i ns)) ((Some a, n.1) ∷ []) so_far pushed
    ∙ ap (λ l. start ++ denials_of l)
    (sym (ap (beside a) (take_more ns i n within ∙ ap (λ x. take i ns ++ x ∷ []) (sym at)) ∙ map-append _ (take i ns) (n ∷ [])))

-- one more axiom
pub found-axiom : (old new : List Denial) (axioms : List Axiom) (i : ℕ) (a : Axiom) → i < length axioms → a ≡ get_or axioms i a
    → old ≡ denials_of (flat_map axiom_negatives (take i axioms)) → new ≡ old ++ denials_of (axiom_negatives a)
    → new ≡ denials_of (flat_map axiom_negatives (take (i + 1) axioms))
found-axiom old new axioms i a within at so_far pushed =
    found-more [] old new (flat_map axiom_negatives (take i axioms)) (axiom_negatives a) so_far pushed
    ∙ ap denials_of (sym (flat_map-more axiom_negatives axioms i a within ∙ ap (λ x. flat_map axiom_negatives (take i axioms) ++ axiom_negatives x) (sym at)))

-- all negatives of an axiom, whose normal form was made
pub found-all : (start found : List Denial) (a : Axiom) (axioms : List Axiom) (form : Normal) (ns : List (ℕ × Negative)) (i : ℕ) → axioms ≡ a ∷ []
    → IsNormalForm axioms form → ns ≡ form.negatives → length ns ≤ i → found ≡ start ++ denials_of (beside a (take i ns))
    → found ≡ start ++ denials_of (axiom_negatives a)
found-all start found a axioms form ns i one is items long so_far =
    so_far
    ∙ ap (λ l. start ++ denials_of l)
    (ap (beside a) (take_all i ns long ∙ items) ∙ beside-form a form (subst (λ l. IsNormalForm l form) one is))

-- the denials of all axioms, and of owl:Nothing
pub found-whole : (old new : List Denial) (axioms : List Axiom) (nothing : Option ℕ) (i : ℕ) → length axioms ≤ i
    → old ≡ denials_of (flat_map axiom_negatives (take i axioms)) → new ≡ old ++ denials_of (nothing_negative nothing)
    → new ≡ denials_of (negatives axioms nothing)
found-whole old new axioms nothing i long so_far pushed =
    found-more [] old new (flat_map axiom_negatives (take i axioms)) (nothing_negative nothing) so_far pushed
    ∙ ap (λ l. denials_of (flat_map axiom_negatives l ++ nothing_negative nothing)) (take_all i axioms long)

-- a denial, pushed
pub pushed-denial : (r : Result (Unit {0}) NoMemory) (old new : List Denial) (copy a : Axiom) (q : Query) (n : Negative) → copy ≡ a → q ≡ query_of n
    → OnOk r (new ≡ old ++ record { «axiom» = Some copy; query = q } ∷ []) → OnOk r (new ≡ old ++ denials_of ((Some a, n) ∷ []))
pushed-denial r old new copy a q n same is h =
    on_ok_weaker r (λ e. e ∙ ap₂ (λ a q. old ++ record { «axiom» = Some a; query = q } ∷ []) same is) h
