-- What a commit needs of an epoch that it builds; the entries of the next root, and shards one after the other.
use Rattle.std.proofs.Common.{◌≡◌, ℕ, suc, ◌+◌, ◌<◌, ◌≤◌, ◌⊎◌, inl, inr, Bool, true, false, cond, List, [], ◌∷◌, ◌++◌, map, take, length, get_or, refl, sym, ap, subst, ◌∙◌, arith}
use Rattle.std.specs.List.{All}
use Rattle.std.specs.List.Sorted.{IsStrictlySortedBy}
use Rattle.std.proofs.lemmas.Bool.{cases_eq}
use Rattle.std.proofs.lemmas.List.{length-map, length_push, take-map, take-append-le, take_all, get_or_append_left}
use Rattle.std.proofs.lemmas.List.Elements.{All-take}
use Rattle.dl_terms.specs.Auxiliaries.{HasNoAuxiliary}
use Rattle.dl_terms.specs.Order.{axiom_cmp}
use Rattle.dl_terms.specs.declared.axiom.Axiom.{Axiom}
use Rattle.dl_terms.specs.declared.axiom.Signature.{Signature}
use Rattle.dl_terms.specs.declared.axiom.Fact.{Fact}
use Rattle.dl_row.specs.Lists.{count, ordered}
use Rattle.dl_row.specs.Rows.{row_cmp}
use Rattle.dl_row.specs.declared.row.Row.{Row}
use Rattle.dl_epoch.specs.Known.{IsSignature, IsAxiomIn, ArePredicatesFew, max_weight}
use Rattle.dl_normal.specs.Weight.{total_weight}
use Rattle.dl_epoch.specs.Frozen.{IsFrozen, from_version}
use Rattle.dl_epoch.specs.Covering.{Kept, epoch_in}
use Rattle.dl_edits.specs.Edits.{edited_axioms, edited_signature}
use Rattle.dl_core.specs.Root.{Root, epochs, shard}
use Rattle.dl_core.specs.Next.{Numbering, GoesByRule, epoch_from, ended, committed_epoch}
use Rattle.dl_core.specs.Held.{IsBookOf, CountsRows}
use Rattle.dl_core.specs.Changes.{AreGone}
use Rattle.dl_core.specs.Committing.{IsAccepted, IsBuildable, IsNewEntry, AreShardsAfter, AreEntriesAfter}
use Rattle.dl_core.specs.declared.book.Book.{Book}
use Rattle.dl_core.specs.declared.ontology.Ontology.{Ontology}
use Rattle.dl_edits.proofs.AscendLemmas.{edited_axioms-sorted, edited_signature-sorted}
use Rattle.dl_core.proofs.CommitKeepLemmas.{not_refused}
use Rattle.dl_edits.proofs.FewLemmas.{predicates_few}
use Rattle.dl_edits.proofs.KnownLemmas.{edited_axioms-known, edited_axioms-plain}
use Rattle.dl_core.proofs.RuleLemmas.{ruled_epoch}

-- ---- the ontology

pub buildable : (root : Root) (o : Ontology) (a : IsAccepted root o) (k : Kept) → epoch_in k ≡ root.current
    → IsFrozen k.epoch → IsBuildable o
buildable root o a k current frozen =
    let within = not_refused root a.edits a.accepted in
    let axioms = sym a.edited.axioms in
    let signature = sym a.edited.signature in
    record {
      ascending = subst (IsStrictlySortedBy axiom_cmp) axioms
          (edited_axioms-sorted a.edits root.current.axioms
          (subst (λ e. IsStrictlySortedBy axiom_cmp e.axioms) current frozen.ascending));
      plain = subst (All HasNoAuxiliary) axioms
          (edited_axioms-plain a.edits root.current.axioms a.plain
          (subst (λ e. All HasNoAuxiliary e.axioms) current frozen.no_auxiliary));
      known = subst (λ s. All (IsAxiomIn s) o.axioms) signature
          (subst (All (IsAxiomIn (edited_signature a.edits root.current.signature))) axioms
          (edited_axioms-known a.edits root.current.signature root.current.axioms
          (subst (λ e. All (IsAxiomIn e.signature) e.axioms) current frozen.known)));
      signature = subst IsSignature signature
          (edited_signature-sorted a.edits root.current.signature
          (subst (λ e. IsSignature e.signature) current frozen.signature));
      weight = subst (λ axioms. total_weight axioms ≤ max_weight) axioms within.weights;
      few = subst (λ s. ArePredicatesFew s o.axioms) signature
          (subst (ArePredicatesFew (edited_signature a.edits root.current.signature)) axioms
          (predicates_few (edited_signature a.edits root.current.signature)
          (edited_axioms a.edits root.current.axioms) within.predicates));
    }

-- ---- the current entry

pub count_le : {A : Type 0} (p : A → Bool) (xs : List A) → count p xs ≤ length xs
count_le p [] = omega arith
count_le {A} p (x ∷ xs) = by (p x) (count_le p xs)
  where
    by : (b : Bool) → count p xs ≤ length xs → cond b 1 0 + count p xs ≤ suc (length xs)
    by true ih = omega (arith, ih)
    by false ih = omega (arith, ih)

-- a new epoch is the one that the commit opens
pub opened_epoch : (root : Root) (o : Ontology) (numbering : Numbering) → GoesByRule numbering
    → (a : IsAccepted root o) → o.opens ≡ true
    → (id first rows : ℕ) (k : Kept) → id ≡ root.current.id + 1 → first ≡ root.version + 1
    → IsNewEntry id first o rows k
    → epoch_in k ≡ committed_epoch numbering root a.edits
opened_epoch root o numbering rule a opened id first rows k id_is first_is new =
    ap (λ f. from_version f k.epoch) (new.first_is ∙ first_is)
    ∙ ruled_epoch numbering rule k.epoch new.frozen (root.version + 1)
    ∙ made (new.id_is ∙ id_is) (new.axioms ∙ a.edited.axioms) (new.signature ∙ a.edited.signature)
    ∙ ap (λ b. cond b (epoch_from numbering (root.current.id + 1) (root.version + 1)
    (edited_axioms a.edits root.current.axioms)
    (edited_signature a.edits root.current.signature)) root.current) (sym opened ∙ a.edited.opens)
  where
    made : {i i' : ℕ} {xs ys : List Axiom} {s t : Signature} → i ≡ i' → xs ≡ ys → s ≡ t
        → epoch_from numbering i (root.version + 1) xs s ≡ epoch_from numbering i' (root.version + 1) ys t
    made e f g = cc

-- where none opens, it is the current one
pub stayed_epoch : (root : Root) (o : Ontology) (numbering : Numbering) (a : IsAccepted root o) → o.opens ≡ false
    → root.current ≡ committed_epoch numbering root a.edits
stayed_epoch root o numbering a closed =
    ap (λ b. cond b (epoch_from numbering (root.current.id + 1) (root.version + 1)
    (edited_axioms a.edits root.current.axioms)
    (edited_signature a.edits root.current.signature)) root.current) (sym closed ∙ a.edited.opens)

-- ---- the entries

before_last : {A : Type 0} (n : ℕ) (xs ys : List A) → n ≡ length xs → take n (xs ++ ys) ≡ xs
before_last n xs ys e = take-append-le n xs ys (omega (arith, e)) ∙ take_all n xs (omega (arith, e))

pub entries_are : (root : Root) (book : Book) → IsBookOf root book → (opened : Bool) (n : ℕ)
    → n + cond opened 0 1 ≡ length book.epochs
    → (current : Kept) (entries : List Kept) → entries ≡ take n book.epochs ++ current ∷ []
    → AreEntriesAfter root opened current entries
entries_are root book tells opened n as_many current entries are = record {
  older = take n book.epochs;
  are = are;
  epochs = sym (take-map epoch_in n book.epochs) ∙ ap (take n) tells.epochs ∙ by opened as_many;
  counts = All-take (CountsRows root) n book.epochs tells.counts;
  frozen = All-take (λ k. IsFrozen k.epoch) n book.epochs tells.frozen;
}
  where
    whole : length book.epochs ≡ length root.older + 1
    whole =
        let a = length-map book.epochs epoch_in in
        let b = ap length tells.epochs in
        let c = length_push root.older root.current in
        omega (arith, a, b, c)

    by : (b : Bool) → n + cond b 0 1 ≡ length book.epochs → take n (epochs root) ≡ cond b (epochs root) root.older
    by true h = take_all n (epochs root) (let c = length_push root.older root.current in omega (arith, h, whole, c))
    by false h = before_last n root.older (root.current ∷ []) (omega (arith, h, whole))

pub some_entries : (root : Root) (book : Book) → IsBookOf root book → 1 ≤ length book.epochs
some_entries root book tells =
    let a = length-map book.epochs epoch_in in
    let b = ap length tells.epochs in
    let c = length_push root.older root.current in
    omega (arith, a, b, c)

-- ---- the shards

pub no_shards : (root : Root) (gone : List Fact) (new : List (List Row)) (version : ℕ)
    → AreShardsAfter root gone new version 0 []
no_shards root gone new version = record { as_many = refl; each = λ after are i h. absurd (omega (arith, h)) }

pub shard_more : (root : Root) (gone : List Fact) (new : List (List Row)) (version n : ℕ) (values : List (List Row))
    (value : List Row)
    → AreShardsAfter root gone new version n values
    → ((after : List Fact) → AreGone root after gone
    → value ≡ ordered row_cmp (map (ended (epochs root) after version) (shard root n) ++ get_or new n []))
    → AreShardsAfter root gone new version (n + 1) (values ++ value ∷ [])
shard_more root gone new version n values value so_far is = record {
  as_many = let a = so_far.as_many in let b = length_push values value in omega (arith, a, b);
  each = λ after are i h. by after are i (cases_eq i n) h;
}
  where
    by : (after : List Fact) → AreGone root after gone → (i : ℕ) → (i ≡ n) ⊎ (i ≡ n → ⊥) → i < n + 1
        → get_or (values ++ value ∷ []) i [] ≡ ordered row_cmp
        (map (ended (epochs root) after version) (shard root i) ++ get_or new i [])
    by after are i (inl e) h =
        ap (λ k. get_or (values ++ value ∷ []) k []) (e ∙ sym so_far.as_many) ∙ at_end values
        ∙ is after are ∙ ap (λ k. ordered row_cmp
        (map (ended (epochs root) after version) (shard root k) ++ get_or new k [])) (sym e)
      where
        at_end : (vs : List (List Row)) → get_or (vs ++ value ∷ []) (length vs) [] ≡ value
        at_end [] = refl
        at_end (v ∷ vs) = at_end vs
    by after are i (inr other) h =
        let inside : i < n = omega (arith, other, h) in
        let many = so_far.as_many in
        get_or_append_left values (value ∷ []) [] i (omega (arith, inside, many)) ∙ so_far.each after are i inside
