-- What a triple does by its terms, and a line by its form.
use Rattle.std.proofs.Common.{◌≡◌, ◌≢◌, ℕ, ◌+◌, List, [], ◌∷◌, Option, Some, None, Result, Ok, Err, MatchResult, refl, sym, ap, ◌∙◌, subst, append-nil, add-zero}
use Rattle.std.proofs.lemmas.Bool.{false≢true}
use Rattle.std.specs.Result.{IsOk, OnOk, OnErr, IfErr}
use Rattle.dl_names.specs.NameList.{Text}
use Rattle.dl_names.specs.declared.fault.NameFault.{NameFault}
use Rattle.dl_names.specs.declared.fault.NameFault.TheVariants as name_faults
use Rattle.dl_terms.specs.declared.axiom.Fact.{Fact}
use Rattle.dl_triples.specs.declared.meaning.Meaning.TheVariants as meanings
use Rattle.dl_triples.specs.declared.fault.TripleFault.{TripleFault}
use Rattle.dl_triples.specs.declared.fault.TripleFault.TheVariants as faults
use Rattle.dl_triples.specs.declared.reading.Triples.{Triples}
use Rattle.dl_triples.specs.declared.line.Iri.{Iri}
use Rattle.dl_triples.specs.Meaning.{meaning_of, names_of, skips, all_named}
use Rattle.dl_triples.specs.Terms.{IsNothing, IsTriple}
use Rattle.dl_triples.specs.Parts.{IsKept, IsKeptObject, iri, literal}
use Rattle.dl_triples.specs.Reading.{nothing, triple, Overflows, HasFault, reserved, full, HoldsFirst, some}
use Rattle.dl_triples.specs.Adding as adding
use Rattle.dl_triples.specs.Adding.{AddsFact, AddsTriple, AddsLine, NamesFirst, fault_at, HasTripleFault}

-- ---- objects as they are kept

pub kept_iri : {k : Option Iri} {o : Option Text} → IsKeptObject k o → (object : Iri) → k ≡ Some object → (value : Text) × (o ≡ Some value) × IsKept object value
kept_iri (iri {kept = kept} {value = value} h) object is = let same : kept ≡ object = cc in (value, refl, subst (λ k. IsKept k value) same h)
kept_iri literal object is = absurd (cc)

pub kept_literal : {k : Option Iri} {o : Option Text} → IsKeptObject k o → k ≡ None → o ≡ None
kept_literal (iri h) is = absurd (cc)
kept_literal literal is = refl

-- ---- what a triple adds

pub adds_skipped : (s p : Text) (o : Option Text) (names : List Text) (triples : Triples) → meaning_of s p o ≡ meanings.Skipped
    → AddsTriple s p o names names triples (record { facts = triples.facts; skipped = triples.skipped + 1 })
adds_skipped s p o names triples is = record {
  free = λ e. let bad : meanings.Skipped ≡ meanings.Reserved = sym is ∙ e in cc;
  fact = subst (λ m. AddsFact m s p o names names triples.facts triples.facts) (sym is) (record { named = refl; is = sym (append-nil triples.facts) });
  counted = ap (λ m. triples.skipped + skips m) (sym is);
}

pub adds_nothing : (s p : Text) (o : Option Text) (names : List Text) (triples : Triples) → meaning_of s p o ≡ meanings.NoEffect → AddsTriple s p o names names triples triples
adds_nothing s p o names triples is = record {
  free = λ e. let bad : meanings.NoEffect ≡ meanings.Reserved = sym is ∙ e in cc;
  fact = subst (λ m. AddsFact m s p o names names triples.facts triples.facts) (sym is) (record { named = refl; is = sym (append-nil triples.facts) });
  counted = sym (add-zero triples.skipped) ∙ ap (λ m. triples.skipped + skips m) (sym is);
}

-- a fact
pub adds_class : (s p value : Text) (o : Option Text) (names after : List Text) (triples : Triples) (added : List Fact) → o ≡ Some value → meaning_of s p o ≡ meanings.Class
    → AddsFact meanings.Class s p (Some value) names after triples.facts added → AddsTriple s p o names after triples (record { facts = added; skipped = triples.skipped })
adds_class s p value o names after triples added object is fact = record {
  free = λ e. let bad : meanings.Class ≡ meanings.Reserved = sym is ∙ e in cc;
  fact =
      subst (λ m. AddsFact m s p o names after triples.facts added) (sym is)
      (subst (λ (x : Option Text). AddsFact meanings.Class s p x names after triples.facts added) (sym object) fact);
  counted = sym (add-zero triples.skipped) ∙ ap (λ m. triples.skipped + skips m) (sym is);
}

pub adds_link : (s p value : Text) (o : Option Text) (names after : List Text) (triples : Triples) (added : List Fact) → o ≡ Some value → meaning_of s p o ≡ meanings.Link
    → AddsFact meanings.Link s p (Some value) names after triples.facts added → AddsTriple s p o names after triples (record { facts = added; skipped = triples.skipped })
adds_link s p value o names after triples added object is fact = record {
  free = λ e. let bad : meanings.Link ≡ meanings.Reserved = sym is ∙ e in cc;
  fact =
      subst (λ m. AddsFact m s p o names after triples.facts added) (sym is)
      (subst (λ (x : Option Text). AddsFact meanings.Link s p x names after triples.facts added) (sym object) fact);
  counted = sym (add-zero triples.skipped) ∙ ap (λ m. triples.skipped + skips m) (sym is);
}

-- ---- a fault of a name, told with the line

module _ {T U : Type 0} (n : ℕ) where
  pub told_ok : {P Q : Type 0} (added : Result T NameFault) (r : Result U TripleFault) → MatchResult added (λ _. IsOk r) (λ was. r ≡ Err (fault_at n was)) → (P → Q) → OnOk added P → OnOk r Q
  told_ok {P} {Q} (Ok x) (Ok y) h f p = f p
  told_ok (Ok x) (Err e) h f p = tt
  told_ok {P} {Q} (Err was) r h f p = subst (λ (l : Result U TripleFault). OnOk l Q) (sym h) tt

  pub told_first : {P Q : Type 0} (added : Result T NameFault) (r : Result U TripleFault) → MatchResult added (λ _. IsOk r) (λ was. r ≡ Err (fault_at n was)) → (P → Q) → OnErr added P → OnErr r Q
  told_first (Ok x) (Ok y) h f p = tt
  told_first (Ok x) (Err e) h f p = absurd (false≢true h)
  told_first {P} {Q} (Err was) r h f p = subst (λ (l : Result U TripleFault). OnErr l Q) (sym h) (f p)

  pub told_fault : (s p : Text) (o : Option Text) (names : List Text) (added : Result T NameFault) (r : Result U TripleFault) → MatchResult added (λ _. IsOk r) (λ was. r ≡ Err (fault_at n was))
      → meaning_of s p o ≢ meanings.Reserved → (added ≡ Err name_faults.Full → Overflows names (all_named names (names_of (meaning_of s p o) s p o)))
      → IfErr r (λ fault. fault ≢ faults.NoMemory → HasTripleFault s p o names n fault)
  told_fault s p o names (Ok x) (Ok y) h free over = tt
  told_fault s p o names (Ok x) (Err e) h free over = absurd (false≢true h)
  told_fault s p o names (Err name_faults.Full) r h free over =
      subst (λ (l : Result U TripleFault). IfErr l (λ fault. fault ≢ faults.NoMemory → HasTripleFault s p o names n fault)) (sym h) (λ _. adding.full free (over refl))
  told_fault s p o names (Err name_faults.NoMemory) r h free over =
      subst (λ (l : Result U TripleFault). IfErr l (λ fault. fault ≢ faults.NoMemory → HasTripleFault s p o names n fault)) (sym h) (λ other. absurd (other refl))

-- ---- what a line does

pub line_nothing : (line : List ℕ) (names : List Text) (triples : Triples) → IsNothing line → AddsLine line names names triples triples
line_nothing line names triples is = record {
  facts = [];
  skipped = 0;
  gives = nothing is;
  is = sym (append-nil triples.facts);
  counted = sym (add-zero triples.skipped);
}

pub line_triple : {U : Type 0} (line s p : List ℕ) (o : Option Text) (names after : List Text) (triples added : Triples) (r : Result U TripleFault) → IsTriple line s p o
    → OnOk r (AddsTriple s p o names after triples added) → OnOk r (Overflows names after → ⊥) → OnOk r (AddsLine line names after triples added)
line_triple line s p o names after triples added (Ok x) is adds fits = record {
  facts = _;
  skipped = _;
  gives = triple (record {
    subject = s;
    predicate = p;
    object = o;
    triple = is;
    free = adds.free;
    named = adds.fact.named;
    fits = fits;
    is = refl;
    counted = refl;
  });
  is = adds.fact.is;
  counted = adds.counted;
}
line_triple line s p o names after triples added (Err e) is adds fits = tt

pub line_fault : (line s p : List ℕ) (o : Option Text) (names : List Text) (n : ℕ) (fault : TripleFault) → IsTriple line s p o → HasTripleFault s p o names n fault → HasFault line names n fault
line_fault line s p o names n _ is (adding.reserved h) = reserved is h
line_fault line s p o names n _ is (adding.full free over) = full (record { subject = s; predicate = p; object = o; triple = is; free = free; full = over })

pub line_first : (line s p : List ℕ) (o : Option Text) (names after : List Text) → IsTriple line s p o → NamesFirst names (names_of (meaning_of s p o) s p o) after → HoldsFirst line names after
line_first line s p o names after is first = subst (HoldsFirst line names) (sym first.is) (some first.count is)

-- ---- the names of a fact, by its meaning and its object

pub class_names : (s p value : Text) (o : Option Text) → o ≡ Some value → meaning_of s p o ≡ meanings.Class → names_of (meaning_of s p o) s p o ≡ s ∷ value ∷ []
class_names s p value o object is = ap (λ m. names_of m s p o) is ∙ ap (names_of meanings.Class s p) object

pub link_names : (s p value : Text) (o : Option Text) → o ≡ Some value → meaning_of s p o ≡ meanings.Link → names_of (meaning_of s p o) s p o ≡ s ∷ p ∷ value ∷ []
link_names s p value o object is = ap (λ m. names_of m s p o) is ∙ ap (names_of meanings.Link s p) object

pub class_free : (s p : Text) (o : Option Text) → meaning_of s p o ≡ meanings.Class → meaning_of s p o ≢ meanings.Reserved
class_free s p o is = λ e. let bad : meanings.Class ≡ meanings.Reserved = sym is ∙ e in cc

pub link_free : (s p : Text) (o : Option Text) → meaning_of s p o ≡ meanings.Link → meaning_of s p o ≢ meanings.Reserved
link_free s p o is = λ e. let bad : meanings.Link ≡ meanings.Reserved = sym is ∙ e in cc
