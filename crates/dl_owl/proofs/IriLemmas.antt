-- What a token that is an IRI or a name does: of moves where a refused one can't be.
use Rattle.std.proofs.Common.{◌≡◌, ℕ, Bool, true, false, ◌⊎◌, inl, inr, Option, Some, None, if◌then◌else◌, refl, sym, ap, ◌∙◌, true≢false}
use Rattle.std.specs.Str.{bytes_eq}
use Rattle.dl_names.specs.NameList.{Text}
use Rattle.dl_names.proofs.NameListLemmas.{same-bytes_eq}
use Rattle.dl_owl.specs.Symbols.{Symbol, full_iri, short_iri}
use Rattle.dl_owl.specs.Prefixes.{Prefixes, expanded}
use Rattle.dl_owl.specs.NamesNext.{owl_thing, IsIri}
use Rattle.dl_names.specs.Iris.{may_be_class}
use Rattle.dl_owl.specs.Causes.{Cause, prefix_unknown, reserved}
use Rattle.dl_owl.specs.Expected.{Expected, Move, takes_name, refuses}
use Rattle.dl_owl.specs.Steps.{at_iri, name_next, named_next, class_or_thing}

-- an IRI, and what its text does
abbrev pub IriDoes : (Move → Type 0) → Prefixes → Symbol → (Text → Move) → Type 0
IriDoes C p s k = (text : Text) × (IsIri p s text × C (k text))

-- a name, and what comes of it
abbrev pub NameDoes : (Move → Type 0) → Prefixes → (Text → Bool) → Symbol → (ℕ → Expected) → Type 0
NameDoes C p allowed s k = (text : Text) × (IsIri p s text × (allowed text ≡ true) × C (takes_name text k))

module _ (C : Move → Type 0) (none : (cause : Cause) → C (refuses cause) → ⊥) where
  pub at_iri-forth : (p : Prefixes) (s : Symbol) (k : Text → Move) (cause : Cause) → C (at_iri p s k (refuses cause)) → IriDoes C p s k
  at_iri-forth p (full_iri text) k cause h = (text, (refl, h))
  at_iri-forth p (short_iri short) k cause h = by (expanded p short) refl h
    where
      by : (found : Option Text) → expanded p short ≡ found
          → C (elim found [ None ↦ refuses prefix_unknown | Some text ↦ k text ]) → IriDoes C p (short_iri short) k
      by None is h = absurd (none prefix_unknown h)
      by (Some text) is h = (text, (is, h))
  at_iri-forth p s k cause h = absurd (none cause h)

  -- of two moves by a test, of which one is refused
  pub if-forth : (b : Bool) (m : Move) (cause : Cause) → C (if b then m else refuses cause) → (b ≡ true) × C m
  if-forth true m cause h = (refl, h)
  if-forth false m cause h = absurd (none cause h)

  pub if-other : (b : Bool) (m : Move) (cause : Cause) → C (if b then refuses cause else m) → (b ≡ false) × C m
  if-other true m cause h = absurd (none cause h)
  if-other false m cause h = (refl, h)

  pub named-forth : (p : Prefixes) (allowed : Text → Bool) (k : ℕ → Expected) (cause : Cause) (s : Symbol)
      → C (named_next p allowed k (refuses cause) s) → NameDoes C p allowed s k
  named-forth p allowed k cause s h =
      let iri = at_iri-forth p s (λ text. name_next allowed text k) cause h in
      let free = if-forth (allowed iri.0) (takes_name iri.0 k) reserved iri.1.1 in
      (iri.0, (iri.1.0, free.0, free.1))

  pub class-forth : (p : Prefixes) (thing : Move) (k : ℕ → Expected) (cause : Cause) (s : Symbol)
      → C (class_or_thing p thing k (refuses cause) s) → (IsIri p s owl_thing × C thing) ⊎ NameDoes C p may_be_class s k
  class-forth p thing k cause s h =
      let iri = at_iri-forth p s (λ text. if bytes_eq owl_thing text then thing else name_next may_be_class text k) cause h in
      by iri.0 iri.1.0 (bytes_eq owl_thing iri.0) refl iri.1.1
    where
      by : (text : Text) → IsIri p s text → (b : Bool) → bytes_eq owl_thing text ≡ b
          → C (if b then thing else name_next may_be_class text k)
          → (IsIri p s owl_thing × C thing) ⊎ NameDoes C p may_be_class s k
      by text is true same h = inl (is ∙ ap Some (sym (same-bytes_eq owl_thing text same)), h)
      by text is false same h =
          let free = if-forth (may_be_class text) (takes_name text k) reserved h in inr (text, (is, free.0, free.1))

-- an IRI does what its text does
pub at_iri-is : (p : Prefixes) (s : Symbol) (text : Text) (k : Text → Move) (other : Move) → IsIri p s text → at_iri p s k other ≡ k text
at_iri-is p (full_iri text') text k other is = ap k (let same : text' ≡ text = cc in same)
at_iri-is p (short_iri short) text k other is =
    ap (λ found. elim found [ None ↦ refuses prefix_unknown | Some t ↦ k t ]) is
at_iri-is p s text k other is = absurd (cc)

-- a name is taken
pub named-is : (p : Prefixes) (allowed : Text → Bool) (k : ℕ → Expected) (other : Move) (s : Symbol) (text : Text)
    → IsIri p s text → allowed text ≡ true → named_next p allowed k other s ≡ takes_name text k
named-is p allowed k other s text is free =
    at_iri-is p s text (λ t. name_next allowed t k) other is ∙ ap (λ b. if b then takes_name text k else refuses reserved) free

pub thing-is : (p : Prefixes) (thing : Move) (k : ℕ → Expected) (other : Move) (s : Symbol)
    → IsIri p s owl_thing → class_or_thing p thing k other s ≡ thing
thing-is p thing k other s is =
    at_iri-is p s owl_thing (λ text. if bytes_eq owl_thing text then thing else name_next may_be_class text k) other is

-- owl:Thing is no class that has a name
thing_differs : (text : Text) → may_be_class text ≡ true → bytes_eq owl_thing text ≡ false
thing_differs text free = by (bytes_eq owl_thing text) refl
  where
    by : (b : Bool) → bytes_eq owl_thing text ≡ b → b ≡ false
    by true same = absurd (true≢false (sym free ∙ ap may_be_class (sym (same-bytes_eq owl_thing text same))))
    by false same = refl

pub class-is : (p : Prefixes) (thing : Move) (k : ℕ → Expected) (other : Move) (s : Symbol) (text : Text)
    → IsIri p s text → may_be_class text ≡ true → class_or_thing p thing k other s ≡ takes_name text k
class-is p thing k other s text is free =
    at_iri-is p s text (λ t. if bytes_eq owl_thing t then thing else name_next may_be_class t k) other is
    ∙ ap (λ b. if b then thing else name_next may_be_class text k) (thing_differs text free)
    ∙ ap (λ b. if b then takes_name text k else refuses reserved) free
