-- What a reader of prefix declarations looks at.
use Rattle.std.proofs.Common.{◌≡◌, ℕ, ◌-◌, List, length, refl, sym, ap, ◌∙◌, slice_range}
use Rattle.dl_lex.specs.declared.keyword.Keyword.TheVariants.{Prefix, Ontology}
use Rattle.dl_lex.specs.declared.token.TokenKind.{TokenKind}
use Rattle.dl_lex.specs.declared.token.TokenKind.TheVariants.{Iri, Equals, Word}
use Rattle.dl_names.specs.NameList.{Text}
use Rattle.dl_owl.specs.Symbols.{full_iri, symbol_of}
use Rattle.dl_owl.specs.Prefixes.{Prefixes}
use Rattle.dl_owl.specs.Causes.{syntax}
use Rattle.dl_owl.specs.Expected.{refuses}
use Rattle.dl_owl.specs.Steps.{prefix_equals_next, prefix_iri_next, prologue_next}
use Rattle.dl_owl.specs.Walk.{Spot, symbol_at}

pub prologue_refused : (kind : TokenKind) (bytes : List ℕ) → (kind ≡ Word Prefix → ⊥) → (kind ≡ Word Ontology → ⊥)
    → prologue_next (symbol_of kind bytes) ≡ refuses syntax
prologue_refused (Word Prefix) bytes not nor = absurd (not refl)
prologue_refused (Word Ontology) bytes not nor = absurd (nor refl)
prologue_refused (Word w) bytes not nor = refl
prologue_refused kind bytes not nor = refl

pub equals_refused : (kind : TokenKind) (bytes : List ℕ) (name : Text) → (kind ≡ Equals → ⊥)
    → prefix_equals_next name (symbol_of kind bytes) ≡ refuses syntax
equals_refused Equals bytes name not = absurd (not refl)
equals_refused kind bytes name not = refl

pub iri_refused : (kind : TokenKind) (bytes : List ℕ) (p : Prefixes) (name : Text) → (kind ≡ Iri → ⊥)
    → prefix_iri_next p name (symbol_of kind bytes) ≡ refuses syntax
iri_refused Iri bytes p name not = absurd (not refl)
iri_refused kind bytes p name not = refl

pub iri_symbol : (s : Spot) (iri : Text) → s.token.kind ≡ Iri
    → iri ≡ (let text = slice_range s.bytes s.token.start s.token.end in slice_range text 1 (length text - 1))
    → symbol_at s ≡ full_iri iri
iri_symbol s iri is same =
    ap (λ kind. symbol_of kind (slice_range s.bytes s.token.start s.token.end)) is ∙ ap full_iri (sym same)
