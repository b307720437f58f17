-- What a reader of a right side looks at: a keyword that is refused, and a class or owl:Thing.
use Rattle.std.proofs.Common.{◌≡◌, ℕ, Option, Some, None, List, [], ◌∷◌, refl, ap, ◌∙◌}
use Rattle.dl_lex.specs.declared.keyword.Keyword.{Keyword}
use Rattle.dl_lex.specs.declared.keyword.Keyword.TheVariants.{ObjectIntersectionOf, ObjectComplementOf, ObjectSomeValuesFrom}
use Rattle.dl_lex.specs.declared.token.TokenKind.{TokenKind}
use Rattle.dl_lex.specs.declared.token.TokenKind.TheVariants.{Word}
use Rattle.dl_terms.specs.declared.axiom.Part.{Part}
use Rattle.dl_terms.specs.declared.axiom.Part.TheVariants as part
use Rattle.dl_owl.specs.Refused.{refused_sup}
use Rattle.dl_owl.specs.Symbols.{keyword, symbol_of}
use Rattle.dl_owl.specs.Prefixes.{Prefixes}
use Rattle.dl_owl.specs.Causes.{syntax}
use Rattle.dl_owl.specs.Expected.{Expected, goes, refuses}
use Rattle.dl_owl.specs.Steps.{class_or_thing, sup_next}

refused_word : (w : Keyword) (p : Prefixes) (k : List Part → Expected) → (w ≡ ObjectIntersectionOf → ⊥)
    → (w ≡ ObjectComplementOf → ⊥)
    → (w ≡ ObjectSomeValuesFrom → ⊥) → sup_next p k (keyword w) ≡ refuses (refused_sup w)
refused_word ObjectIntersectionOf p k one two three = absurd (one refl)
refused_word ObjectComplementOf p k one two three = absurd (two refl)
refused_word ObjectSomeValuesFrom p k one two three = absurd (three refl)
refused_word w p k one two three = refl

pub sup_refused : (kind : TokenKind) (w : Keyword) (bytes : List ℕ) (p : Prefixes) (k : List Part → Expected)
    → kind ≡ Word w
    → (kind ≡ Word ObjectIntersectionOf → ⊥) → (kind ≡ Word ObjectComplementOf → ⊥)
    → (kind ≡ Word ObjectSomeValuesFrom → ⊥)
    → sup_next p k (symbol_of kind bytes) ≡ refuses (refused_sup w)
sup_refused kind w bytes p k is one two three =
    ap (λ t. sup_next p k (symbol_of t bytes)) is
    ∙ refused_word w p k (λ same. one (is ∙ ap Word same)) (λ same. two (is ∙ ap Word same))
    (λ same. three (is ∙ ap Word same))

-- what is expected behind a class
abbrev pub classed : (List Part → Expected) → Option ℕ → Expected
classed k None = k (part.Thing ∷ [])
classed k (Some n) = k (part.Class n ∷ [])

pub sup_class : (kind : TokenKind) (bytes : List ℕ) (p : Prefixes) (k : List Part → Expected)
    → ((w : Keyword) → kind ≡ Word w → ⊥)
    → sup_next p k (symbol_of kind bytes)
    ≡ class_or_thing p (goes (classed k None)) (λ n. classed k (Some n)) (refuses syntax) (symbol_of kind bytes)
sup_class (Word w) bytes p k not = absurd (not w refl)
sup_class kind bytes p k not = refl
