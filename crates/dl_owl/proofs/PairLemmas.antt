-- What a reader of the two roles of an inclusion looks at, and one of individuals that are not named.
use Rattle.std.proofs.Common.{◌≡◌, ℕ, Bool, true, false, if◌then◌else◌, List, refl, sym, ap, ◌∙◌}
use Rattle.std.specs.Str.{bytes_eq}
use Rattle.dl_lex.specs.declared.keyword.Keyword.TheVariants.{ObjectInverseOf, ObjectPropertyChain}
use Rattle.dl_lex.specs.declared.token.TokenKind.{TokenKind}
use Rattle.dl_lex.specs.declared.token.TokenKind.TheVariants.{Word}
use Rattle.dl_names.specs.NameList.{Text}
use Rattle.dl_terms.specs.Roles.{named}
use Rattle.dl_terms.specs.declared.role.Role.{Role}
use Rattle.dl_owl.specs.Symbols.{Symbol, symbol_of}
use Rattle.dl_owl.specs.Prefixes.{Prefixes}
use Rattle.dl_owl.specs.NamesNext.{owl_top_object_property, IsIri}
use Rattle.dl_names.specs.Iris.{is_free}
use Rattle.dl_owl.specs.Causes.{syntax, not_ql, reserved}
use Rattle.dl_owl.specs.Expected.{Expected, Move, goes, refuses}
use Rattle.dl_owl.specs.Steps.{at_iri, name_next, role_next, first_role_next, second_role_next}
use Rattle.dl_owl.proofs.IriLemmas.{at_iri-is}

-- ---- the first role

pub chain_refused : (kind : TokenKind) (bytes : List ℕ) (p : Prefixes) (k : Role → Expected)
    → kind ≡ Word ObjectPropertyChain
    → first_role_next p k (symbol_of kind bytes) ≡ refuses (not_ql ObjectPropertyChain)
chain_refused kind bytes p k is = ap (λ t. first_role_next p k (symbol_of t bytes)) is

pub first_plain : (kind : TokenKind) (bytes : List ℕ) (p : Prefixes) (k : Role → Expected)
    → (kind ≡ Word ObjectPropertyChain → ⊥)
    → first_role_next p k (symbol_of kind bytes) ≡ role_next p k (symbol_of kind bytes)
first_plain (Word ObjectPropertyChain) bytes p k not = absurd (not refl)
first_plain (Word w) bytes p k not = refl
first_plain kind bytes p k not = refl

-- ---- the second role

pub second_inverse : (kind : TokenKind) (bytes : List ℕ) (p : Prefixes) (k : Role → Expected) (e : Expected)
    → kind ≡ Word ObjectInverseOf
    → second_role_next p k e (symbol_of kind bytes) ≡ role_next p k (symbol_of kind bytes)
second_inverse kind bytes p k e is =
    ap (λ t. second_role_next p k e (symbol_of t bytes)) is ∙ sym (ap (λ t. role_next p k (symbol_of t bytes)) is)

-- what an IRI is there
abbrev pub second_by : (Role → Expected) → Expected → Text → Move
second_by k e text = if bytes_eq owl_top_object_property text then goes e else name_next is_free text
    (λ n. k (named n))

pub second_plain : (kind : TokenKind) (bytes : List ℕ) (p : Prefixes) (k : Role → Expected) (e : Expected)
    → (kind ≡ Word ObjectInverseOf → ⊥)
    → second_role_next p k e (symbol_of kind bytes) ≡ at_iri p (symbol_of kind bytes) (second_by k e) (refuses syntax)
second_plain (Word ObjectInverseOf) bytes p k e not = absurd (not refl)
second_plain (Word w) bytes p k e not = refl
second_plain kind bytes p k e not = refl

module _ (p : Prefixes) (s : Symbol) (text : Text) (iri : IsIri p s text) (k : Role → Expected) (e : Expected) where
  pub second_top : bytes_eq owl_top_object_property text ≡ true → at_iri p s (second_by k e) (refuses syntax) ≡ goes e
  second_top top =
      at_iri-is p s text (second_by k e) (refuses syntax) iri
      ∙ ap (λ b. if b then goes e else name_next is_free text (λ n. k (named n))) top

  pub second_other : bytes_eq owl_top_object_property text ≡ false
      → at_iri p s (second_by k e) (refuses syntax) ≡ name_next is_free text (λ n. k (named n))
  second_other top =
      at_iri-is p s text (second_by k e) (refuses syntax) iri
      ∙ ap (λ b. if b then goes e else name_next is_free text (λ n. k (named n))) top

-- ---- an individual that is not named

pub unnamed_by : (p : Prefixes) (s : Symbol) (text : Text) → IsIri p s text → (e : Expected) (other : Move) (b : Bool)
    → is_free text ≡ b
    → at_iri p s (λ t. if is_free t then goes e else refuses reserved) other ≡ (if b then goes e else refuses
    reserved)
unnamed_by p s text iri e other b free =
    at_iri-is p s text (λ t. if is_free t then goes e else refuses reserved) other iri
    ∙ ap (λ x. if x then goes e else refuses reserved) free
