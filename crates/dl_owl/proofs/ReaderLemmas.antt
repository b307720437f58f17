-- What a reader of roles and classes looks at: a keyword that fits, a token that is none, and owl:Thing.
use Rattle.std.proofs.Common.{◌≡◌, ℕ, Bool, true, false, Option, Some, None, if◌then◌else◌, List, refl, sym, ap, ◌∙◌, slice_range}
use Rattle.std.specs.Str.{bytes_eq}
use Rattle.dl_lex.specs.declared.keyword.Keyword.{Keyword}
use Rattle.dl_lex.specs.declared.keyword.Keyword.TheVariants.{ObjectInverseOf, ObjectSomeValuesFrom}
use Rattle.dl_lex.specs.declared.token.TokenKind.{TokenKind}
use Rattle.dl_lex.specs.declared.token.TokenKind.TheVariants.{Word, End}
use Rattle.dl_names.specs.NameList as name_list
use Rattle.dl_terms.specs.Roles.{named}
use Rattle.dl_terms.specs.declared.role.Role.{Role}
use Rattle.dl_terms.specs.declared.role.Basic.{Basic}
use Rattle.dl_terms.specs.declared.role.Basic.TheVariants as basic
use Rattle.dl_terms.specs.declared.axiom.Part.{Part}
use Rattle.dl_terms.specs.declared.axiom.Part.TheVariants as part
use Rattle.dl_owl.specs.declared.fault.OwlFault.{OwlFault}
use Rattle.dl_owl.specs.declared.fault.Construct.TheVariants.{Thing}
use Rattle.dl_owl.specs.Refused.{refused_sub}
use Rattle.dl_owl.specs.Symbols.{Symbol, keyword, symbol_of}
use Rattle.dl_owl.specs.Prefixes.{Prefixes}
use Rattle.dl_owl.specs.NamesNext.{owl_thing, IsIri}
use Rattle.dl_names.specs.Iris.{is_free, may_be_class}
use Rattle.dl_owl.specs.Causes.{syntax, not_ql, left_out}
use Rattle.dl_owl.specs.Expected.{Expected, Move, goes, refuses}
use Rattle.dl_owl.specs.Steps.{at_iri, name_next, named_next, class_or_thing, role_next, sub_next, move_of}
use Rattle.dl_owl.specs.Reading.{depth_after, is_too_deep}
use Rattle.dl_owl.specs.Walk.{Spot, symbol_at, here, Goes, Faults, Moved, NoneNext}
use Rattle.dl_owl.proofs.IriLemmas.{at_iri-is}
use Rattle.dl_owl.proofs.CursorLemmas.{advance-goes, advance-faults}

-- ---- a keyword that fits

module _ (w : Keyword) (e next : Expected) (s : Spot) (p : Prefixes) (names : List name_list.Text) (is : s.token.kind ≡ Word w)
    (fits : move_of p e (keyword w) ≡ goes next) where
  symbol_is : symbol_at s ≡ keyword w
  symbol_is = ap (λ kind. symbol_of kind (slice_range s.bytes s.token.start s.token.end)) is

  pub keyword-goes : (new : Spot) → Moved s new → Goes e (here s p names) next (here new p names)
  keyword-goes new m =
      advance-goes e next s p names (ap (move_of p e) symbol_is ∙ fits) (ap (λ t. is_too_deep t s.depth) symbol_is)
      (λ end. let apart : Word w ≡ End = sym is ∙ end in cc) new new m
      (ap (λ t. let u : Spot = record { bytes = new.bytes; token = new.token; depth = depth_after t new.depth } in u) (sym symbol_is))

  pub keyword-faults : (fault : OwlFault) → NoneNext s fault → Faults e (here s p names) names fault
  keyword-faults fault none =
      advance-faults e next s p names (ap (move_of p e) symbol_is ∙ fits) (ap (λ t. is_too_deep t s.depth) symbol_is)
      (λ end. let apart : Word w ≡ End = sym is ∙ end in cc) fault none

-- ---- a role that is no inverse

pub role_plain : (kind : TokenKind) (bytes : List ℕ) (p : Prefixes) (k : Role → Expected) → (kind ≡ Word ObjectInverseOf → ⊥)
    → role_next p k (symbol_of kind bytes) ≡ named_next p is_free (λ n. k (named n)) (refuses syntax) (symbol_of kind bytes)
role_plain (Word ObjectInverseOf) bytes p k not = absurd (not refl)
role_plain (Word w) bytes p k not = refl
role_plain kind bytes p k not = refl

-- ---- a class or owl:Thing

module _ (p : Prefixes) (s : Symbol) (text : name_list.Text) (iri : IsIri p s text) (thing : Move) (k : ℕ → Expected) (other : Move) where
  class_by : class_or_thing p thing k other s ≡ (if bytes_eq owl_thing text then thing else name_next may_be_class text k)
  class_by = at_iri-is p s text (λ t. if bytes_eq owl_thing t then thing else name_next may_be_class t k) other iri

  pub class_thing : bytes_eq owl_thing text ≡ true → class_or_thing p thing k other s ≡ thing
  class_thing same = class_by ∙ ap (λ b. if b then thing else name_next may_be_class text k) same

  pub class_other : bytes_eq owl_thing text ≡ false → class_or_thing p thing k other s ≡ name_next may_be_class text k
  class_other differs = class_by ∙ ap (λ b. if b then thing else name_next may_be_class text k) differs

-- what is expected behind a filler
abbrev pub filled : Role → (Part → Expected) → Option ℕ → Expected
filled r k None = k (part.Any r)
filled r k (Some n) = k (part.Fill r n)

-- the filler of a left side
pub thing_by : (p : Prefixes) (s : Symbol) (text : name_list.Text) → IsIri p s text → (e : Expected) (other : Move) (b : Bool)
    → bytes_eq owl_thing text ≡ b
    → at_iri p s (λ t. if bytes_eq owl_thing t then goes e else refuses (not_ql ObjectSomeValuesFrom)) other
    ≡ (if b then goes e else refuses (not_ql ObjectSomeValuesFrom))
thing_by p s text iri e other b same =
    at_iri-is p s text (λ t. if bytes_eq owl_thing t then goes e else refuses (not_ql ObjectSomeValuesFrom)) other iri
    ∙ ap (λ x. if x then goes e else refuses (not_ql ObjectSomeValuesFrom)) same

-- ---- class expressions of a left side

refused_word : (w : Keyword) (p : Prefixes) (k : Basic → Expected) → (w ≡ ObjectSomeValuesFrom → ⊥)
    → sub_next p k (keyword w) ≡ refuses (refused_sub w)
refused_word ObjectSomeValuesFrom p k not = absurd (not refl)
refused_word w p k not = refl

pub sub_refused : (kind : TokenKind) (w : Keyword) (bytes : List ℕ) (p : Prefixes) (k : Basic → Expected) → kind ≡ Word w
    → (kind ≡ Word ObjectSomeValuesFrom → ⊥) → sub_next p k (symbol_of kind bytes) ≡ refuses (refused_sub w)
sub_refused kind w bytes p k is not =
    ap (λ t. sub_next p k (symbol_of t bytes)) is ∙ refused_word w p k (λ same. not (is ∙ ap Word same))

pub sub_class : (kind : TokenKind) (bytes : List ℕ) (p : Prefixes) (k : Basic → Expected) → ((w : Keyword) → kind ≡ Word w → ⊥)
    → sub_next p k (symbol_of kind bytes)
    ≡ class_or_thing p (refuses (left_out Thing)) (λ n. k (basic.Class n)) (refuses syntax) (symbol_of kind bytes)
sub_class (Word w) bytes p k not = absurd (not w refl)
sub_class kind bytes p k not = refl
