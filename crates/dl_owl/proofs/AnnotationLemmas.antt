-- What a reader of annotations looks at: tokens without a text that fit, and a token that is none of them.
use Rattle.std.proofs.Common.{◌≡◌, ◌≢◌, ℕ, false, Result, Ok, Err, List, refl, sym, ap, ◌∙◌, slice_range}
use Rattle.dl_lex.specs.declared.keyword.Keyword.TheVariants.{Annotation}
use Rattle.dl_lex.specs.declared.token.TokenKind.{TokenKind}
use Rattle.dl_lex.specs.declared.token.TokenKind.TheVariants as token
use Rattle.dl_lex.specs.declared.token.TokenKind.TheVariants.{Close, Caret, Lang, Node, Word, End}
use Rattle.dl_names.specs.NameList as name_list
use Rattle.dl_owl.specs.declared.fault.OwlFault.{OwlFault}
use Rattle.dl_owl.specs.Symbols.{Symbol, node, string, language, caret, symbol_of}
use Rattle.dl_owl.specs.Prefixes.{Prefixes}
use Rattle.dl_owl.specs.Causes.{syntax}
use Rattle.dl_owl.specs.Expected.{Expected, close_then, annotations_then, iri_then, subject_then, value_then, value_end, goes, refuses}
use Rattle.dl_owl.specs.Steps.{move_of}
use Rattle.dl_owl.specs.Reading.{depth_after, is_too_deep}
use Rattle.dl_owl.specs.Walk.{Spot, symbol_at, Here, here, Goes, Faults, Moved, NoneNext, Passes}
use Rattle.dl_owl.proofs.WalkLemmas.{goes_alike, faults_alike}
use Rattle.dl_owl.proofs.CursorLemmas.{advance-goes, advance-faults}

module _ (e next : Expected) (s : Spot) (p : Prefixes) (names : List name_list.Text) (is : s.token.kind ≡ Node)
    (fits : move_of p e node ≡ goes next) where
  node_is : symbol_at s ≡ node
  node_is = ap (λ kind. symbol_of kind (slice_range s.bytes s.token.start s.token.end)) is

  pub node-goes : (new : Spot) → Moved s new → Goes e (here s p names) next (here new p names)
  node-goes new m =
      advance-goes e next s p names (ap (move_of p e) node_is ∙ fits) (ap (λ t. is_too_deep t s.depth) node_is)
      (λ end. let apart : Node ≡ End = sym is ∙ end in cc) new new m
      (ap (λ t. let u : Spot = record { bytes = new.bytes; token = new.token; depth = depth_after t new.depth } in u)
      (sym node_is))

  pub node-faults : (fault : OwlFault) → NoneNext s fault → Faults e (here s p names) names fault
  node-faults fault none =
      advance-faults e next s p names (ap (move_of p e) node_is ∙ fits) (ap (λ t. is_too_deep t s.depth) node_is)
      (λ end. let apart : Node ≡ End = sym is ∙ end in cc) fault none

subject_plain : (kind : TokenKind) (bytes : List ℕ) (p : Prefixes) (k : Expected) → (kind ≡ Node → ⊥)
    → move_of p (subject_then k) (symbol_of kind bytes) ≡ move_of p (iri_then k) (symbol_of kind bytes)
subject_plain Node bytes p k not = absurd (not refl)
subject_plain kind bytes p k not = refl

pub subject_alike : (s : Spot) (p : Prefixes) (names : List name_list.Text) (b : Here) (r : Result (Unit {0}) OwlFault)
    → (s.token.kind ≡ Node → ⊥) → Passes iri_then (here s p names) b r → Passes subject_then (here s p names) b r
subject_alike s p names b (Ok u) not h =
    λ k.
    goes_alike (subject_then k) (iri_then k) (here s p names) k b
    (subject_plain s.token.kind (slice_range s.bytes s.token.start s.token.end) p k not) (h k)
subject_alike s p names b (Err fault) not h =
    λ k.
    faults_alike (subject_then k) (iri_then k) (here s p names) fault
    (subject_plain s.token.kind (slice_range s.bytes s.token.start s.token.end) p k not) (h k)

-- ---- a token without a text that fits

-- what a kind of token says, where it is no parenthesis and not the end
pub record Says (kind : TokenKind) (symbol : Symbol) : Type 0 where
  pub says : (text : List ℕ) → symbol_of kind text ≡ symbol
  pub flat : (depth : ℕ) → is_too_deep symbol depth ≡ false
  pub level : (depth : ℕ) → depth_after symbol depth ≡ depth
  pub some : kind ≢ End

module _ (kind : TokenKind) (symbol : Symbol) (plain : Says kind symbol) (e next : Expected) (s : Spot) (p : Prefixes)
    (names : List name_list.Text) (is : s.token.kind ≡ kind) (fits : move_of p e symbol ≡ goes next) where
  says_it : symbol_at s ≡ symbol
  says_it =
      ap (λ k. symbol_of k (slice_range s.bytes s.token.start s.token.end)) is
      ∙ plain.says (slice_range s.bytes s.token.start s.token.end)

  pub token-goes : (new : Spot) → Moved s new → Goes e (here s p names) next (here new p names)
  token-goes new m =
      advance-goes e next s p names (ap (move_of p e) says_it ∙ fits)
      (ap (λ t. is_too_deep t s.depth) says_it ∙ plain.flat s.depth) (λ end. plain.some (sym is ∙ end)) new new m
      (ap (λ d. let u : Spot = record { bytes = new.bytes; token = new.token; depth = d } in u)
      (sym (ap (λ t. depth_after t new.depth) says_it ∙ plain.level new.depth)))

  pub token-faults : (fault : OwlFault) → NoneNext s fault → Faults e (here s p names) names fault
  token-faults fault none =
      advance-faults e next s p names (ap (move_of p e) says_it ∙ fits)
      (ap (λ t. is_too_deep t s.depth) says_it ∙ plain.flat s.depth) (λ end. plain.some (sym is ∙ end)) fault none

pub node_says : Says Node node
node_says = record { says = λ text. refl; flat = λ d. refl; level = λ d. refl; some = λ end. cc }

pub string_says : Says token.Text string
string_says = record { says = λ text. refl; flat = λ d. refl; level = λ d. refl; some = λ end. cc }

pub language_says : Says Lang language
language_says = record { says = λ text. refl; flat = λ d. refl; level = λ d. refl; some = λ end. cc }

pub caret_says : Says Caret caret
caret_says = record { says = λ text. refl; flat = λ d. refl; level = λ d. refl; some = λ end. cc }

-- ---- a token that is none of those

pub value_plain : (kind : TokenKind) (bytes : List ℕ) (p : Prefixes) (k : Expected) → (kind ≡ Node → ⊥)
    → (kind ≡ token.Text → ⊥)
    → move_of p (value_then k) (symbol_of kind bytes) ≡ move_of p (iri_then (close_then k)) (symbol_of kind bytes)
value_plain Node bytes p k not nor = absurd (not refl)
value_plain token.Text bytes p k not nor = absurd (nor refl)
value_plain kind bytes p k not nor = refl

pub literal_closed : (kind : TokenKind) (bytes : List ℕ) (p : Prefixes) (k : Expected) → kind ≡ Close
    → move_of p (value_end k) (symbol_of kind bytes) ≡ move_of p (close_then k) (symbol_of kind bytes)
literal_closed Close bytes p k is = refl
literal_closed kind bytes p k is = absurd (cc)

pub literal_refused : (kind : TokenKind) (bytes : List ℕ) (p : Prefixes) (k : Expected) → (kind ≡ Close → ⊥)
    → (kind ≡ Lang → ⊥)
    → (kind ≡ Caret → ⊥) → move_of p (value_end k) (symbol_of kind bytes) ≡ refuses syntax
literal_refused Close bytes p k close tag marks = absurd (close refl)
literal_refused Lang bytes p k close tag marks = absurd (tag refl)
literal_refused Caret bytes p k close tag marks = absurd (marks refl)
literal_refused kind bytes p k close tag marks = refl

pub no_annotation : (kind : TokenKind) (bytes : List ℕ) (p : Prefixes) (k : Expected) → (kind ≡ Word Annotation → ⊥)
    → move_of p (annotations_then k) (symbol_of kind bytes) ≡ move_of p k (symbol_of kind bytes)
no_annotation (Word Annotation) bytes p k not = absurd (not refl)
no_annotation (Word w) bytes p k not = refl
no_annotation kind bytes p k not = refl
