-- What a reader of ontology documents looks at, and where the text ends.
use Rattle.std.proofs.Common.{◌≡◌, ℕ, true, Result, Ok, Err, IsErrAnd, List, [], ◌∷◌, refl, sym, ap, ◌∙◌, subst, slice_range}
use Rattle.std.proofs.lemmas.Result.{err_from_is_err_and}
use Rattle.dl_lex.specs.declared.keyword.Keyword.TheVariants.{Annotation, Import}
use Rattle.dl_lex.specs.declared.token.TokenKind.{TokenKind}
use Rattle.dl_lex.specs.declared.token.TokenKind.TheVariants.{Close, Word, End}
use Rattle.dl_names.specs.NameList as name_list
use Rattle.dl_owl.specs.declared.document.Document.{Document}
use Rattle.dl_owl.specs.declared.fault.OwlFault.{OwlFault}
use Rattle.dl_owl.specs.Symbols.{placed, symbol_of}
use Rattle.dl_owl.specs.Prefixes.{Prefixes}
use Rattle.dl_owl.specs.Causes.{syntax}
use Rattle.dl_owl.specs.Documents.{Finishes, GivesBy, Ends}
use Rattle.dl_owl.specs.Expected.{Expected, items, finish, close_then, refuses}
use Rattle.dl_owl.specs.Items.{empty_document, with_item}
use Rattle.dl_owl.specs.Refused.{keyword_left_out}
use Rattle.dl_owl.specs.Steps.{axiom_next, items_next, annotations_first_next, move_of}
use Rattle.dl_owl.specs.Reading.{outcome}
use Rattle.dl_owl.specs.Walk as walk
use Rattle.dl_owl.specs.Walk.{Spot, Here, here, met_of, FromToken, Goes, Faults}
use Rattle.dl_owl.proofs.WalkLemmas.{goes-then, goes-faults}

-- the exit of a `?`, whatever is promised
pub exit_by : {V : Type 0} (C : Result V OwlFault → Type 0) (r : Result V OwlFault) (fault : OwlFault)
    → IsErrAnd r (λ y. y ≡ fault) → C (Err fault) → C r
exit_by C r fault is h =
    let found = err_from_is_err_and r is in subst C (sym found.1) (subst (λ y. C (Err y)) (sym found.2) h)

-- ---- one after another

pub finishes_behind : (e f : Expected) (a b c : Here) (r : Result Document OwlFault)
    → Goes e a f b → Finishes f b c r → Finishes e a c r
finishes_behind e f a b c (Ok d) first h = goes-then e a f b (finish d) c first h
finishes_behind e f a b c (Err fault) first h = goes-faults e a f b fault first h

pub ends_behind : (e f : Expected) (a b : Here) (names : List name_list.Text) (r : Result Document OwlFault)
    → Goes e a f b → Ends f b names r → Ends e a names r
ends_behind e f a b names (Ok d) first h =
    let there = subst (λ bytes. FromToken bytes true b.spot.token h.tokens) first.same h.are in
    let front = first.on true h.tokens there in
    record { tokens = front.0; are = front.1.0; comes = front.1.1 ∙ h.comes }
ends_behind e f a b names (Err fault) first h = goes-faults e a f b fault first h

-- ---- tokens

pub no_first : (kind : TokenKind) (bytes : List ℕ) → (kind ≡ Word Annotation → ⊥)
    → annotations_first_next (symbol_of kind bytes) ≡ items_next empty_document (symbol_of kind bytes)
no_first (Word Annotation) bytes not = absurd (not refl)
no_first (Word w) bytes not = refl
no_first kind bytes not = refl

pub items_closed : (kind : TokenKind) (bytes : List ℕ) (p : Prefixes) (d : Document) → kind ≡ Close
    → move_of p (items d) (symbol_of kind bytes) ≡ move_of p (close_then (finish d)) (symbol_of kind bytes)
items_closed kind bytes p d is =
    ap (λ k. move_of p (items d) (symbol_of k bytes)) is
    ∙ ap (λ k. move_of p (close_then (finish d)) (symbol_of k bytes)) (sym is)

pub items_import : (kind : TokenKind) (bytes : List ℕ) (d : Document) → kind ≡ Word Import
    → items_next d (symbol_of kind bytes) ≡ refuses (keyword_left_out Import)
items_import kind bytes d is = ap (λ k. items_next d (symbol_of k bytes)) is

pub items_axiom : (kind : TokenKind) (bytes : List ℕ) (d : Document) → (kind ≡ Close → ⊥) → (kind ≡ Word Import → ⊥)
    → items_next d (symbol_of kind bytes) ≡ axiom_next (λ i. items (with_item d i)) (symbol_of kind bytes)
items_axiom Close bytes d not nor = absurd (not refl)
items_axiom (Word Import) bytes d not nor = absurd (nor refl)
items_axiom (Word w) bytes d not nor = refl
items_axiom kind bytes d not nor = refl

-- ---- the end of the text

pub finish_refused : (kind : TokenKind) (bytes : List ℕ) (p : Prefixes) (d : Document) → (kind ≡ End → ⊥)
    → move_of p (finish d) (symbol_of kind bytes) ≡ refuses syntax
finish_refused End bytes p d not = absurd (not refl)
finish_refused kind bytes p d not = refl

pub text_ends : (s : Spot) (p : Prefixes) (names : List name_list.Text) (d : Document) → s.token.kind ≡ End
    → GivesBy (finish d) (here s p names) names d
text_ends s p names d is = record {
  tokens = placed s.bytes s.token ∷ [];
  are = walk.FromToken.last is;
  comes =
      ap (λ kind. outcome (finish d) (met_of (here s p names))
      (record { symbol = symbol_of kind (slice_range s.bytes s.token.start s.token.end); at = s.token.start } ∷ [])) is;
}
