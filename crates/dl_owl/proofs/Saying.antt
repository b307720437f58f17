-- Texts, and the symbols that they put in front of a rest.
use Rattle.std.proofs.Common.{◌≡◌, ℕ, suc, ◌+◌, ◌≤◌, false, ◌&&◌, not, nat_le, List, [], ◌∷◌, ◌++◌, codes, refl, sym, ap, ◌∙◌, subst, append_assoc, arith}
use Rattle.std.specs.List.{flat_map}
use Rattle.std.proofs.lemmas.Bool.Decides.{nat_tests}
use Rattle.dl_lex.specs.declared.keyword.Keyword.{Keyword}
use Rattle.dl_lex.specs.declared.keyword.Keyword.TheVariants as keywords
use Rattle.dl_lex.specs.Keywords.{keyword_text}
use Rattle.dl_lex.specs.declared.token.TokenKind.TheVariants.{Short, Word}
use Rattle.dl_lex.specs.Grammar as grammar
use Rattle.dl_names.specs.NameList.{Text}
use Rattle.dl_names.specs.Iris as iris
use Rattle.dl_terms.specs.declared.axiom.Axiom.{Axiom}
use Rattle.dl_terms.specs.declared.axiom.Axiom.TheVariants as axioms
use Rattle.dl_owl.specs.Symbols.{Symbol, opening, closing, full_iri, short_iri, keyword}
use Rattle.dl_owl.specs.Reading.{is_shallow}
use Rattle.dl_text.specs.AxiomText.{joined, construct_text, axiom_keyword}
use Rattle.dl_owl.proofs.Spelling as spelling
use Rattle.dl_owl.proofs.Spelling.{IsRunWord, EndsRun, Spells}

-- ---- texts and the symbols that they put before the rest

-- the text spells what f puts before the rest, and opens so many parentheses at most
pub record Says (text : Text) (f : List Symbol → List Symbol) (deep : ℕ) : Type 0 where
  pub spells : (more : Text) (rest : List Symbol) → EndsRun more → Spells more rest → Spells (text ++ more) (f rest)
  pub shallow : (d : ℕ) (rest : List Symbol) → d + deep ≤ 64 → is_shallow d (f rest) ≡ is_shallow d rest

pub Says-deeper : (text : Text) (f : List Symbol → List Symbol) (deep more : ℕ) → deep ≤ more → Says text f deep → Says text f more
Says-deeper text f deep more le h = record {
  spells = h.spells;
  shallow = λ d rest within. h.shallow d rest (omega (arith, le, within));
}

pub Says-iri : (name : Text) → iris.IsIri name → Says (60 ∷ name ++ 62 ∷ []) (λ rest. full_iri name ∷ rest) 0
Says-iri name good = record {
  spells = λ more rest ends h.
      subst (λ l. Spells (60 ∷ l) (full_iri name ∷ rest)) (sym (append_assoc name (62 ∷ []) more)) (spelling.Spells.an_iri name good h);
  shallow = λ d rest within. refl;
}

pub Says-short : (name : Text) → IsRunWord name Short → Says name (λ rest. short_iri name ∷ rest) 0
Says-short name good = record {
  spells = λ more rest ends h. spelling.Spells.a_short_iri name good ends h;
  shallow = λ d rest within. refl;
}

-- several texts
pub data SaysAll : List Text → (List Symbol → List Symbol) → ℕ → Type 0 where
  no_texts : {deep : ℕ} → SaysAll [] (λ rest. rest) deep
  a_text : {text : Text} {texts : List Text} {f g : List Symbol → List Symbol} {deep : ℕ} → Says text f deep → SaysAll texts g deep
      → SaysAll (text ∷ texts) (λ rest. f (g rest)) deep

pub EndsRun-others : (texts : List Text) (more : Text) → EndsRun more → EndsRun (flat_map (λ t. 32 ∷ t) texts ++ more)
EndsRun-others [] more ends = ends
EndsRun-others (t ∷ ts) more ends = spelling.EndsRun.at_space

-- with a space before each
pub Says-others : (texts : List Text) (f : List Symbol → List Symbol) (deep : ℕ) → SaysAll texts f deep → Says (flat_map (λ t. 32 ∷ t) texts) f deep
Says-others _ _ deep no_texts = record { spells = λ more rest ends h. h; shallow = λ d rest within. refl }
Says-others _ _ deep (a_text {text = text} {texts = texts} {f = f} {g = g} first others) =
    let behind = Says-others texts g deep others in
    record {
      spells = λ after rest ends h.
          subst (λ l. Spells (32 ∷ l) (f (g rest))) (sym (append_assoc text (flat_map (λ t. 32 ∷ t) texts) after))
          (spelling.Spells.a_space
          (first.spells (flat_map (λ t. 32 ∷ t) texts ++ after) (g rest) (EndsRun-others texts after ends)
          (behind.spells after rest ends h)));
      shallow = λ d rest within. first.shallow d (g rest) within ∙ behind.shallow d rest within;
    }

-- with a space between each two
pub Says-joined : (texts : List Text) (f : List Symbol → List Symbol) (deep : ℕ) → SaysAll texts f deep → Says (joined texts) f deep
Says-joined _ _ deep no_texts = record { spells = λ more rest ends h. h; shallow = λ d rest within. refl }
Says-joined _ _ deep (a_text {text = text} {texts = texts} {f = f} {g = g} first others) =
    let behind = Says-others texts g deep others in
    record {
      spells = λ after rest ends h.
          subst (λ l. Spells l (f (g rest))) (sym (append_assoc text (flat_map (λ t. 32 ∷ t) texts) after))
          (first.spells (flat_map (λ t. 32 ∷ t) texts ++ after) (g rest) (EndsRun-others texts after ends)
          (behind.spells after rest ends h));
      shallow = λ d rest within. first.shallow d (g rest) within ∙ behind.shallow d rest within;
    }

-- a construct: its keyword, and its operands in parentheses
pub Says-construct : (k : Keyword) (texts : List Text) (f : List Symbol → List Symbol) (deep : ℕ) → IsRunWord (keyword_text k) (Word k)
    → SaysAll texts f deep → Says (construct_text k texts) (λ rest. keyword k ∷ opening ∷ f (closing ∷ rest)) (suc deep)
Says-construct k texts f deep good all =
    let inner = Says-joined texts f deep all in
    record {
      spells = λ after rest ends h.
          subst (λ l. Spells l (keyword k ∷ opening ∷ f (closing ∷ rest)))
          (sym
          (append_assoc (keyword_text k) (40 ∷ joined texts ++ 41 ∷ []) after
          ∙ ap (λ l. keyword_text k ++ (40 ∷ l)) (append_assoc (joined texts) (41 ∷ []) after)))
          (spelling.Spells.a_keyword k good spelling.EndsRun.at_opening
          (spelling.Spells.an_opening
          (inner.spells (41 ∷ after) (closing ∷ rest) spelling.EndsRun.at_closing (spelling.Spells.a_closing h))));
      shallow = λ d rest within.
          let flat : nat_le 64 d ≡ false = grind (arith, nat_tests) in
          ap (λ b. not b && is_shallow (suc d) (f (closing ∷ rest))) flat
          ∙ inner.shallow (suc d) (closing ∷ rest) (omega (arith, within));
    }

-- ---- the words that are written

pub thing_word : IsRunWord (codes "owl:Thing") Short
thing_word = record { some = omega arith; characters = refl; is = grammar.IsRunText.short refl refl }

pub nothing_word : IsRunWord (codes "owl:Nothing") Short
nothing_word = record { some = omega arith; characters = refl; is = grammar.IsRunText.short refl refl }

pub inverse_word : IsRunWord (keyword_text keywords.ObjectInverseOf) (Word keywords.ObjectInverseOf)
unfolding keyword_text
inverse_word = record { some = omega arith; characters = refl; is = grammar.IsRunText.word keywords.ObjectInverseOf refl refl refl refl }

pub some_word : IsRunWord (keyword_text keywords.ObjectSomeValuesFrom) (Word keywords.ObjectSomeValuesFrom)
unfolding keyword_text
some_word = record { some = omega arith; characters = refl; is = grammar.IsRunText.word keywords.ObjectSomeValuesFrom refl refl refl refl }

pub intersection_word : IsRunWord (keyword_text keywords.ObjectIntersectionOf) (Word keywords.ObjectIntersectionOf)
unfolding keyword_text
intersection_word = record { some = omega arith; characters = refl; is = grammar.IsRunText.word keywords.ObjectIntersectionOf refl refl refl refl }

pub complement_word : IsRunWord (keyword_text keywords.ObjectComplementOf) (Word keywords.ObjectComplementOf)
unfolding keyword_text
complement_word = record { some = omega arith; characters = refl; is = grammar.IsRunText.word keywords.ObjectComplementOf refl refl refl refl }

pub axiom_word : (a : Axiom) → IsRunWord (keyword_text (axiom_keyword a)) (Word (axiom_keyword a))
unfolding keyword_text
axiom_word (axioms.SubClass b ps) = record { some = omega arith; characters = refl; is = grammar.IsRunText.word _ refl refl refl refl }
axiom_word (axioms.EquivalentClasses bs) = record { some = omega arith; characters = refl; is = grammar.IsRunText.word _ refl refl refl refl }
axiom_word (axioms.DisjointClasses bs) = record { some = omega arith; characters = refl; is = grammar.IsRunText.word _ refl refl refl refl }
axiom_word (axioms.SubRole r s) = record { some = omega arith; characters = refl; is = grammar.IsRunText.word _ refl refl refl refl }
axiom_word (axioms.EquivalentRoles rs) = record { some = omega arith; characters = refl; is = grammar.IsRunText.word _ refl refl refl refl }
axiom_word (axioms.DisjointRoles rs) = record { some = omega arith; characters = refl; is = grammar.IsRunText.word _ refl refl refl refl }
axiom_word (axioms.InverseRoles r s) = record { some = omega arith; characters = refl; is = grammar.IsRunText.word _ refl refl refl refl }
axiom_word (axioms.Domain r ps) = record { some = omega arith; characters = refl; is = grammar.IsRunText.word _ refl refl refl refl }
axiom_word (axioms.Range r ps) = record { some = omega arith; characters = refl; is = grammar.IsRunText.word _ refl refl refl refl }
axiom_word (axioms.Symmetric r) = record { some = omega arith; characters = refl; is = grammar.IsRunText.word _ refl refl refl refl }
axiom_word (axioms.Asymmetric r) = record { some = omega arith; characters = refl; is = grammar.IsRunText.word _ refl refl refl refl }
axiom_word (axioms.Irreflexive r) = record { some = omega arith; characters = refl; is = grammar.IsRunText.word _ refl refl refl refl }
