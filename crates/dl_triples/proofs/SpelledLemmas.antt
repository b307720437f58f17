-- Reading a text run by run and escape by escape.
use Rattle.std.proofs.Common.{◌≡◌, ℕ, ◌<◌, false, List, [], ◌∷◌, ◌++◌, length, refl, sym, ap, ◌∙◌, subst, append_assoc, append-nil, arith, length-append}
use Rattle.std.specs.Char.{encode_utf8}
use Rattle.dl_triples.specs.declared.spelling.Quoting.{Quoting}
use Rattle.dl_triples.specs.declared.spelling.Quoting.TheVariants.{Iri, Literal}
use Rattle.dl_triples.specs.Spelling.{is_plain, Spells}
use Rattle.dl_triples.specs.Runs.{begins, IsSplit}
use Rattle.dl_triples.specs.Parts.{EscapeThen, SpelledThen, goes_on, closing, TextThen}
use Rattle.dl_triples.proofs.SpellingLemmas.{escape_opens, Spells-append, Spells-plain, Spells-escape, behind_spelled, ends_spelled}

-- lists that are the same have the same first item and the same rest
pub first_same : (a b : ℕ) (x y : List ℕ) → a ∷ x ≡ b ∷ y → a ≡ b
first_same a b x y e = cc

pub rest_same : (a b : ℕ) (x y : List ℕ) → a ∷ x ≡ b ∷ y → x ≡ y
rest_same a b x y e = cc

pub not_empty : (b : ℕ) (x : List ℕ) → [] ≡ b ∷ x → ⊥
not_empty b x e = cc

-- the bytes before the rest spell a value, and no plain byte stands next
pub record Passed (quoting : Quoting) (bytes rest value : List ℕ) : Type 0 where
  pub text : List ℕ
  pub stands : bytes ≡ text ++ rest
  pub spells : Spells quoting text value
  pub ends : begins (is_plain quoting) rest ≡ false

abbrev pub Passed-first : (quoting : Quoting) (bytes run rest : List ℕ) → IsSplit (is_plain quoting) bytes run rest → Passed quoting bytes rest run
Passed-first quoting bytes run rest split = record { text = run; stands = split.parts; spells = Spells-plain quoting run split.passes; ends = split.ends }

pub Passed-next : (quoting : Quoting) (bytes here value : List ℕ) (c : ℕ) (next run rest : List ℕ) → Passed quoting bytes here value → EscapeThen quoting here c next
    → IsSplit (is_plain quoting) next run rest → Passed quoting bytes rest ((value ++ encode_utf8 c) ++ run)
Passed-next quoting bytes here value c next run rest passed escape split = record {
  text = (passed.text ++ escape.part) ++ run;
  stands =
      passed.stands ∙ ap (λ l. passed.text ++ l) (escape.stands ∙ ap (λ l. escape.part ++ l) split.parts)
      ∙ sym (append_assoc passed.text escape.part (run ++ rest)) ∙ sym (append_assoc (passed.text ++ escape.part) run rest);
  spells = Spells-append run run (Spells-append escape.part (encode_utf8 c) passed.spells (Spells-escape escape.is)) (Spells-plain quoting run split.passes);
  ends = split.ends;
}

-- what stands behind an escape is shorter
pub escape_shorter : (quoting : Quoting) (bytes : List ℕ) (c : ℕ) (next run rest : List ℕ) → EscapeThen quoting bytes c next → IsSplit (is_plain quoting) next run rest → length rest < length bytes
escape_shorter quoting bytes c next run rest escape split =
    let opens = escape_opens escape.is in
    omega (arith, ap length escape.stands, length-append escape.part next, ap length opens.1, ap length split.parts, length-append run rest)

-- where no escape stands next either, the text that began ends there
pub Passed-ends : (quoting : Quoting) (bytes here value : List ℕ) → Passed quoting bytes here value → ((c : ℕ) (more : List ℕ) → EscapeThen quoting here c more → ⊥)
    → (other tail : List ℕ) → SpelledThen quoting bytes other tail → (other ≡ value) × (here ≡ tail)
Passed-ends quoting bytes here value passed no_escape other tail then =
    let there = behind_spelled passed.spells here other tail (subst (λ l. SpelledThen quoting l other tail) passed.stands then) in
    let ends = ends_spelled here there.0 tail passed.ends no_escape there.2 in
    (there.1 ∙ ap (λ l. value ++ l) ends.0 ∙ append-nil value, ends.1)

-- what closes a text doesn't go on with it
pub closing_ends : (quoting : Quoting) → goes_on quoting (closing quoting) ≡ false
closing_ends Iri = refl
closing_ends Literal = refl

pub closing_no_plain : (quoting : Quoting) → is_plain quoting (closing quoting) ≡ false
closing_no_plain Iri = refl
closing_no_plain Literal = refl

closing_no_backslash : (quoting : Quoting) → closing quoting ≡ 92 → ⊥
closing_no_backslash Iri e = omega (arith, e)
closing_no_backslash Literal e = omega (arith, e)

pub closing_no_escape : (quoting : Quoting) (rest : List ℕ) (c : ℕ) (more : List ℕ) → EscapeThen quoting (closing quoting ∷ rest) c more → ⊥
closing_no_escape quoting rest c more escape =
    let opens = escape_opens escape.is in
    closing_no_backslash quoting (first_same (closing quoting) 92 rest (opens.0 ++ more) (escape.stands ∙ ap (λ l. l ++ more) opens.1))

pub SpelledThen-closed : (quoting : Quoting) (bytes text value rest : List ℕ) → TextThen quoting bytes text value rest → SpelledThen quoting bytes value (closing quoting ∷ rest)
SpelledThen-closed quoting bytes text value rest then = record { text = text; stands = then.stands; spells = then.spells; ends = closing_ends quoting }
