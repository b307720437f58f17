-- Names and constructs of axioms, as they are printed piece by piece.
use Rattle.std.proofs.Common.{◌≡◌, ◌≤◌, ◌-◌, ℕ, true, cond, List, [], ◌∷◌, ◌++◌, Some, length, map, get_or, take, drop, refl, sym, ap, ◌∙◌, arith, append_assoc, take_all, codes, slice_get, unwrap_or}
use Rattle.std.proofs.lemmas.List.{append-nil}
use Rattle.dl_lex.specs.declared.keyword.Keyword.{Keyword}
use Rattle.dl_lex.specs.declared.keyword.Keyword.TheVariants as keyword
use Rattle.dl_lex.specs.Keywords.{keyword_text}
use Rattle.dl_names.specs.NameList.{Text}
use Rattle.dl_terms.specs.declared.axiom.Part.{Part}
use Rattle.dl_terms.specs.declared.role.Role.{Role}
use Rattle.dl_text.specs.AxiomText.{property_of, role_text, part_text, parts_text, joined, construct_text}
use Rattle.dl_text.specs.NameText.{name_text}
use Rattle.dl_text.proofs.TextLemmas.{joined-map}
use Rattle.std.specs.List.{flat_map}

-- a name in < and >
pub name_printed : (names : List Text) (n : ℕ) (text : Text) → slice_get names n ≡ Some text → 60 ∷ (text ++ 62 ∷ []) ≡ name_text names n
name_printed names n text is = ap (λ found. 60 ∷ (unwrap_or found [] ++ 62 ∷ [])) (sym is)

-- a construct with one operand
one_operand : (text one : Text) → text ++ 40 ∷ (one ++ 41 ∷ []) ≡ text ++ (40 ∷ joined (one ∷ []) ++ 41 ∷ [])
one_operand text one = ap (λ l. text ++ 40 ∷ (l ++ 41 ∷ [])) (sym (append-nil one))

pub complement_printed : (one : Text) → codes "ObjectComplementOf(" ++ (one ++ 41 ∷ []) ≡ construct_text keyword.ObjectComplementOf (one ∷ [])
unfolding keyword_text
complement_printed one = one_operand (codes "ObjectComplementOf") one

-- a construct with two
pub some_printed : (one two : Text) → codes "ObjectSomeValuesFrom(" ++ (one ++ 32 ∷ (two ++ 41 ∷ [])) ≡ construct_text keyword.ObjectSomeValuesFrom (one ∷ two ∷ [])
unfolding keyword_text
some_printed one two = ap (λ l. codes "ObjectSomeValuesFrom(" ++ l) (spaced one two)
  where
    spaced : (one two : Text) → one ++ 32 ∷ (two ++ 41 ∷ []) ≡ (one ++ 32 ∷ (two ++ [])) ++ 41 ∷ []
    spaced one two = simp (append_assoc, append-nil)

-- a construct with operands that are printed one after another
pub construct_printed : (k : Keyword) (text operands : Text) → text ≡ keyword_text k
    → (text ++ 40 ∷ []) ++ (operands ++ 41 ∷ []) ≡ keyword_text k ++ (40 ∷ operands ++ 41 ∷ [])
construct_printed k text operands is =
    append_assoc text (40 ∷ []) (operands ++ 41 ∷ []) ∙ ap (λ t. t ++ 40 ∷ (operands ++ 41 ∷ [])) is

pub intersection_printed : (operands : Text) → codes "ObjectIntersectionOf(" ++ (operands ++ 41 ∷ []) ≡ keyword_text keyword.ObjectIntersectionOf ++ (40 ∷ operands ++ 41 ∷ [])
unfolding keyword_text
intersection_printed operands = refl

-- two operands with a space between them
pub two_joined : (one two : Text) → one ++ 32 ∷ two ≡ one ++ 32 ∷ (two ++ [])
two_joined one two = ap (λ l. one ++ 32 ∷ l) (sym (append-nil two))

-- the inverse of an object property
pub inverse_printed : (names : List Text) (r : Role) (n : ℕ) → n ≡ property_of r → r.inverse ≡ true
    → codes "ObjectInverseOf(" ++ (name_text names n ++ 41 ∷ []) ≡ role_text names r
unfolding keyword_text
inverse_printed names r n is inverse =
    let text = name_text names (property_of r) in
    ap (λ k. codes "ObjectInverseOf(" ++ (name_text names k ++ 41 ∷ [])) is
    ∙ one_operand (codes "ObjectInverseOf") text
    ∙ ap (λ b. cond b (construct_text keyword.ObjectInverseOf (text ∷ [])) text) (sym inverse)

-- a first operand, and then the others with their spaces
pub joined_printed : {X : Type 0} (f : X → Text) (first : X) (xs : List X) → 1 ≤ length xs → first ≡ get_or xs 0 first
    → f first ++ flat_map (λ y. 32 ∷ f y) (take (length xs - 1) (drop 1 xs)) ≡ joined (map f xs)
joined_printed f first [] some is = absurd (omega (arith, some))
joined_printed f first (x ∷ xs) some is =
    (λ i. f (is i) ++ flat_map (λ y. 32 ∷ f y) (rest x xs i)) ∙ sym (joined-map f x xs)
  where
    rest : {X : Type 0} (x : X) (xs : List X) → take (length (x ∷ xs) - 1) xs ≡ xs
    rest x xs = ap (λ n. take n xs) (omega arith) ∙ take_all (length xs) xs (omega arith)

-- one part
pub one_part : (names : List Text) (d : Part) (parts : List Part) → length parts ≡ 1 → part_text names (get_or parts 0 d) ≡ parts_text names parts
one_part names d [] one = absurd (omega (arith, one))
one_part names d (p ∷ []) one = refl
one_part names d (p ∷ q ∷ parts) one = absurd (omega (arith, one))

-- several
pub several_parts : (names : List Text) (parts : List Part) → (length parts ≡ 1 → ⊥)
    → construct_text keyword.ObjectIntersectionOf (map (part_text names) parts) ≡ parts_text names parts
several_parts names [] several = refl
several_parts names (p ∷ []) several = absurd (several (omega arith))
several_parts names (p ∷ q ∷ parts) several = refl

-- a role and a space, and then the parts
pub role_spaced : (one two : Text) → (one ++ 32 ∷ []) ++ two ≡ one ++ 32 ∷ (two ++ [])
role_spaced one two = append_assoc one (32 ∷ []) two ∙ two_joined one two
