-- The text of an axiom that was read is read as this axiom, over any list that has its names.
use Rattle.std.proofs.Common.{◌≡◌, ◌⊎◌, inl, inr, ℕ, ◌+◌, ◌-◌, ◌≤◌, Bool, true, not, List, [], ◌∷◌, ◌++◌, All, Contains, map, length, codes, slice_get, refl, sym, ap, ◌∙◌, subst, arith}
use Rattle.std.specs.Prelude.{slice_range}
use Rattle.std.specs.List.{AllPass, flat_map}
use Rattle.std.proofs.Math.Utf8.{encodes}
use Rattle.std.proofs.lemmas.Bool.{and_parts}
use Rattle.std.proofs.lemmas.List.{length-map}
use Rattle.std.proofs.lemmas.List.Elements.{All-nil, All-cons, All-head, All-tail}
use Rattle.dl_lex.specs.declared.token.TokenKind.{TokenKind}
use Rattle.dl_lex.specs.declared.token.TokenKind.TheVariants.{Open, Close, Equals, Caret, Iri, Text, Lang, Node, Short, Number, Word, End}
use Rattle.dl_lex.specs.Characters.{is_iri_character, is_run_character, is_among}
use Rattle.dl_lex.specs.Grammar.{IsTokenAt}
use Rattle.dl_lex.proofs.Ranges.{slice_of}
use Rattle.dl_lex.proofs.Standing.{StandsAt-append}
use Rattle.dl_names.specs.NameList as name_list
use Rattle.dl_names.specs.NameList.{HasNoRepeats, max_names}
use Rattle.dl_names.specs.Iris.{IsIri}
use Rattle.dl_terms.specs.declared.role.Role.{Role}
use Rattle.dl_terms.specs.declared.role.Basic.{Basic}
use Rattle.dl_terms.specs.declared.axiom.Part.{Part}
use Rattle.dl_terms.specs.declared.axiom.Axiom.{Axiom}
use Rattle.dl_terms.specs.Auxiliaries.{RoleHasNoAuxiliary, BasicHasNoAuxiliary, PartHasNoAuxiliary, HasNoAuxiliary}
use Rattle.dl_terms.specs.Occurring.{role_names, basic_names, part_names, axiom_names}
use Rattle.dl_terms.specs.Renamed.{renamed_role, renamed_basic, renamed_part, renamed_axiom}
use Rattle.dl_owl.specs.declared.document.Document.{Document}
use Rattle.dl_owl.specs.declared.item.Item.TheVariants.{Axiom as axiom_item}
use Rattle.dl_owl.specs.Symbols as symbols
use Rattle.dl_owl.specs.Symbols.{symbol_of, Placed, symbols_of, AreTokens, ending}
use Rattle.dl_owl.specs.Prefixes.{predefined}
use Rattle.dl_owl.specs.Items.{empty_document}
use Rattle.dl_owl.specs.Axioms.{AxiomThen}
use Rattle.dl_owl.specs.Expected.{Expected, prologue, lone_axiom}
use Rattle.dl_owl.specs.Reading.{ReadsValue, is_shallow}
use Rattle.dl_text.specs.AxiomText.{axiom_text}
use Rattle.dl_owl.proofs.Whole.{ontology_read, lone_read, is_lone}
use Rattle.dl_owl.proofs.IriTexts.{iri_of_characters, IsIri-behind_colon}
use Rattle.dl_owl.proofs.Spelling.{between, tokens_of}
use Rattle.dl_owl.proofs.Stating as stating
use Rattle.dl_owl.proofs.Stating.{IsStated, RoleIn, BasicIn, PartIn, PartsIn, AxiomIn, Each, no_items, an_item, axiom_stands}
use Rattle.dl_owl.proofs.Stated.{IsTexted, AreTexted, ontology_stated, lone_axiom_stated}

-- ---- tokens have texts of IRIs

iri_characters_of_run : (cs : List ℕ) → AllPass is_run_character cs → AllPass is_iri_character cs
iri_characters_of_run [] h = All-nil (λ c. is_iri_character c ≡ true)
iri_characters_of_run (c ∷ cs) h =
    All-cons (λ d. is_iri_character d ≡ true) c cs
    (and_parts (is_iri_character c) (not (is_among c (codes "()=@#"))) (All-head (λ d. is_run_character d ≡ true) c cs h)).0
    (iri_characters_of_run cs (All-tail (λ d. is_run_character d ≡ true) c cs h))

token_texted : (bytes : List ℕ) (kind : TokenKind) (i j : ℕ) → IsTokenAt bytes kind i j → IsTexted (symbol_of kind (slice_range bytes i j))
token_texted bytes Open i j t = tt
token_texted bytes Close i j t = tt
token_texted bytes Equals i j t = tt
token_texted bytes Caret i j t = tt
token_texted bytes Iri i j t =
    let cs = t.inner.characters in
    let stands =
    StandsAt-append bytes i (i + 1) j (60 ∷ []) (encodes cs ++ 62 ∷ []) t.opens
    (StandsAt-append bytes (i + 1) t.inner_end j (encodes cs) (62 ∷ []) t.inner.stand t.closes) in
    let cut : slice_range bytes i j ≡ 60 ∷ encodes cs ++ 62 ∷ [] = slice_of bytes i j (60 ∷ encodes cs ++ 62 ∷ []) stands in
    subst IsIri (sym (ap (λ l. slice_range l 1 (length l - 1)) cut ∙ between bytes (encodes cs)))
    (iri_of_characters (encodes cs) cs t.inner.scalars t.inner.admitted refl)
token_texted bytes Text i j t = tt
token_texted bytes Lang i j t = tt
token_texted bytes Node i j t = tt
token_texted bytes Short i j t =
    let cs = t.run.run.characters in
    IsIri-behind_colon (slice_range bytes i j)
    (iri_of_characters (slice_range bytes i j) cs t.run.run.scalars (iri_characters_of_run cs t.run.run.admitted)
    (slice_of bytes i j (encodes cs) t.run.run.stand))
token_texted bytes Number i j t = tt
token_texted bytes (Word k) i j t = tt
token_texted bytes End i j t = tt

texted_of : (bytes : List ℕ) (all : Bool) (place : ℕ) (tokens : List Placed) → AreTokens bytes all place tokens → AreTexted (symbols_of tokens)
texted_of bytes all place _ (symbols.AreTokens.nothing some) = no_items
texted_of bytes all place _ (symbols.AreTokens.fault at none) = an_item tt no_items
texted_of bytes all place _ (symbols.AreTokens.last t next end) =
    an_item (token_texted bytes t.kind t.start t.end next.stands) no_items
texted_of bytes all place _ (symbols.AreTokens.token {more = others} t next not them) =
    an_item (token_texted bytes t.kind t.start t.end next.stands) (texted_of bytes all t.end others them)

-- each axiom of a text has its names among those after it
pub ontology_in : (bytes : List ℕ) (before after : List name_list.Text) (document : Document) → ReadsValue bytes prologue before document after
    → Each (AxiomIn after) document.axioms
ontology_in bytes before after document h =
    ontology_stated before (symbols_of h.tokens) document after (texted_of bytes true 0 h.tokens h.are)
    (ontology_read before h.tokens document after h.comes)

pub lone_axiom_in : (bytes : List ℕ) (before after : List name_list.Text) (document : Document) → ReadsValue bytes lone_axiom before document after
    → Each (AxiomIn after) document.axioms
lone_axiom_in bytes before after document h =
    lone_axiom_stated before (symbols_of h.tokens) document after (texted_of bytes true 0 h.tokens h.are)
    (lone_read before h.tokens document after h.comes)

value_stated : (bytes : List ℕ) (e : Expected) (before after : List name_list.Text) (document : Document) → (e ≡ prologue) ⊎ (e ≡ lone_axiom)
    → ReadsValue bytes e before document after → Each (AxiomIn after) document.axioms
value_stated bytes e before after document (inl whole) h =
    ontology_in bytes before after document (subst (λ f. ReadsValue bytes f before document after) whole h)
value_stated bytes e before after document (inr lone) h =
    lone_axiom_in bytes before after document (subst (λ f. ReadsValue bytes f before document after) lone h)

-- ---- none of them has a filler

role_plain : (names : List name_list.Text) (r : Role) → RoleIn names r → RoleHasNoAuxiliary r
role_plain names _ (stating.RoleIn.plain h) = tt
role_plain names _ (stating.RoleIn.inverse h) = tt

basic_plain : (names : List name_list.Text) (b : Basic) → BasicIn names b → BasicHasNoAuxiliary b
basic_plain names _ (stating.BasicIn.class h) = tt
basic_plain names _ (stating.BasicIn.some {r = r} h) = role_plain names r h

part_plain : (names : List name_list.Text) (p : Part) → PartIn names p → PartHasNoAuxiliary p
part_plain names _ stating.PartIn.thing = tt
part_plain names _ (stating.PartIn.class h) = tt
part_plain names _ (stating.PartIn.any {r = r} h) = role_plain names r h
part_plain names _ (stating.PartIn.fill {r = r} h g) = role_plain names r h
part_plain names _ (stating.PartIn.complement {b = b} h) = basic_plain names b h

each_weaker : {X : Type 0} (P Q : X → Type 0) → ((x : X) → P x → Q x) → (xs : List X) → Each P xs → All Q xs
each_weaker P Q f _ no_items = All-nil Q
each_weaker P Q f _ (an_item {x = x} {xs = xs} h hs) = All-cons Q x xs (f x h) (each_weaker P Q f xs hs)

parts_plain : (names : List name_list.Text) (ps : List Part) → PartsIn names ps → All PartHasNoAuxiliary ps
parts_plain names _ (stating.PartsIn.parts {p = p} {ps = ps} h hs) =
    All-cons PartHasNoAuxiliary p ps (part_plain names p h) (each_weaker (PartIn names) PartHasNoAuxiliary (part_plain names) ps hs)

axiom_plain : (names : List name_list.Text) (a : Axiom) → AxiomIn names a → HasNoAuxiliary a
axiom_plain names _ (stating.AxiomIn.sub_class {b = b} {ps = ps} h g) = (basic_plain names b h, parts_plain names ps g)
axiom_plain names _ (stating.AxiomIn.equivalent_classes {bs = bs} h two) =
    each_weaker (BasicIn names) BasicHasNoAuxiliary (basic_plain names) bs h
axiom_plain names _ (stating.AxiomIn.disjoint_classes {bs = bs} h two) =
    each_weaker (BasicIn names) BasicHasNoAuxiliary (basic_plain names) bs h
axiom_plain names _ (stating.AxiomIn.sub_role {r = r} {s = s} h g) = (role_plain names r h, role_plain names s g)
axiom_plain names _ (stating.AxiomIn.equivalent_roles {rs = rs} h two) = each_weaker (RoleIn names) RoleHasNoAuxiliary (role_plain names) rs h
axiom_plain names _ (stating.AxiomIn.disjoint_roles {rs = rs} h two) = each_weaker (RoleIn names) RoleHasNoAuxiliary (role_plain names) rs h
axiom_plain names _ (stating.AxiomIn.inverse_roles {r = r} {s = s} h g) = (role_plain names r h, role_plain names s g)
axiom_plain names _ (stating.AxiomIn.domain {r = r} {ps = ps} h g) = (role_plain names r h, parts_plain names ps g)
axiom_plain names _ (stating.AxiomIn.range {r = r} {ps = ps} h g) = (role_plain names r h, parts_plain names ps g)
axiom_plain names _ (stating.AxiomIn.symmetric {r = r} h) = role_plain names r h
axiom_plain names _ (stating.AxiomIn.asymmetric {r = r} h) = role_plain names r h
axiom_plain names _ (stating.AxiomIn.irreflexive {r = r} h) = role_plain names r h

pub axioms_plain : (names : List name_list.Text) (axioms : List Axiom) → Each (AxiomIn names) axioms → All HasNoAuxiliary axioms
axioms_plain names axioms h = each_weaker (AxiomIn names) HasNoAuxiliary (axiom_plain names) axioms h

-- ---- over another list that has the names

all_left : {X : Type 0} (P : X → Type 0) (xs ys : List X) → All P (xs ++ ys) → All P xs
all_left P [] ys h = All-nil P
all_left P (x ∷ xs) ys h = All-cons P x xs (All-head P x (xs ++ ys) h) (all_left P xs ys (All-tail P x (xs ++ ys) h))

all_right : {X : Type 0} (P : X → Type 0) (xs ys : List X) → All P (xs ++ ys) → All P ys
all_right P [] ys h = h
all_right P (x ∷ xs) ys h = all_right P xs ys (All-tail P x (xs ++ ys) h)

module _ (names held : List name_list.Text) (number : ℕ → ℕ) where
  -- the number in the one list has the text that it has in the other
  abbrev pub HasSameText : ℕ → Type 0
  HasSameText n = slice_get held (number n) ≡ slice_get names n

  name_again : (allowed : name_list.Text → Bool) (n : ℕ) → HasSameText n → IsStated names allowed n → IsStated held allowed (number n)
  name_again allowed n same h = record { text = h.text; at = same ∙ h.at; is_allowed = h.is_allowed; iri = h.iri }

  role_again : (r : Role) → All HasSameText (role_names r) → RoleIn names r → RoleIn held (renamed_role number r)
  role_again _ same (stating.RoleIn.plain {n = n} h) = stating.RoleIn.plain (name_again _ n (All-head HasSameText n [] same) h)
  role_again _ same (stating.RoleIn.inverse {n = n} h) = stating.RoleIn.inverse (name_again _ n (All-head HasSameText n [] same) h)

  basic_again : (b : Basic) → All HasSameText (basic_names b) → BasicIn names b → BasicIn held (renamed_basic number b)
  basic_again _ same (stating.BasicIn.class {n = n} h) = stating.BasicIn.class (name_again _ n (All-head HasSameText n [] same) h)
  basic_again _ same (stating.BasicIn.some {r = r} h) = stating.BasicIn.some (role_again r same h)

  part_again : (p : Part) → All HasSameText (part_names p) → PartIn names p → PartIn held (renamed_part number p)
  part_again _ same stating.PartIn.thing = stating.PartIn.thing
  part_again _ same (stating.PartIn.class {n = n} h) = stating.PartIn.class (name_again _ n (All-head HasSameText n [] same) h)
  part_again _ same (stating.PartIn.any {r = r} h) = stating.PartIn.any (role_again r same h)
  part_again _ same (stating.PartIn.fill {r = r} {n = n} h g) =
      stating.PartIn.fill (role_again r (all_left HasSameText (role_names r) (n ∷ []) same) h)
      (name_again _ n (All-head HasSameText n [] (all_right HasSameText (role_names r) (n ∷ []) same)) g)
  part_again _ same (stating.PartIn.complement {b = b} h) = stating.PartIn.complement (basic_again b same h)

  each_again : {X : Type 0} (P Q : X → Type 0) (f : X → X) (numbers : X → List ℕ) → ((x : X) → All HasSameText (numbers x) → P x → Q (f x)) → (xs : List X)
      → All HasSameText (flat_map numbers xs) → Each P xs → Each Q (map f xs)
  each_again P Q f numbers one _ same no_items = no_items
  each_again P Q f numbers one _ same (an_item {x = x} {xs = xs} h hs) =
      an_item (one x (all_left HasSameText (numbers x) (flat_map numbers xs) same) h)
      (each_again P Q f numbers one xs (all_right HasSameText (numbers x) (flat_map numbers xs) same) hs)

  roles_again : (rs : List Role) → All HasSameText (flat_map role_names rs) → Each (RoleIn names) rs → Each (RoleIn held) (map (renamed_role number) rs)
  roles_again = each_again (RoleIn names) (RoleIn held) (renamed_role number) role_names role_again

  basics_again : (bs : List Basic) → All HasSameText (flat_map basic_names bs) → Each (BasicIn names) bs → Each (BasicIn held) (map (renamed_basic number) bs)
  basics_again = each_again (BasicIn names) (BasicIn held) (renamed_basic number) basic_names basic_again

  parts_again : (ps : List Part) → All HasSameText (flat_map part_names ps) → PartsIn names ps → PartsIn held (map (renamed_part number) ps)
  parts_again _ same (stating.PartsIn.parts {p = p} {ps = ps} h hs) =
      stating.PartsIn.parts (part_again p (all_left HasSameText (part_names p) (flat_map part_names ps) same) h)
      (each_again (PartIn names) (PartIn held) (renamed_part number) part_names part_again ps
      (all_right HasSameText (part_names p) (flat_map part_names ps) same) hs)

  two_again : {X : Type 0} (f : X → X) (xs : List X) → 2 ≤ length xs → 2 ≤ length (map f xs)
  two_again f xs two = omega (arith, length-map xs f, two)

  axiom_again : (a : Axiom) → All HasSameText (axiom_names a) → AxiomIn names a → AxiomIn held (renamed_axiom number a)
  axiom_again _ same (stating.AxiomIn.sub_class {b = b} {ps = ps} h g) =
      stating.AxiomIn.sub_class (basic_again b (all_left HasSameText (basic_names b) (flat_map part_names ps) same) h)
      (parts_again ps (all_right HasSameText (basic_names b) (flat_map part_names ps) same) g)
  axiom_again _ same (stating.AxiomIn.equivalent_classes {bs = bs} h two) =
      stating.AxiomIn.equivalent_classes (basics_again bs same h) (two_again (renamed_basic number) bs two)
  axiom_again _ same (stating.AxiomIn.disjoint_classes {bs = bs} h two) =
      stating.AxiomIn.disjoint_classes (basics_again bs same h) (two_again (renamed_basic number) bs two)
  axiom_again _ same (stating.AxiomIn.sub_role {r = r} {s = s} h g) =
      stating.AxiomIn.sub_role (role_again r (all_left HasSameText (role_names r) (role_names s) same) h)
      (role_again s (all_right HasSameText (role_names r) (role_names s) same) g)
  axiom_again _ same (stating.AxiomIn.equivalent_roles {rs = rs} h two) =
      stating.AxiomIn.equivalent_roles (roles_again rs same h) (two_again (renamed_role number) rs two)
  axiom_again _ same (stating.AxiomIn.disjoint_roles {rs = rs} h two) =
      stating.AxiomIn.disjoint_roles (roles_again rs same h) (two_again (renamed_role number) rs two)
  axiom_again _ same (stating.AxiomIn.inverse_roles {r = r} {s = s} h g) =
      stating.AxiomIn.inverse_roles (role_again r (all_left HasSameText (role_names r) (role_names s) same) h)
      (role_again s (all_right HasSameText (role_names r) (role_names s) same) g)
  axiom_again _ same (stating.AxiomIn.domain {r = r} {ps = ps} h g) =
      stating.AxiomIn.domain (role_again r (all_left HasSameText (role_names r) (flat_map part_names ps) same) h)
      (parts_again ps (all_right HasSameText (role_names r) (flat_map part_names ps) same) g)
  axiom_again _ same (stating.AxiomIn.range {r = r} {ps = ps} h g) =
      stating.AxiomIn.range (role_again r (all_left HasSameText (role_names r) (flat_map part_names ps) same) h)
      (parts_again ps (all_right HasSameText (role_names r) (flat_map part_names ps) same) g)
  axiom_again _ same (stating.AxiomIn.symmetric {r = r} h) = stating.AxiomIn.symmetric (role_again r same h)
  axiom_again _ same (stating.AxiomIn.asymmetric {r = r} h) = stating.AxiomIn.asymmetric (role_again r same h)
  axiom_again _ same (stating.AxiomIn.irreflexive {r = r} h) = stating.AxiomIn.irreflexive (role_again r same h)

-- ---- read back

each_of : {X : Type 0} (P : X → Type 0) (xs : List X) → Each P xs → All P xs
each_of P _ no_items = All-nil P
each_of P _ (an_item {x = x} {xs = xs} h hs) = All-cons P x xs h (each_of P xs hs)

text_reads : (held : List name_list.Text) (a : Axiom) → HasNoRepeats held → length held ≤ max_names → AxiomIn held a
    → ReadsValue (axiom_text held a) lone_axiom held (record empty_document { axioms = a ∷ [] }) held
text_reads held a distinct fits h =
    let stands = axiom_stands held distinct a h in
    let tokens = tokens_of (axiom_text held a) 0 (axiom_text held a) stands.symbols (omega arith) refl stands.spells in
    record {
      tokens = tokens.0;
      are = tokens.1.0;
      comes =
          is_lone held tokens.0 (record empty_document { axioms = a ∷ [] }) held
          (record {
            item = axiom_item a;
            read = subst (λ ss. AxiomThen predefined held ss (axiom_item a) (ending ∷ []) held) (sym tokens.1.1) stands.stands;
            is = refl;
          })
          (ap (is_shallow 0) tokens.1.1 ∙ stands.shallow, fits);
    }

pub read_back : (bytes : List ℕ) (e : Expected) (before names held : List name_list.Text) (document : Document) (stated : Axiom) (number : ℕ → ℕ)
    → (e ≡ prologue) ⊎ (e ≡ lone_axiom) → ReadsValue bytes e before document names → Contains document.axioms stated
    → HasNoRepeats held → length held ≤ max_names → All (λ n. slice_get held (number n) ≡ slice_get names n) (axiom_names stated)
    → ReadsValue (axiom_text held (renamed_axiom number stated)) lone_axiom held
    (record empty_document { axioms = renamed_axiom number stated ∷ [] }) held
read_back bytes e before names held document stated number start h has distinct held_fit same =
    let all = each_of (AxiomIn names) document.axioms (value_stated bytes e before names document start h) in
    let there : AxiomIn names stated = subst (AxiomIn names) has.2 (all has.0 stated has.1) in
    text_reads held (renamed_axiom number stated) distinct held_fit (axiom_again names held number stated same there)
