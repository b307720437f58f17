-- The text of a fact is read as this fact.
use Rattle.std.proofs.Common.{◌≡◌, ℕ, ◌<◌, ◌⊎◌, true, not, ◌&&◌, ◌||◌, nat_lt, List, [], ◌∷◌, ◌++◌, codes, slice_get, Some, refl, sym, ap, ap₂, subst, inl, inr, ◌∙◌, arith}
use Rattle.std.specs.List.{list_all}
use Rattle.std.proofs.lemmas.Bool.{ne_eqb, ltb-true}
use Rattle.std.proofs.lemmas.List.Folds.{list_all-append}
use Rattle.std.specs.Str.{IsAscii}
use Rattle.std.proofs.lemmas.Str.{IsUtf8-from_ascii}
use Rattle.std.proofs.lemmas.Str.Ascii.{IsAscii-nil, IsAscii-cons}
use Rattle.dl_names.specs.NameList.{Text, names_after, place_of, HasNoRepeats}
use Rattle.dl_names.specs.Iris.{is_iri_byte, owl_nothing, IsIri, IsName, rdf_type}
use Rattle.dl_names.proofs.NameListLemmas.{has_name-slice_get, names_after-old, place_of-slice_get}
use Rattle.dl_terms.specs.declared.axiom.Fact.{Fact}
use Rattle.dl_terms.specs.declared.axiom.Fact.TheVariants.{Is, Link}
use Rattle.dl_terms.proofs.MemberLemmas.{both_true}
use Rattle.dl_triples.specs.Lines.{is_line_byte, last}
use Rattle.dl_triples.specs.Spelling.{Spells, nothing, plain}
use Rattle.dl_triples.specs.Terms.{IsIriref, iri, empty, IsTriple}
use Rattle.dl_triples.specs.Meaning.{kind_of, meaning_of_kinds, meaning_of, names_of, facts_of, skips, all_named}
use Rattle.dl_triples.specs.Reading.{GivesTriple, triple, none, line, IsValue}
use Rattle.dl_text.specs.NameText.{name_text}
use Rattle.dl_stream.specs.ReadBack.{text_at, IsNamed, IsNamedClass, IsNamedFact}
use Rattle.dl_text.specs.FactText.{fact_text}

-- ---- IRIs

module _ {Q : Type 0} (S : Q → List ℕ → List ℕ → Type 0) (q : Q) (start : S q [] [])
    (more : (b : ℕ) (bytes value : List ℕ) → is_iri_byte b ≡ true → S q bytes value → S q (b ∷ bytes) (b ∷ value)) where
  spells_itself : (text : Text) → list_all is_iri_byte text ≡ true → S q text text
  spells_itself [] all = start
  spells_itself (b ∷ text) all =
      let both = both_true (is_iri_byte b) (list_all is_iri_byte text) all in
      more b text text both.0 (spells_itself text both.1)

iriref : (text : Text) → IsIri text → IsIriref (60 ∷ text ++ 62 ∷ []) text
iriref text h = record {
  text = text;
  is = refl;
  utf8 = h.utf8;
  spells = spells_itself Spells _ nothing (λ b bytes value passes rest. plain passes rest) text h.characters;
}

ascii : (bytes : List ℕ) → list_all (λ b. nat_lt b 128) bytes ≡ true → IsAscii bytes
ascii [] all = IsAscii-nil
ascii (b ∷ bytes) all =
    let both = both_true (nat_lt b 128) (list_all (λ b. nat_lt b 128) bytes) all in
    IsAscii-cons b bytes (ltb-true b 128 both.0) (ascii bytes both.1)

ascii_iri : (text : Text) → list_all (λ b. nat_lt b 128) text ≡ true → list_all is_iri_byte text ≡ true → IsIri text
ascii_iri text all passes = record { utf8 = IsUtf8-from_ascii text (ascii text all); characters = passes }

type_is_iri : IsIri rdf_type
type_is_iri = ascii_iri rdf_type refl refl

-- ---- lines

line_byte : (b : ℕ) → is_iri_byte b ≡ true → is_line_byte b ≡ true
line_byte b h =
    let above : 32 < b = ltb-true 32 b (both_true (nat_lt 32 b) _ h).0 in
    (λ i. not (ne_eqb b 13 (λ (e : b ≡ 13). omega (arith, e, above)) i || ne_eqb b 10 (λ (e : b ≡ 10). omega (arith, e, above)) i))

iri_line : (text : Text) → list_all is_iri_byte text ≡ true → list_all is_line_byte text ≡ true
iri_line [] all = refl
iri_line (b ∷ text) all =
    let both = both_true (is_iri_byte b) (list_all is_iri_byte text) all in
    ap₂ (λ x y. x && y) (line_byte b both.0) (iri_line text both.1)

lines_then : (xs ys : List ℕ) → list_all is_line_byte xs ≡ true → list_all is_line_byte ys ≡ true → list_all is_line_byte (xs ++ ys) ≡ true
lines_then xs ys h g = list_all-append is_line_byte xs ys ∙ ap₂ (λ x y. x && y) h g

module _ (held : List Text) where
  iri_in_line : (n : ℕ) → IsIri (text_at held n) → list_all is_line_byte (name_text held n) ≡ true
  iri_in_line n h = lines_then (60 ∷ text_at held n) (62 ∷ []) (iri_line (text_at held n) h.characters) refl

  -- ---- triples

  class_triple : (c a : ℕ) → IsIri (text_at held c) → IsIri (text_at held a)
      → IsTriple (fact_text held (Is c a)) (text_at held a) rdf_type (Some (text_at held c))
  class_triple c a c_iri a_iri = record {
    second = 32 ∷ 60 ∷ rdf_type ++ (62 ∷ 32 ∷ name_text held c ++ codes " .");
    third = 32 ∷ name_text held c ++ codes " .";
    rest = [];
    first_term = record { part = name_text held a; is = iriref (text_at held a) a_iri; stands = refl };
    second_term = record { part = 60 ∷ rdf_type ++ 62 ∷ []; is = iriref rdf_type type_is_iri; stands = refl };
    third_term = record {
      part = name_text held c;
      behind = codes " .";
      is = iri (iriref (text_at held c) c_iri);
      stands = refl;
      dot = refl;
    };
    ends = empty refl;
  }

  link_triple : (p a b : ℕ) → IsIri (text_at held p) → IsIri (text_at held a) → IsIri (text_at held b)
      → IsTriple (fact_text held (Link p a b)) (text_at held a) (text_at held p) (Some (text_at held b))
  link_triple p a b p_iri a_iri b_iri = record {
    second = 32 ∷ name_text held p ++ (32 ∷ name_text held b ++ codes " .");
    third = 32 ∷ name_text held b ++ codes " .";
    rest = [];
    first_term = record { part = name_text held a; is = iriref (text_at held a) a_iri; stands = refl };
    second_term = record { part = name_text held p; is = iriref (text_at held p) p_iri; stands = refl };
    third_term = record {
      part = name_text held b;
      behind = codes " .";
      is = iri (iriref (text_at held b) b_iri);
      stands = refl;
      dot = refl;
    };
    ends = empty refl;
  }

  -- ---- what they say

  free_kind : (text : Text) → IsName text → kind_of text ≡ kind_of []
  free_kind text h = rw h.free refl

  class_means : (s o : Text) → IsName s → IsName o ⊎ (o ≡ owl_nothing) → meaning_of s rdf_type (Some o) ≡ meaning_of [] rdf_type (Some [])
  class_means s o s_name (inl o_name) = λ i. meaning_of_kinds (free_kind s s_name i) (kind_of rdf_type) (free_kind o o_name i)
  class_means s o s_name (inr same) = λ i. meaning_of_kinds (free_kind s s_name i) (kind_of rdf_type) (kind_of (same i))

  link_means : (s p o : Text) → IsName s → IsName p → IsName o → meaning_of s p (Some o) ≡ meaning_of [] [] (Some [])
  link_means s p o s_name p_name o_name = λ i. meaning_of_kinds (free_kind s s_name i) (free_kind p p_name i) (free_kind o o_name i)

  class_iri : (text : Text) → IsName text ⊎ (text ≡ owl_nothing) → IsIri text
  class_iri text (inl name) = name.iri
  class_iri text (inr same) =
      subst IsIri (sym same) (ascii_iri owl_nothing refl refl)

  -- ---- reading them

  module _ (distinct : HasNoRepeats held) where
    known : (n : ℕ) → slice_get held n ≡ Some (text_at held n) → names_after held (text_at held n) ≡ held
    known n at = names_after-old held (text_at held n) (has_name-slice_get held (text_at held n) n at)

    place : (n : ℕ) → slice_get held n ≡ Some (text_at held n) → place_of held (text_at held n) ≡ n
    place n at = place_of-slice_get held (text_at held n) distinct n at

    class_given : (c a : ℕ) → IsNamedClass held c → IsNamed held a → GivesTriple (fact_text held (Is c a)) held (Is c a ∷ []) 0 held
    class_given c a c_named a_named =
        let s = text_at held a in
        let o = text_at held c in
        let means = class_means s o a_named.is c_named.is in
        record {
          subject = s;
          predicate = rdf_type;
          object = Some o;
          triple = class_triple c a (class_iri o c_named.is) a_named.is.iri;
          free = λ e. (let never = sym means ∙ e in cc);
          named =
              sym (ap (λ m. all_named held (names_of m s rdf_type (Some o))) means ∙ ap (λ l. names_after l o) (known a a_named.at) ∙ known c c_named.at);
          fits = λ over. omega (arith, over.0);
          is =
              sym (ap (λ m. facts_of m s rdf_type (Some o) held) means
              ∙ (λ i. Is (place c c_named.at i) (place a a_named.at i) ∷ []));
          counted = sym (ap skips means);
        }

    link_given : (p a b : ℕ) → IsNamed held p → IsNamed held a → IsNamed held b → GivesTriple (fact_text held (Link p a b)) held (Link p a b ∷ []) 0 held
    link_given p a b p_named a_named b_named =
        let s = text_at held a in
        let r = text_at held p in
        let o = text_at held b in
        let means = link_means s r o a_named.is p_named.is b_named.is in
        record {
          subject = s;
          predicate = r;
          object = Some o;
          triple = link_triple p a b p_named.is.iri a_named.is.iri b_named.is.iri;
          free = λ e. (let never = sym means ∙ e in cc);
          named =
              sym (ap (λ m. all_named held (names_of m s r (Some o))) means ∙ ap (λ l. names_after (names_after l r) o) (known a a_named.at)
              ∙ ap (λ l. names_after l o) (known p p_named.at) ∙ known b b_named.at);
          fits = λ over. omega (arith, over.0);
          is =
              sym (ap (λ m. facts_of m s r (Some o) held) means
              ∙ (λ i. Link (place p p_named.at i) (place a a_named.at i) (place b b_named.at i) ∷ []));
          counted = sym (ap skips means);
        }

    given : (f : Fact) → IsNamedFact held f → GivesTriple (fact_text held f) held (f ∷ []) 0 held
    given (Is c a) h = class_given c a h.0 h.1
    given (Link p a b) h = link_given p a b h.0 h.1 h.2

    in_line : (f : Fact) → IsNamedFact held f → list_all is_line_byte (fact_text held f) ≡ true
    in_line (Is c a) h =
        lines_then (name_text held a) (32 ∷ 60 ∷ rdf_type ++ (62 ∷ 32 ∷ name_text held c ++ codes " .")) (iri_in_line a h.1.is.iri)
        (lines_then (name_text held c) (codes " .") (iri_in_line c (class_iri (text_at held c) h.0.is)) refl)
    in_line (Link p a b) h =
        lines_then (name_text held a) (32 ∷ name_text held p ++ (32 ∷ name_text held b ++ codes " .")) (iri_in_line a h.1.is.iri)
        (lines_then (name_text held p) (32 ∷ name_text held b ++ codes " .") (iri_in_line p h.0.is.iri)
        (lines_then (name_text held b) (codes " .") (iri_in_line b h.2.is.iri) refl))

    pub fact_is_read_back : (f : Fact) → IsNamedFact held f → IsValue (fact_text held f) held (f ∷ []) 0 held
    fact_is_read_back f h = record {
      lines = fact_text held f ∷ [];
      cut = last (in_line f h);
      read = line (triple (given f h)) none;
    }
