-- The forms of lines exclude one another, and the terms of a triple are determined.
use Rattle.std.proofs.Common.{◌≡◌, ℕ, List, ◌∷◌, Option, refl, sym, ◌∙◌, subst, arith}
use Rattle.dl_names.specs.NameList.{Text}
use Rattle.dl_triples.specs.declared.line.Iri.{Iri}
use Rattle.dl_triples.specs.Terms.{trimmed, IriThen, ObjectThen, IsNothing, empty, comment, IsTriple, NodeNext, HasNode, subject, object}
use Rattle.dl_triples.specs.Parts.{FindsIri, FindsObject, KeepsTriple, HasNoForm}
use Rattle.dl_triples.proofs.SpelledLemmas.{first_same, not_empty}
use Rattle.dl_triples.proofs.TermLemmas.{iri_opened, one_iri}
use Rattle.dl_triples.proofs.DotLemmas.{one_object, one_end, either_of, object_opens}

-- no IRI and no node opens where nothing stands
nothing_opens : (bytes : List ℕ) (b : ℕ) (next : List ℕ) → IsNothing bytes → trimmed bytes ≡ b ∷ next → b ≡ 35
nothing_opens bytes b next (empty none) at = absurd (not_empty b next (sym none ∙ at))
nothing_opens bytes b next (comment {text = text} is utf8) at = sym (first_same 35 b text next (sym is ∙ at))

pub iri_no_nothing : (bytes iri rest : List ℕ) → IriThen (trimmed bytes) iri rest → IsNothing bytes → ⊥
iri_no_nothing bytes iri rest then nothing =
    let bracket = iri_opened (trimmed bytes) iri rest then in
    let e : 60 ≡ 35 = nothing_opens bytes 60 bracket.1 nothing bracket.2 in omega (arith, e)

pub iri_no_node : (bytes iri rest : List ℕ) → IriThen (trimmed bytes) iri rest → NodeNext bytes → ⊥
iri_no_node bytes iri rest then node =
    let bracket = iri_opened (trimmed bytes) iri rest then in
    let e : 60 ≡ 95 = first_same 60 95 bracket.1 (58 ∷ node.0) (sym bracket.2 ∙ node.1) in omega (arith, e)

pub object_no_node : (bytes : List ℕ) (o : Option Text) (rest : List ℕ) → ObjectThen (trimmed bytes) o rest → NodeNext bytes → ⊥
object_no_node bytes o rest then node = object_opens (trimmed bytes) rest (either_of (trimmed bytes) o rest then) 95 (58 ∷ node.0) node.1 refl

node_no_nothing : (bytes : List ℕ) → NodeNext bytes → IsNothing bytes → ⊥
node_no_nothing bytes node nothing = let e : 95 ≡ 35 = nothing_opens bytes 95 (58 ∷ node.0) nothing node.1 in omega (arith, e)

-- ---- the forms exclude one another

pub triple_no_nothing : (line s p : List ℕ) (o : Option Text) → IsTriple line s p o → IsNothing line → ⊥
triple_no_nothing line s p o triple nothing = iri_no_nothing line s triple.second triple.first_term nothing

pub has_node_no_nothing : (line : List ℕ) → HasNode line → IsNothing line → ⊥
has_node_no_nothing line (subject node) nothing = node_no_nothing line node nothing
has_node_no_nothing line (object {subject = s} {second = second} first _ _) nothing = iri_no_nothing line s second first nothing

pub triple_no_node : (line s p : List ℕ) (o : Option Text) → IsTriple line s p o → HasNode line → ⊥
triple_no_node line s p o triple (subject node) = iri_no_node line s triple.second triple.first_term node
triple_no_node line s p o triple (object {subject = s'} {predicate = p'} {second = second} {third = third} first other node) =
    let one = one_iri (trimmed line) s' second s triple.second first triple.first_term in
    let two = one_iri (trimmed triple.second) p' third p triple.third (subst (λ (l : List ℕ). IriThen (trimmed l) p' third) one.1 other) triple.second_term in
    object_no_node triple.third o triple.rest triple.third_term (subst NodeNext two.1 node)

-- the terms are determined
pub one_triple : (line s p : List ℕ) (o : Option Text) (s' p' : List ℕ) (o' : Option Text) → IsTriple line s p o → IsTriple line s' p' o' → (s ≡ s') × (p ≡ p') × (o ≡ o')
one_triple line s p o s' p' o' triple triple' =
    let one = one_iri (trimmed line) s triple.second s' triple'.second triple.first_term triple'.first_term in
    let two = one_iri (trimmed triple'.second) p triple.third p' triple'.third (subst (λ (l : List ℕ). IriThen (trimmed l) p triple.third) one.1 triple.second_term) triple'.second_term in
    let three = one_object (trimmed triple'.third) o o' triple.rest triple'.rest (subst (λ (l : List ℕ). ObjectThen (trimmed l) o triple.rest) two.1 triple.third_term) triple'.third_term in
    (one.0, two.0, three)

-- ---- reading a line from left to right; each rest is trimmed

module _ (line : List ℕ) (no_nothing : IsNothing line → ⊥) (no_node : NodeNext line → ⊥) (front : List ℕ) (is : front ≡ trimmed line) where
  pub no_first : ((iri : Text) (rest : List ℕ) → IriThen front iri rest → ⊥) → HasNoForm line
  no_first none =
      let absent : (iri rest : List ℕ) → IriThen (trimmed line) iri rest → ⊥ = λ iri rest then. none iri rest (subst (λ l. IriThen l iri rest) (sym is) then) in
      record {
        no_nothing = no_nothing;
        no_triple = λ s p o triple. absent s triple.second triple.first_term;
        no_node = λ node. by absent node;
      }
    where
      by : ((iri rest : List ℕ) → IriThen (trimmed line) iri rest → ⊥) → HasNode line → ⊥
      by absent (subject node) = no_node node
      by absent (object {subject = s} {second = second} first _ _) = absent s second first

  module _ (kept : Iri) (second : List ℕ) (found : FindsIri front kept second) (middle : List ℕ) (is_middle : middle ≡ trimmed second) where
    pub first : IriThen (trimmed line) found.value second
    first = subst (λ l. IriThen l found.value second) is found.then

    -- the second term of the line stands behind the first
    behind_first : (s second' p third : List ℕ) → IriThen (trimmed line) s second' → IriThen (trimmed second') p third → IriThen middle p third
    behind_first s second' p third one two =
        let same = one_iri (trimmed line) s second' found.value second one first in
        subst (λ l. IriThen l p third) (sym is_middle) (subst (λ (l : List ℕ). IriThen (trimmed l) p third) same.1 two)

    pub no_second : ((iri : Text) (rest : List ℕ) → IriThen middle iri rest → ⊥) → HasNoForm line
    no_second none = record {
      no_nothing = no_nothing;
      no_triple = λ s p o triple. none p triple.third (behind_first s triple.second p triple.third triple.first_term triple.second_term);
      no_node = λ node. by node;
    }
      where
        by : HasNode line → ⊥
        by (subject node) = no_node node
        by (object {subject = s} {predicate = p} {second = second'} {third = third} one two _) = none p third (behind_first s second' p third one two)

    module _ (kept' : Iri) (third : List ℕ) (found' : FindsIri middle kept' third) where
      second_term : IriThen (trimmed second) found'.value third
      second_term = subst (λ l. IriThen l found'.value third) is_middle found'.then

      pub node_third : NodeNext third → HasNode line
      node_third node = object first second_term node

      -- what the line has behind its second term
      behind_second : (s second' p third' : List ℕ) → IriThen (trimmed line) s second' → IriThen (trimmed second') p third' → third' ≡ third
      behind_second s second' p third' one two =
          (one_iri middle p third' found'.value third (behind_first s second' p third' one two) found'.then).1

      module _ (no_third_node : NodeNext third → ⊥) where
        no_node_at_all : HasNode line → ⊥
        no_node_at_all (subject node) = no_node node
        no_node_at_all (object {subject = s} {predicate = p} {second = second'} {third = third'} one two node) =
            no_third_node (subst NodeNext (behind_second s second' p third' one two) node)

        module _ (back : List ℕ) (is_back : back ≡ trimmed third) where
          third_term_of : (s p : List ℕ) (o : Option Text) (triple : IsTriple line s p o) → ObjectThen back o triple.rest
          third_term_of s p o triple =
              subst (λ l. ObjectThen l o triple.rest) (sym is_back)
              (subst (λ (l : List ℕ). ObjectThen (trimmed l) o triple.rest) (behind_second s triple.second p triple.third triple.first_term triple.second_term) triple.third_term)

          pub no_third : ((o : Option Text) (rest : List ℕ) → ObjectThen back o rest → ⊥) → HasNoForm line
          no_third none = record {
            no_nothing = no_nothing;
            no_triple = λ s p o triple. none o triple.rest (third_term_of s p o triple);
            no_node = no_node_at_all;
          }

          module _ (kept_object : Option Iri) (rest : List ℕ) (found_object : FindsObject back kept_object rest) where
            pub no_end : (IsNothing rest → ⊥) → HasNoForm line
            no_end none = record {
              no_nothing = no_nothing;
              no_triple = λ s p o triple.
                  none (subst IsNothing (one_end back o found_object.value triple.rest rest (third_term_of s p o triple) found_object.then) triple.ends);
              no_node = no_node_at_all;
            }

            pub whole : IsNothing rest → KeepsTriple line (record { subject = kept; predicate = kept'; object = kept_object })
            whole ends = record {
              subject = found.value;
              predicate = found'.value;
              object = found_object.value;
              is = record {
                second = second;
                third = third;
                rest = rest;
                first_term = first;
                second_term = second_term;
                third_term = subst (λ l. ObjectThen l found_object.value rest) is_back found_object.then;
                ends = ends;
              };
              kept = record { first = found.kept; second = found'.kept; third = found_object.kept };
            }
