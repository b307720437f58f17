-- What a reader of an axiom looks at: its keyword.
use Rattle.std.proofs.Common.{◌≡◌, ℕ, true, false, true≢false, Result, Ok, Err, List, refl, sym, ap, ◌∙◌, subst, slice_range}
use Rattle.dl_lex.specs.declared.keyword.Keyword.{Keyword}
use Rattle.dl_lex.specs.declared.keyword.Keyword.TheVariants.{SubClassOf, EquivalentClasses, DisjointClasses, SubObjectPropertyOf, EquivalentObjectProperties, DisjointObjectProperties, InverseObjectProperties, ObjectPropertyDomain, ObjectPropertyRange, SymmetricObjectProperty, AsymmetricObjectProperty, IrreflexiveObjectProperty, ClassAssertion, ObjectPropertyAssertion, DifferentIndividuals, Declaration, AnnotationAssertion, SubAnnotationPropertyOf, AnnotationPropertyDomain, AnnotationPropertyRange}
use Rattle.dl_lex.specs.declared.token.TokenKind.{TokenKind}
use Rattle.dl_lex.specs.declared.token.TokenKind.TheVariants.{Word}
use Rattle.dl_owl.specs.declared.fault.OwlFault.{OwlFault}
use Rattle.dl_owl.specs.declared.item.Item.{Item}
use Rattle.dl_owl.specs.declared.item.Item.TheVariants.{Axiom as axiom_item, NoEffect as no_effect}
use Rattle.dl_owl.specs.Symbols.{keyword, symbol_of}
use Rattle.dl_owl.specs.Prefixes.{Prefixes}
use Rattle.dl_owl.specs.Causes.{syntax}
use Rattle.dl_owl.specs.Refused.{refused_axiom}
use Rattle.dl_owl.specs.Expected.{Expected, close_then, iri_then, role_then, sup_then, Move, refuses}
use Rattle.dl_owl.specs.Steps.{begins, axiom_next, move_of}
use Rattle.dl_owl.specs.Operands.{is_axiom, operands_then, domain_or_range, one_role}
use Rattle.dl_owl.specs.Walk.{Spot, symbol_at, Here, Goes, Faults, Reads, Follows}
use Rattle.dl_owl.proofs.WalkLemmas.{goes-then, goes-faults}

-- what is read behind what was passed over
pub follows_behind : {V : Type 0} (m : (V → Expected) → Move) (f : (V → Expected) → Expected) (a b c : Here)
    (r : Result V OwlFault)
    → ((e : Expected) (k : V → Expected) → move_of a.prefixes e (symbol_at a.spot) ≡ m k → Goes e a (f k) b)
    → Reads f b c r
    → Follows m a c r
follows_behind m f a b c (Ok v) first h = λ e k is. goes-then e a (f k) b (k v) c (first e k is) (h k)
follows_behind m f a b c (Err fault) first h = λ e k is. goes-faults e a (f k) b fault (first e k is) (h k)

pub axiom_no_word : (kind : TokenKind) (bytes : List ℕ) (k : Item → Expected) → ((w : Keyword) → kind ≡ Word w → ⊥)
    → axiom_next k (symbol_of kind bytes) ≡ refuses syntax
axiom_no_word (Word w) bytes k not = absurd (not w refl)
axiom_no_word kind bytes k not = refl

pub axiom_refused : (w : Keyword) (k : Item → Expected) → is_axiom w ≡ false → axiom_next k (keyword w) ≡ refuses
    (refused_axiom w)
axiom_refused SubClassOf k is = absurd (true≢false is)
axiom_refused EquivalentClasses k is = absurd (true≢false is)
axiom_refused DisjointClasses k is = absurd (true≢false is)
axiom_refused SubObjectPropertyOf k is = absurd (true≢false is)
axiom_refused EquivalentObjectProperties k is = absurd (true≢false is)
axiom_refused DisjointObjectProperties k is = absurd (true≢false is)
axiom_refused InverseObjectProperties k is = absurd (true≢false is)
axiom_refused ObjectPropertyDomain k is = absurd (true≢false is)
axiom_refused ObjectPropertyRange k is = absurd (true≢false is)
axiom_refused SymmetricObjectProperty k is = absurd (true≢false is)
axiom_refused AsymmetricObjectProperty k is = absurd (true≢false is)
axiom_refused IrreflexiveObjectProperty k is = absurd (true≢false is)
axiom_refused ClassAssertion k is = absurd (true≢false is)
axiom_refused ObjectPropertyAssertion k is = absurd (true≢false is)
axiom_refused DifferentIndividuals k is = absurd (true≢false is)
axiom_refused Declaration k is = absurd (true≢false is)
axiom_refused AnnotationAssertion k is = absurd (true≢false is)
axiom_refused SubAnnotationPropertyOf k is = absurd (true≢false is)
axiom_refused AnnotationPropertyDomain k is = absurd (true≢false is)
axiom_refused AnnotationPropertyRange k is = absurd (true≢false is)
axiom_refused w k is = refl

pub axiom_begins : (w : Keyword) (k : Item → Expected) → is_axiom w ≡ true → axiom_next k (keyword w) ≡ begins
    (operands_then w k)
axiom_begins SubClassOf k is = refl
axiom_begins EquivalentClasses k is = refl
axiom_begins DisjointClasses k is = refl
axiom_begins SubObjectPropertyOf k is = refl
axiom_begins EquivalentObjectProperties k is = refl
axiom_begins DisjointObjectProperties k is = refl
axiom_begins InverseObjectProperties k is = refl
axiom_begins ObjectPropertyDomain k is = refl
axiom_begins ObjectPropertyRange k is = refl
axiom_begins SymmetricObjectProperty k is = refl
axiom_begins AsymmetricObjectProperty k is = refl
axiom_begins IrreflexiveObjectProperty k is = refl
axiom_begins ClassAssertion k is = refl
axiom_begins ObjectPropertyAssertion k is = refl
axiom_begins DifferentIndividuals k is = refl
axiom_begins Declaration k is = refl
axiom_begins AnnotationAssertion k is = refl
axiom_begins SubAnnotationPropertyOf k is = refl
axiom_begins AnnotationPropertyDomain k is = refl
axiom_begins AnnotationPropertyRange k is = refl
axiom_begins w k is = absurd (true≢false (sym is))

-- ---- the operands behind it

abbrev pub annotations_behind : (Item → Expected) → Expected
annotations_behind k = iri_then (iri_then (close_then (k no_effect)))

pub reads_as : {V : Type 0} (e f : (V → Expected) → Expected) (a b : Here) (r : Result V OwlFault)
    → ((k : V → Expected) → e k ≡ f k)
    → Reads f a b r → Reads e a b r
reads_as e f a b (Ok v) same h = λ k. subst (λ x. Goes x a (k v) b) (sym (same k)) (h k)
reads_as e f a b (Err fault) same h = λ k. subst (λ x. Faults x a b.names fault) (sym (same k)) (h k)

-- the operands that are read by one function for several keywords
abbrev pub role_behind : Keyword → (Item → Expected) → Expected
role_behind w k = role_then (λ r. close_then (k (axiom_item (one_role w r))))

abbrev pub role_and_parts_behind : Keyword → (Item → Expected) → Expected
role_and_parts_behind w k = role_then (λ r. sup_then (λ ps. close_then (k (axiom_item (domain_or_range w r ps)))))

pub reads_word : (f : Keyword → (Item → Expected) → Expected) (w x : Keyword) (a b : Here) (r : Result Item OwlFault)
    → w ≡ x → ((k : Item → Expected) → operands_then x k ≡ f x k) → Reads (f w) a b r → Reads (operands_then w) a b r
reads_word f w x a b r is same h =
    reads_as (operands_then w) (f w) a b r (λ k. subst (λ v. operands_then v k ≡ f v k) (sym is) (same k)) h

pub operands_other : (w : Keyword) (k : Item → Expected) → (w ≡ SubClassOf → ⊥)
    → (w ≡ EquivalentClasses → ⊥)
    → (w ≡ DisjointClasses → ⊥)
    → (w ≡ SubObjectPropertyOf → ⊥)
    → (w ≡ EquivalentObjectProperties → ⊥)
    → (w ≡ DisjointObjectProperties → ⊥)
    → (w ≡ InverseObjectProperties → ⊥)
    → (w ≡ ObjectPropertyDomain → ⊥)
    → (w ≡ ObjectPropertyRange → ⊥)
    → (w ≡ SymmetricObjectProperty → ⊥)
    → (w ≡ AsymmetricObjectProperty → ⊥)
    → (w ≡ IrreflexiveObjectProperty → ⊥)
    → (w ≡ ClassAssertion → ⊥)
    → (w ≡ ObjectPropertyAssertion → ⊥)
    → (w ≡ DifferentIndividuals → ⊥)
    → (w ≡ Declaration → ⊥)
    → (w ≡ AnnotationAssertion → ⊥)
    → operands_then w k ≡ annotations_behind k
operands_other SubClassOf k h0 h1 h2 h3 h4 h5 h6 h7 h8 h9 h10 h11 h12 h13 h14 h15 h16 = absurd (h0 refl)
operands_other EquivalentClasses k h0 h1 h2 h3 h4 h5 h6 h7 h8 h9 h10 h11 h12 h13 h14 h15 h16 = absurd (h1 refl)
operands_other DisjointClasses k h0 h1 h2 h3 h4 h5 h6 h7 h8 h9 h10 h11 h12 h13 h14 h15 h16 = absurd (h2 refl)
operands_other SubObjectPropertyOf k h0 h1 h2 h3 h4 h5 h6 h7 h8 h9 h10 h11 h12 h13 h14 h15 h16 = absurd (h3 refl)
operands_other EquivalentObjectProperties k h0 h1 h2 h3 h4 h5 h6 h7 h8 h9 h10 h11 h12 h13 h14 h15 h16 = absurd
    (h4 refl)
operands_other DisjointObjectProperties k h0 h1 h2 h3 h4 h5 h6 h7 h8 h9 h10 h11 h12 h13 h14 h15 h16 = absurd (h5 refl)
operands_other InverseObjectProperties k h0 h1 h2 h3 h4 h5 h6 h7 h8 h9 h10 h11 h12 h13 h14 h15 h16 = absurd (h6 refl)
operands_other ObjectPropertyDomain k h0 h1 h2 h3 h4 h5 h6 h7 h8 h9 h10 h11 h12 h13 h14 h15 h16 = absurd (h7 refl)
operands_other ObjectPropertyRange k h0 h1 h2 h3 h4 h5 h6 h7 h8 h9 h10 h11 h12 h13 h14 h15 h16 = absurd (h8 refl)
operands_other SymmetricObjectProperty k h0 h1 h2 h3 h4 h5 h6 h7 h8 h9 h10 h11 h12 h13 h14 h15 h16 = absurd (h9 refl)
operands_other AsymmetricObjectProperty k h0 h1 h2 h3 h4 h5 h6 h7 h8 h9 h10 h11 h12 h13 h14 h15 h16 = absurd
    (h10 refl)
operands_other IrreflexiveObjectProperty k h0 h1 h2 h3 h4 h5 h6 h7 h8 h9 h10 h11 h12 h13 h14 h15 h16 = absurd
    (h11 refl)
operands_other ClassAssertion k h0 h1 h2 h3 h4 h5 h6 h7 h8 h9 h10 h11 h12 h13 h14 h15 h16 = absurd (h12 refl)
operands_other ObjectPropertyAssertion k h0 h1 h2 h3 h4 h5 h6 h7 h8 h9 h10 h11 h12 h13 h14 h15 h16 = absurd (h13 refl)
operands_other DifferentIndividuals k h0 h1 h2 h3 h4 h5 h6 h7 h8 h9 h10 h11 h12 h13 h14 h15 h16 = absurd (h14 refl)
operands_other Declaration k h0 h1 h2 h3 h4 h5 h6 h7 h8 h9 h10 h11 h12 h13 h14 h15 h16 = absurd (h15 refl)
operands_other AnnotationAssertion k h0 h1 h2 h3 h4 h5 h6 h7 h8 h9 h10 h11 h12 h13 h14 h15 h16 = absurd (h16 refl)
operands_other w k h0 h1 h2 h3 h4 h5 h6 h7 h8 h9 h10 h11 h12 h13 h14 h15 h16 = refl

-- ---- wherever an axiom is expected

module _ (w : Keyword) (e : Expected) (k : Item → Expected) (s : Spot) (p : Prefixes) (is : s.token.kind ≡ Word w)
  where
    word_is : symbol_at s ≡ keyword w
    word_is = ap (λ kind. symbol_of kind (slice_range s.bytes s.token.start s.token.end)) is

    pub axiom_stops : is_axiom w ≡ false → move_of p e (symbol_at s) ≡ axiom_next k (symbol_at s)
        → move_of p e (symbol_at s) ≡ refuses (refused_axiom w)
    axiom_stops none same = same ∙ ap (axiom_next k) word_is ∙ axiom_refused w k none

    pub axiom_fits : is_axiom w ≡ true → move_of p e (symbol_at s) ≡ axiom_next k (symbol_at s)
        → move_of p e (keyword w) ≡ begins (operands_then w k)
    axiom_fits one same = ap (move_of p e) (sym word_is) ∙ same ∙ ap (axiom_next k) word_is ∙ axiom_begins w k one
