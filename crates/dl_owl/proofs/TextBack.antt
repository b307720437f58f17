-- The same for whole texts, and for all that may be expected.
use Rattle.std.proofs.Common.{◌≡◌, ℕ, suc, zero, ◌⊎◌, inl, inr, Some, None, List, [], ◌∷◌, if◌then◌else◌, refl, sym, ap, subst, ◌++◌}
use Rattle.std.specs.Str.{bytes_eq}
use Rattle.dl_lex.specs.declared.keyword.Keyword.{Keyword}
use Rattle.dl_lex.specs.declared.keyword.Keyword.TheVariants.{Ontology, Import, Annotation, ClassAssertion}
use Rattle.dl_names.specs.NameList.{Text}
use Rattle.dl_names.proofs.NameListLemmas.{bytes_eq-same}
use Rattle.dl_terms.specs.declared.axiom.Part.TheVariants as part
use Rattle.dl_owl.specs.declared.document.Document.{Document}
use Rattle.dl_owl.specs.Symbols.{Symbol, opening, closing, equals, full_iri, short_iri, keyword, ending}
use Rattle.dl_owl.specs.Prefixes.{Prefixes, prefix_of, local_of, declared_iri}
use Rattle.dl_owl.specs.NamesNext.{owl_thing, IsIri}
use Rattle.dl_owl.specs.Annotations as annotations
use Rattle.dl_owl.specs.Annotations.{ValueThen, AnnotationsThen}
use Rattle.dl_owl.specs.Items.{empty_document, with_item}
use Rattle.dl_owl.specs.Axioms as axioms
use Rattle.dl_owl.specs.Axioms.{EntityThen, DifferentThen, AxiomThen}
use Rattle.dl_owl.specs.Ontologies as ontologies
use Rattle.dl_owl.specs.Ontologies.{PrefixesThen, AxiomsThen}
use Rattle.dl_owl.specs.Causes.{syntax}
use Rattle.dl_owl.specs.Expected.{Expected, prologue, prefix_name, prefix_equals, prefix_iri, title, annotations_first, items, lone_axiom, finish, done, open_then, close_then, annotations_then, iri_then, subject_then, value_then, value_end, property_then, role_then, first_role, second_role, sub_then, sup_then, thing_then, filler_then, roles_close, subs_close, sups_close, individual_then, unnamed_then, different_close, class_then, declared_class, entity_then, Move, goes, refuses, declares}
use Rattle.dl_owl.specs.Steps.{at_iri, axiom_next, items_next, annotations_first_next, prologue_next, prefix_name_next, prefix_iri_next, refused_class, refused_individual, move_of}
use Rattle.dl_owl.specs.NamesNext.{IsNameOf}
use Rattle.dl_names.specs.Iris.{is_free, may_be_class}
use Rattle.dl_owl.proofs.Meaning.{SeesThis, NoAnnotation, TitleUpTo, no_iri, an_iri, AxiomsMean, FirstMean, TitleMeans, PrologueMeans, LoneMeans, Means, Comes}
use Rattle.dl_owl.proofs.Back.{seen, seen_this, named-back, class_or-back, thing_or-back, at_iri-back, role-back, first_role-back, second_role-back, second_top-back, sub-back, thing-back, sup-back, filler_thing-back, filler-back}
use Rattle.dl_owl.proofs.ListBack.{roles-back, subs-back, sups-back, one_annotation-back, subject-back, value-back, value_end-back, unnamed-back, different-back, entity-back}
use Rattle.dl_owl.proofs.AxiomBack.{axiom-back}

-- ---- items

items_next_axiom : (document : Document) (final : List Text) (p : Prefixes) (names : List Text) (ss : List Symbol) (d : Document) (w : Keyword)
    → Comes document final p (axiom_next (λ i. items (with_item d i)) (keyword w)) names ss
    → Comes document final p (items_next d (keyword w)) names ss
items_next_axiom document final p names ss d Import h = absurd h
items_next_axiom document final p names ss d w h = h

items-back : (document : Document) (final : List Text) (p : Prefixes) (d : Document) (names : List Text) (s : Symbol) (ss : List Symbol)
    → AxiomsThen p d names (s ∷ ss) document (closing ∷ ending ∷ []) final
    → Comes document final p (items_next d s) names ss
items-back document final p d names s ss ontologies.AxiomsThen.none = record { rest = []; is = refl; so = (refl, refl, refl) }
items-back document final p d names s ss (ontologies.AxiomsThen.more {one = one} {others = others} {item = item} first them) =
    by s ss first (axiom-back document final p names (λ i. items (with_item d i)) s ss item others one first them)
  where
    by : (s : Symbol) (ss : List Symbol) → AxiomThen p names (s ∷ ss) item others one
        → Comes document final p (axiom_next (λ i. items (with_item d i)) s) names ss → Comes document final p (items_next d s) names ss
    by s ss (axioms.AxiomThen.axiom_of {k = w} annotated all) h = items_next_axiom document final p names ss d w h

module _ (document : Document) (final : List Text) (p : Prefixes) (names : List Text) where
  abbrev C : List Symbol → Move → Type 0
  C ss m = Comes document final p m names ss

  abbrev M : Expected → List Text → List Symbol → Type 0
  M e names ss = Means document final p e names ss

  first_items : (s : Symbol) (ss : List Symbol) → C ss (items_next empty_document s) → C ss (annotations_first_next s)
  first_items (keyword Annotation) ss h = absurd h
  first_items s ss h = h

  first-back : (s : Symbol) (ss rest : List Symbol) → AnnotationsThen p (s ∷ ss) rest → AxiomsMean document final p empty_document names rest
      → C ss (annotations_first_next s)
  first-back s ss rest annotations.AnnotationsThen.none them =
      first_items s ss (items-back document final p empty_document names s ss them)
  first-back s ss rest (annotations.AnnotationsThen.one {inner = inner} {«value» = v} {more = l} {s = t} {text = text} annotated is said others) them =
      one_annotation-back document final p names annotations_first inner v l t text annotated is said (rest, (others, them))

  title_first : (n : ℕ) (s : Symbol) (ss : List Symbol) → C ss (annotations_first_next s)
      → C ss (at_iri p s (λ _. goes (title n)) (annotations_first_next s))
  title_first n (full_iri t) ss h = absurd h
  title_first n (short_iri t) ss h = absurd h
  title_first n s ss h = h

  title-back : (n : ℕ) (s : Symbol) (ss rest : List Symbol) → TitleUpTo p n (s ∷ ss) rest → FirstMean document final p names rest
      → C ss (move_of p (title n) s)
  title-back zero s ss rest no_iri first = first-back s ss first.0 first.1.0 first.1.1
  title-back (suc n) s ss rest no_iri first = title_first n s ss (first-back s ss first.0 first.1.0 first.1.1)
  title-back (suc n) s ss rest (an_iri {text = text} is more) first =
      at_iri-back document final p names ss s text (λ _. goes (title n)) (annotations_first_next s) is (rest, (more, first))

  -- ---- prefix declarations

  prologue-back : (s : Symbol) (ss : List Symbol) (q : Prefixes) (rest : List Symbol)
      → PrefixesThen p (s ∷ ss) q (keyword Ontology ∷ opening ∷ rest) → TitleMeans document final q 2 names rest → C ss (prologue_next s)
  prologue-back s ss q rest ontologies.PrefixesThen.none titled = record { rest = rest; is = refl; so = titled }
  prologue-back s ss q rest (ontologies.PrefixesThen.new {name = name} {iri = iri} {more = more} local new declared) titled = record {
    rest = short_iri name ∷ equals ∷ full_iri iri ∷ closing ∷ more;
    is = refl;
    so = record {
      token = short_iri name;
      rest = equals ∷ full_iri iri ∷ closing ∷ more;
      is = refl;
      so = (
        name,
        (
          refl,
          local,
          record {
            rest = full_iri iri ∷ closing ∷ more;
            is = refl;
            so = record {
              token = full_iri iri;
              rest = closing ∷ more;
              is = refl;
              so = (
                iri,
                (
                  refl,
                  inl (
                    new,
                    record {
                      rest = more;
                      is = refl;
                      so = record { prefixes = q; rest = rest; declared = declared; then = titled };
                    },
                  ),
                ),
              );
            };
          },
        ),
      );
    };
  }
  prologue-back s ss q rest (ontologies.PrefixesThen.again {name = name} {iri = iri} {more = more} local old declared) titled = record {
    rest = short_iri name ∷ equals ∷ full_iri iri ∷ closing ∷ more;
    is = refl;
    so = record {
      token = short_iri name;
      rest = equals ∷ full_iri iri ∷ closing ∷ more;
      is = refl;
      so = (
        name,
        (
          refl,
          local,
          record {
            rest = full_iri iri ∷ closing ∷ more;
            is = refl;
            so = record {
              token = full_iri iri;
              rest = closing ∷ more;
              is = refl;
              so = (
                iri,
                (
                  refl,
                  inr (
                    old,
                    record {
                      rest = more;
                      is = refl;
                      so = record { prefixes = q; rest = rest; declared = declared; then = titled };
                    },
                  ),
                ),
              );
            };
          },
        ),
      );
    };
  }

  prefix_name-back : (s : Symbol) (ss : List Symbol) (short : Text) → s ≡ short_iri short → local_of short ≡ []
      → M (prefix_equals (prefix_of short)) names ss → C ss (prefix_name_next s)
  prefix_name-back s ss short is local so =
      subst (λ t. C ss (prefix_name_next t)) (sym is)
      (subst (λ l. C ss (elim l [ [] ↦ goes (prefix_equals (prefix_of short)) | c ∷ cs ↦ refuses syntax ])) (sym local) so)

  prefix_iri-back : (name : Text) (s : Symbol) (ss : List Symbol) (iri : Text) → s ≡ full_iri iri
      → ((declared_iri p name ≡ None) × SeesThis closing (λ more. PrologueMeans document final (p ++ (name, iri) ∷ []) names more) ss)
      ⊎ ((declared_iri p name ≡ Some iri) × SeesThis closing (λ more. PrologueMeans document final p names more) ss)
      → C ss (prefix_iri_next p name s)
  prefix_iri-back name s ss iri is (inl new) =
      subst (λ t. C ss (prefix_iri_next p name t)) (sym is)
      (subst (λ found. C ss (elim found [
        | None ↦ declares name iri (close_then prologue)
        | Some old ↦ if bytes_eq old iri then goes (close_then prologue) else refuses syntax
      ])) (sym new.0) new.1)
  prefix_iri-back name s ss iri is (inr old) =
      subst (λ t. C ss (prefix_iri_next p name t)) (sym is)
      (subst (λ found. C ss (elim found [
        | None ↦ declares name iri (close_then prologue)
        | Some old ↦ if bytes_eq old iri then goes (close_then prologue) else refuses syntax
      ])) (sym old.0)
      (subst (λ b. C ss (if b then goes (close_then prologue) else refuses syntax)) (sym (bytes_eq-same iri)) old.1))

  lone-back : (s : Symbol) (ss : List Symbol) → LoneMeans document final p names (s ∷ ss)
      → C ss (axiom_next (λ i. finish (with_item empty_document i)) s)
  lone-back s ss h =
      axiom-back document final p names (λ i. finish (with_item empty_document i)) s ss h.item (ending ∷ []) final h.read
      (record { rest = []; is = refl; so = (refl, sym h.is, refl) })

  not_annotation : (e : Expected) (s : Symbol) → (s ≡ keyword Annotation → ⊥) → move_of p (annotations_then e) s ≡ move_of p e s
  not_annotation e (keyword Annotation) not = absurd (not refl)
  not_annotation e s not = refl

  annotations-back : (e : Expected) (s : Symbol) (ss rest : List Symbol) → AnnotationsThen p (s ∷ ss) rest → NoAnnotation rest → M e names rest
      → ((ss : List Symbol) → M e names (s ∷ ss) → C ss (move_of p e s)) → C ss (move_of p (annotations_then e) s)
  annotations-back e s ss rest annotations.AnnotationsThen.none not so hyp =
      subst (C ss) (sym (not_annotation e s (λ same. not ss (ap (λ t. t ∷ ss) same)))) (hyp ss so)
  annotations-back e s ss rest (annotations.AnnotationsThen.one {inner = inner} {«value» = v} {more = l} {s = t} {text = text} annotated is said others) not so hyp =
      one_annotation-back document final p names (annotations_then e) inner v l t text annotated is said (rest, (others, not, so))

module _ (document : Document) (final : List Text) where
  -- where a token and what stands behind it are meant, what the token does goes on to that
  pub back : (e : Expected) (p : Prefixes) (names : List Text) (s : Symbol) (ss : List Symbol)
      → Means document final p e names (s ∷ ss) → Comes document final p (move_of p e s) names ss
  back prologue p names s ss h = prologue-back document final p names s ss h.prefixes h.rest h.declared h.then
  back prefix_name p names s ss h =
      let name = seen s ss h in prefix_name-back document final p names s ss name.0 name.1.0 name.1.1 name.1.2
  back (prefix_equals name) p names s ss h =
      let equal = seen_this s ss h in
      subst (λ t. Comes document final p (move_of p (prefix_equals name) t) names ss) (sym equal.0) equal.1
  back (prefix_iri name) p names s ss h =
      let iri = seen s ss h in prefix_iri-back document final p names name s ss iri.0 iri.1.0 iri.1.1
  back (title n) p names s ss h = title-back document final p names n s ss h.0 h.1.0 h.1.1
  back annotations_first p names s ss h = first-back document final p names s ss h.0 h.1.0 h.1.1
  back (items d) p names s ss h = items-back document final p d names s ss h
  back lone_axiom p names s ss h = lone-back document final p names s ss h
  back (finish d) p names s ss h =
      let end = seen_this s ss h in
      subst (λ t. Comes document final p (move_of p (finish d) t) names ss) (sym end.0) end.1
  back (done d) p names s ss h = let more : s ∷ ss ≡ [] = h.0 in absurd (cc)
  back (open_then e) p names s ss h =
      let open_is = seen_this s ss h in
      subst (λ t. Comes document final p (move_of p (open_then e) t) names ss) (sym open_is.0) open_is.1
  back (close_then e) p names s ss h =
      let close = seen_this s ss h in
      subst (λ t. Comes document final p (move_of p (close_then e) t) names ss) (sym close.0) close.1
  back (annotations_then e) p names s ss h =
      annotations-back document final p names e s ss h.0 h.1.0 h.1.1 h.1.2 (λ l g. back e p names s l g)
  back (iri_then e) p names s ss h =
      let iri = seen s ss h in at_iri-back document final p names ss s iri.0 (λ _. goes e) (refuses syntax) iri.1.0 iri.1.1
  back (subject_then e) p names s ss h =
      let subject = seen s ss h in subject-back document final p names ss e s subject.0 subject.1
  back (value_then e) p names s ss h = value-back document final p names ss e s h.0 h.1.0 h.1.1
  back (value_end e) p names s ss h = value_end-back document final p names ss e s h.0 h.1.0 h.1.1
  back (property_then k) p names s ss h =
      let name = seen s ss h in named-back document final p names ss is_free k (refuses syntax) s name.0 name.1.0 name.1.1.0 name.1.1.1
  back (role_then k) p names s ss h = role-back document final p names ss k s h.value h.rest h.after h.is h.so
  back (first_role k) p names s ss h = first_role-back document final p names ss k s h.value h.rest h.after h.is h.so
  back (second_role k e) p names s ss (inl h) = second_role-back document final p names ss k e s h.value h.rest h.after h.is h.so
  back (second_role k e) p names s ss (inr h) =
      let top = seen s ss h in second_top-back document final p names ss k e s top.0 top.1
  back (sub_then k) p names s ss h = sub-back document final p names ss k s h.value h.rest h.after h.is h.so
  back (sup_then k) p names s ss h = sup-back document final p names ss k s h.value h.rest h.after h.is h.so
  back (thing_then e) p names s ss h = let thing = seen s ss h in thing-back document final p names ss e s thing.0 thing.1
  back (filler_then r k) p names s ss h = by (seen s ss h)
    where
      by : (IsIri p s owl_thing × Means document final p (k (part.Any r)) names ss)
          ⊎ ((n : ℕ) × ((after : List Text) × (IsNameOf p may_be_class names s n after × Means document final p (k (part.Fill r n)) after ss)))
          → Comes document final p (move_of p (filler_then r k) s) names ss
      by (inl thing) = filler_thing-back document final p names ss r k s thing.0 thing.1
      by (inr name) = filler-back document final p names ss r k s name.0 name.1.0 name.1.1.0 name.1.1.1
  back (roles_close n before k) p names s ss h =
      roles-back document final p names ss n before k s h.value h.rest h.after h.is.0 h.is.1 h.so
  back (subs_close n before k) p names s ss h =
      subs-back document final p names ss n before k s h.value h.rest h.after h.is.0 h.is.1 h.so
  back (sups_close n before k) p names s ss h = sups-back document final p names ss n before k s h.value h.rest h.after h.is h.so
  back (individual_then k) p names s ss h =
      let name = seen s ss h in
      named-back document final p names ss is_free k (refuses (refused_individual s)) s name.0 name.1.0 name.1.1.0 name.1.1.1
  back (unnamed_then e) p names s ss h =
      let who = seen s ss h in unnamed-back document final p names ss e s who.0 who.1.0 who.1.1 who.1.2
  back (different_close n before e) p names s ss h =
      different-back document final p names ss n before e s h.0 h.1.0 h.1.1.0 h.1.1.1 h.1.1.2
  back (class_then k) p names s ss h = by (seen s ss h)
    where
      by : (IsIri p s owl_thing × Means document final p (k None) names ss)
          ⊎ ((n : ℕ) × ((after : List Text) × (IsNameOf p may_be_class names s n after × Means document final p (k (Some n)) after ss)))
          → Comes document final p (move_of p (class_then k) s) names ss
      by (inl thing) =
          thing_or-back document final p names ss (goes (k None)) (λ c. k (Some c)) (refuses (refused_class ClassAssertion s)) s thing.0 thing.1
      by (inr name) =
          class_or-back document final p names ss (goes (k None)) (λ c. k (Some c)) (refuses (refused_class ClassAssertion s)) s name.0 name.1.0 name.1.1.0 name.1.1.1
  back (declared_class k) p names s ss h = by (seen s ss h)
    where
      by : (IsIri p s owl_thing × Means document final p (k None) names ss)
          ⊎ ((n : ℕ) × ((after : List Text) × (IsNameOf p may_be_class names s n after × Means document final p (k (Some n)) after ss)))
          → Comes document final p (move_of p (declared_class k) s) names ss
      by (inl thing) = thing_or-back document final p names ss (goes (k None)) (λ c. k (Some c)) (refuses syntax) s thing.0 thing.1
      by (inr name) =
          class_or-back document final p names ss (goes (k None)) (λ c. k (Some c)) (refuses syntax) s name.0 name.1.0 name.1.1.0 name.1.1.1
  back (entity_then k) p names s ss h = entity-back document final p names ss k s h.value h.rest h.after h.is h.so
