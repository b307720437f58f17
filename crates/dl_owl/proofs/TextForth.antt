-- The same for whole texts, and for all that may be expected.
use Rattle.std.proofs.Common.{◌≡◌, ℕ, suc, zero, Bool, true, false, ◌⊎◌, inl, inr, Option, Some, None, List, [], ◌∷◌, ◌++◌, if◌then◌else◌, refl, sym, ap, ◌∙◌, subst, arith}
use Rattle.std.specs.Str.{bytes_eq}
use Rattle.dl_lex.specs.declared.keyword.Keyword.TheVariants.{Prefix, Ontology, Import, Annotation, ClassAssertion}
use Rattle.dl_names.specs.NameList.{Text}
use Rattle.dl_names.proofs.NameListLemmas.{same-bytes_eq}
use Rattle.dl_owl.specs.declared.document.Document.{Document}
use Rattle.dl_owl.specs.Symbols.{Symbol, opening, closing, equals, full_iri, short_iri, keyword, ending}
use Rattle.dl_owl.specs.Prefixes.{Prefixes, prefix_of, local_of, declared_iri, expanded}
use Rattle.dl_owl.specs.NamesNext.{IsIri}
use Rattle.dl_owl.specs.Annotations.{AnnotationsThen}
use Rattle.dl_owl.specs.Items.{empty_document, with_item}
use Rattle.dl_owl.specs.Axioms.{AxiomThen}
use Rattle.dl_owl.specs.Axioms as axioms
use Rattle.dl_owl.specs.Ontologies as ontologies
use Rattle.dl_owl.specs.Ontologies.{PrefixesThen, AxiomsThen}
use Rattle.dl_owl.specs.Causes.{syntax, prefix_unknown}
use Rattle.dl_owl.specs.Expected.{Expected, prologue, prefix_name, prefix_equals, prefix_iri, title, annotations_first, items, lone_axiom, finish, done, open_then, close_then, annotations_then, iri_then, subject_then, value_then, value_end, property_then, role_then, first_role, second_role, sub_then, sup_then, thing_then, filler_then, roles_close, subs_close, sups_close, individual_then, unnamed_then, different_close, class_then, declared_class, entity_then, Move, goes, refuses, declares}
use Rattle.dl_owl.specs.Steps.{at_iri, axiom_next, items_next, annotations_first_next, prologue_next, prefix_name_next, prefix_iri_next, close_or, refused_class, role_next, sub_next, sup_next, different_next, move_of}
use Rattle.dl_owl.proofs.Meaning.{SeesThis, no_iri, an_iri, AxiomsMean, FirstMean, TitleMeans, PrologueMeans, LoneMeans, Means, Comes}
use Rattle.dl_owl.proofs.Forth.{one_annotation, annotation-forth, role-forth, first_role-forth, second_role-forth, sub-forth, thing-forth, filler-forth, sup-forth, iri-forth, subject-forth, value-forth, value_end-forth, property-forth, individual-forth, unnamed-forth, class_then-forth, different-forth, entity-forth}
use Rattle.dl_owl.proofs.ListForth.{roles-forth, subs-forth, sups-forth, sups_any-forth, roles_end-forth, subs_end-forth, sups_end-forth}
use Rattle.dl_owl.proofs.AxiomForth.{axiom-forth}

module _ (document : Document) (final : List Text) (p : Prefixes) (names : List Text) (ss : List Symbol) where
  abbrev C : Move → Type 0
  C m = Comes document final p m names ss

  abbrev M : Expected → List Text → List Symbol → Type 0
  M e names ss = Means document final p e names ss

  next_item : (d : Document) (s : Symbol) → C (axiom_next (λ i. items (with_item d i)) s) → AxiomsMean document final p d names (s ∷ ss)
  next_item d s h =
      let one = axiom-forth document final p names (λ i. items (with_item d i)) ss s h in
      ontologies.AxiomsThen.more one.is one.so

  items-forth : (d : Document) (s : Symbol) → C (items_next d s) → AxiomsMean document final p d names (s ∷ ss)
  items-forth d closing h =
      subst (λ f. AxiomsThen p d names (closing ∷ ss) document (closing ∷ ending ∷ []) f) h.so.2
      (subst (λ e. AxiomsThen p d names (closing ∷ ss) e (closing ∷ ending ∷ []) names) h.so.1
      (subst (λ l. AxiomsThen p d names (closing ∷ ss) d (closing ∷ l) names) (h.is ∙ ap (λ l. ending ∷ l) h.so.0) ontologies.AxiomsThen.none))
  items-forth d (keyword Import) h = absurd h
  items-forth d s h = next_item d s h

  first-forth : (s : Symbol) → C (annotations_first_next s) → FirstMean document final p names (s ∷ ss)
  first-forth (keyword Annotation) h =
      let one = one_annotation document final p names ss annotations_first h in
      (one.so.0, (one.all one.so.0 one.so.1.0, one.so.1.1))
  first-forth s h = (s ∷ ss, (Rattle.dl_owl.specs.Annotations.AnnotationsThen.none, items-forth empty_document s h))

  no_title : (n : ℕ) (s : Symbol) → C (annotations_first_next s) → TitleMeans document final p n names (s ∷ ss)
  no_title n s h = (s ∷ ss, (no_iri, first-forth s h))

  some_title : (n : ℕ) (s : Symbol) (text : Text) → IsIri p s text → TitleMeans document final p n names ss
      → TitleMeans document final p (suc n) names (s ∷ ss)
  some_title n s text is h = (h.0, (an_iri is h.1.0, h.1.1))

  title-forth : (n : ℕ) (s : Symbol) → C (at_iri p s (λ _. goes (title n)) (annotations_first_next s))
      → TitleMeans document final p (suc n) names (s ∷ ss)
  title-forth n (full_iri text) h = some_title n (full_iri text) text refl h
  title-forth n (short_iri short) h = by (expanded p short) refl h
    where
      by : (found : Option Text) → expanded p short ≡ found
          → C (elim found [ None ↦ refuses prefix_unknown | Some text ↦ goes (title n) ])
          → TitleMeans document final p (suc n) names (short_iri short ∷ ss)
      by None is g = absurd g
      by (Some text) is g = some_title n (short_iri short) text is g
  title-forth n s h = no_title (suc n) s h

  -- a prefix declaration, as it is declared the first time or again
  declared : (h : M prefix_name names ss) → PrologueMeans document final p names (keyword Prefix ∷ opening ∷ ss)
  declared h =
      let equal = h.so.1.2 in
      let iri = equal.so in
      by iri.so.0 iri.rest
      (sym (h.is ∙ (λ i. h.so.1.0 i ∷ (equal.is ∙ ap (λ l. equals ∷ l) (iri.is ∙ ap (λ s. s ∷ iri.rest) iri.so.1.0)) i)))
      iri.so.1.1
    where
      by : (iri : Text) (rest : List Symbol) → short_iri h.so.0 ∷ equals ∷ full_iri iri ∷ rest ≡ ss
          → (((declared_iri p (prefix_of h.so.0) ≡ None)
          × SeesThis closing (λ more. PrologueMeans document final (p ++ (prefix_of h.so.0, iri) ∷ []) names more) rest)
          ⊎ ((declared_iri p (prefix_of h.so.0) ≡ Some iri) × SeesThis closing (λ more. PrologueMeans document final p names more) rest))
          → PrologueMeans document final p names (keyword Prefix ∷ opening ∷ ss)
      by iri rest is (inl new) =
          let close = new.1 in
          record {
            prefixes = close.so.prefixes;
            rest = close.so.rest;
            declared =
                subst (λ l. PrefixesThen p (keyword Prefix ∷ opening ∷ l) close.so.prefixes (keyword Ontology ∷ opening ∷ close.so.rest))
                (ap (λ l. short_iri h.so.0 ∷ equals ∷ full_iri iri ∷ l) (sym close.is) ∙ is)
                (ontologies.PrefixesThen.new h.so.1.1 new.0 close.so.declared);
            then = close.so.then;
          }
      by iri rest is (inr again) =
          let close = again.1 in
          record {
            prefixes = close.so.prefixes;
            rest = close.so.rest;
            declared =
                subst (λ l. PrefixesThen p (keyword Prefix ∷ opening ∷ l) close.so.prefixes (keyword Ontology ∷ opening ∷ close.so.rest))
                (ap (λ l. short_iri h.so.0 ∷ equals ∷ full_iri iri ∷ l) (sym close.is) ∙ is)
                (ontologies.PrefixesThen.again h.so.1.1 again.0 close.so.declared);
            then = close.so.then;
          }

  prefix_name-forth : (s : Symbol) → C (prefix_name_next s) → M prefix_name names (s ∷ ss)
  prefix_name-forth (short_iri short) h = by (local_of short) refl h
    where
      by : (local : Text) → local_of short ≡ local
          → C (elim local [ [] ↦ goes (prefix_equals (prefix_of short)) | c ∷ cs ↦ refuses syntax ])
          → M prefix_name names (short_iri short ∷ ss)
      by [] is g = record { token = short_iri short; rest = ss; is = refl; so = (short, (refl, is, g)) }
      by (c ∷ cs) is g = absurd g
  prefix_name-forth s h = absurd h

  prefix_iri-forth : (name : Text) (s : Symbol) → C (prefix_iri_next p name s) → M (prefix_iri name) names (s ∷ ss)
  prefix_iri-forth name (full_iri iri) h = by (declared_iri p name) refl h
    where
      same : (old : Text) (b : Bool) → declared_iri p name ≡ Some old → bytes_eq old iri ≡ b
          → C (if b then goes (close_then prologue) else refuses syntax) → M (prefix_iri name) names (full_iri iri ∷ ss)
      same old true is equal g = record {
        token = full_iri iri;
        rest = ss;
        is = refl;
        so = (iri, (refl, inr (is ∙ ap Some (same-bytes_eq old iri equal), g)));
      }
      same old false is equal g = absurd g

      by : (found : Option Text) → declared_iri p name ≡ found
          → C (elim found [
            | None ↦ declares name iri (close_then prologue)
            | Some old ↦ if bytes_eq old iri then goes (close_then prologue) else refuses syntax
          ])
          → M (prefix_iri name) names (full_iri iri ∷ ss)
      by None is g = record { token = full_iri iri; rest = ss; is = refl; so = (iri, (refl, inl (is, g))) }
      by (Some old) is g = same old (bytes_eq old iri) is refl g
  prefix_iri-forth name s h = absurd h

module _ (document : Document) (final : List Text) where
  prologue-forth : (p : Prefixes) (names : List Text) (ss : List Symbol) (s : Symbol)
      → Comes document final p (prologue_next s) names ss → PrologueMeans document final p names (s ∷ ss)
  prologue-forth p names ss (keyword Prefix) h =
      subst (λ l. PrologueMeans document final p names (keyword Prefix ∷ l)) (sym h.is)
      (declared document final p names h.rest h.so)
  prologue-forth p names ss (keyword Ontology) h = record {
    prefixes = p;
    rest = h.rest;
    declared =
        subst (λ l. PrefixesThen p (keyword Ontology ∷ l) p (keyword Ontology ∷ opening ∷ h.rest)) (sym h.is)
        ontologies.PrefixesThen.none;
    then = h.so;
  }
  prologue-forth p names ss s h = absurd h

  lone-forth : (p : Prefixes) (names : List Text) (ss : List Symbol) (s : Symbol)
      → Comes document final p (axiom_next (λ i. finish (with_item empty_document i)) s) names ss → LoneMeans document final p names (s ∷ ss)
  lone-forth p names ss s h =
      let one = axiom-forth document final p names (λ i. finish (with_item empty_document i)) ss s h in
      record {
        item = one.value;
        read =
            subst (λ f. AxiomThen p names (s ∷ ss) one.value (ending ∷ []) f) one.so.so.2
            (subst (λ l. AxiomThen p names (s ∷ ss) one.value l one.after) (one.so.is ∙ ap (λ l. ending ∷ l) one.so.so.0) one.is);
        is = sym one.so.so.1;
      }

  -- a closing parenthesis, or one more
  close_or-forth : (e : Expected) (p : Prefixes) (names : List Text) (ss : List Symbol) (whole : Expected) (next : Symbol → Move)
      → (Comes document final p (goes e) names ss → Means document final p whole names (closing ∷ ss))
      → ((s : Symbol) → Comes document final p (next s) names ss → Means document final p whole names (s ∷ ss))
      → (s : Symbol) → Comes document final p (close_or e s (next s)) names ss → Means document final p whole names (s ∷ ss)
  close_or-forth e p names ss whole next end more closing h = end h
  close_or-forth e p names ss whole next end more s h = more s h

  -- where what a token does goes on, the token and what stands behind it are meant
  pub forth : (e : Expected) (p : Prefixes) (names : List Text) (s : Symbol) (ss : List Symbol)
      → Comes document final p (move_of p e s) names ss → Means document final p e names (s ∷ ss)
  forth prologue p names s ss h = prologue-forth p names ss s h
  forth prefix_name p names s ss h = prefix_name-forth document final p names ss s h
  forth (prefix_equals name) p names equals ss h = record { rest = ss; is = refl; so = h }
  forth (prefix_equals name) p names s ss h = absurd h
  forth (prefix_iri name) p names s ss h = prefix_iri-forth document final p names ss name s h
  forth (title zero) p names s ss h = no_title document final p names ss zero s h
  forth (title (suc n)) p names s ss h = title-forth document final p names ss n s h
  forth annotations_first p names s ss h = first-forth document final p names ss s h
  forth (items d) p names s ss h = items-forth document final p names ss d s h
  forth lone_axiom p names s ss h = lone-forth p names ss s h
  forth (finish d) p names ending ss h = record { rest = ss; is = refl; so = h }
  forth (finish d) p names s ss h = absurd h
  forth (done d) p names s ss h = absurd h
  forth (open_then e) p names opening ss h = record { rest = ss; is = refl; so = h }
  forth (open_then e) p names s ss h = absurd h
  forth (close_then e) p names closing ss h = record { rest = ss; is = refl; so = h }
  forth (close_then e) p names s ss h = absurd h
  forth (annotations_then e) p names (keyword Annotation) ss h = annotation-forth document final p names ss e h
  forth (annotations_then e) p names s ss h =
      (s ∷ ss, (Rattle.dl_owl.specs.Annotations.AnnotationsThen.none, (λ rest is. cc), forth e p names s ss h))
  forth (iri_then e) p names s ss h = iri-forth document final p names ss e s h
  forth (subject_then e) p names s ss h = subject-forth document final p names ss e s h
  forth (value_then e) p names s ss h = value-forth document final p names ss e s h
  forth (value_end e) p names s ss h = value_end-forth document final p names ss e s h
  forth (property_then k) p names s ss h = property-forth document final p names ss k s h
  forth (role_then k) p names s ss h = role-forth document final p names ss k s h
  forth (first_role k) p names s ss h = first_role-forth document final p names ss k s h
  forth (second_role k e) p names s ss h = second_role-forth document final p names ss k e s h
  forth (sub_then k) p names s ss h = sub-forth document final p names ss k s h
  forth (sup_then k) p names s ss h = sup-forth document final p names ss k s h
  forth (thing_then e) p names s ss h = thing-forth document final p names ss e s h
  forth (filler_then r k) p names s ss h = filler-forth document final p names ss r k s h
  forth (roles_close zero before k) p names s ss h =
      close_or-forth (k before) p names ss (roles_close zero before k) (role_next p (λ r. roles_close zero (before ++ r ∷ []) k))
      (roles_end-forth document final p names ss before k)
      (λ t g. roles-forth document final p names ss zero before k t g zero (omega arith)) s h
  forth (roles_close (suc n) before k) p names s ss h =
      roles-forth document final p names ss n before k s h (suc n) (omega arith)
  forth (subs_close zero before k) p names s ss h =
      close_or-forth (k before) p names ss (subs_close zero before k) (sub_next p (λ r. subs_close zero (before ++ r ∷ []) k))
      (subs_end-forth document final p names ss before k)
      (λ t g. subs-forth document final p names ss zero before k t g zero (omega arith)) s h
  forth (subs_close (suc n) before k) p names s ss h = subs-forth document final p names ss n before k s h (suc n) (omega arith)
  forth (sups_close zero before k) p names s ss h =
      close_or-forth (k before) p names ss (sups_close zero before k) (sup_next p (λ ps. sups_close zero (before ++ ps) k))
      (sups_end-forth document final p names ss before k)
      (λ t g. sups_any-forth document final p names ss before k t g) s h
  forth (sups_close (suc n) before k) p names s ss h = sups-forth document final p names ss n before k s h
  forth (individual_then k) p names s ss h = individual-forth document final p names ss k s h
  forth (unnamed_then e) p names s ss h = unnamed-forth document final p names ss e s h
  forth (different_close zero before e) p names s ss h =
      close_or-forth e p names ss (different_close zero before e) (different_next p before (λ more. different_close zero more e))
      (λ g. (zero, (ss, (axioms.DifferentThen.none, omega arith, g))))
      (λ t g. different-forth document final p names ss zero before e t g zero (omega arith)) s h
  forth (different_close (suc n) before e) p names s ss h = different-forth document final p names ss n before e s h (suc n) (omega arith)
  forth (class_then k) p names s ss h = class_then-forth document final p names ss k (refused_class ClassAssertion s) s h
  forth (declared_class k) p names s ss h = class_then-forth document final p names ss k syntax s h
  forth (entity_then k) p names s ss h = entity-forth document final p names ss k s h
