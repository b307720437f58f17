-- Whole texts: what is expected first means the plain grammar of an ontology, or of one axiom.
use Rattle.std.proofs.Common.{◌≡◌, ◌≤◌, true, List, length}
use Rattle.dl_names.specs.NameList.{Text, max_names}
use Rattle.dl_owl.specs.declared.document.Document.{Document}
use Rattle.dl_owl.specs.Symbols.{Symbol, Placed, symbols_of}
use Rattle.dl_owl.specs.Prefixes.{Prefixes}
use Rattle.dl_owl.specs.Ontologies as ontologies
use Rattle.dl_owl.specs.Ontologies.{TitleThen, IsOntology, IsLoneAxiom}
use Rattle.dl_owl.specs.Expected.{prologue, lone_axiom}
use Rattle.dl_owl.specs.Reading.{gives, outcome, is_shallow, start}
use Rattle.dl_owl.proofs.Meaning.{TitleUpTo, no_iri, an_iri}
use Rattle.dl_owl.proofs.Exact.{sound, complete}

title_of : (p : Prefixes) (ss rest : List Symbol) → TitleUpTo p 2 ss rest → TitleThen p ss rest
title_of p ss rest no_iri = ontologies.TitleThen.none
title_of p ss rest (an_iri is no_iri) = ontologies.TitleThen.iri is
title_of p ss rest (an_iri is (an_iri also no_iri)) = ontologies.TitleThen.version is also

up_to_of : (p : Prefixes) (ss rest : List Symbol) → TitleThen p ss rest → TitleUpTo p 2 ss rest
up_to_of p ss rest ontologies.TitleThen.none = no_iri
up_to_of p ss rest (ontologies.TitleThen.iri is) = an_iri is no_iri
up_to_of p ss rest (ontologies.TitleThen.version is also) = an_iri is (an_iri also no_iri)

module _ (names : List Text) (tokens : List Placed) (document : Document) (after : List Text) where
  abbrev Limits : Type 0
  Limits = (is_shallow 0 (symbols_of tokens) ≡ true) × (length after ≤ max_names)

  pub ontology_read : outcome prologue (start names) tokens ≡ gives document after → IsOntology names (symbols_of tokens) document after
  ontology_read h =
      let text = (sound document after tokens prologue (start names) h).0 in
      record {
        prefixes = text.prefixes;
        title = text.rest;
        annotations = text.then.0;
        axioms = text.then.1.1.0;
        declared = text.declared;
        titled = title_of text.prefixes text.rest text.then.0 text.then.1.0;
        annotated = text.then.1.1.1.0;
        read = text.then.1.1.1.1;
      }

  pub ontology_is : length names ≤ max_names → outcome prologue (start names) tokens ≡ gives document after
      → IsOntology names (symbols_of tokens) document after × Limits
  ontology_is fits h =
      let right = sound document after tokens prologue (start names) h in (ontology_read h, (right.1, right.2 fits))

  pub is_ontology : IsOntology names (symbols_of tokens) document after → Limits → outcome prologue (start names) tokens ≡ gives document after
  is_ontology h limits =
      complete document after tokens prologue (start names) (
        record {
          prefixes = h.prefixes;
          rest = h.title;
          declared = h.declared;
          then = (h.annotations, (up_to_of h.prefixes h.title h.annotations h.titled, (h.axioms, (h.annotated, h.read))));
        },
        limits.0,
        limits.1,
      )

  pub lone_read : outcome lone_axiom (start names) tokens ≡ gives document after → IsLoneAxiom names (symbols_of tokens) document after
  lone_read h =
      let text = (sound document after tokens lone_axiom (start names) h).0 in
      record { item = text.item; read = text.read; is = text.is }

  pub lone_is : length names ≤ max_names → outcome lone_axiom (start names) tokens ≡ gives document after
      → IsLoneAxiom names (symbols_of tokens) document after × Limits
  lone_is fits h =
      let right = sound document after tokens lone_axiom (start names) h in (lone_read h, (right.1, right.2 fits))

  pub is_lone : IsLoneAxiom names (symbols_of tokens) document after → Limits → outcome lone_axiom (start names) tokens ≡ gives document after
  is_lone h limits =
      complete document after tokens lone_axiom (start names) (
        record { item = h.item; read = h.read; is = h.is },
        limits.0,
        limits.1,
      )
