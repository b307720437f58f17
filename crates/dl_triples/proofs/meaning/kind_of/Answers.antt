use Rattle.std.proofs.Common.{◌≡◌, Bool, true, false, cond, sym, rules}
use Rattle.std.specs.Str.{bytes_eq}
use Rattle.dl_names.specs.Iris.{is_free, owl_nothing, rdf_type}
use Rattle.dl_triples.specs.declared.meaning.Kind.{Kind}
use Rattle.dl_triples.specs.declared.meaning.Kind.TheVariants as kinds
use Rattle.dl_triples.specs.Meaning.{is_among, annotation_properties, universal_classes}
use Rattle.dl_triples.proofs.meaning.kind_of.Goals as goal

-- the kind by the tests
abbrev chosen : Bool → Bool → Bool → Bool → Bool → Kind
chosen free annotation type universal nothing =
    cond free kinds.Name
    (cond annotation kinds.Annotation (cond type kinds.Type (cond universal kinds.Universal (cond nothing kinds.Nothing kinds.Reserved))))

pub returns-then-is_universal : goal.returns-then-is_universal
returns-then-is_universal c =
    let iri = c.args.iri.now in
    let taken : is_free iri ≡ false = search rules in
    let no_annotation : is_among iri annotation_properties ≡ false = search rules in
    let no_type : bytes_eq iri rdf_type ≡ false = search rules in
    let universal : is_among iri universal_classes ≡ true = search rules in
    sym (λ i. chosen (taken i) (no_annotation i) (no_type i) (universal i) (bytes_eq iri owl_nothing))

pub returns : goal.returns
returns c =
    let iri = c.args.iri.now in
    let taken : is_free iri ≡ false = search rules in
    let no_annotation : is_among iri annotation_properties ≡ false = search rules in
    let no_type : bytes_eq iri rdf_type ≡ false = search rules in
    let no_universal : is_among iri universal_classes ≡ false = search rules in
    let no_nothing : bytes_eq iri owl_nothing ≡ false = search rules in
    sym (λ i. chosen (taken i) (no_annotation i) (no_type i) (no_universal i) (no_nothing i))
