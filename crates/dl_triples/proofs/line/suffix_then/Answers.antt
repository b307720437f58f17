use Rattle.std.proofs.Common.{◌≡◌, ◌∷◌, [], ℕ, List, Some, None, subst}
use Rattle.std.proofs.lemmas.Slice.Eq.{strip_prefix_is}
use Rattle.std.proofs.lemmas.Bool.Decides.{Decides-eqb}
use Rattle.dl_triples.specs.Terms.{trimmed}
use Rattle.dl_triples.specs.Parts.{SuffixThen, TagThen}
use Rattle.dl_triples.proofs.TermLemmas.{one_iri}
use Rattle.dl_triples.proofs.DotLemmas.{datatype_behind, datatype_before, language_behind, language_before, nothing_behind, nothing_before, found_by}
use Rattle.dl_triples.proofs.line.suffix_then.Goals as goal

pub returns-in_err-rest : goal.returns-in_err-rest
returns-in_err-rest c =
    let opens = strip_prefix_is Decides-eqb c.args.bytes.now (94 ∷ 94 ∷ []) (Some c.in-Some.rest) c.in-Some.ensures.cases in
    rw c.from_residual.ensures (λ rest then.
    let datatype = datatype_behind c.args.bytes.now c.in-Some.rest.now opens rest then in
    c.in_err-rest.ensures datatype.0 datatype.1 datatype.2)

pub returns-in-Some : goal.returns-in-Some
returns-in-Some c =
    let opens = strip_prefix_is Decides-eqb c.args.bytes.now (94 ∷ 94 ∷ []) (Some c.in-Some.rest) c.in-Some.ensures.cases in
    let found = c.in_ok-rest.ensures in
    let here = c.in_ok-rest.rest.now in
    found_by (λ (rest : List ℕ). trimmed here ≡ 46 ∷ rest) (SuffixThen c.args.bytes.now)
    (λ rest at. datatype_before c.args.bytes.now c.in-Some.rest.now opens found.value here rest found.then at)
    (λ rest then.
    let datatype = datatype_behind c.args.bytes.now c.in-Some.rest.now opens rest then in
    let same = one_iri c.in-Some.rest.now datatype.0 datatype.1 found.value here datatype.2 found.then in
    subst (λ (l : List ℕ). trimmed l ≡ 46 ∷ rest) same.1 datatype.3)
    c.dot_then.result c.dot_then.ensures

pub returns-in-Some-strip_prefix : goal.returns-in-Some-strip_prefix
returns-in-Some-strip_prefix c =
    let opens = strip_prefix_is Decides-eqb c.args.bytes.now (64 ∷ []) (Some c.in-Some-strip_prefix.rest) c.in-Some-strip_prefix.ensures.cases in
    found_by (TagThen c.in-Some-strip_prefix.rest.now) (SuffixThen c.args.bytes.now)
    (language_before c.args.bytes.now c.in-Some-strip_prefix.rest.now opens)
    (language_behind c.args.bytes.now c.in-Some-strip_prefix.rest.now opens)
    c.tag_then.result c.tag_then.ensures

pub returns : goal.returns
returns c =
    let no_type = strip_prefix_is Decides-eqb c.args.bytes.now (94 ∷ 94 ∷ []) None c.in_default.ensures.cases in
    let no_tag = strip_prefix_is Decides-eqb c.args.bytes.now (64 ∷ []) None c.in_default-strip_prefix.ensures.cases in
    found_by (λ (rest : List ℕ). trimmed c.args.bytes.now ≡ 46 ∷ rest) (SuffixThen c.args.bytes.now)
    (nothing_before c.args.bytes.now no_type no_tag) (nothing_behind c.args.bytes.now no_type no_tag)
    c.dot_then-2.result c.dot_then-2.ensures
