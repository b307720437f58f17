use Rattle.std.proofs.Common.{◌≡◌, ◌∷◌, [], ℕ, List, Some, None, subst}
use Rattle.std.proofs.lemmas.Slice.Eq.{strip_prefix_is}
use Rattle.std.proofs.lemmas.Bool.Decides.{Decides-eqb}
use Rattle.dl_triples.specs.Terms.{trimmed}
use Rattle.dl_triples.proofs.TermLemmas.{one_iri}
use Rattle.dl_triples.proofs.DotLemmas.{quoted_behind, quoted_before, bracketed_behind, bracketed_before}
use Rattle.dl_triples.proofs.line.object_then.Goals as goal

pub returns-in_err-literal_then : goal.returns-in_err-literal_then
returns-in_err-literal_then c =
    let opens = strip_prefix_is Decides-eqb c.args.bytes.now (34 ∷ []) (Some c.in-Some.rest) c.in-Some.ensures.cases in
    rw c.from_residual.ensures (λ object rest then. c.in_err-literal_then.ensures rest (quoted_behind c.args.bytes.now c.in-Some.rest.now opens object rest then))

pub returns-in-Some : goal.returns-in-Some
returns-in-Some c =
    let opens = strip_prefix_is Decides-eqb c.args.bytes.now (34 ∷ []) (Some c.in-Some.rest) c.in-Some.ensures.cases in
    quoted_before c.args.bytes.now c.in-Some.rest.now opens c.in_ok-literal_then.field-0.now c.in_ok-literal_then.ensures

pub returns-in_err-iri : goal.returns-in_err-iri
returns-in_err-iri c =
    let no_quote = strip_prefix_is Decides-eqb c.args.bytes.now (34 ∷ []) None c.in_default.ensures.cases in
    rw c.from_residual-in_err-iri.ensures (λ object rest then.
    let bracket = bracketed_behind c.args.bytes.now no_quote object rest then in
    c.in_err-iri.ensures bracket.0 bracket.1 bracket.2)

pub returns-in_err-dot_then : goal.returns-in_err-dot_then
returns-in_err-dot_then c =
    let no_quote = strip_prefix_is Decides-eqb c.args.bytes.now (34 ∷ []) None c.in_default.ensures.cases in
    let found = c.in_ok-iri.ensures in
    rw c.from_residual-in_err-dot_then.ensures (λ object rest then.
    let bracket = bracketed_behind c.args.bytes.now no_quote object rest then in
    let same = one_iri c.args.bytes.now bracket.0 bracket.1 found.value c.in_ok-iri.rest.now bracket.2 found.then in
    c.in_err-dot_then.ensures rest (subst (λ (l : List ℕ). trimmed l ≡ 46 ∷ rest) same.1 bracket.3))

pub returns : goal.returns
returns c = bracketed_before c.args.bytes.now c.in_ok-iri.rest.now c.in_ok-dot_then.field-0.now c.in_ok-iri.iri c.in_ok-iri.ensures c.in_ok-dot_then.ensures
