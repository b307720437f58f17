use Rattle.std.proofs.Common.{refl}
use Rattle.std.proofs.lemmas.Bool.{false≢true}
use Rattle.dl_triples.proofs.FormLemmas.{no_first, no_second, node_third, no_third, no_end, whole}
use Rattle.dl_triples.proofs.line.form_of.Goals as goal

pub returns-then-is_nothing : goal.returns-then-is_nothing
returns-then-is_nothing c = c.if-is_nothing.ensures.0 refl

pub returns-in_default : goal.returns-in_default
returns-in_default c =
    no_first c.args.line.now (λ h. false≢true (c.if-is_nothing.ensures.1 h)) (λ h. false≢true (c.if-node_next.ensures.1 h)) c.trimmed.result.now c.trimmed.ensures
    c.in_default.ensures

pub returns-in_default-iri_then : goal.returns-in_default-iri_then
returns-in_default-iri_then c =
    no_second c.args.line.now (λ h. false≢true (c.if-is_nothing.ensures.1 h)) (λ h. false≢true (c.if-node_next.ensures.1 h)) c.trimmed.result.now c.trimmed.ensures
    c.in-Some.subject c.in-Some.rest.now c.in-Some.ensures c.trimmed-2.result.now c.trimmed-2.ensures
    c.in_default-iri_then.ensures

pub returns-then-node_next-2 : goal.returns-then-node_next-2
returns-then-node_next-2 c =
    node_third c.args.line.now (λ h. false≢true (c.if-is_nothing.ensures.1 h)) (λ h. false≢true (c.if-node_next.ensures.1 h)) c.trimmed.result.now c.trimmed.ensures
    c.in-Some.subject c.in-Some.rest.now c.in-Some.ensures c.trimmed-2.result.now c.trimmed-2.ensures
    c.in-Some-iri_then.predicate c.in-Some-iri_then.rest.now c.in-Some-iri_then.ensures (c.if-node_next-2.ensures.0 refl)

pub returns-in_default-object_then : goal.returns-in_default-object_then
returns-in_default-object_then c =
    no_third c.args.line.now (λ h. false≢true (c.if-is_nothing.ensures.1 h)) (λ h. false≢true (c.if-node_next.ensures.1 h)) c.trimmed.result.now c.trimmed.ensures
    c.in-Some.subject c.in-Some.rest.now c.in-Some.ensures c.trimmed-2.result.now c.trimmed-2.ensures
    c.in-Some-iri_then.predicate c.in-Some-iri_then.rest.now c.in-Some-iri_then.ensures (λ h. false≢true (c.if-node_next-2.ensures.1 h))
    c.trimmed-3.result.now c.trimmed-3.ensures c.in_default-object_then.ensures

pub returns-then-not-is_nothing : goal.returns-then-not-is_nothing
returns-then-not-is_nothing c =
    no_end c.args.line.now (λ h. false≢true (c.if-is_nothing.ensures.1 h)) (λ h. false≢true (c.if-node_next.ensures.1 h)) c.trimmed.result.now c.trimmed.ensures
    c.in-Some.subject c.in-Some.rest.now c.in-Some.ensures c.trimmed-2.result.now c.trimmed-2.ensures
    c.in-Some-iri_then.predicate c.in-Some-iri_then.rest.now c.in-Some-iri_then.ensures (λ h. false≢true (c.if-node_next-2.ensures.1 h))
    c.trimmed-3.result.now c.trimmed-3.ensures c.in-Some-object_then.object c.in-Some-object_then.rest.now c.in-Some-object_then.ensures
    (λ h. false≢true (c.if-not-is_nothing.ensures.1 h))

pub returns : goal.returns
returns c =
    whole c.args.line.now (λ h. false≢true (c.if-is_nothing.ensures.1 h)) (λ h. false≢true (c.if-node_next.ensures.1 h)) c.trimmed.result.now c.trimmed.ensures
    c.in-Some.subject c.in-Some.rest.now c.in-Some.ensures c.trimmed-2.result.now c.trimmed-2.ensures
    c.in-Some-iri_then.predicate c.in-Some-iri_then.rest.now c.in-Some-iri_then.ensures (λ h. false≢true (c.if-node_next-2.ensures.1 h))
    c.trimmed-3.result.now c.trimmed-3.ensures c.in-Some-object_then.object c.in-Some-object_then.rest.now c.in-Some-object_then.ensures
    (c.if-not-is_nothing.ensures.0 refl)
