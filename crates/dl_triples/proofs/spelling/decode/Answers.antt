use Rattle.std.proofs.Common.{refl, sym, ap, ◌∙◌, ◌++◌, [], subst, append-nil, string_bytes}
use Rattle.dl_triples.specs.declared.spelling.Quoting.TheVariants.{Iri}
use Rattle.dl_triples.specs.Parts.{SpelledThen}
use Rattle.dl_triples.proofs.SpelledLemmas.{Passed, Passed-first, Passed-next, Passed-ends, escape_shorter}
use Rattle.dl_triples.proofs.spelling.decode.Goals as goal

pub loop-character-init : goal.loop-character-init
loop-character-init c =
    let pushed = c.in_ok-rest.ensures in
    let written = pushed.2 ∙ ap (λ l. l ++ pushed.0) c.clear.ensures.bytes in
    subst (Passed Iri c.args.bytes.now c.in_ok-rest.rest.now) (sym written) (Passed-first Iri c.args.bytes.now pushed.0 c.in_ok-rest.rest.now pushed.1)

pub loop-character-preserved : goal.loop-character-preserved
loop-character-preserved c =
    let pushed = c.in_ok-rest-2.ensures in
    let written = pushed.2 ∙ ap (λ l. l ++ pushed.0) c.in_ok-push.ensures.bytes in
    subst (Passed Iri c.args.bytes.now c.in_ok-rest-2.rest.now) (sym written)
    (Passed-next Iri c.args.bytes.now c.loop-character.rest.now (string_bytes c.loop-character.buffer) c.in-Some.character c.in-Some.next.now pushed.0 c.in_ok-rest-2.rest.now c.loop-character.invariant c.in-Some.ensures pushed.1)

pub loop-character-smaller : goal.loop-character-smaller
loop-character-smaller c =
    let pushed = c.in_ok-rest-2.ensures in
    escape_shorter Iri c.loop-character.rest.now c.in-Some.character c.in-Some.next.now pushed.0 c.in_ok-rest-2.rest.now c.in-Some.ensures pushed.1

pub returns : goal.returns
returns c = λ value spells.
    let whole : SpelledThen Iri c.args.bytes.now value [] = record { text = c.args.bytes.now; stands = sym (append-nil c.args.bytes.now); spells = spells; ends = refl } in
    sym (Passed-ends Iri c.args.bytes.now c.loop-character.rest.now (string_bytes c.loop-character.buffer) c.loop-character.invariant c.in_default.ensures value [] whole).0
