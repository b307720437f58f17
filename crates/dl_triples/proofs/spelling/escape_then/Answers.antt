use Rattle.dl_triples.proofs.SpellingLemmas.{letter_then, number_escape}
use Rattle.dl_triples.proofs.spelling.escape_then.Goals as goal

pub returns-in-Some : goal.returns-in-Some
returns-in-Some c =
    letter_then c.args.quoting c.args.bytes.now c.in_ok-first.rest.now c.in_ok-letter.rest.now c.in_ok-first.first.now c.in_ok-letter.letter.now c.in-Some.character
    c.in_ok-first.ensures.cases.0 c.in_ok-letter.ensures.cases.0 c.if-first-ne92.false c.in-Some.ensures

pub returns-in-None : goal.returns-in-None
returns-in-None c =
    number_escape c.args.quoting c.args.bytes.now c.in_ok-first.rest.now c.in_ok-letter.rest.now c.in_ok-first.first.now c.in_ok-letter.letter.now
    c.in_ok-first.ensures.cases.0 c.in_ok-letter.ensures.cases.0 c.if-first-ne92.false c.in-None.ensures c.number_then.result c.number_then.ensures
