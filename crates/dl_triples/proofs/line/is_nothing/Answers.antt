use Rattle.std.proofs.Common.{◌∙◌, sym}
use Rattle.dl_triples.proofs.TermLemmas.{comment_text, is_comment}
use Rattle.dl_triples.proofs.line.is_nothing.Goals as goal

pub returns-then-first-eq35 : goal.returns-then-first-eq35
returns-then-first-eq35 c =
    let at = sym c.trimmed.ensures ∙ c.in-Some.ensures.cases.0 in (
      λ is. is_comment c.args.bytes.now c.in-Some.text.now c.in-Some.first.now at c.if-first-eq35.true (c.is_text.ensures.0 is),
      λ nothing. c.is_text.ensures.1 (comment_text c.args.bytes.now c.in-Some.text.now c.in-Some.first.now at c.if-first-eq35.true nothing),
    )
