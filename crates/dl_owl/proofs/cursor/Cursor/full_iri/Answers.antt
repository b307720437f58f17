use Rattle.std.proofs.Common.{ap, ◌∙◌}
use Rattle.dl_owl.proofs.SpanLemmas.{token_iri, iri_room, iri_utf8}
use Rattle.dl_owl.proofs.cursor.Cursor.full_iri.Goals as goal

pub between_brackets-requires : goal.between_brackets-requires
between_brackets-requires c =
    let token = c.self.inside.token in
    let bytes = c.self.inside.bytes.now in
    let iri = token_iri bytes token.kind token.start token.end c.self.invariant.6 (ap (λ s. s.token.kind) c.self.view_is ∙ c.requires) in
    record {
      spans = iri_room bytes token.start token.end iri;
      within = c.self.invariant.4;
      utf8 = iri_utf8 bytes token.start token.end iri;
    }
