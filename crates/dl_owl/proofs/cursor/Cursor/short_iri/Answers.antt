use Rattle.std.proofs.Common.{◌≡◌, ◌==◌, length, lit<, subst}
use Rattle.std.specs.List.{position_or_len}
use Rattle.dl_owl.proofs.SpanLemmas.{short_colon}
use Rattle.dl_owl.proofs.cursor.Cursor.short_iri.Goals as goal

pub unreachable-requires : goal.unreachable-requires
unreachable-requires c =
    let spot = c.args.self.now in
    let none : position_or_len (λ b. b == 58) c.text.result.now ≡ length c.text.result.now = c.in-None.ensures.byte (lit< tt) (λ w o h. h) in
    short_colon spot.bytes spot.token.kind spot.token.start spot.token.end c.text.ensures.stands c.requires
    (subst (λ text. position_or_len (λ b. b == 58) text ≡ length text) c.text.ensures.is none)
