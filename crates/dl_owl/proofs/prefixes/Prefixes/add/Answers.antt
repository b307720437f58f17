use Rattle.std.proofs.Common.{◌≡◌, None, [], ◌∷◌, ◌++◌, string_bytes, ap, ◌∙◌}
use Rattle.dl_owl.specs.Prefixes.{declared_iri}
use Rattle.dl_owl.proofs.PrefixLemmas.{shown, shown-insert}
use Rattle.dl_owl.proofs.prefixes.Prefixes.add.Goals as goal

pub returns : goal.returns
returns c =
    let entries = c.self.inside.table.entries in
    let key = c.in_ok-key.key in
    let none : declared_iri (shown entries) (string_bytes key) ≡ None =
    ap (declared_iri (shown entries)) c.in_ok-key.ensures.ok
    ∙ ap (λ p. declared_iri p c.args.name.now) c.self.view_is ∙ c.requires in
    ap shown c.in_ok-insert.ensures.entries ∙ shown-insert entries key c.in_ok-value.value none
    ∙ (λ i. c.self.view_is i ++ (c.in_ok-key.ensures.ok i, c.in_ok-value.ensures.ok i) ∷ [])
