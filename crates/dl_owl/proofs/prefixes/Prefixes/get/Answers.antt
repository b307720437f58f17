use Rattle.std.proofs.Common.{Some, string_bytes, sym, ap, ◌∙◌}
use Rattle.std.specs.Option.{option_map}
use Rattle.dl_owl.specs.Prefixes.{declared_iri}
use Rattle.dl_owl.proofs.PrefixLemmas.{declared-shown}
use Rattle.dl_owl.proofs.prefixes.Prefixes.get.Goals as goal

pub returns-in-Some : goal.returns-in-Some
returns-in-Some c =
    ap (λ p. declared_iri p c.args.name.now) (sym c.self.view_is) ∙ declared-shown c.self.inside.table.entries c.args.name.now
    ∙ ap (option_map string_bytes) (sym c.in-Some.ensures.value) ∙ ap Some (sym c.as_str.ensures.value)

pub returns-in-None : goal.returns-in-None
returns-in-None c =
    ap (λ p. declared_iri p c.args.name.now) (sym c.self.view_is) ∙ declared-shown c.self.inside.table.entries c.args.name.now
    ∙ ap (option_map string_bytes) (sym c.in-None.ensures.value)
