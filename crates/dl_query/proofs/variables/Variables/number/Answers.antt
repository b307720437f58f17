use Rattle.std.proofs.Common.{◌∙◌, ap, map}
use Rattle.dl_names.specs.NameList.{names_after, place_of}
use Rattle.dl_query.proofs.VariableLemmas.{insert_key-texts, insert_index-number}
use Rattle.dl_query.proofs.variables.Variables.number.Goals as goal

pub returns-clause-met : goal.returns-clause-met
returns-clause-met c =
    ap (map (λ k. k.now)) c.in_ok-number.ensures.keys ∙ insert_key-texts c.self.inside.names.keys c.args.name ∙ ap (λ l. names_after l c.args.name.now) c.self.view_is

pub returns-clause-number : goal.returns-clause-number
returns-clause-number c =
    c.in_ok-number.ensures.index ∙ insert_index-number c.self.inside.names.keys c.args.name ∙ ap (λ l. place_of (names_after l c.args.name.now) c.args.name.now) c.self.view_is
