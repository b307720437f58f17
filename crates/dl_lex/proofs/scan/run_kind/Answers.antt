use Rattle.std.proofs.Common.{◌≡◌, false, rules}
use Rattle.std.specs.Option.{option_map}
use Rattle.dl_lex.specs.declared.token.TokenKind.TheVariants.{Word}
use Rattle.dl_lex.specs.Grammar.{is_node, has_colon, is_number, node, short, number}
use Rattle.dl_lex.proofs.Tokens.{word_text}
use Rattle.dl_lex.proofs.scan.run_kind.Goals as goal

pub returns-then-is_node : goal.returns-then-is_node
returns-then-is_node c = node (search rules)

pub returns-then-contains : goal.returns-then-contains
returns-then-contains c = short (search rules) (search rules)

pub returns-then-is_number : goal.returns-then-is_number
returns-then-is_number c = number (search rules) (search rules) (search rules)

pub returns : goal.returns
returns c =
    let text = c.args.text.now in
    let no_node : is_node text ≡ false = search rules in
    let no_colon : has_colon text ≡ false = search rules in
    let no_number : is_number text ≡ false = search rules in
    let found = word_text text c.of.result no_node no_colon no_number c.of.ensures in
    let value : c.map.result ≡ option_map Word c.of.result = search rules in
    rw value found
