use Rattle.std.proofs.Common.{◌≡◌, rules, sym, ap, ◌∙◌}
use denote.Enum.Bare.{same_true, true_same}
use Rattle.dl_lex.specs.contracts.keyword.Keyword.{the_type}
use Rattle.dl_lex.specs.declared.keyword.Keyword.{Keyword}
use Rattle.dl_lex.specs.declared.token.TokenKind.TheVariants.{Word}
use Rattle.dl_owl.proofs.cursor.is_word.Goals as goal

same_word : (a b : Keyword) → Word a ≡ Word b → a ≡ b
same_word a b is = cc

pub returns-in-Word : goal.returns-in-Word
returns-in-Word c = (
  λ yes. sym c.kind.ensures ∙ c.in-Word.is ∙ ap Word (same_true the_type (search rules) _ _ (sym c.eq.ensures ∙ yes)),
  λ is. c.eq.ensures ∙ true_same the_type _ _ (same_word _ _ (sym c.in-Word.is ∙ c.kind.ensures ∙ is)),
)
