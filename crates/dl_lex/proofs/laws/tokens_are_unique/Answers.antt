use Rattle.dl_lex.proofs.Unique.{one_next_token, no_token_at_fault, one_fault}
use Rattle.dl_lex.proofs.laws.tokens_are_unique.Goals as goal

pub returns : goal.returns
returns c = record { one_token = one_next_token; fault_or_token = no_token_at_fault; one_fault = one_fault }
