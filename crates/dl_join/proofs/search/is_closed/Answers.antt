use Rattle.std.proofs.Common.{sym, true≢false}
use Rattle.std.proofs.lemmas.List.{take_all}
use Rattle.std.proofs.lemmas.List.Elements.{All-more}
use Rattle.dl_join.specs.Searching.{IsName}
use Rattle.dl_join.proofs.LevelLemmas.{is_name}
use Rattle.dl_join.proofs.search.is_closed.Goals as goal

pub loop-term-preserved : goal.loop-term-preserved
loop-term-preserved c = All-more IsName c.args.head.now c.loop-term.term-index _ c.loop-term-test.true c.loop-term.invariant (is_name _ c.in_default.not-Var)

pub returns : goal.returns
returns c = λ _. rw (← take_all c.loop-term.term-index c.args.head.now c.loop-term-test.false) c.loop-term.invariant

pub returns-in-Var : goal.returns-in-Var
returns-in-Var c = λ e. absurd (true≢false (sym e))
