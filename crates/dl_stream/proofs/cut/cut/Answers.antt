use Rattle.dl_stream.proofs.CutLemmas.{cut_before, cut_behind, cut_none}
use Rattle.std.proofs.Common.{sym}
use Rattle.dl_stream.proofs.cut.cut.Goals as goal

pub returns-in-Some-clause-before : goal.returns-in-Some-clause-before
returns-in-Some-clause-before c = cut_before c.args.stop c.args.bytes.now c.in-Some.index c.in-Some.ensures.found

pub returns-in-Some-clause-behind : goal.returns-in-Some-clause-behind
returns-in-Some-clause-behind c = cut_behind c.args.stop c.args.bytes.now c.in-Some.index c.in-Some.ensures.found

pub returns-in-None-clause-before : goal.returns-in-None-clause-before
returns-in-None-clause-before c = (cut_none c.args.stop c.args.bytes.now c.in-None.ensures.found).0

pub returns-in-None-clause-behind : goal.returns-in-None-clause-behind
returns-in-None-clause-behind c = sym (cut_none c.args.stop c.args.bytes.now c.in-None.ensures.found).1
