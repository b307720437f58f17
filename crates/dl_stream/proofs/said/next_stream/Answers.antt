use Rattle.std.proofs.Common.{refl, arith}
use Rattle.dl_stream.specs.Reading.{too_many_streams}
use Rattle.dl_stream.specs.Parts.{wants_memory, is_told}
use Rattle.dl_stream.proofs.SaidLemmas.{next_comes}
use Rattle.dl_stream.proofs.said.next_stream.Goals as goal

pub returns-then-len : goal.returns-then-len
returns-then-len c = λ names. is_told (too_many_streams refl (omega (arith, c.if-len.true, c.len.ensures)))

pub returns-in_default : goal.returns-in_default
returns-in_default c = λ names. wants_memory

pub returns : goal.returns
returns c =
    λ names.
    next_comes c.args.n names c.args.stream c.requires c.push.new.self c.new.result c.in-Ok.ensures.ok c.new.ensures (omega (arith, c.if-len.false, c.len.ensures))
