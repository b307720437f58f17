use Rattle.std.proofs.Common.{refl}
use Rattle.dl_stream.specs.declared.streams.Command.TheVariants.{Put}
use Rattle.dl_stream.specs.Reading.{by_event}
use Rattle.dl_stream.specs.Parts.{wants_memory}
use Rattle.dl_stream.proofs.SaidLemmas.{too_many, has_room, pushed}
use Rattle.dl_stream.proofs.said.put.Goals as goal

pub returns-then-stream-ge-MAX_COMMANDS : goal.returns-then-stream-ge-MAX_COMMANDS
returns-then-stream-ge-MAX_COMMANDS c =
    λ names. too_many c.args.n names c.args.stream c.requires c.if-stream-ge-MAX_COMMANDS.true refl refl c.too_many_commands.ensures

pub returns-in_default : goal.returns-in_default
returns-in_default c = λ names. wants_memory

pub returns : goal.returns
returns c =
    λ names.
    pushed c.args.n names c.args.stream c.requires (Put c.args.event) c.push.new.self c.in-Ok.ensures.ok c.if-stream-ge-MAX_COMMANDS.false
    (by_event (has_room c.args.n names c.args.stream c.requires c.if-stream-ge-MAX_COMMANDS.false))
