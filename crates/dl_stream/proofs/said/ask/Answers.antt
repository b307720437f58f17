use Rattle.std.proofs.Common.{refl}
use Rattle.dl_query.specs.declared.fault.QueryFault.TheVariants as query_faults
use Rattle.dl_stream.specs.declared.streams.Command.TheVariants.{Ask}
use Rattle.dl_stream.specs.Reading.{by_query, in_query, query_kind}
use Rattle.dl_stream.specs.Parts.{wants_memory}
use Rattle.dl_stream.proofs.SaidLemmas.{too_many, has_room, pushed, told_by, query_memory_or_not}
use Rattle.dl_stream.proofs.said.ask.Goals as goal

pub returns-then-stream-ge-MAX_COMMANDS-clause-comes :
    goal.returns-then-stream-ge-MAX_COMMANDS-clause-comes
returns-then-stream-ge-MAX_COMMANDS-clause-comes c =
    too_many c.args.n c.args.names.now c.args.stream c.requires c.if-stream-ge-MAX_COMMANDS.true refl refl c.too_many_commands.ensures

pub returns-in-Err-clause-comes : goal.returns-in-Err-clause-comes
returns-in-Err-clause-comes c =
    told_by c.in-Err.fault query_faults.NoMemory (query_kind c.in-Err.fault) c.query_fault.result (query_memory_or_not c.in-Err.fault) c.query_fault.ensures.none c.query_fault.ensures.some
    (λ other. in_query refl (has_room c.args.n c.args.names.now c.args.stream c.requires c.if-stream-ge-MAX_COMMANDS.false) (c.in-Err.ensures.fault other))

pub returns-in_default-clause-comes : goal.returns-in_default-clause-comes
returns-in_default-clause-comes c = wants_memory

pub returns-clause-comes : goal.returns-clause-comes
returns-clause-comes c =
    pushed c.args.n c.args.names.now c.args.stream c.requires (Ask c.in-Ok.query c.args.limit) c.push.new.self c.in-Ok-push.ensures.ok c.if-stream-ge-MAX_COMMANDS.false
    (by_query (has_room c.args.n c.args.names.now c.args.stream c.requires c.if-stream-ge-MAX_COMMANDS.false) c.in-Ok.ensures.ok)
