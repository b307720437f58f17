use Rattle.std.proofs.Common.{refl}
use Rattle.dl_stream.proofs.SaidLemmas.{too_many, commit_comes}
use Rattle.dl_stream.proofs.said.open_commit.Goals as goal

pub returns-then-stream-ge-MAX_COMMANDS : goal.returns-then-stream-ge-MAX_COMMANDS
returns-then-stream-ge-MAX_COMMANDS c =
    λ names. too_many c.args.n names c.args.stream c.requires c.if-stream-ge-MAX_COMMANDS.true refl refl c.too_many_commands.ensures

pub returns : goal.returns
returns c = λ names. commit_comes c.args.n names c.args.stream c.requires c.new.result c.new.ensures c.if-stream-ge-MAX_COMMANDS.false
