use Rattle.dl_event.specs.declared.event.Event.TheVariants.{Commit}
use Rattle.dl_stream.specs.declared.streams.Command.TheVariants.{Put}
use Rattle.dl_stream.specs.Reading.{by_end}
use Rattle.dl_stream.specs.Parts.{wants_memory}
use Rattle.dl_stream.proofs.SaidLemmas.{pushed}
use Rattle.dl_stream.proofs.said.close_commit.Goals as goal

pub returns-in_default : goal.returns-in_default
returns-in_default c = λ names. wants_memory

pub returns : goal.returns
returns c =
    λ names.
    pushed c.args.n names c.args.stream c.requires.counted (Put (Commit c.args.made)) c.push.new.self c.in-Ok.ensures.ok c.requires.few by_end
