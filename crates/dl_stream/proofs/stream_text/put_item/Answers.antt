use Rattle.std.proofs.Common.{ap, sym}
use Rattle.dl_stream.specs.StreamText.{item_text}
use Rattle.dl_io.proofs.PrintLemmas.{prints_as}
use Rattle.dl_stream.proofs.stream_text.put_item.Goals as goal

pub returns-in-Class : goal.returns-in-Class
returns-in-Class g c = prints_as (ap (item_text c.args.names.now) (sym c.in-Class.is)) c.put_declared.ensures

pub returns-in-Property : goal.returns-in-Property
returns-in-Property g c = prints_as (ap (item_text c.args.names.now) (sym c.in-Property.is)) c.put_declared-in-Property.ensures
