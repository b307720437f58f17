use Rattle.std.proofs.Common.{ap, sym}
use Rattle.dl_stream.specs.Outcomes.{reply_text}
use Rattle.dl_io.proofs.PrintLemmas.{prints_as}
use Rattle.dl_stream.proofs.reply.put_reply.Goals as goal

pub returns-in-Committed : goal.returns-in-Committed
returns-in-Committed g c = prints_as (ap (reply_text c.args.names.now c.args.place) (sym c.in-Committed.is)) c.put_two.ensures

pub returns-in-Pinned : goal.returns-in-Pinned
returns-in-Pinned g c = prints_as (ap (reply_text c.args.names.now c.args.place) (sym c.in-Pinned.is)) c.put_one.ensures

pub returns-in-Unpinned : goal.returns-in-Unpinned
returns-in-Unpinned g c = prints_as (ap (reply_text c.args.names.now c.args.place) (sym c.in-Unpinned.is)) c.put_one-in-Unpinned.ensures

pub returns-in-Migrated : goal.returns-in-Migrated
returns-in-Migrated g c = prints_as (ap (reply_text c.args.names.now c.args.place) (sym c.in-Migrated.is)) c.put_two-in-Migrated.ensures

pub returns-in-Swept : goal.returns-in-Swept
returns-in-Swept g c = prints_as (ap (reply_text c.args.names.now c.args.place) (sym c.in-Swept.is)) c.put_two-in-Swept.ensures
