use Rattle.std.proofs.Common.{sym, ap, ◌∙◌}
use Rattle.dl_core.specs.Next.{next}
use Rattle.dl_event.specs.declared.event.Event.TheVariants as event
use Rattle.dl_core.proofs.HeldLemmas.{ok_is}
use Rattle.dl_core.proofs.next_root.stepped.Goals as goal

pub returns-in-Commit : goal.returns-in-Commit
returns-in-Commit c = λ numbering rule.
    ok_is c.commit.result (c.commit.ensures numbering c.args.stream rule)
    (ap (λ edits. next numbering c.args.root.now c.args.stream (event.Commit edits)) c.as_slice.ensures
    ∙ sym (ap (next numbering c.args.root.now c.args.stream) c.in-Commit.is))

pub returns-in-Pin : goal.returns-in-Pin
returns-in-Pin c = λ numbering rule.
    ok_is c.pinned.result (c.pinned.ensures numbering)
    (sym (ap (next numbering c.args.root.now c.args.stream) c.in-Pin.is))

pub returns-in-Unpin : goal.returns-in-Unpin
returns-in-Unpin c = λ numbering rule.
    ok_is c.unpinned.result (c.unpinned.ensures numbering)
    (sym (ap (next numbering c.args.root.now c.args.stream) c.in-Unpin.is))

pub returns-in-Migrate : goal.returns-in-Migrate
returns-in-Migrate c = λ numbering rule.
    ok_is c.migrated.result (c.migrated.ensures numbering c.args.stream)
    (sym (ap (next numbering c.args.root.now c.args.stream) c.in-Migrate.is))

pub returns-in-Sweep : goal.returns-in-Sweep
returns-in-Sweep c = λ numbering rule.
    ok_is c.swept.result (c.swept.ensures numbering c.args.stream)
    (sym (ap (next numbering c.args.root.now c.args.stream) c.in-Sweep.is))

pub returns-in-Reclaim : goal.returns-in-Reclaim
returns-in-Reclaim c = λ numbering rule.
    ok_is c.reclaimed.result (c.reclaimed.ensures numbering c.args.stream)
    (sym (ap (next numbering c.args.root.now c.args.stream) c.in-Reclaim.is))

pub returns-in-Look : goal.returns-in-Look
returns-in-Look c = λ numbering rule.
    ok_is c.look.result (c.look.ensures numbering c.args.stream)
    (sym (ap (next numbering c.args.root.now c.args.stream) c.in-Look.is))
