use Rattle.std.proofs.Common.{◌+◌, true, false, length, sym, ap, subst, ◌∙◌}
use Rattle.dl_core.specs.Root.{Root}
use Rattle.dl_core.specs.Changes.{turned, AreGone}
use Rattle.dl_edits.specs.Edits.{edited_facts}
use Rattle.dl_core.specs.Next.{root_facts, committed, refused_or}
use Rattle.dl_core.specs.Committing.{IsCommit}
use Rattle.dl_event.specs.declared.reply.Reply.{Reply}
use Rattle.dl_event.specs.declared.reply.Reply.TheVariants as reply
use Rattle.dl_core.proofs.ChangeLemmas.{new_are, gone_are}
use Rattle.dl_core.proofs.CommittedLemmas.{answered}
use Rattle.dl_core.proofs.commit.commit.Goals as goal

pub refused-requires : goal.refused-requires
refused-requires c = c.in_ok-ontology.ensures.signature

pub returns-in-Some : goal.returns-in-Some
returns-in-Some c = λ numbering stream rule.
    let root = c.args.root.now in
    let edits = c.args.edits.now in
    let decided = c.in_ok-decided.decided in
    let new = c.in_ok-new.ensures ∙ ap (turned true (root_facts root)) c.as_slice.ensures
    ∙ new_are edits decided c.in_ok-decided.ensures.ascending c.in_ok-decided.ensures.exact root in
    let why = c.in_ok-why.ensures edits c.in_ok-ontology.ensures.edited (c.len.ensures ∙ ap length new) in
    ap {B = Root × Reply} (λ r. (r, reply.Refused c.in-Some.why)) c.in_ok-copy.ensures
    ∙ ap (λ o. refused_or root o
    (committed numbering root edits, reply.Committed (root.version + 1) (committed numbering root edits).current.id))
    (sym c.in-Some.is ∙ why)

pub committed-requires-clause-commit : goal.committed-requires-clause-commit
committed-requires-clause-commit c =
    let root = c.args.root.now in
    let edits = c.args.edits.now in
    let decided = c.in_ok-decided.decided in
    let new = c.in_ok-new.ensures ∙ ap (turned true (root_facts root)) c.as_slice.ensures
    ∙ new_are edits decided c.in_ok-decided.ensures.ascending c.in_ok-decided.ensures.exact root in
    let why = c.in_ok-why.ensures edits c.in_ok-ontology.ensures.edited (c.len.ensures ∙ ap length new) in
    record {
      to = record {
        edits = edits;
        edited = c.in_ok-ontology.ensures.edited;
        plain = c.requires.plain;
        accepted =
            sym why ∙ c.in_default.is;
      };
      new_are = c.as_slice-3.ensures ∙ new;
      gone_are = subst (AreGone root (edited_facts edits (root_facts root)))
          (sym (c.as_slice-4.ensures ∙ c.in_ok-gone.ensures ∙ ap (turned false (root_facts root)) c.as_slice-2.ensures))
          (gone_are edits decided c.in_ok-decided.ensures.ascending c.in_ok-decided.ensures.exact root);
    }

pub returns : goal.returns
returns c = λ numbering stream rule.
    let root = c.args.root.now in
    let edits = c.args.edits.now in
    let decided = c.in_ok-decided.decided in
    let new = c.in_ok-new.ensures ∙ ap (turned true (root_facts root)) c.as_slice.ensures
    ∙ new_are edits decided c.in_ok-decided.ensures.ascending c.in_ok-decided.ensures.exact root in
    let why = c.in_ok-why.ensures edits c.in_ok-ontology.ensures.edited (c.len.ensures ∙ ap length new) in
    let commit : IsCommit root c.in_ok-ontology.ontology c.as_slice-3.result.now c.as_slice-4.result.now = record {
      to = record {
        edits = edits;
        edited = c.in_ok-ontology.ensures.edited;
        plain = c.requires.plain;
        accepted =
            sym why ∙ c.in_default.is;
      };
      new_are = c.as_slice-3.ensures ∙ new;
      gone_are = subst (AreGone root (edited_facts edits (root_facts root)))
          (sym (c.as_slice-4.ensures ∙ c.in_ok-gone.ensures ∙ ap (turned false (root_facts root)) c.as_slice-2.ensures))
          (gone_are edits decided c.in_ok-decided.ensures.ascending c.in_ok-decided.ensures.exact root);
    } in
    answered c.in_ok-after.after (committed numbering root edits) c.book.result.now.version c.id-epoch.result
    (c.in_ok-after.ensures numbering rule commit) c.book.ensures.book.version
    (c.id-epoch.ensures.id ∙ ap (λ e. e.id) c.deref.ensures ∙ ap (λ e. e.id) c.current.ensures.epoch)
    ∙ ap (λ o. refused_or root o
    (committed numbering root edits, reply.Committed (root.version + 1) (committed numbering root edits).current.id))
    (sym (sym why ∙ c.in_default.is))
