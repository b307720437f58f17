use Rattle.std.proofs.Common.{◌++◌, flat_map, All, sym, ap, subst, ◌∙◌}
use Rattle.std.specs.Ordering.{nat_cmp}
use Rattle.dl_terms.specs.Sets.{IsSetOf}
use Rattle.dl_terms.specs.declared.axiom.Signature.{Signature}
use Rattle.dl_epoch.specs.Known.{IsAxiomIn, IsSignature}
use Rattle.dl_edits.specs.Edits.{edited_axioms}
use Rattle.dl_edits.specs.Names.{added_classes, added_properties}
use Rattle.dl_edits.proofs.AscendLemmas.{edited_signature-sorted}
use Rattle.dl_edits.proofs.KnownLemmas.{edited_axioms-known}
use Rattle.dl_edits.proofs.SignatureEditLemmas.{signature_is}
use Rattle.dl_edits.proofs.signature_edits.edited_signature.Goals as goal

pub returns : goal.returns
returns c =
    let before = c.args.signature.now in
    let edits = c.args.edits.now in
    let classes = c.in_ok-push_edits.ensures.classes ∙ ap (λ (s : Signature). s.classes ++ flat_map added_classes edits) c.in_ok-names.ensures in
    let roles = c.in_ok-push_edits.ensures.roles ∙ ap (λ (s : Signature). s.roles ++ flat_map added_properties edits) c.in_ok-names.ensures in
    let is = signature_is edits before c.set_of.result c.set_of-2.result c.requires
    (subst (IsSetOf nat_cmp c.set_of.result) classes c.set_of.ensures) (subst (IsSetOf nat_cmp c.set_of-2.result) roles c.set_of-2.ensures) in
    record {
      edited = is;
      signature = subst IsSignature (sym is) (edited_signature-sorted edits before c.requires);
      known = λ axioms all. subst (λ s. All (IsAxiomIn s) (edited_axioms edits axioms)) (sym is) (edited_axioms-known edits before axioms all);
    }
