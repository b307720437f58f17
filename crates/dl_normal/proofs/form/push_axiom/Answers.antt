use Rattle.std.proofs.Common.{◌∙◌, ◌++◌, ap, map, refl, subst, sym}
use Rattle.std.proofs.lemmas.Result.{on_ok_weaker}
use Rattle.dl_terms.specs.NormalForm.{ring, pairs, axiom_rows}
use Rattle.dl_terms.specs.declared.role.Negative.TheVariants.{Basics, Roles}
use Rattle.dl_normal.specs.Growing.{Gains}
use Rattle.dl_normal.proofs.RowLemmas.{Gains-roles, Gains-concepts, Gains-negatives}
use Rattle.dl_normal.proofs.form.push_axiom.Goals as goal

pub returns-in-EquivalentClasses : goal.returns-in-EquivalentClasses
returns-in-EquivalentClasses c =
    let old = c.args.normal.now in
    let new = record old { concepts = c.push_ring.new.rows } in
    on_ok_weaker c.push_ring.result (λ pushed.
    subst (λ a. Gains c.args.index (axiom_rows a) old new) (sym c.in-EquivalentClasses.is)
    (Gains-concepts c.args.index old new (ring c.in-EquivalentClasses.classes) refl
    (pushed ∙ ap (λ l. old.concepts ++ ring l) c.as_slice-in-EquivalentClasses.ensures) refl)) c.push_ring.ensures

pub returns-in-DisjointClasses : goal.returns-in-DisjointClasses
returns-in-DisjointClasses c =
    let old = c.args.normal.now in
    let new = record old { negatives = c.push_pairs.new.negatives } in
    on_ok_weaker c.push_pairs.result (λ pushed.
    subst (λ a. Gains c.args.index (axiom_rows a) old new) (sym c.in-DisjointClasses.is)
    (Gains-negatives c.args.index old new (λ p. Basics p.0 p.1) (pairs c.in-DisjointClasses.classes) refl refl
    (pushed ∙ ap (λ l. old.negatives ++ map (λ p. (c.args.index, Basics p.0 p.1)) (pairs l)) c.as_slice-in-DisjointClasses.ensures)))
    c.push_pairs.ensures

pub returns-in-EquivalentRoles : goal.returns-in-EquivalentRoles
returns-in-EquivalentRoles c =
    let old = c.args.normal.now in
    let new = record old { roles = c.push_ring-in-EquivalentRoles.new.rows } in
    on_ok_weaker c.push_ring-in-EquivalentRoles.result (λ pushed.
    subst (λ a. Gains c.args.index (axiom_rows a) old new) (sym c.in-EquivalentRoles.is)
    (Gains-roles c.args.index old new (ring c.in-EquivalentRoles.roles)
    (pushed ∙ ap (λ l. old.roles ++ ring l) c.as_slice-in-EquivalentRoles.ensures) refl refl)) c.push_ring-in-EquivalentRoles.ensures

pub returns-in-DisjointRoles : goal.returns-in-DisjointRoles
returns-in-DisjointRoles c =
    let old = c.args.normal.now in
    let new = record old { negatives = c.push_pairs-in-DisjointRoles.new.negatives } in
    on_ok_weaker c.push_pairs-in-DisjointRoles.result (λ pushed.
    subst (λ a. Gains c.args.index (axiom_rows a) old new) (sym c.in-DisjointRoles.is)
    (Gains-negatives c.args.index old new (λ p. Roles p.0 p.1) (pairs c.in-DisjointRoles.roles) refl refl
    (pushed ∙ ap (λ l. old.negatives ++ map (λ p. (c.args.index, Roles p.0 p.1)) (pairs l)) c.as_slice-in-DisjointRoles.ensures)))
    c.push_pairs-in-DisjointRoles.ensures
