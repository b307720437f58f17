use Rattle.std.proofs.Common.{◌≡◌, ◌⊎◌, ◌+◌, ◌≤◌, ◌^◌, ℕ, List, length, eqb-true, sym, ap, ap₂, subst, ◌∙◌}
use Rattle.std.specs.List.{Contains, flat_map}
use Rattle.std.specs.List.Sorted.{IsStrictlySortedBy}
use Rattle.std.proofs.lemmas.Result.{IfOk-weaker}
use Rattle.dl_terms.specs.Order.{role_cmp}
use Rattle.dl_terms.specs.Queries.{existential_variables}
use Rattle.dl_terms.specs.declared.axiom.Axiom.{Axiom}
use Rattle.dl_hier.specs.Predicates.{roles}
use Rattle.dl_hier.specs.Hierarchy.{IsHierarchyOf}
use Rattle.dl_tree.specs.Masks.{atom_links}
use Rattle.dl_tree.specs.TestsOf.{AreRowsOf}
use Rattle.dl_tree.specs.Plans.{IsPlanFor}
use Rattle.dl_tree.proofs.LeadLemmas.{follower_known}
use Rattle.dl_tree.proofs.AskLemmas.{tests_of}
use Rattle.dl_tree.proofs.VariableLemmas.{link_masks}
use Rattle.dl_tree.proofs.TableLemmas.{table_told, table_empty}
use Rattle.dl_tree.proofs.table.rows_of.Goals as goal

pub returns-then-is_empty-clause-exact : goal.returns-then-is_empty-clause-exact
returns-then-is_empty-clause-exact c = λ axioms of.
    table_empty axioms (roles c.args.hier.now.predicates) c.args.query.now c.new.result (sym (ap length c.requires.variables) ∙ eqb-true (length c.args.variables.now) 0 (sym c.is_empty.ensures ∙ c.if-is_empty.true)) c.new.ensures

pub returns-clause-exact : goal.returns-clause-exact
returns-clause-exact c =
    let h = c.args.hier.now in
    let rs = roles h.predicates in
    let q = c.args.query.now in
    let ex : List ℕ = existential_variables q in
    let listed = c.roles.ensures.roles in
    let is : c.deref.result.now ≡ flat_map (atom_links ex) q.atoms =
    c.deref.ensures.value ∙ c.in_ok-links.ensures ∙ ap₂ (λ e a. flat_map (atom_links e) a) c.requires.variables c.as_slice-asked.ensures in
    let plan : (axioms : List Axiom) → IsHierarchyOf h axioms → IsPlanFor h axioms q c.deref.result.now c.as_slice.result.now =
    λ axioms of. record {
      hierarchy = of;
      ascending = subst (IsStrictlySortedBy role_cmp) listed c.roles.ensures.ascending;
      followers = follower_known h.predicates axioms (λ r s b.
          subst (λ l. (r ≡ s) ⊎ (Contains l r × Contains l s)) listed (c.roles.ensures.known_by_concepts axioms of r s b));
      few = subst (λ e. length e ≤ 8) c.requires.variables c.requires.few;
      masks = link_masks q ex c.deref.result.now is;
      asked = tests_of axioms q.atoms ex rs c.as_slice.result.now
          (subst (AreRowsOf axioms q.atoms ex rs) (sym c.as_slice.ensures)
          (subst (λ e. AreRowsOf axioms q.atoms e rs c.in_ok-atoms.atoms) c.requires.variables
          (subst (λ a. AreRowsOf axioms a c.args.variables.now rs c.in_ok-atoms.atoms) c.as_slice-asked.ensures (c.in_ok-atoms.ensures axioms of))));
    } in
    let all : c.last_of.result + 1 ≡ 2 ^ length ex = c.last_of.ensures ∙ ap (λ e. 2 ^ length e) c.requires.variables in
    IfOk-weaker c.rows_to.result _ _ (λ rows told axioms of.
    table_told h axioms q c.deref.result.now c.as_slice.result.now c.last_of.result rows (plan axioms of) all told) c.rows_to.ensures
