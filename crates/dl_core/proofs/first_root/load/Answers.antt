use Rattle.std.proofs.Common.{◌≡◌, List, All, MatchResult, sym, subst}
use Rattle.dl_terms.specs.Order.{axiom_cmp}
use Rattle.dl_terms.specs.Sets.{IsSetOf}
use Rattle.dl_terms.specs.declared.axiom.Axiom.{Axiom}
use Rattle.dl_terms.specs.Auxiliaries.{HasNoAuxiliary}
use Rattle.dl_epoch.specs.Known.{IsAxiomIn}
use Rattle.dl_core.specs.History.{Load}
use Rattle.dl_core.specs.Loading.{IsLoadOf, IsLoaded, IsLoadFault}
use Rattle.dl_edits.proofs.SetOfLemmas.{set_all}
use Rattle.dl_core.proofs.LoadLemmas.{axioms_in_set, match_ok, match_err}
use Rattle.dl_core.proofs.first_root.load.Goals as goal

-- the set of a copy of the axioms is theirs
of_copy : (set copies axioms : List Axiom) → copies ≡ axioms → IsSetOf axiom_cmp set copies
    → IsSetOf axiom_cmp set axioms
of_copy set copies axioms same is = subst (IsSetOf axiom_cmp set) same is

pub load_axioms-requires-2-clause-no_auxiliary : goal.load_axioms-requires-2-clause-no_auxiliary
load_axioms-requires-2-clause-no_auxiliary c =
    subst (All HasNoAuxiliary) (sym c.as_slice.ensures)
    (set_all HasNoAuxiliary c.axiom_set-set.result c.args.axioms.now
    (of_copy _ _ _ c.in_ok-copies.ensures c.axiom_set-set.ensures) c.requires.no_auxiliary)

pub load_axioms-requires-2-clause-axioms : goal.load_axioms-requires-2-clause-axioms
load_axioms-requires-2-clause-axioms c =
    let s = c.args.signature.now in
    subst (All (IsAxiomIn s)) (sym c.as_slice.ensures)
    (set_all (IsAxiomIn s) c.axiom_set-set.result c.args.axioms.now
    (of_copy _ _ _ c.in_ok-copies.ensures c.axiom_set-set.ensures) c.requires.axioms)

outcome : (c : goal.After-drop-set-inside) → (l : Load)
    → IsLoadOf c.args.axioms.now c.args.signature.now c.args.facts.now c.args.shards l
    → MatchResult c.load_axioms-2.result (IsLoaded l) (IsLoadFault l)
outcome c l is =
    let s = c.args.signature.now in
    let facts = c.args.facts.now in
    c.load_axioms-2.ensures l
    (subst (λ axioms. IsLoadOf axioms s facts c.args.shards l) (sym c.as_slice.ensures)
    (axioms_in_set s c.args.shards l c.axiom_set-set.result c.args.axioms.now facts
    (of_copy _ _ _ c.in_ok-copies.ensures c.axiom_set-set.ensures) is))

pub returns-clause-loaded : goal.returns-clause-loaded
returns-clause-loaded c = λ l is. match_ok (IsLoaded l) (IsLoadFault l) c.load_axioms-2.result (outcome c l is)

pub returns-clause-refused : goal.returns-clause-refused
returns-clause-refused c = λ l is. match_err (IsLoaded l) (IsLoadFault l) c.load_axioms-2.result (outcome c l is)
