use Rattle.std.proofs.Common.{◌≡◌, ◌<◌, ◌⊎◌, ℕ, List, Bool, false, length, get_or, refl, sym, ap, subst, ◌∙◌, arith}
use Rattle.std.proofs.Math.ListN.{length-set}
use Rattle.std.specs.List.{Contains}
use Rattle.std.specs.List.Sorted.{IsStrictlySortedBy}
use Rattle.dl_terms.specs.Order.{role_cmp}
use Rattle.dl_terms.specs.declared.role.Role.{Role}
use Rattle.dl_hier.specs.Predicates.{roles}
use Rattle.dl_tree.specs.Rows.{HasBit, IsMarked, TellsRow, ChainLeadsTo}
use Rattle.dl_tree.proofs.LeadLemmas.{follower_known, lead_told, search_first, search_next, search_done, count_after}
use Rattle.dl_tree.proofs.rows.led.Goals as goal

pub loop-i-init : goal.loop-i-init
loop-i-init c =
    let told = subst (λ rs. TellsRow (length rs) (HasBit c.args.row.now) c.in_ok-found.found.items) c.roles-roles.ensures.roles c.in_ok-found.ensures in
    record {
      as_many = c.in_ok-done.ensures.len ∙ ap length c.roles-roles.ensures.roles;
      wide = told.as_many;
      searches = λ axioms of.
          search_first axioms (roles c.args.hier.now.predicates) c.args.row.now c.in_ok-done.done.items c.in_ok-found.found.items told c.in_ok-done.ensures.none;
    }

pub add_leading-requires : goal.add_leading-requires
add_leading-requires c = c.loop-i.invariant.wide

pub loop-i-preserved : goal.loop-i-preserved
loop-i-preserved c =
    let rs : List Role = roles c.args.hier.now.predicates in
    let row : List ℕ = c.args.row.now in
    let i : ℕ = c.in-Some.i in
    let done : List Bool = c.loop-i.done.items in
    let found : List ℕ = c.loop-i.found.items in
    let new : List ℕ = c.add_leading.new.row.items in
    let inside : i < length done = subst (λ l. i < length l) c.deref-in-loop-i.ensures.value c.in-Some.ensures.0 in
    let here : i < length rs = subst (λ n. i < n) c.loop-i.invariant.as_many inside in
    let bit : HasBit found i = subst (λ l. HasBit l i) c.deref.ensures.value c.in-Some.ensures.1 in
    record {
      as_many = length-set done i _ ∙ c.loop-i.invariant.as_many;
      wide = omega (arith, c.loop-i.invariant.wide, c.add_leading.ensures.len);
      searches = λ axioms of.
          search_next axioms rs row done found new i here inside bit (c.loop-i.invariant.searches axioms of)
          (lead_told axioms rs row (length rs) i found found new c.roles-roles.result.now refl c.roles-roles.ensures.roles (c.add_leading.ensures.told axioms of));
    }

pub loop-i-smaller : goal.loop-i-smaller
loop-i-smaller c =
    count_after c.loop-i.done.items c.in-Some.i (subst (λ l. c.in-Some.i < length l) c.deref-in-loop-i.ensures.value c.in-Some.ensures.0)
    (subst (λ l. get_or l c.in-Some.i false ≡ false) c.deref-in-loop-i.ensures.value c.in-Some.ensures.2)

pub returns : goal.returns
returns c = λ axioms of.
    let rs : List Role = roles c.args.hier.now.predicates in
    let listed = c.roles-roles.ensures.roles in
    let done : List Bool = c.loop-i.done.items in
    let found : List ℕ = c.loop-i.found.items in
    subst (TellsRow (length rs) (ChainLeadsTo axioms rs c.args.row.now)) (sym c.of.ensures)
    (search_done axioms rs c.args.row.now done found
    (subst (IsStrictlySortedBy role_cmp) listed c.roles-roles.ensures.ascending)
    (follower_known c.args.hier.now.predicates axioms (λ r s h.
    subst (λ l. (r ≡ s) ⊎ (Contains l r × Contains l s)) listed (c.roles-roles.ensures.known_by_concepts axioms of r s h)))
    (λ i l h. subst (λ d. IsMarked d i) c.deref-in-loop-i.ensures.value
    (c.in_default.ensures i (subst (λ d. i < length d) (sym c.deref-in-loop-i.ensures.value) (subst (λ n. i < n) (sym c.loop-i.invariant.as_many) l))
    (subst (λ z. HasBit z i) (sym c.deref.ensures.value) h))) (c.loop-i.invariant.searches axioms of))
