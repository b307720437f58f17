use Rattle.std.proofs.Common.{◌≡◌, ◌*◌, ◌<◌, ◌≤◌, ℕ, List, length, refl, sym, ap, subst, arith}
use Rattle.dl_terms.specs.declared.role.Role.{Role}
use Rattle.dl_hier.specs.Predicates.{roles}
use Rattle.dl_tree.specs.Rows.{TellsRow, LeadsTo}
use Rattle.dl_tree.proofs.LeadLemmas.{lead_first, lead_told, lead_skip, lead_next}
use Rattle.dl_tree.proofs.rows.followed.Goals as goal

pub loop-i-init : goal.loop-i-init
loop-i-init c =
    let rs : List Role = roles c.args.hier.now.predicates in
    let wide : length rs ≤ 64 * length c.in_ok-found.found.items =
    subst (λ z. length z ≤ 64 * length c.in_ok-found.found.items) c.roles-roles.ensures.roles c.in_ok-found.ensures.wide in
    record {
      le = omega arith;
      wide = wide;
      told = λ axioms of. lead_first axioms rs c.args.row.now (length rs) c.in_ok-found.found.items wide c.in_ok-found.ensures.none;
    }

pub add_leading-requires : goal.add_leading-requires
add_leading-requires c = c.loop-i.invariant.wide

pub loop-i-preserved : goal.loop-i-preserved
loop-i-preserved c =
    let rs : List Role = roles c.args.hier.now.predicates in
    let row : List ℕ = c.args.row.now in
    let i : ℕ = c.in-Some.i in
    let long : length c.roles-roles.result.now ≡ length rs = ap length c.roles-roles.ensures.roles in
    record {
      le = omega (arith, long, c.in-Some.ensures.1);
      wide = omega (arith, c.loop-i.invariant.wide, c.add_leading.ensures.len);
      told = λ axioms of.
          lead_next axioms rs row (length rs) i c.loop-i.found.items c.add_leading.new.row.items c.in-Some.ensures.2
          (lead_skip axioms rs row (length rs) c.loop-i.start i c.loop-i.found.items c.in-Some.ensures.0 c.in-Some.ensures.3 (c.loop-i.invariant.told axioms of))
          (lead_told axioms rs row (length rs) i c.loop-i.found.items c.loop-i.found.items c.add_leading.new.row.items c.roles-roles.result.now refl
          c.roles-roles.ensures.roles (c.add_leading.ensures.told axioms of));
    }

pub loop-i-smaller : goal.loop-i-smaller
loop-i-smaller c =
    let long : length c.roles-roles.result.now ≡ length (roles c.args.hier.now.predicates) = ap length c.roles-roles.ensures.roles in
    omega (arith, long, c.in-Some.ensures.0, c.in-Some.ensures.1)

pub returns : goal.returns
returns c = λ axioms of.
    let rs : List Role = roles c.args.hier.now.predicates in
    let long : length c.roles-roles.result.now ≡ length rs = ap length c.roles-roles.ensures.roles in
    subst (TellsRow (length rs) (LeadsTo axioms rs c.args.row.now)) (sym c.of.ensures)
    (lead_skip axioms rs c.args.row.now (length rs) c.loop-i.start (length rs) c.loop-i.found.items c.loop-i.invariant.le
    (λ k l m. c.in_default.ensures k l (subst (λ n. k < n) (sym long) m)) (c.loop-i.invariant.told axioms of))
