use Rattle.std.proofs.Common.{ℕ, ◌+◌, ◌≤◌, ◌^◌, List, length, Fits, w32, get_or, arith}
use Rattle.std.specs.List.Sorted.{IsStrictlyIncreasing}
use Rattle.dl_edits.proofs.AuxiliaryLemmas.{few_below}
use Rattle.dl_edits.proofs.counts.name_count.Goals as goal

both : (classes roles : List ℕ) → IsStrictlyIncreasing classes → IsStrictlyIncreasing roles
    → ((i : ℕ) → Fits w32 (get_or classes i 0)) → ((i : ℕ) → Fits w32 (get_or roles i 0))
    → length classes + length roles ≤ 2 ^ 33
both classes roles up up' fit fit' =
    let a = few_below (2 ^ 32) classes up (λ i. let h = fit i in omega (arith, h)) in
    let b = few_below (2 ^ 32) roles up' (λ i. let h = fit' i in omega (arith, h)) in
    omega (arith, a, b)

pub overflow_add-result : goal.overflow_add-result
overflow_add-result c =
    let most =
    both c.args.classes.now c.args.roles.now c.requires.classes c.requires.roles c.type_inv.classes c.type_inv.roles in
    omega (arith, most)

pub returns-clause-few : goal.returns-clause-few
returns-clause-few c =
    both c.args.classes.now c.args.roles.now c.requires.classes c.requires.roles c.type_inv.classes c.type_inv.roles
