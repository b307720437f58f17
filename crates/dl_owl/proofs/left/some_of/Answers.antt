use Rattle.dl_terms.specs.declared.role.Basic.TheVariants.{SomeOf}
use Rattle.dl_owl.specs.Expected.{open_then, close_then, role_then, thing_then}
use Rattle.dl_owl.specs.Walk.{here}
use Rattle.dl_owl.proofs.WalkLemmas.{goes-then, goes-faults}
use Rattle.dl_owl.proofs.CursorLemmas.{exit_reads}
use Rattle.dl_owl.proofs.left.some_of.Goals as goal

pub returns-in_err-open : goal.returns-in_err-open
returns-in_err-open c =
    exit_reads (λ k. open_then (role_then (λ r. thing_then (close_then (k (SomeOf r)))))) (here c.args.at.now c.args.prefixes.now c.args.names.now) (here c.open.new.at c.args.prefixes.now c.args.names.now) c.from_residual.result
    c.in_err-open.field-0.0 c.from_residual.ensures.1
    (λ k.
    c.in_err-open.ensures c.args.prefixes.now c.args.names.now (role_then (λ r. thing_then (close_then (k (SomeOf r))))))

pub returns-in_err-over : goal.returns-in_err-over
returns-in_err-over c =
    exit_reads (λ k. open_then (role_then (λ r. thing_then (close_then (k (SomeOf r)))))) (here c.args.at.now c.args.prefixes.now c.args.names.now) (here c.role.new.at c.args.prefixes.now c.role.new.names) c.from_residual-in_err-over.result
    c.in_err-over.field-0.0 c.from_residual-in_err-over.ensures.1
    (λ k.
    goes-faults (open_then (role_then (λ r. thing_then (close_then (k (SomeOf r)))))) (here c.args.at.now c.args.prefixes.now c.args.names.now) (role_then (λ r. thing_then (close_then (k (SomeOf r))))) (here c.open.new.at c.args.prefixes.now c.args.names.now) c.in_err-over.field-0.0
    (c.in_ok-open.ensures c.args.prefixes.now c.args.names.now (role_then (λ r. thing_then (close_then (k (SomeOf r)))))) (c.in_err-over.ensures (λ r. thing_then (close_then (k (SomeOf r))))))

pub returns-in_err-thing : goal.returns-in_err-thing
returns-in_err-thing c =
    exit_reads (λ k. open_then (role_then (λ r. thing_then (close_then (k (SomeOf r)))))) (here c.args.at.now c.args.prefixes.now c.args.names.now) (here c.thing.new.at c.args.prefixes.now c.role.new.names) c.from_residual-in_err-thing.result
    c.in_err-thing.field-0.0 c.from_residual-in_err-thing.ensures.1
    (λ k.
    goes-faults (open_then (role_then (λ r. thing_then (close_then (k (SomeOf r)))))) (here c.args.at.now c.args.prefixes.now c.args.names.now) (thing_then (close_then (k (SomeOf c.in_ok-over.over)))) (here c.role.new.at c.args.prefixes.now c.role.new.names) c.in_err-thing.field-0.0
    (goes-then (open_then (role_then (λ r. thing_then (close_then (k (SomeOf r)))))) (here c.args.at.now c.args.prefixes.now c.args.names.now) (role_then (λ r. thing_then (close_then (k (SomeOf r))))) (here c.open.new.at c.args.prefixes.now c.args.names.now) (thing_then (close_then (k (SomeOf c.in_ok-over.over)))) (here c.role.new.at c.args.prefixes.now c.role.new.names)
    (c.in_ok-open.ensures c.args.prefixes.now c.args.names.now (role_then (λ r. thing_then (close_then (k (SomeOf r)))))) (c.in_ok-over.ensures (λ r. thing_then (close_then (k (SomeOf r))))))
    (c.in_err-thing.ensures c.role.new.names (close_then (k (SomeOf c.in_ok-over.over)))))

pub returns-in_err-close : goal.returns-in_err-close
returns-in_err-close c =
    exit_reads (λ k. open_then (role_then (λ r. thing_then (close_then (k (SomeOf r)))))) (here c.args.at.now c.args.prefixes.now c.args.names.now) (here c.close.new.at c.args.prefixes.now c.role.new.names) c.from_residual-in_err-close.result
    c.in_err-close.field-0.0 c.from_residual-in_err-close.ensures.1
    (λ k.
    goes-faults (open_then (role_then (λ r. thing_then (close_then (k (SomeOf r)))))) (here c.args.at.now c.args.prefixes.now c.args.names.now) (close_then (k (SomeOf c.in_ok-over.over))) (here c.thing.new.at c.args.prefixes.now c.role.new.names) c.in_err-close.field-0.0
    (goes-then (open_then (role_then (λ r. thing_then (close_then (k (SomeOf r)))))) (here c.args.at.now c.args.prefixes.now c.args.names.now) (thing_then (close_then (k (SomeOf c.in_ok-over.over)))) (here c.role.new.at c.args.prefixes.now c.role.new.names) (close_then (k (SomeOf c.in_ok-over.over))) (here c.thing.new.at c.args.prefixes.now c.role.new.names)
    (goes-then (open_then (role_then (λ r. thing_then (close_then (k (SomeOf r)))))) (here c.args.at.now c.args.prefixes.now c.args.names.now) (role_then (λ r. thing_then (close_then (k (SomeOf r))))) (here c.open.new.at c.args.prefixes.now c.args.names.now) (thing_then (close_then (k (SomeOf c.in_ok-over.over)))) (here c.role.new.at c.args.prefixes.now c.role.new.names)
    (c.in_ok-open.ensures c.args.prefixes.now c.args.names.now (role_then (λ r. thing_then (close_then (k (SomeOf r)))))) (c.in_ok-over.ensures (λ r. thing_then (close_then (k (SomeOf r))))))
    (c.in_ok-thing.ensures c.role.new.names (close_then (k (SomeOf c.in_ok-over.over)))))
    (c.in_err-close.ensures c.args.prefixes.now c.role.new.names (k (SomeOf c.in_ok-over.over))))

pub returns : goal.returns
returns c =
    λ k.
    goes-then (open_then (role_then (λ r. thing_then (close_then (k (SomeOf r)))))) (here c.args.at.now c.args.prefixes.now c.args.names.now) (close_then (k (SomeOf c.in_ok-over.over))) (here c.thing.new.at c.args.prefixes.now c.role.new.names) (k (SomeOf c.in_ok-over.over)) (here c.close.new.at c.args.prefixes.now c.role.new.names)
    (goes-then (open_then (role_then (λ r. thing_then (close_then (k (SomeOf r)))))) (here c.args.at.now c.args.prefixes.now c.args.names.now) (thing_then (close_then (k (SomeOf c.in_ok-over.over)))) (here c.role.new.at c.args.prefixes.now c.role.new.names) (close_then (k (SomeOf c.in_ok-over.over))) (here c.thing.new.at c.args.prefixes.now c.role.new.names)
    (goes-then (open_then (role_then (λ r. thing_then (close_then (k (SomeOf r)))))) (here c.args.at.now c.args.prefixes.now c.args.names.now) (role_then (λ r. thing_then (close_then (k (SomeOf r))))) (here c.open.new.at c.args.prefixes.now c.args.names.now) (thing_then (close_then (k (SomeOf c.in_ok-over.over)))) (here c.role.new.at c.args.prefixes.now c.role.new.names)
    (c.in_ok-open.ensures c.args.prefixes.now c.args.names.now (role_then (λ r. thing_then (close_then (k (SomeOf r)))))) (c.in_ok-over.ensures (λ r. thing_then (close_then (k (SomeOf r))))))
    (c.in_ok-thing.ensures c.role.new.names (close_then (k (SomeOf c.in_ok-over.over)))))
    (c.in_ok-close.ensures c.args.prefixes.now c.role.new.names (k (SomeOf c.in_ok-over.over)))
