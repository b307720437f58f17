use Rattle.dl_owl.specs.Expected.{open_then, close_then, role_then, filler_then}
use Rattle.dl_owl.specs.Walk.{here}
use Rattle.dl_owl.proofs.WalkLemmas.{goes-then, goes-faults}
use Rattle.dl_owl.proofs.CursorLemmas.{exit_reads}
use Rattle.dl_owl.proofs.right.some_part.Goals as goal

pub returns-in_err-open : goal.returns-in_err-open
returns-in_err-open c =
    exit_reads (λ k. (open_then (role_then (λ r. filler_then r (λ part. close_then (k part)))))) (here c.args.at.now c.args.prefixes.now c.args.names.now) (here c.open.new.at c.args.prefixes.now c.args.names.now) c.from_residual.result
    c.in_err-open.field-0.0 c.from_residual.ensures.1
    (λ k.
    c.in_err-open.ensures c.args.prefixes.now c.args.names.now (role_then (λ r. filler_then r (λ part. close_then (k part)))))

pub returns-in_err-over : goal.returns-in_err-over
returns-in_err-over c =
    exit_reads (λ k. (open_then (role_then (λ r. filler_then r (λ part. close_then (k part)))))) (here c.args.at.now c.args.prefixes.now c.args.names.now) (here c.role.new.at c.args.prefixes.now c.role.new.names) c.from_residual-in_err-over.result
    c.in_err-over.field-0.0 c.from_residual-in_err-over.ensures.1
    (λ k.
    goes-faults (open_then (role_then (λ r. filler_then r (λ part. close_then (k part))))) (here c.args.at.now c.args.prefixes.now c.args.names.now) (role_then (λ r. filler_then r (λ part. close_then (k part)))) (here c.open.new.at c.args.prefixes.now c.args.names.now) c.in_err-over.field-0.0
    (c.in_ok-open.ensures c.args.prefixes.now c.args.names.now (role_then (λ r. filler_then r (λ part. close_then (k part)))))
    (c.in_err-over.ensures (λ r. filler_then r (λ part. close_then (k part)))))

pub returns-in_err-part : goal.returns-in_err-part
returns-in_err-part c =
    exit_reads (λ k. (open_then (role_then (λ r. filler_then r (λ part. close_then (k part)))))) (here c.args.at.now c.args.prefixes.now c.args.names.now) (here c.filler.new.at c.args.prefixes.now c.filler.new.names) c.from_residual-in_err-part.result
    c.in_err-part.field-0.0 c.from_residual-in_err-part.ensures.1
    (λ k.
    goes-faults (open_then (role_then (λ r. filler_then r (λ part. close_then (k part))))) (here c.args.at.now c.args.prefixes.now c.args.names.now) (filler_then c.in_ok-over.over (λ part. close_then (k part))) (here c.role.new.at c.args.prefixes.now c.role.new.names) c.in_err-part.field-0.0
    (goes-then (open_then (role_then (λ r. filler_then r (λ part. close_then (k part))))) (here c.args.at.now c.args.prefixes.now c.args.names.now) (role_then (λ r. filler_then r (λ part. close_then (k part)))) (here c.open.new.at c.args.prefixes.now c.args.names.now) (filler_then c.in_ok-over.over (λ part. close_then (k part))) (here c.role.new.at c.args.prefixes.now c.role.new.names)
    (c.in_ok-open.ensures c.args.prefixes.now c.args.names.now (role_then (λ r. filler_then r (λ part. close_then (k part)))))
    (c.in_ok-over.ensures (λ r. filler_then r (λ part. close_then (k part)))))
    (c.in_err-part.ensures (λ part. close_then (k part))))

pub returns-in_err-close : goal.returns-in_err-close
returns-in_err-close c =
    exit_reads (λ k. (open_then (role_then (λ r. filler_then r (λ part. close_then (k part)))))) (here c.args.at.now c.args.prefixes.now c.args.names.now) (here c.close.new.at c.args.prefixes.now c.filler.new.names) c.from_residual-in_err-close.result
    c.in_err-close.field-0.0 c.from_residual-in_err-close.ensures.1
    (λ k.
    goes-faults (open_then (role_then (λ r. filler_then r (λ part. close_then (k part))))) (here c.args.at.now c.args.prefixes.now c.args.names.now) (close_then (k c.in_ok-part.part)) (here c.filler.new.at c.args.prefixes.now c.filler.new.names) c.in_err-close.field-0.0
    (goes-then (open_then (role_then (λ r. filler_then r (λ part. close_then (k part))))) (here c.args.at.now c.args.prefixes.now c.args.names.now) (filler_then c.in_ok-over.over (λ part. close_then (k part))) (here c.role.new.at c.args.prefixes.now c.role.new.names) (close_then (k c.in_ok-part.part)) (here c.filler.new.at c.args.prefixes.now c.filler.new.names)
    (goes-then (open_then (role_then (λ r. filler_then r (λ part. close_then (k part))))) (here c.args.at.now c.args.prefixes.now c.args.names.now) (role_then (λ r. filler_then r (λ part. close_then (k part)))) (here c.open.new.at c.args.prefixes.now c.args.names.now) (filler_then c.in_ok-over.over (λ part. close_then (k part))) (here c.role.new.at c.args.prefixes.now c.role.new.names)
    (c.in_ok-open.ensures c.args.prefixes.now c.args.names.now (role_then (λ r. filler_then r (λ part. close_then (k part)))))
    (c.in_ok-over.ensures (λ r. filler_then r (λ part. close_then (k part)))))
    (c.in_ok-part.ensures (λ part. close_then (k part))))
    (c.in_err-close.ensures c.args.prefixes.now c.filler.new.names (k c.in_ok-part.part)))

pub returns : goal.returns
returns c =
    λ k.
    goes-then (open_then (role_then (λ r. filler_then r (λ part. close_then (k part))))) (here c.args.at.now c.args.prefixes.now c.args.names.now) (close_then (k c.in_ok-part.part)) (here c.filler.new.at c.args.prefixes.now c.filler.new.names) (k c.in_ok-part.part) (here c.close.new.at c.args.prefixes.now c.filler.new.names)
    (goes-then (open_then (role_then (λ r. filler_then r (λ part. close_then (k part))))) (here c.args.at.now c.args.prefixes.now c.args.names.now) (filler_then c.in_ok-over.over (λ part. close_then (k part))) (here c.role.new.at c.args.prefixes.now c.role.new.names) (close_then (k c.in_ok-part.part)) (here c.filler.new.at c.args.prefixes.now c.filler.new.names)
    (goes-then (open_then (role_then (λ r. filler_then r (λ part. close_then (k part))))) (here c.args.at.now c.args.prefixes.now c.args.names.now) (role_then (λ r. filler_then r (λ part. close_then (k part)))) (here c.open.new.at c.args.prefixes.now c.args.names.now) (filler_then c.in_ok-over.over (λ part. close_then (k part))) (here c.role.new.at c.args.prefixes.now c.role.new.names)
    (c.in_ok-open.ensures c.args.prefixes.now c.args.names.now (role_then (λ r. filler_then r (λ part. close_then (k part)))))
    (c.in_ok-over.ensures (λ r. filler_then r (λ part. close_then (k part)))))
    (c.in_ok-part.ensures (λ part. close_then (k part))))
    (c.in_ok-close.ensures c.args.prefixes.now c.filler.new.names (k c.in_ok-part.part))
