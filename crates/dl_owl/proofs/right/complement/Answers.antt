use Rattle.dl_terms.specs.declared.axiom.Part.TheVariants.{Not}
use Rattle.dl_owl.specs.Expected.{open_then, close_then, sub_then}
use Rattle.dl_owl.specs.Walk.{here}
use Rattle.dl_owl.proofs.WalkLemmas.{goes-then, goes-faults}
use Rattle.dl_owl.proofs.CursorLemmas.{exit_reads}
use Rattle.dl_owl.proofs.right.complement.Goals as goal

pub returns-in_err-open : goal.returns-in_err-open
returns-in_err-open c =
    exit_reads (λ k. (open_then (sub_then (λ b. close_then (k (Not b)))))) (here c.args.at.now c.args.prefixes.now c.args.names.now) (here c.open.new.at c.args.prefixes.now c.args.names.now) c.from_residual.result
    c.in_err-open.field-0.0 c.from_residual.ensures.1
    (λ k.
    c.in_err-open.ensures c.args.prefixes.now c.args.names.now (sub_then (λ b. close_then (k (Not b)))))

pub returns-in_err-inner : goal.returns-in_err-inner
returns-in_err-inner c =
    exit_reads (λ k. (open_then (sub_then (λ b. close_then (k (Not b)))))) (here c.args.at.now c.args.prefixes.now c.args.names.now) (here c.sub.new.at c.args.prefixes.now c.sub.new.names) c.from_residual-in_err-inner.result
    c.in_err-inner.field-0.0 c.from_residual-in_err-inner.ensures.1
    (λ k.
    goes-faults (open_then (sub_then (λ b. close_then (k (Not b))))) (here c.args.at.now c.args.prefixes.now c.args.names.now) (sub_then (λ b. close_then (k (Not b)))) (here c.open.new.at c.args.prefixes.now c.args.names.now) c.in_err-inner.field-0.0
    (c.in_ok-open.ensures c.args.prefixes.now c.args.names.now (sub_then (λ b. close_then (k (Not b)))))
    (c.in_err-inner.ensures (λ b. close_then (k (Not b)))))

pub returns-in_err-close : goal.returns-in_err-close
returns-in_err-close c =
    exit_reads (λ k. (open_then (sub_then (λ b. close_then (k (Not b)))))) (here c.args.at.now c.args.prefixes.now c.args.names.now) (here c.close.new.at c.args.prefixes.now c.sub.new.names) c.from_residual-in_err-close.result
    c.in_err-close.field-0.0 c.from_residual-in_err-close.ensures.1
    (λ k.
    goes-faults (open_then (sub_then (λ b. close_then (k (Not b))))) (here c.args.at.now c.args.prefixes.now c.args.names.now) (close_then (k (Not c.in_ok-inner.inner))) (here c.sub.new.at c.args.prefixes.now c.sub.new.names) c.in_err-close.field-0.0
    (goes-then (open_then (sub_then (λ b. close_then (k (Not b))))) (here c.args.at.now c.args.prefixes.now c.args.names.now) (sub_then (λ b. close_then (k (Not b)))) (here c.open.new.at c.args.prefixes.now c.args.names.now) (close_then (k (Not c.in_ok-inner.inner))) (here c.sub.new.at c.args.prefixes.now c.sub.new.names)
    (c.in_ok-open.ensures c.args.prefixes.now c.args.names.now (sub_then (λ b. close_then (k (Not b)))))
    (c.in_ok-inner.ensures (λ b. close_then (k (Not b)))))
    (c.in_err-close.ensures c.args.prefixes.now c.sub.new.names (k (Not c.in_ok-inner.inner))))

pub returns : goal.returns
returns c =
    λ k.
    goes-then (open_then (sub_then (λ b. close_then (k (Not b))))) (here c.args.at.now c.args.prefixes.now c.args.names.now) (close_then (k (Not c.in_ok-inner.inner))) (here c.sub.new.at c.args.prefixes.now c.sub.new.names) (k (Not c.in_ok-inner.inner)) (here c.close.new.at c.args.prefixes.now c.sub.new.names)
    (goes-then (open_then (sub_then (λ b. close_then (k (Not b))))) (here c.args.at.now c.args.prefixes.now c.args.names.now) (sub_then (λ b. close_then (k (Not b)))) (here c.open.new.at c.args.prefixes.now c.args.names.now) (close_then (k (Not c.in_ok-inner.inner))) (here c.sub.new.at c.args.prefixes.now c.sub.new.names)
    (c.in_ok-open.ensures c.args.prefixes.now c.args.names.now (sub_then (λ b. close_then (k (Not b)))))
    (c.in_ok-inner.ensures (λ b. close_then (k (Not b)))))
    (c.in_ok-close.ensures c.args.prefixes.now c.sub.new.names (k (Not c.in_ok-inner.inner)))
