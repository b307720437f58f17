use Rattle.std.proofs.Common.{subst}
use Rattle.dl_owl.specs.Expected.{open_then, close_then, declared_class}
use Rattle.dl_owl.specs.Steps.{class_declared}
use Rattle.dl_owl.specs.Walk.{here, Goes}
use Rattle.dl_owl.proofs.WalkLemmas.{goes-then, goes-faults}
use Rattle.dl_owl.proofs.CursorLemmas.{exit_reads}
use Rattle.dl_owl.proofs.entity.class_entity.Goals as goal

pub returns-in_err-open : goal.returns-in_err-open
returns-in_err-open c =
    exit_reads (λ k. open_then (declared_class (λ o. close_then (k (class_declared o))))) (here c.args.at.now
    c.args.prefixes.now c.args.names.now) (here c.open.new.at c.args.prefixes.now c.args.names.now)
    c.from_residual.result c.in_err-open.field-0.0 c.from_residual.ensures.1
    (λ k.
    c.in_err-open.ensures c.args.prefixes.now c.args.names.now (declared_class (λ o. close_then (k (class_declared
    o)))))

pub returns-in_err-class : goal.returns-in_err-class
returns-in_err-class c =
    exit_reads (λ k. open_then (declared_class (λ o. close_then (k (class_declared o))))) (here c.args.at.now
    c.args.prefixes.now c.args.names.now) (here c.declared_class.new.at c.args.prefixes.now
    c.declared_class.new.names) c.from_residual-in_err-class.result c.in_err-class.field-0.0
    c.from_residual-in_err-class.ensures.1
    (λ k.
    goes-faults (open_then (declared_class (λ o. close_then (k (class_declared o))))) (here c.args.at.now
    c.args.prefixes.now c.args.names.now) (declared_class (λ o. close_then (k (class_declared o)))) (here
    c.open.new.at c.args.prefixes.now c.args.names.now) c.in_err-class.field-0.0
    (c.in_ok-open.ensures c.args.prefixes.now c.args.names.now (declared_class (λ o. close_then (k (class_declared
    o)))))
    (c.in_err-class.ensures (λ o. close_then (k (class_declared o)))))

pub returns-in_err-close : goal.returns-in_err-close
returns-in_err-close c =
    exit_reads (λ k. open_then (declared_class (λ o. close_then (k (class_declared o))))) (here c.args.at.now
    c.args.prefixes.now c.args.names.now) (here c.close.new.at c.args.prefixes.now c.declared_class.new.names)
    c.from_residual-in_err-close.result c.in_err-close.field-0.0 c.from_residual-in_err-close.ensures.1
    (λ k.
    goes-faults (open_then (declared_class (λ o. close_then (k (class_declared o))))) (here c.args.at.now
    c.args.prefixes.now c.args.names.now) (close_then (k (class_declared c.in_ok-class.class))) (here
    c.declared_class.new.at c.args.prefixes.now c.declared_class.new.names) c.in_err-close.field-0.0
    (goes-then (open_then (declared_class (λ o. close_then (k (class_declared o))))) (here c.args.at.now
    c.args.prefixes.now c.args.names.now) (declared_class (λ o. close_then (k (class_declared o)))) (here
    c.open.new.at c.args.prefixes.now c.args.names.now) (close_then (k (class_declared c.in_ok-class.class))) (here
    c.declared_class.new.at c.args.prefixes.now c.declared_class.new.names)
    (c.in_ok-open.ensures c.args.prefixes.now c.args.names.now (declared_class (λ o. close_then (k (class_declared
    o)))))
    (c.in_ok-class.ensures (λ o. close_then (k (class_declared o)))))
    (c.in_err-close.ensures c.args.prefixes.now c.declared_class.new.names (k (class_declared c.in_ok-class.class))))

pub returns-in-Some : goal.returns-in-Some
returns-in-Some c =
    λ k.
    subst (λ o. Goes (open_then (declared_class (λ o. close_then (k (class_declared o))))) (here c.args.at.now
    c.args.prefixes.now c.args.names.now) (k (class_declared o)) (here c.close.new.at c.args.prefixes.now
    c.declared_class.new.names)) c.in-Some.is
    (goes-then (open_then (declared_class (λ o. close_then (k (class_declared o))))) (here c.args.at.now
    c.args.prefixes.now c.args.names.now) (close_then (k (class_declared c.in_ok-class.class))) (here
    c.declared_class.new.at c.args.prefixes.now c.declared_class.new.names) (k (class_declared c.in_ok-class.class))
    (here c.close.new.at c.args.prefixes.now c.declared_class.new.names)
    (goes-then (open_then (declared_class (λ o. close_then (k (class_declared o))))) (here c.args.at.now
    c.args.prefixes.now c.args.names.now) (declared_class (λ o. close_then (k (class_declared o)))) (here
    c.open.new.at c.args.prefixes.now c.args.names.now) (close_then (k (class_declared c.in_ok-class.class))) (here
    c.declared_class.new.at c.args.prefixes.now c.declared_class.new.names)
    (c.in_ok-open.ensures c.args.prefixes.now c.args.names.now (declared_class (λ o. close_then (k (class_declared
    o)))))
    (c.in_ok-class.ensures (λ o. close_then (k (class_declared o)))))
    (c.in_ok-close.ensures c.args.prefixes.now c.declared_class.new.names (k (class_declared c.in_ok-class.class))))

pub returns-in-None : goal.returns-in-None
returns-in-None c =
    λ k.
    subst (λ o. Goes (open_then (declared_class (λ o. close_then (k (class_declared o))))) (here c.args.at.now
    c.args.prefixes.now c.args.names.now) (k (class_declared o)) (here c.close.new.at c.args.prefixes.now
    c.declared_class.new.names)) c.in-None.is
    (goes-then (open_then (declared_class (λ o. close_then (k (class_declared o))))) (here c.args.at.now
    c.args.prefixes.now c.args.names.now) (close_then (k (class_declared c.in_ok-class.class))) (here
    c.declared_class.new.at c.args.prefixes.now c.declared_class.new.names) (k (class_declared c.in_ok-class.class))
    (here c.close.new.at c.args.prefixes.now c.declared_class.new.names)
    (goes-then (open_then (declared_class (λ o. close_then (k (class_declared o))))) (here c.args.at.now
    c.args.prefixes.now c.args.names.now) (declared_class (λ o. close_then (k (class_declared o)))) (here
    c.open.new.at c.args.prefixes.now c.args.names.now) (close_then (k (class_declared c.in_ok-class.class))) (here
    c.declared_class.new.at c.args.prefixes.now c.declared_class.new.names)
    (c.in_ok-open.ensures c.args.prefixes.now c.args.names.now (declared_class (λ o. close_then (k (class_declared
    o)))))
    (c.in_ok-class.ensures (λ o. close_then (k (class_declared o)))))
    (c.in_ok-close.ensures c.args.prefixes.now c.declared_class.new.names (k (class_declared c.in_ok-class.class))))
