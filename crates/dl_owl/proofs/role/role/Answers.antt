use Rattle.std.proofs.Common.{refl, slice_range}
use Rattle.dl_lex.specs.declared.keyword.Keyword.TheVariants.{ObjectInverseOf}
use Rattle.dl_terms.specs.Roles.{named, inverse_of}
use Rattle.dl_owl.specs.Expected.{role_then, property_then, open_then, close_then}
use Rattle.dl_owl.specs.Walk.{here}
use Rattle.dl_owl.proofs.WalkLemmas.{goes-then, goes-faults, goes_alike, faults_alike}
use Rattle.dl_owl.proofs.CursorLemmas.{exit_reads, not_kind}
use Rattle.dl_owl.proofs.ReaderLemmas.{keyword-goes, keyword-faults, role_plain}
use Rattle.dl_owl.proofs.role.role.Goals as goal

pub returns-in_err-place : goal.returns-in_err-place
returns-in_err-place c =
    exit_reads role_then (here c.args.at.now c.args.prefixes.now c.args.names.now) (here c.property.new.at c.args.prefixes.now c.property.new.names) c.from_residual.result
    c.in_err-place.field-0.0 c.from_residual.ensures.1
    (λ k.
    faults_alike (role_then k) (property_then (λ n. k (named n))) (here c.args.at.now c.args.prefixes.now c.args.names.now) c.in_err-place.field-0.0
    (role_plain c.args.at.now.token.kind (slice_range c.args.at.now.bytes c.args.at.now.token.start c.args.at.now.token.end) c.args.prefixes.now k
    (not_kind c.is_word.result _ c.is_word.ensures c.if-not-is_word.true))
    (c.in_err-place.ensures (λ n. k (named n))))

pub returns-then-not-is_word : goal.returns-then-not-is_word
returns-then-not-is_word c =
    λ k.
    goes_alike (role_then k) (property_then (λ n. k (named n))) (here c.args.at.now c.args.prefixes.now c.args.names.now) (k (named c.in_ok-place.place))
    (here c.property.new.at c.args.prefixes.now c.property.new.names)
    (role_plain c.args.at.now.token.kind (slice_range c.args.at.now.bytes c.args.at.now.token.start c.args.at.now.token.end) c.args.prefixes.now k
    (not_kind c.is_word.result _ c.is_word.ensures c.if-not-is_word.true))
    (c.in_ok-place.ensures (λ n. k (named n)))

pub returns-in_err-advance : goal.returns-in_err-advance
returns-in_err-advance c =
    exit_reads role_then (here c.args.at.now c.args.prefixes.now c.args.names.now) (here c.advance.new.self c.args.prefixes.now c.args.names.now) c.from_residual-in_err-advance.result
    c.in_err-advance.field-0.0 c.from_residual-in_err-advance.ensures.1
    (λ k.
    keyword-faults ObjectInverseOf (role_then k) (open_then (property_then (λ n. close_then (k (inverse_of (named n)))))) c.args.at.now c.args.prefixes.now c.args.names.now
    (c.is_word.ensures.0 c.if-not-is_word.false) refl c.in_err-advance.field-0.0 c.in_err-advance.ensures)

pub returns-in_err-open : goal.returns-in_err-open
returns-in_err-open c =
    exit_reads role_then (here c.args.at.now c.args.prefixes.now c.args.names.now) (here c.open.new.at c.args.prefixes.now c.args.names.now) c.from_residual-in_err-open.result
    c.in_err-open.field-0.0 c.from_residual-in_err-open.ensures.1
    (λ k.
    goes-faults (role_then k) (here c.args.at.now c.args.prefixes.now c.args.names.now) (open_then (property_then (λ n. close_then (k (inverse_of (named n)))))) (here c.advance.new.self c.args.prefixes.now c.args.names.now) c.in_err-open.field-0.0
    (keyword-goes ObjectInverseOf (role_then k) (open_then (property_then (λ n. close_then (k (inverse_of (named n)))))) c.args.at.now c.args.prefixes.now c.args.names.now
    (c.is_word.ensures.0 c.if-not-is_word.false) refl c.advance.new.self c.in_ok-advance.ensures)
    (c.in_err-open.ensures c.args.prefixes.now c.args.names.now (property_then (λ n. close_then (k (inverse_of (named n)))))))

pub returns-in_err-place-2 : goal.returns-in_err-place-2
returns-in_err-place-2 c =
    exit_reads role_then (here c.args.at.now c.args.prefixes.now c.args.names.now) (here c.property-2.new.at c.args.prefixes.now c.property-2.new.names) c.from_residual-in_err-place-2.result
    c.in_err-place-2.field-0.0 c.from_residual-in_err-place-2.ensures.1
    (λ k.
    goes-faults (role_then k) (here c.args.at.now c.args.prefixes.now c.args.names.now) (property_then (λ n. close_then (k (inverse_of (named n))))) (here c.open.new.at c.args.prefixes.now c.args.names.now) c.in_err-place-2.field-0.0
    (goes-then (role_then k) (here c.args.at.now c.args.prefixes.now c.args.names.now) (open_then (property_then (λ n. close_then (k (inverse_of (named n)))))) (here c.advance.new.self c.args.prefixes.now c.args.names.now) (property_then (λ n. close_then (k (inverse_of (named n))))) (here c.open.new.at c.args.prefixes.now c.args.names.now)
    (keyword-goes ObjectInverseOf (role_then k) (open_then (property_then (λ n. close_then (k (inverse_of (named n)))))) c.args.at.now c.args.prefixes.now c.args.names.now
    (c.is_word.ensures.0 c.if-not-is_word.false) refl c.advance.new.self c.in_ok-advance.ensures)
    (c.in_ok-open.ensures c.args.prefixes.now c.args.names.now (property_then (λ n. close_then (k (inverse_of (named n)))))))
    (c.in_err-place-2.ensures (λ n. close_then (k (inverse_of (named n))))))

pub returns-in_err-close : goal.returns-in_err-close
returns-in_err-close c =
    exit_reads role_then (here c.args.at.now c.args.prefixes.now c.args.names.now) (here c.close.new.at c.args.prefixes.now c.property-2.new.names) c.from_residual-in_err-close.result
    c.in_err-close.field-0.0 c.from_residual-in_err-close.ensures.1
    (λ k.
    goes-faults (role_then k) (here c.args.at.now c.args.prefixes.now c.args.names.now) (close_then (k (inverse_of (named c.in_ok-place-2.place)))) (here c.property-2.new.at c.args.prefixes.now c.property-2.new.names) c.in_err-close.field-0.0
    (goes-then (role_then k) (here c.args.at.now c.args.prefixes.now c.args.names.now) (property_then (λ n. close_then (k (inverse_of (named n))))) (here c.open.new.at c.args.prefixes.now c.args.names.now) (close_then (k (inverse_of (named c.in_ok-place-2.place)))) (here c.property-2.new.at c.args.prefixes.now c.property-2.new.names)
    (goes-then (role_then k) (here c.args.at.now c.args.prefixes.now c.args.names.now) (open_then (property_then (λ n. close_then (k (inverse_of (named n)))))) (here c.advance.new.self c.args.prefixes.now c.args.names.now) (property_then (λ n. close_then (k (inverse_of (named n))))) (here c.open.new.at c.args.prefixes.now c.args.names.now)
    (keyword-goes ObjectInverseOf (role_then k) (open_then (property_then (λ n. close_then (k (inverse_of (named n)))))) c.args.at.now c.args.prefixes.now c.args.names.now
    (c.is_word.ensures.0 c.if-not-is_word.false) refl c.advance.new.self c.in_ok-advance.ensures)
    (c.in_ok-open.ensures c.args.prefixes.now c.args.names.now (property_then (λ n. close_then (k (inverse_of (named n)))))))
    (c.in_ok-place-2.ensures (λ n. close_then (k (inverse_of (named n))))))
    (c.in_err-close.ensures c.args.prefixes.now c.property-2.new.names (k (inverse_of (named c.in_ok-place-2.place)))))

pub returns : goal.returns
returns c =
    λ k.
    goes-then (role_then k) (here c.args.at.now c.args.prefixes.now c.args.names.now) (close_then (k (inverse_of (named c.in_ok-place-2.place)))) (here c.property-2.new.at c.args.prefixes.now c.property-2.new.names) (k (inverse_of (named c.in_ok-place-2.place))) (here c.close.new.at c.args.prefixes.now c.property-2.new.names)
    (goes-then (role_then k) (here c.args.at.now c.args.prefixes.now c.args.names.now) (property_then (λ n. close_then (k (inverse_of (named n))))) (here c.open.new.at c.args.prefixes.now c.args.names.now) (close_then (k (inverse_of (named c.in_ok-place-2.place)))) (here c.property-2.new.at c.args.prefixes.now c.property-2.new.names)
    (goes-then (role_then k) (here c.args.at.now c.args.prefixes.now c.args.names.now) (open_then (property_then (λ n. close_then (k (inverse_of (named n)))))) (here c.advance.new.self c.args.prefixes.now c.args.names.now) (property_then (λ n. close_then (k (inverse_of (named n))))) (here c.open.new.at c.args.prefixes.now c.args.names.now)
    (keyword-goes ObjectInverseOf (role_then k) (open_then (property_then (λ n. close_then (k (inverse_of (named n)))))) c.args.at.now c.args.prefixes.now c.args.names.now
    (c.is_word.ensures.0 c.if-not-is_word.false) refl c.advance.new.self c.in_ok-advance.ensures)
    (c.in_ok-open.ensures c.args.prefixes.now c.args.names.now (property_then (λ n. close_then (k (inverse_of (named n)))))))
    (c.in_ok-place-2.ensures (λ n. close_then (k (inverse_of (named n))))))
    (c.in_ok-close.ensures c.args.prefixes.now c.property-2.new.names (k (inverse_of (named c.in_ok-place-2.place))))
