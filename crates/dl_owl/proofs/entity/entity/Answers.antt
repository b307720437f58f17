use Rattle.std.proofs.Common.{sym, ap, ◌∙◌, subst}
use Rattle.dl_owl.specs.declared.fault.OwlFault.TheVariants as fault
use Rattle.dl_owl.specs.declared.item.Item.TheVariants.{Role as role_item, NoEffect as no_effect}
use Rattle.dl_owl.specs.Causes.{syntax}
use Rattle.dl_owl.specs.Entities.{entity_move}
use Rattle.dl_owl.specs.Expected.{open_then, close_then, iri_then, property_then, declared_class, entity_then}
use Rattle.dl_owl.specs.Steps.{class_declared}
use Rattle.dl_owl.specs.Walk.{here, Faults}
use Rattle.dl_owl.proofs.WalkLemmas.{reads_behind, faults-refused}
use Rattle.dl_owl.proofs.CursorLemmas.{exit_reads}
use Rattle.dl_owl.proofs.EntityLemmas.{entity-goes, entity-faults}
use Rattle.dl_owl.proofs.entity.entity.Goals as goal

pub returns-in_err-advance-in-Class : goal.returns-in_err-advance-in-Class
returns-in_err-advance-in-Class c =
    exit_reads entity_then (here c.args.at.now c.args.prefixes.now c.args.names.now) (here c.advance.new.self
    c.args.prefixes.now c.args.names.now) c.from_residual.result c.in_err-advance-in-Class.field-0.0
    c.from_residual.ensures.1
    (λ k.
    entity-faults k (open_then (declared_class (λ o. close_then (k (class_declared o))))) c.args.at.now
    c.args.prefixes.now c.args.names.now (c.stands_entity.ensures k ∙ ap (λ w. entity_move w k) c.in-Class.is)
    c.in_err-advance-in-Class.field-0.0
    c.in_err-advance-in-Class.ensures)

pub returns-in_err-advance-in-Property : goal.returns-in_err-advance-in-Property
returns-in_err-advance-in-Property c =
    exit_reads entity_then (here c.args.at.now c.args.prefixes.now c.args.names.now) (here
    c.advance-in-Property.new.self c.args.prefixes.now c.args.names.now)
    c.from_residual-in_err-advance-in-Property.result c.in_err-advance-in-Property.field-0.0
    c.from_residual-in_err-advance-in-Property.ensures.1
    (λ k.
    entity-faults k (open_then (property_then (λ n. close_then (k (role_item n))))) c.args.at.now c.args.prefixes.now
    c.args.names.now (c.stands_entity.ensures k ∙ ap (λ w. entity_move w k) c.in-Property.is)
    c.in_err-advance-in-Property.field-0.0
    c.in_err-advance-in-Property.ensures)

pub returns-in_err-advance-in-Other : goal.returns-in_err-advance-in-Other
returns-in_err-advance-in-Other c =
    exit_reads entity_then (here c.args.at.now c.args.prefixes.now c.args.names.now) (here
    c.advance-in-Other.new.self c.args.prefixes.now c.args.names.now) c.from_residual-in_err-advance-in-Other.result
    c.in_err-advance-in-Other.field-0.0 c.from_residual-in_err-advance-in-Other.ensures.1
    (λ k.
    entity-faults k (open_then (iri_then (close_then (k no_effect)))) c.args.at.now c.args.prefixes.now
    c.args.names.now (c.stands_entity.ensures k ∙ ap (λ w. entity_move w k) c.in-Other.is)
    c.in_err-advance-in-Other.field-0.0
    c.in_err-advance-in-Other.ensures)

pub returns-in_ok-advance-in-Class : goal.returns-in_ok-advance-in-Class
returns-in_ok-advance-in-Class c =
    reads_behind entity_then (λ k. (open_then (declared_class (λ o. close_then (k (class_declared o)))))) (here
    c.args.at.now c.args.prefixes.now c.args.names.now) (here c.advance.new.self c.args.prefixes.now
    c.args.names.now) (here c.class_entity.new.at c.args.prefixes.now c.class_entity.new.names) c.class_entity.result
    (λ k.
    entity-goes k (open_then (declared_class (λ o. close_then (k (class_declared o))))) c.args.at.now
    c.args.prefixes.now c.args.names.now (c.stands_entity.ensures k ∙ ap (λ w. entity_move w k) c.in-Class.is)
    c.advance.new.self c.in_ok-advance-in-Class.ensures)
    c.class_entity.ensures

pub returns-in_ok-advance-in-Property : goal.returns-in_ok-advance-in-Property
returns-in_ok-advance-in-Property c =
    reads_behind entity_then (λ k. (open_then (property_then (λ n. close_then (k (role_item n)))))) (here
    c.args.at.now c.args.prefixes.now c.args.names.now) (here c.advance-in-Property.new.self c.args.prefixes.now
    c.args.names.now) (here c.property_entity.new.at c.args.prefixes.now c.property_entity.new.names)
    c.property_entity.result
    (λ k.
    entity-goes k (open_then (property_then (λ n. close_then (k (role_item n))))) c.args.at.now c.args.prefixes.now
    c.args.names.now (c.stands_entity.ensures k ∙ ap (λ w. entity_move w k) c.in-Property.is)
    c.advance-in-Property.new.self c.in_ok-advance-in-Property.ensures)
    c.property_entity.ensures

pub returns-in_ok-advance-in-Other : goal.returns-in_ok-advance-in-Other
returns-in_ok-advance-in-Other c =
    reads_behind entity_then (λ k. (open_then (iri_then (close_then (k no_effect))))) (here c.args.at.now
    c.args.prefixes.now c.args.names.now) (here c.advance-in-Other.new.self c.args.prefixes.now c.args.names.now)
    (here c.other_entity.new.at c.args.prefixes.now c.args.names.now) c.other_entity.result
    (λ k.
    entity-goes k (open_then (iri_then (close_then (k no_effect)))) c.args.at.now c.args.prefixes.now
    c.args.names.now (c.stands_entity.ensures k ∙ ap (λ w. entity_move w k) c.in-Other.is)
    c.advance-in-Other.new.self c.in_ok-advance-in-Other.ensures)
    (c.other_entity.ensures c.args.names.now)

pub returns-in-Unknown : goal.returns-in-Unknown
returns-in-Unknown c =
    λ k.
    subst (λ n. Faults (entity_then k) (here c.args.at.now c.args.prefixes.now c.args.names.now) c.args.names.now (fault.Syntax n))
    (sym c.start-start.ensures)
    (faults-refused (entity_then k) c.args.at.now c.args.prefixes.now c.args.names.now syntax
    (c.stands_entity.ensures k ∙ ap (λ w. entity_move w k) c.in-Unknown.is))
