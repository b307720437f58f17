use Rattle.dl_names.proofs.NameListLemmas.{Extends-same}
use Rattle.dl_owl.specs.Expected.{lone_axiom}
use Rattle.dl_owl.proofs.PlaceLemmas.{axiom_places}
use Rattle.dl_owl.proofs.ReadBack.{lone_axiom_in, axioms_plain}
use Rattle.dl_owl.proofs.ReadingLemmas.{none_first, told_value, told_fault, told_axioms, told_facts, told_classes, told_roles, told_growth, told_plain}
use Rattle.dl_owl.proofs.reading.read_axiom.Goals as goal

pub returns-in-Ok-clause-value : goal.returns-in-Ok-clause-value
returns-in-Ok-clause-value c =
    told_value c.args.bytes.now lone_axiom c.args.names.now c.in-Ok.at c.in-Ok.ensures.begins c.lone.new.names
    c.lone.result c.lone.ensures

pub returns-in-Ok-clause-fault : goal.returns-in-Ok-clause-fault
returns-in-Ok-clause-fault c =
    told_fault c.args.bytes.now lone_axiom c.args.names.now c.in-Ok.at c.in-Ok.ensures.begins c.lone.new.names
    c.lone.result c.lone.ensures

pub returns-in-Ok-clause-axiom_places : goal.returns-in-Ok-clause-axiom_places
returns-in-Ok-clause-axiom_places c =
    told_axioms c.args.bytes.now lone_axiom c.args.names.now c.in-Ok.at c.in-Ok.ensures.begins c.lone.new.names (λ
    tokens d h. axiom_places c.args.names.now tokens d c.lone.new.names h)
    c.lone.result c.lone.ensures

pub returns-in-Ok-clause-fact_places : goal.returns-in-Ok-clause-fact_places
returns-in-Ok-clause-fact_places c =
    told_facts c.args.bytes.now lone_axiom c.args.names.now c.in-Ok.at c.in-Ok.ensures.begins c.lone.new.names (λ
    tokens d h. axiom_places c.args.names.now tokens d c.lone.new.names h)
    c.lone.result c.lone.ensures

pub returns-in-Ok-clause-class_places : goal.returns-in-Ok-clause-class_places
returns-in-Ok-clause-class_places c =
    told_classes c.args.bytes.now lone_axiom c.args.names.now c.in-Ok.at c.in-Ok.ensures.begins c.lone.new.names (λ
    tokens d h. axiom_places c.args.names.now tokens d c.lone.new.names h)
    c.lone.result c.lone.ensures

pub returns-in-Ok-clause-role_places : goal.returns-in-Ok-clause-role_places
returns-in-Ok-clause-role_places c =
    told_roles c.args.bytes.now lone_axiom c.args.names.now c.in-Ok.at c.in-Ok.ensures.begins c.lone.new.names (λ
    tokens d h. axiom_places c.args.names.now tokens d c.lone.new.names h)
    c.lone.result c.lone.ensures

pub returns-in-Ok-clause-grows : goal.returns-in-Ok-clause-grows
returns-in-Ok-clause-grows c =
    told_growth c.args.bytes.now lone_axiom c.args.names.now c.in-Ok.at c.in-Ok.ensures.begins c.lone.new.names (λ
    tokens d h. axiom_places c.args.names.now tokens d c.lone.new.names h)
    c.lone.result c.lone.ensures

pub returns-in-Ok-clause-no_auxiliaries : goal.returns-in-Ok-clause-no_auxiliaries
returns-in-Ok-clause-no_auxiliaries c =
    told_plain c.args.bytes.now lone_axiom c.args.names.now c.in-Ok.at c.in-Ok.ensures.begins c.lone.new.names (λ
    d h. axioms_plain c.lone.new.names d.axioms (lone_axiom_in c.args.bytes.now c.args.names.now c.lone.new.names d h))
    c.lone.result c.lone.ensures

pub returns-in-Err-clause-fault : goal.returns-in-Err-clause-fault
returns-in-Err-clause-fault c =
    λ some. none_first c.args.bytes.now lone_axiom c.args.names.now c.in-Err.fault c.in-Err.ensures.none

pub returns-in-Err-clause-grows : goal.returns-in-Err-clause-grows
returns-in-Err-clause-grows c = Extends-same c.args.names.now
