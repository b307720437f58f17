use Rattle.std.proofs.Common.{ap, ◌∙◌, sym, subst}
use Rattle.dl_triples.specs.Meaning.{meaning_of, all_named}
use Rattle.dl_triples.specs.Adding.{NamesFirst, reserved}
use Rattle.dl_triples.specs.Reading.{Overflows}
use Rattle.dl_triples.proofs.TripleLemmas.{kept_iri, kept_literal, adds_skipped, adds_nothing, adds_class, adds_link, told_ok, told_first, told_fault, class_names, link_names, class_free, link_free}
use Rattle.dl_triples.proofs.triple.read_triple.Goals as goal

pub returns-in_default-clause-ok : goal.returns-in_default-clause-ok
returns-in_default-clause-ok c = λ s p o kept.
    adds_skipped s p o c.args.names.now c.args.triples.now (ap (meaning_of s p) (kept_literal kept.third c.in_default.is))

pub returns-in-Skipped-clause-ok : goal.returns-in-Skipped-clause-ok
returns-in-Skipped-clause-ok c = λ s p o kept.
    let object = kept_iri kept.third c.in-Some.object c.in-Some.is in
    let says = ap (meaning_of s p) object.1 ∙ sym (c.in_ok-meaning_of.ensures s p object.0 kept.first kept.second object.2) ∙ c.in-Skipped.is in
    adds_skipped s p o c.args.names.now c.args.triples.now says

pub returns-in-NoEffect-clause-ok : goal.returns-in-NoEffect-clause-ok
returns-in-NoEffect-clause-ok c = λ s p o kept.
    let object = kept_iri kept.third c.in-Some.object c.in-Some.is in
    let says = ap (meaning_of s p) object.1 ∙ sym (c.in_ok-meaning_of.ensures s p object.0 kept.first kept.second object.2) ∙ c.in-NoEffect.is in
    adds_nothing s p o c.args.names.now c.args.triples.now says

pub returns-in-Reserved-clause-fault : goal.returns-in-Reserved-clause-fault
returns-in-Reserved-clause-fault c = λ s p o kept _.
    let object = kept_iri kept.third c.in-Some.object c.in-Some.is in
    let says = ap (meaning_of s p) object.1 ∙ sym (c.in_ok-meaning_of.ensures s p object.0 kept.first kept.second object.2) ∙ c.in-Reserved.is in
    reserved says

pub returns-in-Class-clause-ok : goal.returns-in-Class-clause-ok
returns-in-Class-clause-ok c = λ s p o kept.
    let object = kept_iri kept.third c.in-Some.object c.in-Some.is in
    let says = ap (meaning_of s p) object.1 ∙ sym (c.in_ok-meaning_of.ensures s p object.0 kept.first kept.second object.2) ∙ c.in-Class.is in
    told_ok c.args.n c.add_class.result c.told.result c.told.ensures
    (adds_class s p object.0 o c.args.names.now c.add_class.new.names c.args.triples.now c.add_class.new.facts object.1 says) (c.add_class.ensures.ok s p object.0 kept.first object.2)

pub returns-in-Class-clause-fault : goal.returns-in-Class-clause-fault
returns-in-Class-clause-fault c = λ s p o kept.
    let object = kept_iri kept.third c.in-Some.object c.in-Some.is in
    let says = ap (meaning_of s p) object.1 ∙ sym (c.in_ok-meaning_of.ensures s p object.0 kept.first kept.second object.2) ∙ c.in-Class.is in
    told_fault c.args.n s p o c.args.names.now c.add_class.result c.told.result c.told.ensures (class_free s p o says)
    (λ over. subst (λ texts. Overflows c.args.names.now (all_named c.args.names.now texts)) (sym (class_names s p object.0 o object.1 says)) (c.add_class.ensures.full s object.0 kept.first object.2 over))

pub returns-in-Class-clause-first : goal.returns-in-Class-clause-first
returns-in-Class-clause-first c = λ s p o kept.
    let object = kept_iri kept.third c.in-Some.object c.in-Some.is in
    let says = ap (meaning_of s p) object.1 ∙ sym (c.in_ok-meaning_of.ensures s p object.0 kept.first kept.second object.2) ∙ c.in-Class.is in
    told_first c.args.n c.add_class.result c.told.result c.told.ensures
    (subst (λ texts. NamesFirst c.args.names.now texts c.add_class.new.names) (sym (class_names s p object.0 o object.1 says)))
    (c.add_class.ensures.first s object.0 kept.first object.2)

pub returns-in-Link-clause-ok : goal.returns-in-Link-clause-ok
returns-in-Link-clause-ok c = λ s p o kept.
    let object = kept_iri kept.third c.in-Some.object c.in-Some.is in
    let says = ap (meaning_of s p) object.1 ∙ sym (c.in_ok-meaning_of.ensures s p object.0 kept.first kept.second object.2) ∙ c.in-Link.is in
    told_ok c.args.n c.add_link.result c.told-in-Link.result c.told-in-Link.ensures
    (adds_link s p object.0 o c.args.names.now c.add_link.new.names c.args.triples.now c.add_link.new.facts object.1 says)
    (c.add_link.ensures.ok s p object.0 kept.first kept.second object.2)

pub returns-in-Link-clause-fault : goal.returns-in-Link-clause-fault
returns-in-Link-clause-fault c = λ s p o kept.
    let object = kept_iri kept.third c.in-Some.object c.in-Some.is in
    let says = ap (meaning_of s p) object.1 ∙ sym (c.in_ok-meaning_of.ensures s p object.0 kept.first kept.second object.2) ∙ c.in-Link.is in
    told_fault c.args.n s p o c.args.names.now c.add_link.result c.told-in-Link.result c.told-in-Link.ensures (link_free s p o says)
    (λ over. subst (λ texts. Overflows c.args.names.now (all_named c.args.names.now texts)) (sym (link_names s p object.0 o object.1 says)) (c.add_link.ensures.full s p object.0 kept.first kept.second object.2 over))

pub returns-in-Link-clause-first : goal.returns-in-Link-clause-first
returns-in-Link-clause-first c = λ s p o kept.
    let object = kept_iri kept.third c.in-Some.object c.in-Some.is in
    let says = ap (meaning_of s p) object.1 ∙ sym (c.in_ok-meaning_of.ensures s p object.0 kept.first kept.second object.2) ∙ c.in-Link.is in
    told_first c.args.n c.add_link.result c.told-in-Link.result c.told-in-Link.ensures
    (subst (λ texts. NamesFirst c.args.names.now texts c.add_link.new.names) (sym (link_names s p object.0 o object.1 says)))
    (c.add_link.ensures.first s p object.0 kept.first kept.second object.2)
