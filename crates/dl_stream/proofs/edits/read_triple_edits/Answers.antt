use Rattle.std.proofs.Common.{◌∙◌, ◌++◌, sym, ap}
use Rattle.std.proofs.lemmas.Bool.{true≢false}
use Rattle.dl_triples.specs.declared.fault.TripleFault.TheVariants as triple_faults
use Rattle.dl_triples.proofs.ValueLemmas.{memory_or_not}
use Rattle.dl_stream.specs.Edits.{fact_edits, of_triple, triple_kind, in_lines, in_triple}
use Rattle.dl_stream.specs.Parts.{wants_memory, is_told}
use Rattle.dl_stream.proofs.SaidLemmas.{told_by, value_grows, part_grows}
use Rattle.dl_stream.proofs.edits.read_triple_edits.Goals as goal

pub returns-then-not-is_line-clause-fault : goal.returns-then-not-is_line-clause-fault
returns-then-not-is_line-clause-fault c = is_told (in_lines c.requires (λ one. true≢false (sym one ∙ (sym c.is_line.ensures ∙ c.if-not-is_line.true))))

pub returns-in-Ok-add_facts-clause-ok : goal.returns-in-Ok-add_facts-clause-ok
returns-in-Ok-add_facts-clause-ok c = record {
  more = fact_edits c.args.add c.in-Ok.triples.facts;
  gives = of_triple c.requires (sym c.is_line.ensures ∙ c.if-not-is_line.false) c.in-Ok.ensures.value;
  is = c.in-Ok-add_facts.ensures ∙ ap (λ l. c.args.made.now ++ fact_edits c.args.add l) c.as_slice.ensures;
}

pub returns-in-Ok-add_facts-clause-grows : goal.returns-in-Ok-add_facts-clause-grows
returns-in-Ok-add_facts-clause-grows c = value_grows c.in-Ok.ensures.value

pub returns-in-Ok-clause-fault : goal.returns-in-Ok-clause-fault
returns-in-Ok-clause-fault c = wants_memory

pub returns-in-Ok-clause-grows : goal.returns-in-Ok-clause-grows
returns-in-Ok-clause-grows c = value_grows c.in-Ok.ensures.value

pub returns-clause-fault : goal.returns-clause-fault
returns-clause-fault c =
    told_by c.in-Err.fault triple_faults.NoMemory (triple_kind c.in-Err.fault) c.triple_fault.result (memory_or_not c.in-Err.fault) c.triple_fault.ensures.none c.triple_fault.ensures.some
    (λ other. in_triple c.requires (sym c.is_line.ensures ∙ c.if-not-is_line.false) (c.in-Err.ensures.fault other))

pub returns-clause-grows : goal.returns-clause-grows
returns-clause-grows c = part_grows c.in-Err.ensures.part
