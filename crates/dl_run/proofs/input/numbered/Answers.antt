use Rattle.std.proofs.Common.{◌++◌, length, map, slice_index}
use Rattle.dl_names.specs.Iris.{owl_nothing}
use Rattle.dl_run.proofs.InputLemmas.{ranked_axioms, ranked_facts, joined_placed, set_of_joined, number_found, signature_from}
use Rattle.dl_run.proofs.NamedLemmas.{plain_renamed}
use Rattle.dl_run.proofs.SignatureLemmas.{axioms_known, ascends, facts_known}
use Rattle.dl_run.proofs.input.numbered.Goals as goal

pub ranked-requires-clause-axioms : goal.ranked-requires-clause-axioms
ranked-requires-clause-axioms c = let long = (c.in_ok-names.ensures).one_each in rw long c.requires.axioms

pub ranked-requires-clause-facts : goal.ranked-requires-clause-facts
ranked-requires-clause-facts c = let long = (c.in_ok-names.ensures).one_each in rw long c.requires.facts

pub ranked-requires-clause-classes : goal.ranked-requires-clause-classes
ranked-requires-clause-classes c = let long = (c.in_ok-names.ensures).one_each in rw long c.requires.classes

pub ranked-requires-clause-roles : goal.ranked-requires-clause-roles
ranked-requires-clause-roles c = let long = (c.in_ok-names.ensures).one_each in rw long c.requires.roles

pub ranked-requires-2 : goal.ranked-requires-2
ranked-requires-2 c = let long = (c.in_ok-names.ensures).one_each in rw long c.requires.triples

pub invariant_of-base : goal.invariant_of-base
invariant_of-base c =
    let frozen = c.in_ok-names.ensures in
    let to = slice_index c.in_ok-names.ranks in
    record {
      axioms_named = ranked_axioms c.args.names c.in_ok-names.names c.in_ok-names.ranks frozen c.args.document.axioms c.axiom_set-axioms.result
          c.requires.axioms (rw c.ranked.ensures.axioms at c.axiom_set-axioms.ensures);
      facts_named = ranked_facts c.args.names c.in_ok-names.names c.in_ok-names.ranks frozen (c.args.triples.facts ++ c.args.document.facts) c.fact_set-facts.result
          (joined_placed (length c.args.names) c.args.triples.facts c.args.document.facts c.requires.triples c.requires.facts)
          (set_of_joined to c.args.triples.facts c.args.document.facts _ _ _ c.fact_set-facts.result c.ranked-2.ensures.facts c.ranked.ensures.facts c.in_ok-both.ensures c.fact_set-facts.ensures);
    }

pub returns-clause-numbered : goal.returns-clause-numbered
returns-clause-numbered c = λ shards. record {
  is_frozen = c.in_ok-names.ensures;
  is_axioms = rw c.ranked.ensures.axioms at c.axiom_set-axioms.ensures;
  is_facts = set_of_joined (slice_index c.in_ok-names.ranks) c.args.triples.facts c.args.document.facts _ _ c.in_ok-both.both c.fact_set-facts.result c.ranked-2.ensures.facts c.ranked.ensures.facts c.in_ok-both.ensures c.fact_set-facts.ensures;
  is_signature = signature_from c.as_slice.ensures c.as_slice-2.ensures c.ranked.ensures.classes c.ranked.ensures.roles c.in_ok-signature.ensures;
  is_skipped = c.ranked-2.ensures.skipped;
  is_nothing = number_found c.in_ok-names.names owl_nothing c.number.result c.number.ensures.some c.number.ensures.none;
}

pub returns-clause-made : goal.returns-clause-made
returns-clause-made c =
    let to = slice_index c.in_ok-names.ranks in
    let axioms = c.axiom_set-axioms.result in
    let facts = c.fact_set-facts.result in
    let declared = signature_from c.as_slice.ensures c.as_slice-2.ensures c.ranked.ensures.classes c.ranked.ensures.roles c.in_ok-signature.ensures in
    record {
      ascending = (rw c.ranked.ensures.axioms at c.axiom_set-axioms.ensures).ascending;
      no_auxiliaries = plain_renamed to c.args.document.axioms axioms c.requires.no_auxiliaries (rw c.ranked.ensures.axioms at c.axiom_set-axioms.ensures);
      known = axioms_known axioms facts (map to c.args.document.classes) (map to c.args.document.roles) c.in_ok-signature.signature declared;
      signature = ascends axioms facts (map to c.args.document.classes) (map to c.args.document.roles) c.in_ok-signature.signature declared;
      facts_ascending = (set_of_joined to c.args.triples.facts c.args.document.facts _ _ c.in_ok-both.both facts c.ranked-2.ensures.facts c.ranked.ensures.facts c.in_ok-both.ensures c.fact_set-facts.ensures).ascending;
      facts_known = facts_known axioms facts (map to c.args.document.classes) (map to c.args.document.roles) c.in_ok-signature.signature declared;
    }

pub returns-clause-one_each : goal.returns-clause-one_each
returns-clause-one_each c = (c.in_ok-names.ensures).one_each
