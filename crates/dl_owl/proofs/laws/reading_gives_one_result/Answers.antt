use Rattle.dl_owl.proofs.Stops.{comes_to_an_end}
use Rattle.dl_owl.proofs.TokenLists.{one_value, one_fault_read, no_fault_at_value}
use Rattle.dl_owl.proofs.laws.reading_gives_one_result.Goals as goal

pub returns-clause-always : goal.returns-clause-always
returns-clause-always c = λ bytes tokens e met all h. comes_to_an_end bytes 0 tokens all e met h

pub returns-clause-one_value : goal.returns-clause-one_value
returns-clause-one_value c =
    λ bytes e names after later document other h h'. one_value bytes e names document other after later h h'

pub returns-clause-one_fault : goal.returns-clause-one_fault
returns-clause-one_fault c =
    λ bytes e names cause other at place h h'. one_fault_read bytes e names cause other at place h h'

pub returns-clause-value_or_fault : goal.returns-clause-value_or_fault
returns-clause-value_or_fault c =
    λ bytes e names after document cause at h h'. no_fault_at_value bytes e names document after cause at h h'
