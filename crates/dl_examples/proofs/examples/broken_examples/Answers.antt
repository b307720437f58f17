use Rattle.dl_examples.proofs.NegativeExampleLemmas.{two_neighbours, some_first, some_second, some_at_the_other_end, turned_roles, roles_of_one_direction, a_loop, two_ends}
use Rattle.dl_examples.proofs.BrokenExampleLemmas.{broken_at_an_unnamed, no_name_in_both, nothing_without_the_fact, asymmetry_first, asymmetry_first_of_set, nothing_is_broken, nothing_is_no_name, disjoint_from_itself}
use Rattle.dl_examples.proofs.examples.broken_examples.Goals as goal

pub returns-clause-at_an_unnamed : goal.returns-clause-at_an_unnamed
returns-clause-at_an_unnamed c = broken_at_an_unnamed

pub returns-clause-at_no_name : goal.returns-clause-at_no_name
returns-clause-at_no_name c = no_name_in_both

pub returns-clause-without_the_fact : goal.returns-clause-without_the_fact
returns-clause-without_the_fact c = nothing_without_the_fact

pub returns-clause-asymmetry_first : goal.returns-clause-asymmetry_first
returns-clause-asymmetry_first c = asymmetry_first

pub returns-clause-asymmetry_first_of_set : goal.returns-clause-asymmetry_first_of_set
returns-clause-asymmetry_first_of_set c = asymmetry_first_of_set

pub returns-clause-nothing_is_broken : goal.returns-clause-nothing_is_broken
returns-clause-nothing_is_broken c = nothing_is_broken

pub returns-clause-nothing_is_no_name : goal.returns-clause-nothing_is_no_name
returns-clause-nothing_is_no_name c = nothing_is_no_name

pub returns-clause-by_position : goal.returns-clause-by_position
returns-clause-by_position c = disjoint_from_itself

pub returns-clause-two_neighbours : goal.returns-clause-two_neighbours
returns-clause-two_neighbours c = two_neighbours

pub returns-clause-some_first : goal.returns-clause-some_first
returns-clause-some_first c = some_first

pub returns-clause-some_second : goal.returns-clause-some_second
returns-clause-some_second c = some_second

pub returns-clause-some_at_the_other_end : goal.returns-clause-some_at_the_other_end
returns-clause-some_at_the_other_end c = some_at_the_other_end

pub returns-clause-turned_roles : goal.returns-clause-turned_roles
returns-clause-turned_roles c = turned_roles

pub returns-clause-roles_of_one_direction : goal.returns-clause-roles_of_one_direction
returns-clause-roles_of_one_direction c = roles_of_one_direction

pub returns-clause-a_loop : goal.returns-clause-a_loop
returns-clause-a_loop c = a_loop

pub returns-clause-two_ends : goal.returns-clause-two_ends
returns-clause-two_ends c = two_ends
