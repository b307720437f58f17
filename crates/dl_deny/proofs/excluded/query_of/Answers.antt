use Rattle.dl_deny.proofs.ExcludedLemmas.{query-basics, query-roles, query-loop}
use Rattle.dl_deny.proofs.FormedLemmas.{formed-of}
use Rattle.dl_deny.proofs.excluded.query_of.Goals as goal

pub returns-in-Basics-clause-value : goal.returns-in-Basics-clause-value
returns-in-Basics-clause-value c =
    query-basics c.query_on.result c.args.negative c.in-Basics.one c.in-Basics.two c.basic_atom-first.result c.basic_atom-second.result
    c.neighbours-next.result c.neighbours.result c.in-Basics.is c.basic_atom-first.ensures c.neighbours-next.ensures.value
    c.basic_atom-second.ensures c.neighbours.ensures.value c.query_on.ensures

pub returns-in-Basics-clause-formed : goal.returns-in-Basics-clause-formed
returns-in-Basics-clause-formed c = formed-of c.query_on.result c.args.negative (returns-in-Basics-clause-value c)

pub returns-in-Roles-clause-value : goal.returns-in-Roles-clause-value
returns-in-Roles-clause-value c =
    query-roles c.query_on-in-Roles.result c.args.negative c.in-Roles.one c.in-Roles.two c.role_atom-first.result c.role_atom-second.result
    c.in-Roles.is c.role_atom-first.ensures c.role_atom-second.ensures c.query_on-in-Roles.ensures

pub returns-in-Roles-clause-formed : goal.returns-in-Roles-clause-formed
returns-in-Roles-clause-formed c = formed-of c.query_on-in-Roles.result c.args.negative (returns-in-Roles-clause-value c)

pub returns-in-NoLoop-clause-value : goal.returns-in-NoLoop-clause-value
returns-in-NoLoop-clause-value c =
    query-loop c.query_on-in-NoLoop.result c.args.negative c.in-NoLoop.role c.role_atom-loop_atom.result c.in-NoLoop.is
    c.role_atom-loop_atom.ensures c.query_on-in-NoLoop.ensures

pub returns-in-NoLoop-clause-formed : goal.returns-in-NoLoop-clause-formed
returns-in-NoLoop-clause-formed c = formed-of c.query_on-in-NoLoop.result c.args.negative (returns-in-NoLoop-clause-value c)
