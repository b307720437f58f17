use Rattle.dl_rewrite.proofs.UnifierLemmas.{IsMostGeneralUnifier-none, IsMostGeneralUnifier-same, IsMostGeneralUnifier-put, IsMostGeneralUnifier-clash}
use Rattle.dl_rewrite.proofs.laws.terms_unify.Goals as goal

pub returns-clause-none : goal.returns-clause-none
returns-clause-none c = IsMostGeneralUnifier-none

pub returns-clause-same : goal.returns-clause-same
returns-clause-same c = IsMostGeneralUnifier-same

pub returns-clause-put : goal.returns-clause-put
returns-clause-put c = IsMostGeneralUnifier-put

pub returns-clause-clash : goal.returns-clause-clash
returns-clause-clash c = IsMostGeneralUnifier-clash
