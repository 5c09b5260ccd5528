use Rattle.tv_parse.proofs.UniquePhrases as unique
use Rattle.tv_parse.proofs.laws.one_update.Goals as goal

pub returns-clause-single : goal.returns-clause-single
returns-clause-single c = unique.one_update

pub returns-clause-row : goal.returns-clause-row
returns-clause-row c = unique.one_updates
