use Rattle.tv_parse.proofs.UniquePhrases as unique
use Rattle.tv_parse.proofs.laws.one_set.Goals as goal

pub returns-clause-whole : goal.returns-clause-whole
returns-clause-whole c = unique.one_set

pub returns-clause-term : goal.returns-clause-term
returns-clause-term c = unique.one_set_term

pub returns-clause-head : goal.returns-clause-head
returns-clause-head c = unique.one_head
