use Rattle.tv_parse.proofs.UniquePhrases as unique
use Rattle.tv_parse.proofs.laws.one_edge.Goals as goal

pub returns-clause-single : goal.returns-clause-single
returns-clause-single c = unique.one_edge

pub returns-clause-row : goal.returns-clause-row
returns-clause-row c = unique.one_edges
