use Rattle.tv_parse.proofs.UniquePhrases as unique
use Rattle.tv_parse.proofs.laws.one_action.Goals as goal

pub returns-clause-piece : goal.returns-clause-piece
returns-clause-piece c = unique.one_piece

pub returns-clause-pieces : goal.returns-clause-pieces
returns-clause-pieces c = unique.one_caption

pub returns-clause-formulas : goal.returns-clause-formulas
returns-clause-formulas c = unique.one_formulas

pub returns-clause-part : goal.returns-clause-part
returns-clause-part c = unique.one_part

pub returns-clause-parts : goal.returns-clause-parts
returns-clause-parts c = unique.one_parts

pub returns-clause-action : goal.returns-clause-action
returns-clause-action c = unique.one_action

pub returns-clause-row : goal.returns-clause-row
returns-clause-row c = unique.one_actions
