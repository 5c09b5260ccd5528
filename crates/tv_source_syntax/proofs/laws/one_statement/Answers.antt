use Rattle.tv_source_syntax.proofs.Complete as complete
use Rattle.tv_source_syntax.proofs.laws.one_statement.Goals as goal

pub returns-clause-name : goal.returns-clause-name
returns-clause-name c = complete.one_name

pub returns-clause-assign : goal.returns-clause-assign
returns-clause-assign c = complete.one_assign

pub returns-clause-test : goal.returns-clause-test
returns-clause-test c = complete.one_test

pub returns-clause-statement : goal.returns-clause-statement
returns-clause-statement c = complete.one_statement

pub returns-clause-row : goal.returns-clause-row
returns-clause-row c = complete.one_row
