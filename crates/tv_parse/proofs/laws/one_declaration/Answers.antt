use Rattle.tv_parse.proofs.UniquePhrases as unique
use Rattle.tv_parse.proofs.laws.one_declaration.Goals as goal

pub returns-clause-signature : goal.returns-clause-signature
returns-clause-signature c = unique.one_signature

pub returns-clause-properties : goal.returns-clause-properties
returns-clause-properties c = unique.one_props

pub returns-clause-single : goal.returns-clause-single
returns-clause-single c = unique.one_decl

pub returns-clause-row : goal.returns-clause-row
returns-clause-row c = unique.one_decls
