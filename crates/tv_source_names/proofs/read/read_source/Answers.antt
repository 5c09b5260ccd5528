use Rattle.tv_source_syntax.specs.Copies.{source_of}
use Rattle.tv_source_names.proofs.Kept.{few_names, kept_answer}
use Rattle.tv_source_names.proofs.read.read_source.Goals as goal

pub program-requires-clause-variables : goal.program-requires-clause-variables
program-requires-clause-variables c = (few_names c.args.bytes.now c.args.tokens.now.list.items c.in_ok-tree.tree c.requires.size c.requires.read c.in_ok-tree.ensures.tree).0

pub program-requires-clause-fields : goal.program-requires-clause-fields
program-requires-clause-fields c = (few_names c.args.bytes.now c.args.tokens.now.list.items c.in_ok-tree.tree c.requires.size c.requires.read c.in_ok-tree.ensures.tree).1

pub returns-clause-kept : goal.returns-clause-kept
returns-clause-kept c = kept_answer c.program.result c.args.bytes.now c.args.tokens.now.list.items (source_of c.args.bytes.now c.in_ok-tree.tree) c.requires.read c.in_ok-tree.ensures.tree c.program.ensures
