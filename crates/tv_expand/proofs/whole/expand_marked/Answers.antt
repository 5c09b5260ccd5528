use Rattle.std.proofs.Common.{rules}
use Rattle.tv_tree.specs.Copies.{program_of}
use Rattle.tv_expand.proofs.FlatLaws.{expansion_flat}
use Rattle.tv_expand.proofs.whole.expand_marked.Goals as goal

pub returns-clause-flat : goal.returns-clause-flat
returns-clause-flat c = λ ok. expansion_flat (program_of c.args.t.now) _ ok (search rules)
