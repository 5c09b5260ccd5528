use Rattle.tv_judge.proofs.Reports.{unsaid-is}
use Rattle.tv_judge.proofs.steps.is_unsaid.Goals as goal

pub returns-then-may_be_true : goal.returns-then-may_be_true
returns-then-may_be_true c =
    unsaid-is c.contains.result c.args.x.now.said.now.keys c.args.x.now.analysis.now.messages c.args.edge
    c.args.number c.args.value
    (c.may_be_true.ensures.0 c.if-may_be_true.true) c.requires.said c.contains.ensures
