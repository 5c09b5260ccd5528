use Rattle.tv_judge.proofs.IndexLaws.{said-all, said-next, said-none}
use Rattle.tv_judge.proofs.index.said_in.Goals as goal

pub loop-line-init : goal.loop-line-init
loop-line-init c = said-none c.new-said.result.keys c.args.lines.now c.new-said.ensures.empty

pub loop-line-preserved : goal.loop-line-preserved
loop-line-preserved c =
    said-next c.loop-line.said.keys c.insert.new.self.keys c.args.lines.now c.loop-line.line-index _
    c.loop-line-test.true c.in_ok-insert.ensures.keys c.loop-line.invariant

pub returns : goal.returns
returns c = said-all c.loop-line.said.keys c.args.lines.now c.loop-line.line-index c.loop-line-test.false
    c.loop-line.invariant
