use Rattle.std.proofs.lemmas.Option.{slice_get-get_or}
use Rattle.tv_judge.specs.Setting.{case_in}
use Rattle.tv_judge.proofs.Reports.{first-unsaid, said-more}
use Rattle.tv_judge.proofs.steps.first_unsaid.Goals as goal

pub returns-then-is_unsaid-clause-some : goal.returns-then-is_unsaid-clause-some
returns-then-is_unsaid-clause-some c =
    first-unsaid (case_in c.args.x.now) c.args.at.edge c.args.at.structure c.loop-number.number
    c.args.values.now _ c.requires.values
    (slice_get-get_or c.args.values.now c.loop-number.number _ c.loop-number-test.true)
    (c.is_unsaid.ensures.0 c.if-is_unsaid.true) c.loop-number.invariant

pub loop-number-preserved : goal.loop-number-preserved
loop-number-preserved c =
    said-more (case_in c.args.x.now) c.args.x.now.said.now.keys c.args.at.edge c.args.at.structure
    c.loop-number.number c.args.values.now _
    c.is_unsaid.result c.requires.ready.said c.requires.values
    (slice_get-get_or c.args.values.now c.loop-number.number _ c.loop-number-test.true)
    c.if-is_unsaid.false c.is_unsaid.ensures c.loop-number.invariant
