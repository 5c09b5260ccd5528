use Rattle.tv_top.proofs.Gives.{one_program, one_initial, one_report, one_start, one_trace}
use Rattle.tv_top.proofs.OneAnswer.{one_answer}
use Rattle.tv_top.proofs.laws.answers_are_one.Goals as goal

pub returns : goal.returns
returns c =
    let each = c.one_meaning_each.ensures in
    one_answer c.runs_have_one_ending.ensures c.analyses_are_one.ensures c.joined_analyses_are_one.ensures c.steps_are_exact.ensures
    c.one_command.ensures (one_program each.program each.source each.initial each.report)
    (one_initial each.program each.source each.initial each.report) (one_report each.program each.source each.initial each.report)
    (one_start each.start each.trace) (one_trace each.start each.trace)
