use Rattle.std.proofs.Common.{subst}
use Rattle.tv_model.specs.Program.{program_of}
use Rattle.tv_work.specs.Stopped.{IfStopped, ListsPast}
use Rattle.tv_work.proofs.Within.{past_more}
use Rattle.tv_work.proofs.analysis.analyze.Goals as goal

pub returns-clause-cause : goal.returns-clause-cause
returns-clause-cause c =
    let p = program_of c.args.program.now
    in past_more p c.args.mode c.args.initial.now c.args.max c.in-Stopped.field-0
    (subst (IfStopped (ListsPast p c.args.mode c.args.initial.now c.args.max)) c.in-Stopped.is
    c.in_ok-found.ensures.stopped)
