use Rattle.tv_model.specs.Program.{program_of}
use Rattle.tv_report.proofs.Fronts.{message_noted}
use Rattle.tv_report.proofs.matching.take_messages.Goals as goal

pub loop-preserved : goal.loop-preserved
loop-preserved c =
    let noted = message_noted (program_of c.args.program.now) c.loop.lines c.push.new.self c.in-Some.line c.loop.seen.keys c.note_line.new.seen.keys
    (c.in_ok-note_line.ensures c.if-not-branch.false) c.loop.invariant.seen c.loop.invariant.kept c.in_ok-push.ensures
    in record { seen = noted.0; kept = noted.1 }
