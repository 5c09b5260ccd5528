use Rattle.tv_delta.proofs.Pushed.{preds_are}
use Rattle.tv_delta.proofs.program.updates_for.Goals as goal

pub push_answers-requires-clause-preds : goal.push_answers-requires-clause-preds
push_answers-requires-clause-preds c =
    preds_are c.args.a.now.program.now c.as_slice-2.result.now c.requires c.as_slice-2.ensures
