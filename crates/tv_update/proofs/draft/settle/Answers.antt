use Rattle.std.proofs.lemmas.Result.{on_ok_weaker}
use Rattle.tv_model.specs.Program.{program_of, action_of}
use Rattle.tv_update.proofs.Plans.{settle_one}
use Rattle.tv_update.proofs.draft.settle.Goals as goal

pub returns-clause-so_far : goal.returns-clause-so_far
returns-clause-so_far c =
    on_ok_weaker c.push_if.result
    (λ pushed. settle_one (program_of c.args.applied.now.program.now) c.args.applied.now.mode
    (action_of c.args.applied.now.action.now) c.args.draft.now.waiting.items c.args.draft.now.changed.items
    c.args.draft.now.plan.items c.push_if.new.plan.items c.args.ready.pred c.args.ready.is_touched
    c.is_changed-on.result c.requires.so_far c.requires.ready pushed c.is_changed-on.ensures)
    c.push_if.ensures
