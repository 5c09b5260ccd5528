use Rattle.std.proofs.Common.{map}
use Rattle.std.proofs.lemmas.Result.{IfOk-weaker}
use Rattle.tv_model.specs.Program.{action_of, program_of}
use Rattle.tv_delta.proofs.Updates.{is_differenced, updates_tell_truth}
use Rattle.tv_delta.proofs.program.differenced.Goals as goal

pub returns-clause-exact : goal.returns-clause-exact
returns-clause-exact c =
    IfOk-weaker c.with_actions.result _ _
    (λ new is. is_differenced (program_of c.args.program.now) (program_of new) (map action_of c.in_ok-actions.actions) is
    c.in_ok-actions.ensures)
    c.with_actions.ensures

pub returns-clause-valid : goal.returns-clause-valid
returns-clause-valid c =
    IfOk-weaker c.with_actions.result _ _
    (λ new is. c.differenced_is_valid.ensures (program_of c.args.program.now) (program_of new) c.requires.valid is)
    (returns-clause-exact c)

pub returns-clause-runs : goal.returns-clause-runs
returns-clause-runs c =
    IfOk-weaker c.with_actions.result _ _
    (λ new is start stages run. c.runs_are_differenced.ensures (program_of c.args.program.now) (program_of new) start stages
    c.requires.valid is run)
    (returns-clause-exact c)

pub returns-clause-truth : goal.returns-clause-truth
returns-clause-truth c =
    IfOk-weaker c.with_actions.result _ _
    (λ new is. updates_tell_truth c.updates_tell_the_truth.ensures (program_of c.args.program.now) (program_of new)
    c.requires.valid is)
    (returns-clause-exact c)
