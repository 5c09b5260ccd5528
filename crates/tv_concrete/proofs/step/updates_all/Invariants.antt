-- Each core predicate so far follows its update.
use Rattle.std.proofs.Common.{map}
use Rattle.tv_model.specs.Program.{update_of}
use Rattle.tv_concrete.specs.Steps.{CoreFollows}
use Rattle.tv_concrete.proofs.EachPreds.{FirstPreds}
use Rattle.tv_concrete.proofs.step.updates_all.Given as goal

abbrev pub invariant-loop-q : goal.invariant-loop-q
invariant-loop-q l = FirstPreds (CoreFollows l.step (map update_of l.updates)) l.preds l.q
