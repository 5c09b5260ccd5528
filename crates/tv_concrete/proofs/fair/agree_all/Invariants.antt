-- The updates of each predicate so far agree.
use Rattle.std.proofs.Common.{map}
use Rattle.tv_model.specs.Program.{update_of}
use Rattle.tv_concrete.specs.Steps.{GivenAgrees}
use Rattle.tv_concrete.proofs.EachPreds.{FirstPreds}
use Rattle.tv_concrete.proofs.fair.agree_all.Given as goal

abbrev pub invariant-loop-q : goal.invariant-loop-q
invariant-loop-q l = FirstPreds (GivenAgrees l.step (map update_of l.updates)) l.preds l.q
