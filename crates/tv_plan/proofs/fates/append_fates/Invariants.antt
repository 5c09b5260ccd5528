use Rattle.std.proofs.Common.{◌≡◌, ◌++◌, drop}
use Rattle.tv_model.specs.Program.{action_of, program_of}
use Rattle.tv_plan.specs.Fates.{fate_at}
use Rattle.tv_plan.specs.Orders.{is_held}
use Rattle.tv_plan.specs.Texts.{pred_lines}
use Rattle.tv_plan.proofs.fates.append_fates.Given as goal

abbrev pub invariant-loop-q : goal.invariant-loop-q
invariant-loop-q l =
    let p = program_of l.x.program.now in
    let fate = fate_at p l.x.mode (action_of l.x.action.now) (is_held l.x.anew.now) in
    l.out.items ++ pred_lines p.preds fate l.q (drop l.q p.preds)
    ≡ l.initial.out.items ++ pred_lines p.preds fate 0 p.preds
