use Rattle.std.proofs.Common.{◌∙◌}
use Rattle.tv_show.proofs.Walked.{individuals_turn}
use Rattle.tv_show.proofs.line.append_individuals.Goals as goal

pub loop-u-preserved : goal.loop-u-preserved
loop-u-preserved c =
    c.in_ok-append_individual.ensures
    ∙ individuals_turn c.args.preds.now c.args.s.now c.loop-u.u c.args.out.now.items c.loop-u.out.items c.loop-u.invariant
