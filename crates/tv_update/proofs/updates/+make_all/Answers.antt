use Rattle.std.proofs.Common.{◌∙◌, Some, None, ap}
use Rattle.std.proofs.lemmas.Bool.{cond-true}
use Rattle.std.proofs.lemmas.Result.{on_ok_weaker}
use Rattle.tv_model.specs.Program.{program_of, update_of}
use Rattle.tv_eval.specs.AssignmentForm.{assignment_of}
use Rattle.tv_eval.specs.Bound.{bound_structure, bound_room}
use Rattle.tv_update.proofs.Made.{first_made}
use Rattle.tv_update.proofs.updates.+make_all.Goals as goal

pub returns-then-counts-clause-made : goal.returns-then-counts-clause-made
returns-then-counts-clause-made t c =
    on_ok_weaker c.make.result (first_made (program_of c.args.applied.now.program.now) c.args.applied.now.mode
    (bound_structure c.args.e.now) (bound_structure c.make_all.new.e)
    (assignment_of c.args.applied.now.picks.now)
    c.args.applied.now.picks.now
    (bound_room c.args.e.now) c.args.updates.now c.w-item.result c.args.t.now c.make_all.new.t
    c.make.new.t
    c.in-len1-up.len_at_least c.w-item.is
    (c.counts.ensures (update_of c.w-item.result)
    ∙ cond-true c.counts.result (Some (update_of c.w-item.result)) None c.if-counts.true)
    c.requires.can c.requires.like c.in_ok-make_all-in-len1-up.ensures.made (ap bound_structure
    c.make_all.ensures.same))
    c.make.ensures.made
