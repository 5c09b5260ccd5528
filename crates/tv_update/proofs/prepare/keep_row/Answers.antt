use Rattle.std.proofs.Common.{◌∙◌, replicate, sym, ap}
use Rattle.tv_kleene.specs.declared.K3.TheVariants.{Yes}
use Rattle.tv_model.specs.Program.{retain_of}
use Rattle.tv_eval.specs.AssignmentForm.{assignment_of}
use Rattle.tv_eval.specs.Bound.{bound_structure, bound_room}
use Rattle.tv_update.specs.Updated.{keep_values}
use Rattle.tv_update.proofs.Applies.{can_retain_in, all_yes}
use Rattle.tv_update.proofs.prepare.keep_row.Goals as goal

pub row-requires-clause-formula : goal.row-requires-clause-formula
row-requires-clause-formula c =
    (can_retain_in c.args.applied.now.program.now c.args.applied.now.action.now c.args.applied.now.picks.now
    c.args.middle.now
    (bound_structure c.args.e.now)
    (bound_room c.args.e.now) c.requires.can c.requires.structure c.in-Some.retain c.in-Some.is).formula

pub row-requires-clause-assigned : goal.row-requires-clause-assigned
row-requires-clause-assigned c =
    (can_retain_in c.args.applied.now.program.now c.args.applied.now.action.now c.args.applied.now.picks.now
    c.args.middle.now
    (bound_structure c.args.e.now)
    (bound_room c.args.e.now) c.requires.can c.requires.structure c.in-Some.retain c.in-Some.is).assigned

pub row-requires-clause-fits : goal.row-requires-clause-fits
row-requires-clause-fits c =
    (can_retain_in c.args.applied.now.program.now c.args.applied.now.action.now c.args.applied.now.picks.now
    c.args.middle.now
    (bound_structure c.args.e.now)
    (bound_room c.args.e.now) c.requires.can c.requires.structure c.in-Some.retain c.in-Some.is).fits

pub returns-in-None-clause-values : goal.returns-in-None-clause-values
returns-in-None-clause-values c =
    c.of.ensures ∙ ap (λ n. replicate n Yes) c.size.ensures.size ∙ all_yes 0 c.args.middle.now.size
    ∙ ap (λ o. keep_values c.args.middle.now (assignment_of c.args.applied.now.picks.now) (retain_of o))
    (sym c.in-None.is)
