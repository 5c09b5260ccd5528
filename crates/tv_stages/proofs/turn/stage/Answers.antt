use Rattle.std.proofs.Common.{[], ◌∷◌}
use Rattle.std.specs.List.{AllZip}
use Rattle.tv_lemmas.proofs.Options.{IfErr-weaker}
use Rattle.tv_focus.specs.Stage.{IsStageCause}
use Rattle.tv_focus_laws.specs.Tables.{AreStage}
use Rattle.tv_model.specs.Form.{form_of}
use Rattle.tv_step_laws.specs.Transfer.{IsTableOf, choices_at}
use Rattle.tv_step_laws.proofs.Shapes.{shaped-over}
use Rattle.tv_step.specs.Steps.{IsFocusCause}
use Rattle.tv_stages.specs.Tasks.{task_program}
use Rattle.tv_stages.specs.Turns.{turn_place}
use Rattle.tv_stages.proofs.Coercing.{tables-of}
use Rattle.tv_stages.proofs.Telling.{ok-weaker}
use Rattle.tv_stages.proofs.Turning.{atoms-fit, stage-cause}
use Rattle.tv_stages.proofs.turn.stage.Goals as goal

pub focus_stage-requires-clause-over : goal.focus_stage-requires-clause-over
focus_stage-requires-clause-over c = shaped-over c.args.x.now.program.now c.args.s.now c.requires.shaped

pub focus_stage-requires-clause-formula : goal.focus_stage-requires-clause-formula
focus_stage-requires-clause-formula c =
    atoms-fit (task_program c.args.x.now) c.args.s.now (form_of c.args.turn.now.formula.now) c.requires.shaped
    c.requires.place.formula

pub returns-clause-structures : goal.returns-clause-structures
returns-clause-structures c =
    let p = task_program c.args.x.now
    in let s = c.args.s.now
    in let place = turn_place c.args.turn.now
    in ok-weaker c.focus_stage.result (AreStage s place.formula place.atom)
    (λ ts. AllZip (IsTableOf p) ts (choices_at s place))
    (λ ts are. tables-of p s c.requires.shaped ts (choices_at s place) are) c.focus_stage.ensures.stage

pub returns-clause-cause : goal.returns-clause-cause
returns-clause-cause c =
    let s = c.args.s.now
    in let place = turn_place c.args.turn.now
    in IfErr-weaker c.focus_stage.result (IsStageCause s place.formula place.atom) (IsFocusCause place (s ∷ []))
    (stage-cause s place) c.focus_stage.ensures.cause
