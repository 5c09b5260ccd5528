use Rattle.std.proofs.Common.{◌≡◌, arith, subst, sym}
use Rattle.tv_model.specs.Form.{form_of}
use Rattle.tv_model.specs.Program.{program_of}
use Rattle.tv_eval.proofs.Programs.{made_scratches_fit}
use Rattle.tv_step.specs.EngineForm.{EngineForm}
use Rattle.tv_step.specs.Steps.{HasRoomFor}
use Rattle.tv_step.proofs.stepper.Stepper.value.Goals as goal

pub eval-requires-clause-fits : goal.eval-requires-clause-fits
eval-requires-clause-fits c =
    let f = form_of c.args.f.now
    in let own : EngineForm = c.self.inside.engine
    in let low : HasRoomFor (program_of own.program) f
    = subst (λ (e : EngineForm). HasRoomFor (program_of e.program) f) (sym c.self.view_is) c.requires.room
    in made_scratches_fit (program_of own.program) 256 c.args.s.now.size c.self.inside.scratch f
    c.self.invariant.1 (omega (arith, low)) c.requires.few
