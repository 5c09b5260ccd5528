use Rattle.std.proofs.Common.{sym, subst}
use Rattle.tv_blur.specs.Names.{abstraction_preds}
use Rattle.tv_blur.proofs.Ascended.{blurred-itself}
use Rattle.tv_step.specs.declared.coerced.Ending.{Ending}
use Rattle.tv_step.specs.Ending.{IsEndOf}
use Rattle.tv_step.proofs.coerced.is_finished.Goals as goal

pub returns-in-Blurred : goal.returns-in-Blurred
returns-in-Blurred c is =
    subst (λ (end : Ending). IsEndOf end c.args.x.now.program.now c.args.t.now c.args.t.now) (sym c.in-Blurred.is) (
      blurred-itself (abstraction_preds c.args.x.now.program.now.vocab) c.args.t.now (c.is_blurred.ensures.0 is),
      c.size.ensures.kept,
    )
