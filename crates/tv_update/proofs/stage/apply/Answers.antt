use Rattle.std.proofs.Common.{◌≡◌, ◌∙◌, sym}
use Rattle.tv_model.specs.Program.{action_of}
use Rattle.tv_update.proofs.Limits.{full_is_large}
use Rattle.tv_update.proofs.stage.apply.Goals as goal

pub returns-then-size-eq-MAX_INDIVIDUALS-clause-cause :
    goal.returns-then-size-eq-MAX_INDIVIDUALS-clause-cause
returns-then-size-eq-MAX_INDIVIDUALS-clause-cause c =
    let full : c.args.s.now.size ≡ 256 = sym c.size.ensures.size ∙ c.if-size-eq-MAX_INDIVIDUALS.true
    in (
      full_is_large (action_of c.args.applied.now.action.now) c.args.s.now c.size.ensures.kept
          c.if-not-applied.false full,
      c.if-not-applied.false,
      full,
    )
