use Rattle.std.proofs.Common.{arith, refl}
use Rattle.tv_structure_form.specs.StructureForm.{structure_of}
use Rattle.tv_blur.specs.Names.{abstraction_preds}
use Rattle.tv_blur.proofs.Ascended.{ascending-follows}
use Rattle.tv_blur.proofs.ascending.are_ascending.Goals as goal

pub returns-then-size-lt2 : goal.returns-then-size-lt2
returns-then-size-lt2 c = (
  λ holds. ascending-follows (abstraction_preds c.args.vocab.now) (structure_of c.args.s.now) c.args.s.now.size
      (λ k lt. absurd (omega (arith, lt, c.if-size-lt2.true))),
  λ follows. refl,
)
