use Rattle.std.proofs.Common.{◌∙◌, ap, arith, sym}
use Rattle.std.specs.Prelude.{slice_get}
use Rattle.tv_delta.specs.Flags.{tells}
use Rattle.tv_delta.proofs.Marks.{marking_by}
use Rattle.tv_delta.proofs.flags.mark_one.Goals as goal

pub returns-clause-marks : goal.returns-clause-marks
returns-clause-marks c = λ preds old are is.
    marking_by preds c.args.uses.now.lists.items old c.args.flags.now.items c.args.q are is
    (omega (arith, c.if-q-len.false, c.len.ensures))
    (ap (λ fs. tells fs (slice_get c.args.uses.now.lists.items c.args.q)) (sym c.as_slice.ensures.value)
    ∙ sym c.rests.ensures ∙ c.if-not-rests.false)
