use Rattle.std.proofs.Common.{ℕ, ◌∙◌, ap, arith}
use Rattle.tv_structure_form.specs.StructureForm.{arities_of, structure_of_no}
use Rattle.tv_join.proofs.Copying.{copied-none, copied-all}
use Rattle.tv_join.proofs.key.skeleton.Goals as goal

pub loop-p-init : goal.loop-p-init
loop-p-init c =
    copied-none c.args.counted.now c.args.s.now c.in_ok-bare.bare
    (c.in_ok-bare.ensures.value ∙ ap (λ (n : ℕ). structure_of_no n (arities_of c.args.s.now)) c.size-size.ensures.size)

pub returns : goal.returns
returns c =
    copied-all c.args.counted.now c.args.s.now c.loop-p.p c.loop-p.bare c.loop-p.invariant c.size.ensures.kept
    (omega (arith, c.loop-p-test.false, c.pred_count-count.ensures, c.requires.count))
