-- The copy is equal to what was given.
use Rattle.std.proofs.Common.{Option, subst, sym}
use Rattle.std.specs.Prelude.{IfSome}
use Rattle.std.specs.List.{AllByRecursion}
use Rattle.tv_model.specs.Program.{update_of}
use Rattle.tv_model.specs.declared.program.Update.{Update}
use Rattle.tv_structure_form.specs.StructureForm.{StructureForm}
use Rattle.tv_replay_step.specs.Free.{CanCopy, IsFree}
use Rattle.tv_replay_step.proofs.finished.finished.Goals as goal

pub put_free-requires : goal.put_free-requires
put_free-requires c =
    let Can : StructureForm → StructureForm → Type 0 = λ values t.
    AllByRecursion (λ (w : Update). IsFree (update_of w) → CanCopy values t w.pred.0) c.args.updates.now
    in let Given : Option StructureForm → Type 0 = λ o. IfSome o (λ values. Can values c.args.given.now)
    in subst (Can c.in-Some.values) (sym c.in_ok-heap.ensures.value) (subst Given c.in-Some.is c.requires.values)
