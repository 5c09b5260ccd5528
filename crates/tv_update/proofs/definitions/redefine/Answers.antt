use Rattle.std.proofs.Common.{◌<◌, length, map, subst, sym}
use Rattle.std.specs.List.{AllByRecursion}
use Rattle.std.proofs.lemmas.Result.{on_ok_weaker}
use Rattle.tv_model.specs.Program.{program_of}
use Rattle.tv_model.specs.declared.formula.PredId.{PredId}
use Rattle.tv_update.specs.Redefined.{AreAllDefined}
use Rattle.tv_update.proofs.AllDefinitions.{all-below, all-evaluated}
use Rattle.tv_update.proofs.definitions.redefine.Goals as goal

pub define_all-requires-clause-preds : goal.define_all-requires-clause-preds
define_all-requires-clause-preds c =
    subst (AllByRecursion (λ (p : PredId). p.0 < length c.args.program.now.vocab.preds)) (sym c.as_slice.ensures)
    (all-below c.args.program.now c.args.order.now c.requires.order)

pub returns-clause-redefined : goal.returns-clause-redefined
returns-clause-redefined c =
    on_ok_weaker c.define_all.result
    (all-evaluated (program_of c.args.program.now) (map (λ (p : PredId). p.0) c.as_slice.result.now) c.args.t.now c.define_all.new.t
    (subst (λ order. AreAllDefined (program_of c.args.program.now) (map (λ (p : PredId). p.0) order)) (sym c.as_slice.ensures)
    c.requires.order))
    c.define_all.ensures.evaluated
