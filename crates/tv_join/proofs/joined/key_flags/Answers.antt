use Rattle.std.proofs.Common.{◌∙◌, Bool, List, ap, map, sym}
use Rattle.std.proofs.lemmas.List.{take_all}
use Rattle.tv_model.specs.declared.program.Pred.{Pred}
use Rattle.tv_model.specs.Program.{pred_of}
use Rattle.tv_model.proofs.Lists.{map-compose}
use Rattle.tv_join.specs.Flags.{is_counted}
use Rattle.tv_join.proofs.joined.key_flags.Goals as goal

pub returns : goal.returns
returns c =
    let f : Pred → Bool = λ pred. is_counted (pred_of pred)
    in let items : List Pred = c.as_slice-pred-items.result.now
    in c.loop-pred.invariant
    ∙ ap (map f) (take_all c.loop-pred.pred-index items c.loop-pred-test.false ∙ c.as_slice-pred-items.ensures)
    ∙ sym (map-compose pred_of is_counted c.args.program.now.vocab.preds)
