use Rattle.std.proofs.Common.{◌≡◌, ◌++◌, map, take}
use Rattle.tv_model.specs.Program.{pred_of}
use Rattle.tv_plang_laws.specs.Compiled.{variable_pred}
use Rattle.tv_plang.proofs.predicates.put_variables.Given as goal

abbrev pub invariant-loop-name : goal.invariant-loop-name
invariant-loop-name l = map pred_of l.out.items ≡ map pred_of l.initial.out.items ++ map variable_pred (take l.name-index l.names)
