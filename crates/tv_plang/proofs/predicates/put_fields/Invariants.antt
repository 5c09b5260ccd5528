use Rattle.std.proofs.Common.{◌≡◌, ◌++◌, map, take}
use Rattle.tv_model.specs.Program.{pred_of}
use Rattle.tv_plang_laws.specs.Compiled.{field_pred}
use Rattle.tv_plang.proofs.predicates.put_fields.Given as goal

abbrev pub invariant-loop-name : goal.invariant-loop-name
invariant-loop-name l = map pred_of l.out.items ≡ map pred_of l.initial.out.items ++ map field_pred (take l.name-index l.names)
