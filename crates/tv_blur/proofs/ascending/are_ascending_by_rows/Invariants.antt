use Rattle.std.proofs.Common.{map, take}
use Rattle.tv_structure_form.specs.StructureForm.{kept_from}
use Rattle.tv_blur.specs.Names.{is_abstraction}
use Rattle.tv_blur.specs.Rising.{TellsRises}
use Rattle.tv_blur.proofs.ascending.are_ascending_by_rows.Given as goal

abbrev pub invariant-loop-p : goal.invariant-loop-p
invariant-loop-p l = TellsRises (kept_from 0 (take l.p (map is_abstraction l.vocab.preds))) l.s l.rises
