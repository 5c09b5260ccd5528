-- An evaluator that is bound to one structure.
use Rattle.tv_structure_form.specs.StructureForm.{StructureForm}
use Rattle.tv_eval.specs.ScratchForm.{ScratchForm}
use Rattle.tv_eval.specs.declared.evaluator.Evaluator.{Evaluator}

-- the structure that it evaluates in
abbrev pub bound_structure : Evaluator → StructureForm
bound_structure e = e.structure

-- what it has room for
abbrev pub bound_room : Evaluator → ScratchForm
bound_room e = e.room
