-- What a contract sees of an evaluator.
use Rattle.std.specs.Prelude.{ℕ, ◌+◌, ◌-◌, List, replicate}
use Rattle.tv_structure_form.specs.StructureForm.{StructureForm}
use Rattle.tv_eval.specs.ScratchForm.{ScratchForm}

-- an evaluator: the structure that it evaluates in, what it has room for, and how many rooms can be given
-- back to it
pub record EvaluatorForm : Type 0 where
  pub structure : StructureForm
  pub room : ScratchForm
  pub spare : ℕ

-- the sizes of its rooms
abbrev pub sizes_in : EvaluatorForm → List ℕ
sizes_in e = replicate e.room.levels e.room.size

-- the evaluator while one more room is taken out
abbrev pub with_one_out : EvaluatorForm → EvaluatorForm
with_one_out e = record {
  structure = e.structure;
  room = record { levels = e.room.levels - 1; size = e.room.size };
  spare = e.spare + 1;
}

-- and when it is put back
abbrev pub with_one_back : EvaluatorForm → EvaluatorForm
with_one_back e = record {
  structure = e.structure;
  room = record { levels = e.room.levels + 1; size = e.room.size };
  spare = e.spare - 1;
}
