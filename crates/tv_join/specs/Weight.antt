-- How far what is listed has risen: further whenever something changes, and never past a bound.
use Rattle.std.specs.Prelude.{ℕ, ◌+◌, ◌*◌, List, length, sum_by}
use Rattle.tv_structure_form.specs.Halves.{half_count}
use Rattle.tv_structure_form.specs.StructureForm.{StructureForm}
use Rattle.tv_work.specs.Task.{TaskForm}

-- one for the structure, and one for each value of it that is unknown and each summary
abbrev pub structure_weight : StructureForm → ℕ
structure_weight s = 1 + half_count s

abbrev pub structures_weight : List StructureForm → ℕ
structures_weight structures = sum_by structure_weight structures

abbrev pub listing_weight : List (List StructureForm) → ℕ
listing_weight listing = sum_by structures_weight listing

-- the most that one structure over the program can have
abbrev pub most_structure : TaskForm → ℕ
most_structure t = 257 + length t.program.preds * 65536

-- and all that may be listed
abbrev pub most_weight : TaskForm → ℕ
most_weight t = t.max * most_structure t
