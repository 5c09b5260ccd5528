-- The texts of traces.
use Rattle.std.specs.Prelude.{ℕ, List, [], ◌∷◌, ◌++◌, Option, None, Some, codes, decimal, map}
use Rattle.tv_model.specs.declared.program.Vocab.{Vocab}
use Rattle.tv_structure_form.specs.StructureForm.{StructureForm}
use Rattle.tv_trace.specs.declared.trace.Move.{Move}
use Rattle.tv_tvs.specs.Canonical.{canonical_text, comma_text}

-- ` (U, V)`, the individuals that a move picks; nothing where it picks none
abbrev pub picks_text : (picks : List ℕ) → List ℕ
picks_text [] = []
picks_text (u ∷ us) = codes " (" ++ (comma_text (map decimal (u ∷ us)) ++ codes ")")

-- `free` and the structure, where there is one
abbrev pub all_values_text : Vocab → Option StructureForm → List ℕ
all_values_text vocab None = []
all_values_text vocab (Some s) = codes "free\n" ++ canonical_text vocab s

-- `step NUMBER`, the individuals that are picked, and the values that are given
abbrev pub move_text : Vocab → Move → List ℕ
move_text vocab move =
    codes "step " ++ (decimal move.edge
    ++ (picks_text move.picks ++ (codes "\n" ++ all_values_text vocab move.values)))

abbrev pub trace_text : Vocab → List Move → List ℕ
trace_text vocab [] = []
trace_text vocab (move ∷ moves) = move_text vocab move ++ trace_text vocab moves
