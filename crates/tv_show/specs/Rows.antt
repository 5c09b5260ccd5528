-- What is written of predicates and of rows of values, as the writer sees it: text by text.
use Rattle.std.specs.Prelude.{ℕ, ◌+◌, ◌==◌, List, [], ◌∷◌, ◌++◌, map, length, codes, slice_index_or}
use Rattle.std.specs.Prelude.{if◌then◌else◌}
use Rattle.std.specs.List.{flat_map, range_with_len}
use Rattle.tv_kleene.specs.declared.K3.{K3}
use Rattle.tv_kleene.specs.declared.K3.TheVariants.{No}
use Rattle.tv_model.specs.declared.program.Pred.{Pred}
use Rattle.tv_structure_form.specs.StructureForm.{StructureForm, value_at}
use Rattle.tv_struct.specs.StructureRows.{row_at}
use Rattle.tv_show.specs.Texts.{marked, valued, arrow_text}

-- the texts of the predicates of an arity, from a number on
abbrev pub each_pred : (arity : ℕ) → (ℕ → (name : List ℕ) → List ℕ) → ℕ → List Pred → List ℕ
each_pred arity text p [] = []
each_pred arity text p (pred ∷ preds) =
    (if pred.arity == arity then text p pred.name else []) ++ each_pred arity text (p + 1) preds

-- what is said of an individual, each behind `&`, and of the structure, each behind two blanks
abbrev pub unary_marked : StructureForm → (u p : ℕ) → (name : List ℕ) → List ℕ
unary_marked s u p name = marked (codes "&") (valued name (value_at s p (u ∷ [])))

abbrev pub nullary_marked : StructureForm → (p : ℕ) → (name : List ℕ) → List ℕ
nullary_marked s p name = marked (codes "  ") (valued name (value_at s p []))

-- the arrows of a row of values to these individuals, each behind `&`
abbrev pub arrow_marked : (name target : List ℕ) → K3 → List ℕ
arrow_marked name target value = marked (codes "&") (map (λ n. arrow_text n target) (valued name value))

abbrev pub row_marked : (name : List ℕ) → (targets : List (List ℕ)) → List K3 → List ℕ
row_marked name targets values =
    flat_map (λ w. arrow_marked name (slice_index_or targets w []) (slice_index_or values w No))
    (range_with_len 0 (length values))

abbrev pub binary_marked : StructureForm → (targets : List (List ℕ)) → (u p : ℕ) → (name : List ℕ) → List ℕ
binary_marked s targets u p name = row_marked name targets (row_at s p u)
