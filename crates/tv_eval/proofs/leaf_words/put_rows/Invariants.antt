-- the rows so far are those of the predicate
use Rattle.std.proofs.Common.{ℕ, ◌≡◌, ◌<◌, [], ◌∷◌, length, get_or}
use Rattle.tv_row.specs.Places.{entry_in}
use Rattle.tv_structure_form.specs.StructureForm.{value_at}
use Rattle.tv_eval.proofs.leaf_words.put_rows.Given as goal

abbrev pub invariant-loop-u : goal.invariant-loop-u
invariant-loop-u l =
    (length l.relation ≡ length l.initial.relation)
    × ((v : ℕ) → v < l.u → length (get_or l.relation v []) ≡ l.s.size)
    × ((v x : ℕ) → v < l.u → x < l.s.size → entry_in l.relation v x ≡ value_at l.s l.pred.0 (v ∷ x ∷ []))
