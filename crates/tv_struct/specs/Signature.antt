-- The signature of a structure: a number that equal structures share.
use Rattle.std.specs.Prelude.{ℕ, List, [], ◌∷◌, ◌++◌, take, fold}
use Rattle.tv_kleene.specs.declared.K3.{K3}
use Rattle.tv_row.specs.Mixed.{word_mixed, row_mixed}
use Rattle.tv_row.specs.Packed.{cells_for, packed}
use Rattle.tv_row.specs.RowForm.{row_words}
use Rattle.tv_struct.specs.LayoutForm.{words_for}
use Rattle.tv_structure_form.specs.TableForm.{PlaneForm, TableForm}
use Rattle.tv_structure_form.specs.StructureForm.{StructureForm, table_of}
use Rattle.tv_struct.specs.StructureRows.{summary_row}

-- the words of rows, n words a row
abbrev pub rows_words : (n : ℕ) → List (List K3) → List (List K3)
rows_words n [] = []
rows_words n (row ∷ rows) = take n (row_words row) ++ rows_words n rows

-- the words of the rows of each predicate
abbrev pub planes_words : (n : ℕ) → List PlaneForm → List (List K3)
planes_words n [] = []
planes_words n (plane ∷ planes) = rows_words n plane.rows ++ planes_words n planes

abbrev pub table_words : TableForm → List (List K3)
table_words t = planes_words (words_for t.size) t.planes

-- and these words packed
abbrev pub table_packed : TableForm → List (List K3)
table_packed t = packed (record { cells = cells_for t.size; words = table_words t })

-- the size, the summaries and all values mixed, word by word
abbrev pub signature_of : StructureForm → ℕ
signature_of s = fold word_mixed (row_mixed s.size (summary_row s)) (table_packed (table_of s))
