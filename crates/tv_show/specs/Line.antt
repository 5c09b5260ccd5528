-- One line of text for a structure.
use Rattle.std.specs.Prelude.{ℕ, ◌+◌, ◌==◌, ◌&&◌, Bool, false, List, [], ◌∷◌, ◌++◌, map, filter, length}
use Rattle.std.specs.Prelude.{Option, Some, None, slice_index_or, if◌then◌else◌, codes, decimal}
use Rattle.std.specs.List.{flat_map, range_with_len}
use Rattle.tv_kleene.specs.declared.K3.{K3}
use Rattle.tv_kleene.specs.declared.K3.TheVariants.{No}
use Rattle.tv_model.specs.declared.program.Pred.{Pred}
use Rattle.tv_model.specs.declared.program.Vocab.{Vocab}
use Rattle.tv_row.specs.Bits.{is_certain}
use Rattle.tv_structure_form.specs.StructureForm.{StructureForm, value_at, summary_at}
use Rattle.tv_struct.specs.StructureRows.{unary_row}
use Rattle.tv_show.specs.Texts.{marked, joined, valued, arrow_text, of_arity}

-- ---- what an individual is called

-- an individual stands in parentheses, and a summary in double ones
abbrev pub opening : (summary : Bool) → List ℕ
opening summary = if summary then codes "((" else codes "("

abbrev pub closing : (summary : Bool) → List ℕ
closing summary = if summary then codes "))" else codes ")"

-- the places of Yes in a row of values
abbrev pub yes_places : List K3 → List ℕ
yes_places row = filter (λ u. is_certain (slice_index_or row u No)) (range_with_len 0 (length row))

abbrev pub is_only : ℕ → List ℕ → Bool
is_only u [] = false
is_only u (w ∷ []) = w == u
is_only u (w ∷ x ∷ others) = false

-- the first unary predicate, from a number on, that is Yes of the individual and of no other
abbrev pub telling : StructureForm → (u p : ℕ) → List Pred → Option (List ℕ)
telling s u p [] = None
telling s u p (pred ∷ preds) =
    if pred.arity == 1 && is_only u (yes_places (unary_row s p)) then Some pred.name
    else telling s u (p + 1) preds

-- an individual's number
abbrev pub numeral : ℕ → List ℕ
numeral u = codes "#" ++ decimal u

-- what an individual is called: the predicate that tells it from the others, else its number
abbrev pub called : ℕ → Option (List ℕ) → List ℕ
called u None = numeral u
called u (Some name) = name

-- the number is said where no predicate tells the individual from the others
abbrev pub numbered : ℕ → Option (List ℕ) → List (List ℕ)
numbered u None = numeral u ∷ []
numbered u (Some name) = []

-- ---- the line

-- the values of the unary predicates
abbrev pub unary_texts : List Pred → StructureForm → ℕ → List (List ℕ)
unary_texts preds s u = of_arity 1 (λ p name. valued name (value_at s p (u ∷ []))) 0 preds

-- an individual with all that is said of it
abbrev pub node_text : List Pred → StructureForm → ℕ → List ℕ
node_text preds s u =
    opening (summary_at s u)
    ++ (joined (numbered u (telling s u 0 preds) ++ unary_texts preds s u) ++ closing (summary_at s u))

-- an individual by what it is called
abbrev pub target_text : List Pred → StructureForm → ℕ → List ℕ
target_text preds s u =
    opening (summary_at s u) ++ (called u (telling s u 0 preds) ++ closing (summary_at s u))

-- the arrows of a binary predicate from an individual
abbrev pub row_texts : List Pred → StructureForm → ℕ → (p : ℕ) → (name : List ℕ) → List (List ℕ)
row_texts preds s u p name =
    flat_map (λ w. map (λ n. arrow_text n (target_text preds s w)) (valued name (value_at s p (u ∷ w ∷ []))))
    (range_with_len 0 s.size)

abbrev pub arrow_texts : List Pred → StructureForm → ℕ → List (List ℕ)
arrow_texts preds s u = of_arity 2 (row_texts preds s u) 0 preds

-- an individual, and the arrows from it
abbrev pub individual_text : List Pred → StructureForm → ℕ → List ℕ
individual_text preds s u = node_text preds s u ++ joined (arrow_texts preds s u)

abbrev pub nullary_texts : List Pred → StructureForm → List (List ℕ)
nullary_texts preds s = of_arity 0 (λ p name. valued name (value_at s p [])) 0 preds

-- the individuals in order, then the predicates without arguments, each behind two blanks
abbrev pub line_of : Vocab → StructureForm → List ℕ
line_of vocab s =
    marked (codes "  ")
    (map (individual_text vocab.preds s) (range_with_len 0 s.size) ++ nullary_texts vocab.preds s)
