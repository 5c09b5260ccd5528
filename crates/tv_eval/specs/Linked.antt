-- Runs whose parts hang together like a chain.
use Rattle.std.specs.Prelude.{ℕ, ◌≡◌, Bool, true, List, [], ◌∷◌, Option, map}
use Rattle.std.specs.List.{range_with_len}
use Rattle.tv_kleene.specs.declared.K3.{K3}
use Rattle.tv_model.specs.Form.{Form}
use Rattle.tv_model.specs.Truth.{Assignment, put}
use Rattle.tv_structure_form.specs.StructureForm.{StructureForm, structure_of}
use Rattle.tv_quantifiers.specs.declared.quantifier.Quantifier.{Quantifier}
use Rattle.tv_quantifiers.specs.declared.runs.Level.{Level}
use Rattle.tv_quantifiers.specs.Chains.{Signed, pushed}
use Rattle.tv_eval.specs.CanEvaluate.{CanEvaluate}

-- each part that is chosen may be evaluated, under the quantifiers around it
abbrev pub CanTake : StructureForm → List (Option ℕ) → (sizes : List ℕ) → (chosen : Form → Bool)
    → (around : Form → Form) → List Signed → Type 0
CanTake s places sizes chosen around [] = Unit {0}
CanTake s places sizes chosen around (p ∷ ps) =
    (chosen p.form ≡ true → CanEvaluate s places sizes (around p.form))
    × CanTake s places sizes chosen around ps

-- the values of what is left of a run for all individuals, put for v
abbrev pub rest_along : StructureForm → Assignment → Quantifier → (v : ℕ) → List Level → List Signed → List K3
rest_along s a sign v ls ps =
    map (λ u. pushed sign (structure_of s) (put a v u) ls ps) (range_with_len 0 s.size)
