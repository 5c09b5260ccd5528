-- How the texts of a line are put together.
use Rattle.std.specs.Prelude.{ℕ, ◌+◌, ◌==◌, List, [], ◌∷◌, ◌++◌, drop, if◌then◌else◌, codes}
use Rattle.std.specs.List.{flat_map}
use Rattle.tv_kleene.specs.declared.K3.{K3}
use Rattle.tv_kleene.specs.declared.K3.TheVariants.{No, Half, Yes}
use Rattle.tv_model.specs.declared.program.Pred.{Pred}

-- texts, each behind a mark
abbrev pub marked : (mark : List ℕ) → List (List ℕ) → List ℕ
marked mark texts = flat_map (λ text. mark ++ text) texts

-- texts with `&` between them
abbrev pub joined : List (List ℕ) → List ℕ
joined texts = drop 1 (marked (codes "&") texts)

-- what is written of a value: nothing of No, the name of Yes, and the name and `?` of Half
abbrev pub valued : (name : List ℕ) → K3 → List (List ℕ)
valued name No = []
valued name Half = (name ++ codes "?") ∷ []
valued name Yes = name ∷ []

-- `-n->(y)`, and `-n?->(y)` where it is unknown
abbrev pub arrow_text : (name target : List ℕ) → List ℕ
arrow_text name target = codes "-" ++ (name ++ (codes "->" ++ target))

-- what is said of each predicate of an arity, from a number on, in declaration order
abbrev pub of_arity : (arity : ℕ) → (ℕ → (name : List ℕ) → List (List ℕ)) → ℕ → List Pred → List (List ℕ)
of_arity arity say p [] = []
of_arity arity say p (pred ∷ preds) =
    (if pred.arity == arity then say p pred.name else []) ++ of_arity arity say (p + 1) preds
