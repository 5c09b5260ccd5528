-- The text of a plan: each edge, and what becomes of each defined predicate along it.
use Rattle.std.specs.Prelude.{ℕ, ◌≡◌, ◌+◌, Bool, List, [], ◌∷◌, ◌++◌, Option, None, Some, slice_get, codes}
use Rattle.tv_file_lines.specs.Numbered.{numbered}
use Rattle.tv_formula_text.specs.Entries.{update_entry}
use Rattle.tv_model.specs.declared.program.Edge.{Edge}
use Rattle.tv_model.specs.declared.program.Mode.{Mode}
use Rattle.tv_model.specs.Program.{ActionForm, KindForm, KCore, KDefined, PredForm, ProgramForm}
use Rattle.tv_update_laws.specs.Applied.{AreChanged}
use Rattle.tv_plan.specs.Fates.{FateForm, Updated, Kept, EvaluatedAnew, fate_at}

abbrev pub fate_words : List PredForm → FateForm → List ℕ
fate_words preds (Updated w) = codes " updated: " ++ update_entry preds w
fate_words preds Kept = codes " kept"
fate_words preds EvaluatedAnew = codes " evaluated anew"

-- `  NAME FATE`
abbrev pub defined_line : List PredForm → (name : List ℕ) → FateForm → List ℕ
defined_line preds name fate = codes "  " ++ (name ++ (fate_words preds fate ++ codes "\n"))

-- for a defined predicate, and nothing for one that is core
abbrev pub kind_line : List PredForm → (name : List ℕ) → KindForm → FateForm → List ℕ
kind_line preds name KCore fate = []
kind_line preds name (KDefined vars body) fate = defined_line preds name fate

-- predicates, of which the first has this number
abbrev pub pred_lines : List PredForm → (fate : ℕ → FateForm) → (number : ℕ) → List PredForm → List ℕ
pred_lines preds fate number [] = []
pred_lines preds fate number (d ∷ ds) =
    kind_line preds d.name d.kind (fate number) ++ pred_lines preds fate (number + 1) ds

abbrev pub action_fates : ProgramForm → Mode → (changed : ℕ → Bool) → Option ActionForm → List ℕ
action_fates p mode changed None = []
action_fates p mode changed (Some action) =
    pred_lines p.preds (fate_at p mode action changed) 0 p.preds

-- the fates along the edge, whose action changes these predicates
abbrev pub edge_fates : ProgramForm → Mode → (changed : ℕ → Bool) → Option Edge → List ℕ
edge_fates p mode changed None = []
edge_fates p mode changed (Some edge) = action_fates p mode changed (slice_get p.actions edge.action)

-- `edge NUMBER`, two spaces and the head of the edge
abbrev pub edge_head_line : (number : ℕ) → (head : List ℕ) → List ℕ
edge_head_line number head = numbered (codes "edge ") number ++ (codes "  " ++ (head ++ codes "\n"))

-- edges by their heads, of which the first has this number, each with its lines: `changed` tells for each
-- edge, by number, which predicates its action changes
abbrev pub plan_lines : ProgramForm → Mode → (changed : ℕ → ℕ → Bool) → (number : ℕ)
    → (heads : List (List ℕ)) → List ℕ
plan_lines p mode changed number [] = []
plan_lines p mode changed number (head ∷ heads) =
    (edge_head_line number head ++ edge_fates p mode (changed number) (slice_get p.edges number))
    ++ plan_lines p mode changed (number + 1) heads

-- the plan of a program in a mode, whose edges have these heads, in their order
pub record IsPlanText (p : ProgramForm) (mode : Mode) (heads : List (List ℕ)) (text : List ℕ) : Type 0 where
  pub changed : (number q : ℕ) → Bool
  pub are_changed : (number : ℕ) (edge : Edge) (action : ActionForm) → slice_get p.edges number ≡ Some edge
      → slice_get p.actions edge.action ≡ Some action → AreChanged p mode action (changed number)
  pub written : text ≡ plan_lines p mode changed 0 heads
