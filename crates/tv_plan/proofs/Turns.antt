-- Turns of the loops that write predicates and edges.
use Rattle.std.proofs.Common.{ℕ, ◌≡◌, ◌∙◌, ◌+◌, Bool, List, ◌++◌, Some, drop, ap, sym, append_assoc}
use Rattle.std.specs.Prelude.{slice_get}
use Rattle.tv_lemmas.proofs.Lists.{drop_there, two_behind}
use Rattle.tv_model.specs.declared.program.Mode.{Mode}
use Rattle.tv_model.specs.Program.{PredForm, ProgramForm}
use Rattle.tv_plan.specs.Fates.{FateForm}
use Rattle.tv_plan.specs.Texts.{edge_fates, edge_head_line, kind_line, plan_lines, pred_lines}

pub pred_turn : (preds : List PredForm) (fate : ℕ → FateForm) (ds : List PredForm) (q : ℕ) (d : PredForm)
    (out new total : List ℕ) → slice_get ds q ≡ Some d → new ≡ out ++ kind_line preds d.name d.kind (fate q)
    → out ++ pred_lines preds fate q (drop q ds) ≡ total
    → new ++ pred_lines preds fate (q + 1) (drop (q + 1) ds) ≡ total
pred_turn preds fate ds q d out new total at grown so_far =
    ap (λ t. t ++ pred_lines preds fate (q + 1) (drop (q + 1) ds)) grown
    ∙ append_assoc out (kind_line preds d.name d.kind (fate q)) (pred_lines preds fate (q + 1) (drop (q + 1) ds))
    ∙ ap (λ rest. out ++ pred_lines preds fate q rest) (sym (drop_there ds q d at)) ∙ so_far

pub edge_turn : (p : ProgramForm) (mode : Mode) (changed : ℕ → ℕ → Bool) (heads : List (List ℕ)) (number : ℕ)
    (head out mid new total : List ℕ) → slice_get heads number ≡ Some head
    → mid ≡ out ++ edge_head_line number head
    → new ≡ mid ++ edge_fates p mode (changed number) (slice_get p.edges number)
    → out ++ plan_lines p mode changed number (drop number heads) ≡ total
    → new ++ plan_lines p mode changed (number + 1) (drop (number + 1) heads) ≡ total
edge_turn p mode changed heads number head out mid new total at first second so_far =
    let lines = edge_fates p mode (changed number) (slice_get p.edges number)
    in let later = plan_lines p mode changed (number + 1) (drop (number + 1) heads)
    in ap (λ t. t ++ later) (two_behind out mid new (edge_head_line number head) lines first second)
    ∙ append_assoc out (edge_head_line number head ++ lines) later
    ∙ ap (λ rest. out ++ plan_lines p mode changed number rest) (sym (drop_there heads number head at)) ∙ so_far
