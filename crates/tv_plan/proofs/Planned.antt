-- The text by what is evaluated anew is that by what is changed.
use Rattle.std.proofs.Common.{ℕ, ◌≡◌, ◌∙◌, ◌+◌, Bool, false, true, List, [], ◌∷◌, ◌++◌, length, Option, None}
use Rattle.std.proofs.Common.{Some, map, refl, sym, ap, subst, ⊎_elim, eqb, eq-eqb, arith, Contains}
use Rattle.std.specs.Prelude.{Any, slice_get, slice_index_or}
use Rattle.std.proofs.lemmas.Bool.{eqb-true}
use Rattle.std.proofs.lemmas.List.{length-append}
use Rattle.std.proofs.lemmas.List.Folds.{Any-from_list_any, list_any-from_Any}
use Rattle.std.proofs.lemmas.Option.{get_or_from_slice_get, none-some, same_Some, slice_get-get_or}
use Rattle.std.proofs.lemmas.Option.{slice_get_within}
use Rattle.tv_lemmas.proofs.Bools.{same_tests}
use Rattle.tv_lemmas.proofs.Lists.{pushed_at}
use Rattle.tv_model.specs.declared.formula.PredId.{PredId}
use Rattle.tv_model.specs.declared.program.Edge.{Edge}
use Rattle.tv_model.specs.declared.program.Mode.{Mode}
use Rattle.tv_model.specs.declared.program.Program.{Program}
use Rattle.tv_model.specs.Program.{ActionForm, PredForm, ProgramForm, UpdateForm, program_of}
use Rattle.tv_model.proofs.Lists.{Contains-map, Contains-map_back}
use Rattle.tv_update_laws.specs.Applied.{AreChanged, update_at}
use Rattle.tv_update.specs.Plan.{IsPlanFor}
use Rattle.tv_update.specs.Update.{action_at, no_action}
use Rattle.tv_plan.specs.Fates.{FateForm, fate_at, fate_of}
use Rattle.tv_plan.specs.Orders.{ArePlansTo, is_held, is_held_at}
use Rattle.tv_plan.specs.Texts.{IsPlanText, action_fates, edge_fates, edge_head_line, kind_line, plan_lines}
use Rattle.tv_plan.specs.Texts.{pred_lines}

-- ---- plans of edges

pub plans-next : (program : Program) (mode : Mode) (orders : List (List PredId)) (n : ℕ) (edge : Edge)
    (order : List PredId) → ArePlansTo program mode n orders → slice_get program.edges n ≡ Some edge
    → IsPlanFor (program_of program) mode (action_at program edge.action) order
    → ArePlansTo program mode (n + 1) (orders ++ order ∷ [])
plans-next program mode orders n edge order are here plan = record {
  count = length-append orders (order ∷ []) ∙ ap (λ k. k + 1) are.count;
  each = λ number other held there at. ⊎_elim (λ earlier. are.each number other held earlier at)
      (λ last. subst (λ (e : Edge). IsPlanFor (program_of program) mode (action_at program e.action) held)
      (same_Some edge other
      (sym (subst (λ k. slice_get program.edges k ≡ Some edge) (sym (last.0 ∙ are.count)) here) ∙ at))
      (subst (IsPlanFor (program_of program) mode (action_at program edge.action)) last.1 plan))
      (pushed_at orders order held number there);
}

-- ---- what is held of a plan

held-contains : (order : List PredId) (q : ℕ) → is_held order q ≡ true → Contains (map (λ x. x.0) order) q
held-contains order q held = by (Any-from_list_any (λ (r : PredId). eqb r.0 q) order held)
  where
    by : Any (λ (r : PredId). eqb r.0 q ≡ true) order → Contains (map (λ x. x.0) order) q
    by (k, r, within, at, same) =
        subst (Contains (map (λ (x : PredId). x.0) order)) (eqb-true r.0 q same)
        (Contains-map (λ (x : PredId). x.0) r order (k, within, at))

contains-held : (order : List PredId) (q : ℕ) → Contains (map (λ x. x.0) order) q → is_held order q ≡ true
contains-held order q has = by (Contains-map_back (λ (x : PredId). x.0) order q has)
  where
    by : (r : PredId) × Contains order r × (r.0 ≡ q) → is_held order q ≡ true
    by (r, (k, within, at), same) =
        list_any-from_Any (λ (x : PredId). eqb x.0 q) order (k, r, within, at, eq-eqb r.0 q same)

-- the fate is the same by what is changed
same-fate : (p : ProgramForm) (mode : Mode) (action : ActionForm) (order : List PredId)
    (plan : IsPlanFor p mode action order) (q : ℕ)
    → fate_at p mode action (is_held order) q ≡ fate_at p mode action plan.changed q
same-fate p mode action order plan q = by (update_at p mode action q) refl
  where
    by : (used : Option UpdateForm) → update_at p mode action q ≡ used
        → fate_of used (is_held order q) ≡ fate_of used (plan.changed q)
    by (Some w) u = refl
    by None u = ap (fate_of None)
        (same_tests (is_held order q) (plan.changed q)
        (λ held. ((plan.members q).0 (held-contains order q held)).0)
        (λ is. contains-held order q ((plan.members q).1 (is, u))))

-- ---- texts

same-preds : (preds : List PredForm) (fate other : ℕ → FateForm) → ((q : ℕ) → fate q ≡ other q)
    → (number : ℕ) (ds : List PredForm) → pred_lines preds fate number ds ≡ pred_lines preds other number ds
same-preds preds fate other same number [] = refl
same-preds preds fate other same number (d ∷ ds) =
    ap (λ f. kind_line preds d.name d.kind f ++ pred_lines preds fate (number + 1) ds) (same number)
    ∙ ap (λ t. kind_line preds d.name d.kind (other number) ++ t)
    (same-preds preds fate other same (number + 1) ds)

module _ (program : Program) (mode : Mode) (orders : List (List PredId))
    (are : ArePlansTo program mode (length program.edges) orders) where
  -- what is changed along the edge of this number, and that it gives the same lines
  pub record Told (number : ℕ) : Type 0 where
    pub changed : ℕ → Bool
    pub are_changed : (edge : Edge) (action : ActionForm) → slice_get program.edges number ≡ Some edge
        → slice_get (program_of program).actions edge.action ≡ Some action
        → AreChanged (program_of program) mode action changed
    pub same : edge_fates (program_of program) mode (is_held_at orders number) (slice_get program.edges number)
        ≡ edge_fates (program_of program) mode changed (slice_get program.edges number)

  told : (number : ℕ) → Told number
  told number = by (slice_get program.edges number) refl
    where
      same-action : (order : List PredId) (changed : ℕ → Bool) (action : Option ActionForm)
          → ((a : ActionForm) → action ≡ Some a → (q : ℕ)
          → fate_at (program_of program) mode a (is_held order) q ≡ fate_at (program_of program) mode a changed q)
          → action_fates (program_of program) mode (is_held order) action
          ≡ action_fates (program_of program) mode changed action
      same-action order changed None same = refl
      same-action order changed (Some a) same =
          same-preds (program_of program).preds (fate_at (program_of program) mode a (is_held order))
          (fate_at (program_of program) mode a changed) (same a refl) 0 (program_of program).preds

      by : (o : Option Edge) → slice_get program.edges number ≡ o → Told number
      by None none = record {
        changed = λ q. false;
        are_changed = λ edge action at there. absurd (none-some edge (sym none ∙ at));
        same = rw none refl;
      }
      by (Some edge) at =
          let order = slice_index_or orders number []
          in let there : slice_get orders number ≡ Some order = slice_get-get_or orders number []
          (omega (arith, slice_get_within program.edges number edge at, are.count))
          in let plan = are.each number edge order there at
          in let is : (action : ActionForm) → slice_get (program_of program).actions edge.action ≡ Some action
          → action_at program edge.action ≡ action
          = λ action found. get_or_from_slice_get (program_of program).actions edge.action action no_action found
          in record {
            changed = plan.changed;
            are_changed = λ other action here found.
                let one : edge ≡ other = same_Some edge other (sym at ∙ here)
                in subst (λ (a : ActionForm). AreChanged (program_of program) mode a plan.changed)
                (is action (subst (λ (e : Edge). slice_get (program_of program).actions e.action ≡ Some action)
                (sym one) found)) plan.are_changed;
            same = rw at (same-action order plan.changed (slice_get (program_of program).actions edge.action)
                (λ action found q. subst
                (λ (a : ActionForm). fate_at (program_of program) mode a (is_held order) q
                ≡ fate_at (program_of program) mode a plan.changed q) (is action found)
                (same-fate (program_of program) mode (action_at program edge.action) order plan q)));
          }

  same-plan : (number : ℕ) (heads : List (List ℕ))
      → plan_lines (program_of program) mode (is_held_at orders) number heads
      ≡ plan_lines (program_of program) mode (λ n. (told n).changed) number heads
  same-plan number [] = refl
  same-plan number (head ∷ heads) =
      ap (λ lines. (edge_head_line number head ++ lines)
      ++ plan_lines (program_of program) mode (is_held_at orders) (number + 1) heads) (told number).same
      ∙ ap (λ later. (edge_head_line number head
      ++ edge_fates (program_of program) mode (told number).changed (slice_get program.edges number)) ++ later)
      (same-plan (number + 1) heads)

  pub planned : (heads : List (List ℕ)) (text : List ℕ)
      → text ≡ plan_lines (program_of program) mode (is_held_at orders) 0 heads
      → IsPlanText (program_of program) mode heads text
  planned heads text is = record {
    changed = λ n. (told n).changed;
    are_changed = λ number. (told number).are_changed;
    written = is ∙ same-plan 0 heads;
  }
