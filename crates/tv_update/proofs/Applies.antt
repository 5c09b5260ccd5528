-- What an action of a valid program asks for where it is applied.
use Rattle.std.proofs.Common.{ℕ, ◌≡◌, ◌≢◌, ◌≤◌, ◌+◌, List, [], ◌∷◌, map, replicate, Option, None, Some, inl}
use Rattle.std.proofs.Common.{inr, ⊎_elim, refl, sym, ap, subst, ◌∙◌, arith, All, Contains, zero, suc}
use Rattle.std.specs.List.{AllByRecursion, range_with_len}
use Rattle.std.proofs.lemmas.List.Elements.{All-contains, All-replicate, Contains-append_cases}
use Rattle.tv_kleene.specs.declared.K3.TheVariants.{Yes}
use Rattle.tv_model.specs.declared.program.Action.{Action}
use Rattle.tv_model.specs.declared.program.Program.{Program}
use Rattle.tv_model.specs.declared.program.Retain.{Retain}
use Rattle.tv_model.specs.Form.{Form, IsFree, form_of, height}
use Rattle.tv_model.specs.Program.{ProgramForm, PredForm, ActionForm, RetainForm, UpdateForm, ChangeForm}
use Rattle.tv_model.specs.Program.{CFree, CTo, action_of, program_of, retain_of, update_of}
use Rattle.tv_model.specs.Truth.{Assignment}
use Rattle.tv_model.specs.Valid.{IsAction, IsRetain, IsUpdate, IsChange, IsVariable, IsFormulaOver}
use Rattle.tv_model.specs.Valid.{AreVariables}
use Rattle.tv_model.proofs.Lists.{Contains-here, Contains-there, Contains-cases, Contains-map}
use Rattle.tv_structure_form.specs.StructureForm.{StructureForm, arities_of}
use Rattle.tv_eval.specs.AssignmentForm.{IsAssigned}
use Rattle.tv_eval.specs.ScratchForm.{ScratchForm, HasScratchFor, program_height}
use Rattle.tv_eval.proofs.Programs.{within_height, made_scratches_fit, program_formulas_are_over}
use Rattle.tv_update.specs.Updated.{CanApply, CanChange, CanMake, keep_values}
use Rattle.tv_update.proofs.Defines.{pred_arity}

module _ (program : Program) (action : Action) (places : List (Option ℕ)) (s : StructureForm)
    (room : ScratchForm) (can : CanApply program action places s room) where
  abbrev p : ProgramForm
  p = program_of program

  abbrev a : ActionForm
  a = action_of action

  is-action : IsAction p a
  is-action = All-contains (IsAction p) p.actions a can.valid.actions can.is_action

  picked : (v : ℕ) → Contains a.picks v → IsAssigned s.size places v
  picked v at = All-contains (IsAssigned s.size places) a.picks v can.picks at

  high-enough : (f : Form) → height f ≤ program_height p → HasScratchFor room f s.size
  high-enough f high = made_scratches_fit p 256 s.size room f can.made (omega (arith, high)) can.small

  change-can : (d : PredForm) (w : UpdateForm) → Contains a.updates w → AreVariables d.arity w.vars
      → (change : ChangeForm) → w.change ≡ change → IsChange p a d w.vars change
      → CanChange s places w.vars room change
  change-can d w at vars CFree e is = tt
  change-can d w at vars (CTo f) e is = record {
    formula = program_formulas_are_over program s f can.over is.0.0;
    variables = vars.1;
    assigned = λ v free. ⊎_elim (λ own. inl own) (λ pick. inr (picked v pick))
        (Contains-append_cases w.vars a.picks v (is.1 v free));
    fits = high-enough f ((within_height p).updates a w f can.is_action at e);
  }

  update-can : (w : UpdateForm) → Contains a.updates w → CanMake s places room w
  update-can w at =
      let is : IsUpdate p a w = All-contains (IsUpdate p a) a.updates w is-action.updates at
      in record {
        arity = pred_arity program s can.over w.pred is.0 is.1 ∙ ap Some (sym is.2.0);
        change = change-can is.0 w at is.2 w.change refl is.3;
      }

pub each-by_recursion : {X : Type 0} (P : X → Type 0) (xs : List X) → ((x : X) → Contains xs x → P x)
    → AllByRecursion P xs
each-by_recursion P [] each = tt
each-by_recursion P (x ∷ xs) each =
    (each x (Contains-here x xs), each-by_recursion P xs (λ y at. each y (Contains-there x y xs at)))

-- its updates can be made
pub can_make_all : (program : Program) (action : Action) (places : List (Option ℕ)) (s : StructureForm)
    (room : ScratchForm) → CanApply program action places s room
    → AllByRecursion (λ w. CanMake s places room (update_of w)) action.updates
can_make_all program action places s room can =
    each-by_recursion (λ w. CanMake s places room (update_of w)) action.updates (λ w at.
    update-can program action places s room can (update_of w) (Contains-map update_of w action.updates at))

-- its retain formula can be evaluated for all individuals
pub record CanRetain (places : List (Option ℕ)) (s : StructureForm) (room : ScratchForm) (var : ℕ)
    (keep : Form) : Type 0 where
  pub formula : IsVariable var × IsFormulaOver (arities_of s) keep
  pub assigned : (v : ℕ) → (v ≢ var) × IsFree v keep → IsAssigned s.size places v
  pub fits : HasScratchFor room keep s.size

pub can_retain : (program : Program) (action : Action) (places : List (Option ℕ)) (s : StructureForm)
    (room : ScratchForm)
    → CanApply program action places s room → (r : RetainForm) → retain_of action.retain ≡ Some r
    → CanRetain places s room r.var r.keep
can_retain program action places s room can r e =
    let is : IsRetain (program_of program) (action_of action) (Some r)
    = subst (IsRetain (program_of program) (action_of action)) e
    (is-action program action places s room can).retain
    in record {
      formula = (is.2, program_formulas_are_over program s r.keep can.over is.0.0);
      assigned = λ v both.
          ⊎_elim (λ own. absurd (both.0 (sym own))) (picked program action places s room can v)
          (Contains-cases r.var v (action_of action).picks (is.1 v both.1));
      fits = high-enough program action places s room can r.keep
          ((within_height (program_of program)).retains (action_of action) r can.is_action e);
    }

-- without a retain formula all stay
pub all_yes : (start n : ℕ) → replicate n Yes ≡ map (λ u. Yes) (range_with_len start n)
all_yes start zero = refl
all_yes start (suc n) = ap (λ ks. Yes ∷ ks) (all_yes (start + 1) n)

pub all_stay : (s : StructureForm) (picks : Assignment) (retain : Option Retain) → retain ≡ None
    → All (λ k. k ≡ Yes) (keep_values s picks (retain_of retain))
all_stay s picks retain none =
    subst (λ o. All (λ k. k ≡ Yes) (keep_values s picks (retain_of o))) (sym none)
    (subst (All (λ k. k ≡ Yes)) (all_yes 0 s.size) (All-replicate (λ k. k ≡ Yes) s.size Yes refl))

-- in the evaluator's structure
pub can_retain_in : (program : Program) (action : Action) (places : List (Option ℕ)) (s seen : StructureForm)
    (room : ScratchForm)
    → CanApply program action places s room → seen ≡ s → (r : Retain) → action.retain ≡ Some r
    → CanRetain places seen room r.var.0 (form_of r.keep)
can_retain_in program action places s seen room can same r e =
    subst (λ t. CanRetain places t room r.var.0 (form_of r.keep)) (sym same)
    (can_retain program action places s room can (record { var = r.var.0; keep = form_of r.keep })
    (ap retain_of e))
