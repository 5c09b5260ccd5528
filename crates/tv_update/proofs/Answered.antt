-- What is said of the tables of an update.
use Rattle.std.proofs.Common.{ℕ, ◌≡◌, ◌≢◌, ◌<◌, ◌≤◌, ◌+◌, ◌⊎◌, inl, inr, Bool, true, false, List, length}
use Rattle.std.proofs.Common.{get_or, map, Option, Some, None, refl, sym, ap, subst, ◌∙◌, arith, All}
use Rattle.std.proofs.Common.{Contains}
use Rattle.std.specs.Prelude.{IsSomeAnd, Result, Ok, Err, IfOk, OnOk}
use Rattle.std.proofs.lemmas.Bool.{cases_eq}
use Rattle.std.proofs.lemmas.List.{get_or-map}
use Rattle.std.proofs.lemmas.List.FromFn.{length-range_with_len}
use Rattle.tv_model.specs.declared.program.Action.{Action}
use Rattle.tv_model.specs.declared.program.Mode.{Mode}
use Rattle.tv_model.specs.declared.program.Program.{Program}
use Rattle.tv_model.specs.Program.{ProgramForm, ActionForm, action_of, program_of}
use Rattle.tv_model.specs.Truth.{Assignment}
use Rattle.tv_model.specs.Valid.{IsValid}
use Rattle.tv_model.proofs.Lists.{Contains-map}
use Rattle.tv_structure_form.specs.Halves.{row_halves}
use Rattle.tv_structure_form.specs.StructureForm.{StructureForm, IsStructure, IsOver, structure_of}
use Rattle.tv_structure_form.specs.StructureForm.{arities_of}
use Rattle.tv_structure_form.specs.StructureForm.{with_new}
use Rattle.tv_struct.specs.declared.analysis.StageError.{StageError}
use Rattle.tv_struct.specs.declared.analysis.StageError.TheVariants.{Splits, Individuals, Memory}
use Rattle.tv_eval.specs.AssignmentForm.{assignment_of, IsAssigned, individual_for}
use Rattle.tv_eval.specs.ScratchForm.{ScratchForm, IsMadeFor}
use Rattle.tv_update_laws.specs.Choices.{AreGiven}
use Rattle.tv_update_laws.specs.Tables.{middle_table, IsGivenOver}
use Rattle.tv_update_laws.proofs.Tables.{tables_are_middle, over-middle}
use Rattle.tv_update.specs.Update.{no_action, action_at, IsFull, IsUpdateCause, IsGivenOf, IsAnswer}
use Rattle.tv_update.specs.Updated.{CanApply, IsPrepareCause, keep_values}
use Rattle.tv_update.proofs.Limits.{too_large, picks_inside, few_are_not_many, many_are_many}
use Rattle.tv_update.proofs.Sole.{is_sole, keeps_steps}

over-of : (s m : StructureForm) → arities_of m ≡ arities_of s → (ts : List StructureForm)
    → All (IsGivenOver m) ts → All (IsGivenOver s) ts
over-of s m same ts all =
    λ k d lt. record {
      is = (all k d lt).is;
      over = (all k d lt).over
          ∙ same;
      unmarked = (all k d lt).unmarked;
    }

-- what is given, and what is known beside it, where anything is given
pub both_ok : {T E : Type 0} (r : Result T E) (P : T → Type 0) (Q : Type 0) (R : T → Type 0)
    → ((t : T) → P t → Q → R t) → IfOk r P → OnOk r Q → IfOk r R
both_ok (Ok t) P Q R join p q = join t p q
both_ok (Err e) P Q R join p q = tt

pub answered : (program : Program) (action : Action) (mode : Mode) (places : List (Option ℕ))
    (s : StructureForm) (room : ScratchForm)
    → IsStructure s → CanApply program action places s room → ¬ IsFull (action_of action) s
    → row_halves (keep_values (middle_table (action_of action).fresh s) (assignment_of places)
    (action_of action).retain) ≤ 12 → (ts : List StructureForm)
    → IsGivenOf (program_of program) mode (action_of action) (assignment_of places)
    (middle_table (action_of action).fresh s) ts
    → IsAnswer (program_of program) mode (action_of action) s (assignment_of places) ts
answered program action mode places s room is can room_left few ts of = record {
  given = given;
  over = over;
  sole = is_sole p can.valid mode a can.is_action s picks inside ts given over;
  within = record {
    small = λ large. room_left (too_large a s is large);
    few = few_are_not_many p can.valid a can.is_action s is picks inside few;
  };
  heaps = keeps_steps p can.valid mode a can.is_action s picks ts given;
}
  where
    p : ProgramForm
    p = program_of program

    a : ActionForm
    a = action_of action

    picks : Assignment
    picks = assignment_of places

    inside : All (λ v. Contains (structure_of s).individuals (assignment_of places v))
        (action_of action).picks
    inside = picks_inside s places (action_of action) can.picks

    given : AreGiven (program_of program) mode (action_of action) (structure_of s) (assignment_of places)
        (map structure_of ts)
    given = (
      structure_of (middle_table (action_of action).fresh s),
      tables_are_middle
          (action_of action).fresh s is,
      of.given,
    )

    over : All (IsGivenOver s) ts
    over = over-of s (middle_table (action_of action).fresh s)
        (over-middle (action_of action).fresh s is) ts of.over

pub refused : (action : ActionForm) (s : StructureForm) (picks : Assignment) → IsStructure s
    → ¬ IsFull action s → (fault : StageError)
    → IsPrepareCause (keep_values (middle_table action.fresh s) picks action.retain) fault
    → IsUpdateCause action s picks fault
refused action s picks is room_left Splits many =
    (λ large. room_left (too_large action s is large), many_are_many action s is picks many)
refused action s picks is room_left Individuals never = absurd never
refused action s picks is room_left Memory any = tt

-- the action can be applied to the middle table as well
pub can_apply_middle : (program : Program) (action : Action) (places : List (Option ℕ)) (s : StructureForm)
    (room : ScratchForm)
    → IsStructure s → CanApply program action places s room → ¬ IsFull (action_of action) s
    → CanApply program action places (middle_table (action_of action).fresh s) room
can_apply_middle program action places s room is can room_left = record {
  valid = can.valid;
  is_action = can.is_action;
  over = over-middle (action_of action).fresh s is ∙ can.over;
  small = small (action_of action).fresh refl;
  picks = λ k d lt. wider (action_of action).fresh (individual_for places _) (can.picks k d lt);
  made = can.made;
}
  where
    small : (b : Bool) → (action_of action).fresh ≡ b → (middle_table b s).size ≤ 256
    small false e = can.small
    small true e = below (cases_eq s.size 256)
      where
        grown : (with_new s).size ≡ s.size + 1
        grown = length-range_with_len 0 (s.size + 1)

        below : (s.size ≡ 256) ⊎ (s.size ≢ 256) → (with_new s).size ≤ 256
        below (inl full) = absurd (room_left (record { adds = e; full = full }))
        below (inr ne) = omega (arith, grown, can.small, ne)

    wider : (b : Bool) (o : Option ℕ) → IsSomeAnd o (λ u. u < s.size)
        → IsSomeAnd o (λ u. u < (middle_table b s).size)
    wider false o lt = lt
    wider true None never = never
    wider true (Some u) lt = omega (arith, lt, length-range_with_len 0 (s.size + 1))

-- ---- the action with a number of the program

pub action_is : (program : Program) (actions : List Action) (n : ℕ) (a : Action) → actions ≡ program.actions
    → n < length program.actions → a ≡ get_or actions n a → action_of a ≡ action_at program n
action_is program actions n a same lt at =
    ap action_of at ∙ ap (λ xs. action_of (get_or xs n a)) same
    ∙ sym (get_or-map action_of program.actions n a no_action lt)

-- is one of the program's
pub holds_action : (program : Program) (actions : List Action) (n : ℕ) (a : Action) → actions ≡ program.actions
    → n < length program.actions → a ≡ get_or actions n a → Contains (program_of program).actions (action_of a)
holds_action program actions n a same lt at =
    Contains-map action_of a program.actions (n, lt, ap (λ xs. get_or xs n a) (sym same) ∙ sym at)

pub can_apply_at : (program : Program) (actions : List Action) (n : ℕ) (a : Action) (places : List (Option ℕ))
    (s : StructureForm) (room : ScratchForm)
    → actions ≡ program.actions → n < length program.actions → a ≡ get_or actions n a
    → IsValid (program_of program)
    → IsOver program.vocab s → s.size ≤ 256 → All (IsAssigned s.size places) (action_at program n).picks
    → IsMadeFor (program_of program) 256 room → CanApply program a places s room
can_apply_at program actions n a places s room same lt at valid over small picks made = record {
  valid = valid;
  is_action = holds_action program actions n a same lt at;
  over = over;
  small = small;
  picks = subst (λ (x : ActionForm). All (IsAssigned s.size places) x.picks)
      (sym (action_is program actions n a same lt at)) picks;
  made = made;
}
