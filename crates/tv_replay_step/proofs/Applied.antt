-- The middle structure of a heap, and what an action makes of it.
use Rattle.std.proofs.Common.{ℕ, ◌≡◌, ◌<◌, ◌+◌, Bool, true, false, List, [], ◌∷◌, length, Option, Some, None}
use Rattle.std.proofs.Common.{sym, ap, subst, ◌∙◌, arith, All, Contains}
use Rattle.std.specs.Prelude.{IsSomeAnd}
use Rattle.std.proofs.lemmas.List.FromFn.{length-range_with_len}
use Rattle.std.proofs.lemmas.List.Elements.{All-contains, All-head}
use Rattle.tv_update_laws.specs.Tables.{IsGivenOver, middle_table}
use Rattle.tv_eval.specs.AssignmentForm.{IsAssigned, assignment_of, individual_for}
use Rattle.tv_model.specs.Program.{ProgramForm, ActionForm}
use Rattle.tv_model.specs.Valid.{IsAction}
use Rattle.tv_model.specs.declared.program.Mode.TheVariants.{Given}
use Rattle.tv_structure_form.specs.Halves.{row_halves}
use Rattle.tv_structure_form.specs.StructureForm.{StructureForm, arities_of, with_new}
use Rattle.tv_two_valued.specs.TwoValued.{heap_of}
use Rattle.tv_two_valued.proofs.Truths.{from-assigned}
use Rattle.tv_update_laws.proofs.Tables.{over-middle}
use Rattle.tv_update.specs.Update.{IsGivenOf}
use Rattle.tv_update.specs.Updated.{keep_values}
use Rattle.tv_replay_step.specs.Ready.{CanAct}
use Rattle.tv_replay_step.specs.Updated.{IsUpdatedTo}
use Rattle.tv_replay_step.proofs.Made.{given-new, no-halves, one-given}

pub is-action : (p : ProgramForm) (action : ActionForm) (s : StructureForm) (places : List (Option ℕ)) → CanAct p action s places → IsAction p action
is-action p action s places can = All-contains (IsAction p) p.actions action can.heap.valid.actions can.is_action

-- the picked variables stand for individuals
pub inside : (p : ProgramForm) (action : ActionForm) (s : StructureForm) (places : List (Option ℕ)) → CanAct p action s places
    → (v : ℕ) → Contains action.picks v → Contains (heap_of s).individuals (assignment_of places v)
inside p action s places can v at =
    from-assigned s.size (individual_for places v) (All-contains (IsAssigned s.size places) action.picks v can.picks at)

-- what is asked of the middle structure, and what comes of it
pub record IsMiddleReady (p : ProgramForm) (action : ActionForm) (places : List (Option ℕ)) (s m : StructureForm) : Type 0 where
  pub over : arities_of m ≡ arities_of s
  pub picks : All (IsAssigned m.size places) action.picks
  pub settled : row_halves (keep_values m (assignment_of places) action.retain) ≡ 0
  pub one : (ts : List StructureForm) → IsGivenOf p Given action (assignment_of places) m ts → length ts ≡ 1
  pub makes : (t : StructureForm) → IsGivenOf p Given action (assignment_of places) m (t ∷ []) → IsUpdatedTo p action (assignment_of places) s t

wider : (b : Bool) (s : StructureForm) (o : Option ℕ) → IsSomeAnd o (λ u. u < s.size) → IsSomeAnd o (λ u. u < (middle_table b s).size)
wider false s o lt = lt
wider true s None never = never
wider true s (Some u) lt = omega (arith, lt, length-range_with_len 0 (s.size + 1))

pub middle-ready : (p : ProgramForm) (action : ActionForm) (s : StructureForm) (places : List (Option ℕ)) → CanAct p action s places
    → (m : StructureForm) → m ≡ middle_table action.fresh s → IsMiddleReady p action places s m
middle-ready p action s places can m is_middle = subst (IsMiddleReady p action places s) (sym is_middle) (record {
  over = over-middle action.fresh s can.heap.structure;
  picks = λ k d lt. wider action.fresh s (individual_for places _) (can.picks k d lt);
  settled = no-halves p action valid s can.heap.structure can.heap.two_valued (assignment_of places) within;
  one = one-given p action valid s can.heap.structure can.heap.two_valued (assignment_of places) within;
  makes = λ t of. record {
    over = over-of t (All-head (IsGivenOver (middle_table action.fresh s)) t [] of.over);
    made = given-new p action valid s can.heap.structure can.heap.two_valued (assignment_of places) within t of;
  };
})
  where
    valid : IsAction p action
    valid = is-action p action s places can

    within : (v : ℕ) → Contains action.picks v → Contains (heap_of s).individuals (assignment_of places v)
    within = inside p action s places can

    over-of : (t : StructureForm) → IsGivenOver (middle_table action.fresh s) t → IsGivenOver s t
    over-of t g = record { is = g.is; over = g.over ∙ over-middle action.fresh s can.heap.structure; unmarked = g.unmarked }

-- the same with an individual that is added, and without
pub grown-ready : (p : ProgramForm) (action : ActionForm) (s : StructureForm) (places : List (Option ℕ)) → CanAct p action s places
    → (fresh : Bool) → action.fresh ≡ fresh → fresh ≡ true → (m : StructureForm) → m ≡ with_new s → IsMiddleReady p action places s m
grown-ready p action s places can fresh is on m grown =
    middle-ready p action s places can m (grown ∙ ap (λ b. middle_table b s) (sym (is ∙ on)))

pub same-ready : (p : ProgramForm) (action : ActionForm) (s : StructureForm) (places : List (Option ℕ)) → CanAct p action s places
    → (fresh : Bool) → action.fresh ≡ fresh → fresh ≡ false → IsMiddleReady p action places s s
same-ready p action s places can fresh is off = middle-ready p action s places can s (ap (λ b. middle_table b s) (sym (is ∙ off)))
