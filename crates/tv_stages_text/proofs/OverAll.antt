-- All structures of a recorded step are over the program's predicates.
use Rattle.std.proofs.Common.{ℕ, List, [], ◌∷◌, All, get_or, map, subst, sym}
use Rattle.std.specs.List.{AllZip, flat_map}
use Rattle.std.proofs.lemmas.List.Elements.{All-cons, All-contains, All-nil, Contains-get_or}
use Rattle.tv_kleene.specs.declared.K3.{K3}
use Rattle.tv_kleene.specs.declared.K3.TheVariants.{No, Half, Yes}
use Rattle.tv_lemmas.proofs.Lists.{All-flat_map, All-mapped}
use Rattle.tv_model.specs.Program.{ActionForm, ProgramForm, program_of}
use Rattle.tv_model.specs.declared.program.Mode.{Mode}
use Rattle.tv_model.specs.declared.program.Program.{Program}
use Rattle.tv_stages_laws.specs.Stages.{AreFocusRows, GivesAt, IsEndFrom, IsFate, IsFocusRow, IsFocusedAt}
use Rattle.tv_stages_laws.specs.Stages.{IsPickedUpdate, IsUpdatedAt, NumberedPlace, ended_by}
use Rattle.tv_stages_laws.specs.Stages.{ends_of, kept_at, kept_behind, kept_by}
use Rattle.tv_stages_laws.specs.declared.record.Choice.{Choice}
use Rattle.tv_stages_laws.specs.declared.record.End.{End}
use Rattle.tv_stages_laws.specs.declared.record.End.TheVariants.{Blurred, Lost}
use Rattle.tv_stages_laws.specs.declared.record.Fate.{Fate}
use Rattle.tv_stages_laws.specs.declared.record.Fate.TheVariants.{Kept, Dropped}
use Rattle.tv_stages_laws.specs.declared.record.FocusRow.{FocusRow}
use Rattle.tv_stages_laws.specs.declared.record.FocusedAt.{FocusedAt}
use Rattle.tv_stages_laws.specs.declared.record.Given.{Given}
use Rattle.tv_stages_laws.specs.declared.record.PickedUpdate.{PickedUpdate}
use Rattle.tv_stages_laws.specs.declared.record.UpdatedAt.{UpdatedAt}
use Rattle.tv_step_laws.proofs.Shapes.{shaped-over}
use Rattle.tv_step_laws.specs.Transfer.{FocusPlace, IsTableOf, choices_at}
use Rattle.tv_structure_form.specs.StructureForm.{StructureForm, IsOver}
use Rattle.tv_stages_text.specs.Laws.{SlowStepsAreOver}
use Rattle.tv_stages_text.specs.Over.{IsEndOver, IsFateOver, IsFocusedOver}
use Rattle.tv_stages_text.specs.Over.{IsPickOver, IsRowOver, IsUpdatedOver}

zip_first : {X Y : Type 0} (R : X → Y → Type 0) (P : X → Type 0) → ((x : X) (y : Y) → R x y → P x)
    → (xs : List X) (ys : List Y) → AllZip R xs ys → All P xs
zip_first R P f [] ys zip = All-nil P
zip_first R P f (x ∷ xs) [] zip = absurd zip
zip_first R P f (x ∷ xs) (y ∷ ys) zip = All-cons P x xs (f x y zip.0) (zip_first R P f xs ys zip.1)

module _ (program : Program) where
  abbrev form : ProgramForm
  form = program_of program

  abbrev IsOne : StructureForm → Type 0
  IsOne = IsOver program.vocab

  -- ---- coerce and focus

  fate_over : (s : StructureForm) (f : Fate) → IsFate form s f → IsFateOver program.vocab f
  fate_over s (Kept t) is = shaped-over program t is.shaped
  fate_over s (Dropped claim) is = tt

  kept_over : (f : Fate) → IsFateOver program.vocab f → All IsOne (kept_by f)
  kept_over (Kept t) is = All-cons IsOne t [] is (All-nil IsOne)
  kept_over (Dropped claim) is = All-nil IsOne

  focused_over : (place : FocusPlace) (x : FocusedAt) → IsOne x.at_hand → IsFocusedAt form place x
      → IsFocusedOver program.vocab x
  focused_over place x hand is = record {
    at_hand = hand;
    choices = λ k d lt. record {
      structure = each k d lt;
      fate = fate_over (get_or x.choices k d).structure (get_or x.choices k d).fate (is.fates k d lt);
    };
  }
    where
      each : All (λ (c : Choice). IsOne c.structure) x.choices
      each = All-mapped IsOne (λ (c : Choice). c.structure) x.choices
          (zip_first (IsTableOf form) IsOne (λ t l table. shaped-over program t table.0)
          (map (λ (c : Choice). c.structure) x.choices) (choices_at x.at_hand place) is.choices)

  kept_at_over : (x : FocusedAt) → IsFocusedOver program.vocab x → All IsOne (kept_at x)
  kept_at_over x is = All-flat_map IsOne (λ (c : Choice). kept_by c.fate) x.choices
      (λ k d lt. kept_over (get_or x.choices k d).fate (is.choices k d lt).fate)

  row_over : (turn : NumberedPlace) (ss : List StructureForm) (row : FocusRow) → All IsOne ss
      → IsFocusRow form turn ss row → IsRowOver program.vocab row
  row_over turn ss row all is =
      λ k d lt. focused_over turn.place (get_or row.at_hand k d) (each k d lt) (is.each k d lt)
    where
      each : All (λ (x : FocusedAt). IsOne x.at_hand) row.at_hand
      each = All-mapped IsOne (λ (x : FocusedAt). x.at_hand) row.at_hand
          (subst (All IsOne) (sym is.at_hand) all)

  behind_over : (row : FocusRow) → IsRowOver program.vocab row → All IsOne (kept_behind row)
  behind_over row is = All-flat_map IsOne kept_at row.at_hand
      (λ k d lt. kept_at_over (get_or row.at_hand k d) (is k d lt))

  rows_over : (turns : List NumberedPlace) (ss : List StructureForm) (rows : List FocusRow)
      (ts : List StructureForm) → All IsOne ss → AreFocusRows form turns ss rows ts
      → All (IsRowOver program.vocab) rows × All IsOne ts
  rows_over [] ss rows ts all is = (
    subst (All (IsRowOver program.vocab)) (sym is.0) (All-nil (IsRowOver program.vocab)),
    subst (All IsOne) (sym is.1) all,
  )
  rows_over (turn ∷ turns) ss [] ts all is = absurd is
  rows_over (turn ∷ turns) ss (row ∷ rows) ts all is =
      let here = row_over turn ss row all is.0 in
      let later = rows_over turns (kept_behind row) rows ts (behind_over row here) is.1 in
      (All-cons (IsRowOver program.vocab) row rows here later.0, later.1)

  -- ---- update and blur

  ending_over : (s : StructureForm) (e : End) → IsEndFrom form s e → IsEndOver program.vocab e
  ending_over s (Blurred coerced blurred) is =
      (shaped-over program coerced is.0.shaped, shaped-over program blurred is.1.0)
  ending_over s (Lost claim) is = tt

  gives_over : (value : K3) (mode : Mode) (action : ActionForm) (s : StructureForm) (picked : List ℕ)
      (ts : List StructureForm) → GivesAt value form mode action s picked ts → All IsOne ts
  gives_over No mode action s picked ts is = subst (All IsOne) (sym is) (All-nil IsOne)
  gives_over Half mode action s picked ts is = λ k d lt. shaped-over program (get_or ts k d) (is.1 k d lt)
  gives_over Yes mode action s picked ts is = λ k d lt. shaped-over program (get_or ts k d) (is.1 k d lt)

  pick_over : (mode : Mode) (action : ActionForm) (s : StructureForm) (x : PickedUpdate)
      → IsPickedUpdate form mode action s x → IsPickOver program.vocab x
  pick_over mode action s x is = λ k d lt. record {
    structure = each k d lt;
    end = ending_over (get_or x.given k d).structure (get_or x.given k d).end (is.ends k d lt);
  }
    where
      each : All (λ (g : Given). IsOne g.structure) x.given
      each = All-mapped IsOne (λ (g : Given). g.structure) x.given
          (gives_over x.value mode action s x.individuals (map (λ (g : Given). g.structure) x.given) is.gives)

  update_over : (mode : Mode) (action : ActionForm) (x : UpdatedAt) → IsOne x.at_hand
      → IsUpdatedAt form mode action x → IsUpdatedOver program.vocab x
  update_over mode action x hand is = record {
    at_hand = hand;
    picks = λ k d lt. pick_over mode action x.at_hand (get_or x.picks k d) (is.each k d lt);
  }

  ended_over : (e : End) → IsEndOver program.vocab e → All IsOne (ended_by e)
  ended_over (Blurred coerced blurred) is = All-cons IsOne blurred [] is.1 (All-nil IsOne)
  ended_over (Lost claim) is = All-nil IsOne

  ends_over : (updates : List UpdatedAt) → All (IsUpdatedOver program.vocab) updates
      → All IsOne (ends_of updates)
  ends_over updates all =
      All-flat_map IsOne at_hand updates (λ i x lt. at_each (get_or updates i x) (all i x lt))
    where
      at_pick : PickedUpdate → List StructureForm
      at_pick u = flat_map (λ (g : Given). ended_by g.end) u.given

      at_hand : UpdatedAt → List StructureForm
      at_hand x = flat_map at_pick x.picks

      of_pick : (u : PickedUpdate) → IsPickOver program.vocab u → All IsOne (at_pick u)
      of_pick u is = All-flat_map IsOne (λ (g : Given). ended_by g.end) u.given
          (λ k g lt. ended_over (get_or u.given k g).end (is k g lt).end)

      at_each : (x : UpdatedAt) → IsUpdatedOver program.vocab x → All IsOne (at_hand x)
      at_each x is =
          All-flat_map IsOne at_pick x.picks (λ k u lt. of_pick (get_or x.picks k u) (is.picks k u lt))

-- ---- the step

pub all_over : SlowStepsAreOver
all_over program mode edge s step over is = record {
  start = start;
  focus = rows.0;
  updates = updates;
  results = λ k t lt. All-contains (IsOver program.vocab) (ends_of step.updates) (get_or step.results k t)
      (ends_over program step.updates updates)
      ((is.same (get_or step.results k t)).0 (Contains-get_or step.results k t lt));
}
  where
    start : IsFateOver program.vocab step.start
    start = fate_over program s step.start is.stages.begins

    rows : All (IsRowOver program.vocab) step.focus × All (IsOver program.vocab) is.stages.at_hand
    rows = rows_over program _ (kept_by step.start) step.focus is.stages.at_hand
        (kept_over program step.start start) is.stages.focused

    hands : All (λ (x : UpdatedAt). IsOver program.vocab x.at_hand) step.updates
    hands = All-mapped (IsOver program.vocab) (λ (x : UpdatedAt). x.at_hand) step.updates
        (subst (All (IsOver program.vocab)) (sym is.stages.updated) rows.1)

    updates : All (IsUpdatedOver program.vocab) step.updates
    updates = λ k x lt. update_over program mode is.stages.action (get_or step.updates k x) (hands k x lt)
        (is.stages.each k x lt)
