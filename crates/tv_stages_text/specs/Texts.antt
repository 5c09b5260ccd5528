-- The text of what is recorded of a step: a line for each structure that a stage makes, and for each that is
-- dropped.
use Rattle.std.specs.Prelude.{ℕ, suc, ◌+◌, List, [], ◌∷◌, ◌++◌, Option, codes}
use Rattle.tv_claim_text.specs.Claims.{claim_written}
use Rattle.tv_file_lines.specs.Numbered.{numbered}
use Rattle.tv_kleene.specs.declared.K3.{K3}
use Rattle.tv_kleene.specs.declared.K3.TheVariants.{No, Half, Yes}
use Rattle.tv_losses_unmet.specs.declared.claim.Claim.{Claim}
use Rattle.tv_model.specs.Program.{program_of}
use Rattle.tv_model.specs.declared.program.Program.{Program}
use Rattle.tv_show.specs.Line.{line_of}
use Rattle.tv_stages_laws.specs.declared.record.Choice.{Choice}
use Rattle.tv_stages_laws.specs.declared.record.End.{End}
use Rattle.tv_stages_laws.specs.declared.record.End.TheVariants.{Blurred, Lost}
use Rattle.tv_stages_laws.specs.declared.record.Fate.{Fate}
use Rattle.tv_stages_laws.specs.declared.record.Fate.TheVariants.{Kept, Dropped}
use Rattle.tv_stages_laws.specs.declared.record.FocusRow.{FocusRow}
use Rattle.tv_stages_laws.specs.declared.record.FocusedAt.{FocusedAt}
use Rattle.tv_stages_laws.specs.declared.record.Given.{Given}
use Rattle.tv_stages_laws.specs.declared.record.PickedUpdate.{PickedUpdate}
use Rattle.tv_stages_laws.specs.declared.record.SlowStep.{SlowStep}
use Rattle.tv_stages_laws.specs.declared.record.UpdatedAt.{UpdatedAt}
use Rattle.tv_structure_form.specs.StructureForm.{StructureForm}

-- the texts of things, each by its place, where the first has this one
abbrev pub each_from : {X : Type 0} → (text : (place : ℕ) → X → List ℕ) → (place : ℕ) → List X → List ℕ
each_from text place [] = []
each_from text place (x ∷ xs) = text place x ++ each_from text (place + 1) xs

-- a structure in one line, and the line's end
abbrev pub shown : Program → StructureForm → List ℕ
shown p s = line_of p.vocab s ++ codes "\n"

-- by which claim it is dropped
abbrev pub dropped_text : Program → Option Claim → List ℕ
dropped_text p claim = codes "dropped by " ++ (claim_written (program_of p) claim ++ codes "\n")

-- what coerce makes of a structure
abbrev pub fate_text : Program → Fate → List ℕ
fate_text p (Kept t) = codes "coerced" ++ shown p t
fate_text p (Dropped claim) = dropped_text p claim

-- ---- focus

abbrev pub choice_text : Program → (number : ℕ) → Choice → List ℕ
choice_text p number choice = numbered (codes "stage       choice ") number
    ++ (shown p choice.structure ++ (codes "stage         " ++ fate_text p choice.fate))

abbrev pub at_hand_text : Program → (number : ℕ) → FocusedAt → List ℕ
at_hand_text p number focused = numbered (codes "stage     at hand ") number
    ++ (shown p focused.at_hand ++ each_from (choice_text p) 0 focused.choices)

-- the turn of a focus atom, by the numbers of its formula and of the atom
abbrev pub turn_text : Program → FocusRow → List ℕ
turn_text p row = numbered (codes "stage   focus ") row.formula ++ (numbered (codes " atom ") row.atom
    ++ (codes "\n" ++ each_from (at_hand_text p) 0 row.at_hand))

-- ---- precondition, update and blur

abbrev pub value_word : K3 → List ℕ
value_word Yes = codes "1"
value_word Half = codes "1/2"
value_word No = codes "0"

abbrev pub picked_word : (place individual : ℕ) → List ℕ
picked_word place individual = numbered (codes " #") individual

abbrev pub for_text : (individuals : List ℕ) → List ℕ
for_text [] = []
for_text (u ∷ us) = codes " for" ++ each_from picked_word 0 (u ∷ us)

-- the value of the precondition for the picked individuals
abbrev pub precondition_text : K3 → (individuals : List ℕ) → List ℕ
precondition_text value individuals =
    codes "stage     precondition is " ++ (value_word value ++ (for_text individuals ++ codes "\n"))

abbrev pub fate_behind : Program → End → List ℕ
fate_behind p (Blurred coerced blurred) = codes "stage         coerced"
    ++ (shown p coerced ++ (codes "stage         blurred" ++ shown p blurred))
fate_behind p (Lost claim) = codes "stage         " ++ dropped_text p claim

abbrev pub given_text : Program → (number : ℕ) → Given → List ℕ
given_text p number given = numbered (codes "stage       given ") number
    ++ (shown p given.structure ++ fate_behind p given.end)

abbrev pub pick_text : Program → PickedUpdate → List ℕ
pick_text p pick = precondition_text pick.value pick.individuals ++ each_from (given_text p) 0 pick.given

abbrev pub updated_text : Program → (number : ℕ) → UpdatedAt → List ℕ
updated_text p number updated = numbered (codes "stage   update of ") number
    ++ (shown p updated.at_hand ++ each_from (λ _ pick. pick_text p pick) 0 updated.picks)

-- ---- the step

abbrev pub result_text : Program → (number : ℕ) → StructureForm → List ℕ
result_text p number s = numbered (codes "stage   result ") number ++ shown p s

-- the structure that is stepped, by its number, and the stages of its step
abbrev pub step_text : Program → (number : ℕ) → StructureForm → SlowStep → List ℕ
step_text p number s step = numbered (codes "stage structure ") number ++ (shown p s
    ++ (codes "stage   " ++ (fate_text p step.start ++ (each_from (λ _ row. turn_text p row) 0 step.focus
    ++ (each_from (updated_text p) 0 step.updates ++ each_from (result_text p) 0 step.results)))))

-- the steps of structures, in order, where the first has this number
abbrev pub stages_text : Program → (number : ℕ) → List StructureForm → List SlowStep → List ℕ
stages_text p number (s ∷ ss) (step ∷ steps) =
    step_text p number s step ++ stages_text p (number + 1) ss steps
stages_text p number ss steps = []
