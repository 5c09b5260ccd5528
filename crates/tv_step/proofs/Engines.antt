-- What a setting's steps say of the program and the mode that it is made of.
use Rattle.std.proofs.Common.{ℕ, ◌≡◌, List, [], ◌∷◌, Option, None, Some, refl, sym, subst}
use Rattle.std.specs.Prelude.{Result, IfOk, IfErr, MatchOption}
use Rattle.tv_model.specs.declared.program.Mode.{Mode}
use Rattle.tv_model.specs.declared.program.Program.{Program}
use Rattle.tv_model.specs.Program.{program_of}
use Rattle.tv_model.specs.Valid.{IsValid}
use Rattle.tv_eval.specs.ScratchForm.{ScratchForm, IsMadeFor}
use Rattle.tv_rules.specs.Closing.{closed_rules}
use Rattle.tv_rules.specs.EntryForms.{rules_of}
use Rattle.tv_coerce.specs.Coerced.{CoercesTo}
use Rattle.tv_stable_laws.specs.Stable.{IsStable}
use Rattle.tv_structure_form.specs.StructureForm.{StructureForm, IsOver, IsStructure, structure_of}
use Rattle.tv_struct.specs.declared.analysis.StageError.{StageError}
use Rattle.tv_step_laws.specs.Shaped.{IsShaped}
use Rattle.tv_step_laws.specs.Transfer.{Coerces, IsActionOf, focus_places}
use Rattle.tv_step_laws.proofs.Settled.{stable-coerces}
use Rattle.tv_step_laws.proofs.Shapes.{over-shaped}
use Rattle.tv_step.specs.declared.job.Job.{Job}
use Rattle.tv_step.specs.declared.setting.Setting.{Setting}
use Rattle.tv_step.specs.declared.step.StepOut.{StepOut}
use Rattle.tv_step.specs.Job.{action_in, IsJob}
use Rattle.tv_step.specs.EngineForm.{EngineForm}
use Rattle.tv_step.specs.Setting.{form_in, IsReadyToStep}
use Rattle.tv_step.specs.AtHand.{FindsAtHand}
use Rattle.tv_step.specs.Steps.{AreFocusedWithin, AreResultsOf, AreValuesOf, IsCauseOfFocus, IsCauseOfStep}
use Rattle.tv_step.proofs.Coercing.{none-coerces, some-coerces}
use Rattle.tv_step.specs.StepAnswer.{AnswersStep}
use Rattle.tv_step.proofs.Said.{at-hand-found, step-said}

pub ready-in : (x : Setting) (program : Program) (scratch : ScratchForm) → x.program.now ≡ program
    → IsValid (form_in x) → rules_of x.closed.now ≡ closed_rules (form_in x)
    → IsMadeFor (program_of program) 256 scratch → IsReadyToStep x scratch
ready-in x program scratch same valid rules room = record {
  valid = valid;
  rules = rules;
  room = subst (λ q. IsMadeFor (program_of q) 256 scratch) (sym same) room;
}

pub job-in : (x : Setting) (program : Program) (mode : Mode) (job : Job) → x.program.now ≡ program → x.mode ≡ mode
    → IsJob program mode job → IsJob x.program.now x.mode job
job-in x program mode job same same_mode is =
    subst (λ m. IsJob x.program.now m job) (sym same_mode)
    (subst (λ (q : Program). IsJob q mode job) (sym same) is)

pub shaped-in : (x : Setting) (program : Program) (s : StructureForm) → x.program.now ≡ program
    → IsOver program.vocab s → IsStructure s → IsShaped (form_in x) s
shaped-in x program s same over is =
    over-shaped x.program.now s (subst (λ (q : Program). IsOver q.vocab s) (sym same) over) is

-- what coerce found is what comes of the structure by coerce
pub found-coerces : (x : Setting) (s : StructureForm) (found : Option StructureForm) (start : List StructureForm)
    → rules_of x.closed.now ≡ closed_rules (form_in x) → IsShaped (form_in x) s
    → CoercesTo (rules_of x.closed.now) s found → MatchOption found (start ≡ []) (λ t. start ≡ t ∷ [])
    → Coerces (form_in x) s start
found-coerces x s None start same shaped to is =
    subst (Coerces (form_in x) s) (sym is) (none-coerces (form_in x) (rules_of x.closed.now) s None same to refl)
found-coerces x s (Some t) start same shaped to is =
    subst (Coerces (form_in x) s) (sym is)
    (some-coerces (form_in x) (rules_of x.closed.now) s (Some t) t same shaped to refl)

-- a stable structure is what comes of it by coerce
pub stable-in : (x : Setting) (program : Program) (s : StructureForm) (start : List StructureForm)
    → x.program.now ≡ program → IsOver program.vocab s → IsStructure s
    → IsStable (closed_rules (program_of program)) (structure_of s) → start ≡ s ∷ [] → Coerces (form_in x) s start
stable-in x program s start same over is stable there =
    subst (λ (q : Program). Coerces (program_of q) s start) (sym same)
    (subst (Coerces (program_of program) s) (sym there)
    (stable-coerces (program_of program) s (over-shaped program s over is) stable))

pub said-in : (x : Setting) (program : Program) (mode : Mode) (edge : ℕ) (s : StructureForm) (job : Job)
    (start : List StructureForm) (answer : Result StepOut StageError)
    → x.program.now ≡ program → x.mode ≡ mode → IsValid (form_in x)
    → IsActionOf (program_of program) edge (action_in job) → Coerces (form_in x) s start
    → IfOk answer (λ out. AreResultsOf (form_in x) x.mode (action_in job) start out.results)
    → IfOk answer (λ out. AreValuesOf (form_in x) (action_in job) start out.messages)
    → IfErr answer (IsCauseOfStep (form_in x) (action_in job) start)
    → AnswersStep (program_of program) mode edge s answer
said-in x program mode edge s job start answer same same_mode valid is coerces results values cause =
    subst (λ m. AnswersStep (program_of program) m edge s answer) same_mode
    (subst (λ q. AnswersStep (program_of q) x.mode edge s answer) same
    (step-said (form_in x) valid x.mode edge s (action_in job) start
    (subst (λ q. IsActionOf (program_of q) edge (action_in job)) (sym same) is) coerces answer results values
    cause))

-- what focus finds of what coerce leaves is what is at hand
pub found-in : (x : Setting) (program : Program) (edge : ℕ) (s : StructureForm) (job : Job)
    (start : List StructureForm) (answer : Result (List StructureForm) StageError) → x.program.now ≡ program
    → IsActionOf (program_of program) edge (action_in job) → Coerces (form_in x) s start
    → IfOk answer (AreFocusedWithin (form_in x) (focus_places (action_in job).focus) start)
    → IfErr answer (IsCauseOfFocus (form_in x) (focus_places (action_in job).focus) start)
    → FindsAtHand (program_of program) edge s answer
found-in x program edge s job start answer same is coerces out cause =
    subst (λ q. FindsAtHand (program_of q) edge s answer) same
    (at-hand-found (form_in x) edge s (action_in job) start
    (subst (λ q. IsActionOf (program_of q) edge (action_in job)) (sym same) is) coerces answer out cause)

-- what is said of an engine's step holds of the program and the mode that it was made for
pub engine-answers : (engine made : EngineForm) (edge : ℕ) (s : StructureForm) (answer : Result StepOut StageError)
    → engine ≡ made → AnswersStep (program_of engine.program) engine.mode edge s answer
    → AnswersStep (program_of made.program) made.mode edge s answer
engine-answers engine made edge s answer same is =
    subst (λ (e : EngineForm). AnswersStep (program_of e.program) e.mode edge s answer) same is
