-- A call ends as its words and files call for.
use Rattle.std.proofs.Common.{◌≡◌, ◌⊎◌, ℕ, List, Option, Some, Ok, inl, inr, refl, sym, ap, subst}
use Rattle.tv_judge.specs.Judged.{Case, KeepsAllBudgets, IsRejection, StopsAt}
use Rattle.tv_listing.specs.declared.analysis.Analysis.{Analysis}
use Rattle.tv_listing.specs.declared.analysis.Rejection.{Rejection}
use Rattle.tv_model.specs.Program.{ProgramForm, program_of}
use Rattle.tv_model.specs.declared.program.Program.{Program}
use Rattle.tv_outside.specs.Told.{Held}
use Rattle.tv_model.specs.Valid.{IsValid}
use Rattle.tv_replay_laws.specs.Laws.{RunsHaveOneEnding}
use Rattle.tv_replay_laws.specs.Stuck.{IsStuck}
use Rattle.tv_replay_laws.specs.declared.state.Why.{Why}
use Rattle.tv_status.specs.declared.status.FileKind.{FileKind}
use Rattle.tv_status.specs.declared.status.Role.{Role}
use Rattle.tv_status.specs.declared.status.Status.{Status}
use Rattle.tv_status.specs.declared.status.Status.TheVariants.{Done, Rejected, Stuck, Usage, FileFault}
use Rattle.tv_status.specs.declared.status.Status.TheVariants.{Structures, TooManySplits, TooManyIndividuals}
use Rattle.tv_status.specs.declared.status.Status.TheVariants.{ReadFault, WriteFault, Memory}
use Rattle.tv_structure_form.specs.StructureForm.{StructureForm}
use Rattle.tv_texts.specs.Agreement.{GiveOne, SameProgram, placeless}
use Rattle.tv_top.proofs.Demands.{one_rejection, stops_unrejected, closed_unrejected}
use Rattle.tv_top.proofs.Tasks.{SameTask, HasReport, same_case, rejected_report, run_report, one_task}
use Rattle.tv_top.proofs.Tasks.{one_reported, not_refused, one_refusal}
use Rattle.tv_top.specs.Answers.{Reached, InRound, case_for, IsDone, IsRejected, IsAnswer, max_of}
use Rattle.tv_top.specs.Answers.{HasMoreThan, ReachesTooMuch, StepMeets, MeetsBudget, KeepsLimits}
use Rattle.tv_top.specs.Answers.{KeepsRoundLimits, CanBeDone, CanRun, RunMeans, StopsIn, demo_max}
use Rattle.tv_top.specs.Call.{IsAnswerTo, IsCause, EndsFor, CommandCallsFor, CallsFor, CallsForRun, IsExcuse}
use Rattle.tv_top.specs.Call.{IsRunEnding, without_place, EndsDuly, HoldsOperands}
use Rattle.tv_top.specs.Delivery.{OutTook}
use Rattle.tv_top.specs.Meaning.{Task, Commands, FilesMean, GivesProgram, GivesInitial, GivesStart}
use Rattle.tv_top.specs.Meaning.{GivesTrace, GivesReport, LacksLater, IsRefused, IsMissing, IsTold}
use Rattle.tv_top.specs.Meaning.{HoldsFiles}
use Rattle.tv_trace.specs.declared.trace.Trace.{Trace}
use Rattle.tv_step_laws.specs.Budgets.{MeetsSplits, MeetsIndividuals, KeepsBudgets}
use Rattle.tv_words.specs.Words.{CommandForm, Analyzes, Checks, Demos, Joins, Replays, Sources, Spells}
use Rattle.tv_words.specs.Words.{SpellsNothing}
use Rattle.tv_work.specs.Analyzed.{Meets}
use Rattle.tv_work.specs.Reach.{AreMoreThan}

-- what may be called for: that the job is done, that the report is rejected, that a trace can't go on, or that a file is
-- refused
abbrev DueView : Option Held → CommandForm → Status → Type 0
DueView told command due =
    ((due ≡ Done) × ((task : Task) × FilesMean told command task × CanBeDone told command task))
    ⊎ (((r : Rejection) × (due ≡ Rejected r) × ((task : Task) × FilesMean told command task × IsRejected told command task r))
    ⊎ (((role : Role) × (kind : FileKind) × (due ≡ FileFault role kind) × IsRefused told command role kind)
    ⊎ ((step : ℕ) × (why : Why) × (due ≡ Stuck step why)
    × ((task : Task) × FilesMean told command task × StopsIn told command task step why))))

due_view : (told : Option Held) (command : CommandForm) (due : Status) → CommandCallsFor told command due
    → DueView told command due
due_view told command Done h = inl (refl, h)
due_view told command (Rejected r) h = inr (inl (r, refl, h))
due_view told command (Stuck step why) h = inr (inr (inr (step, why, refl, h)))
due_view told command (FileFault role kind) h = inr (inr (inl (role, kind, refl, h)))
due_view told command Memory h = absurd h
due_view told command other h = absurd h

-- what calls for an ending
abbrev CallView : List (List ℕ) → Option Held → Status → Type 0
CallView words told due = ((due ≡ Usage) × SpellsNothing words)
    ⊎ Commands words (λ command. IsTold told command × CommandCallsFor told command due)

call_view : (words : List (List ℕ)) (told : Option Held) (due : Status) → CallsFor words told due → CallView words told due
call_view words told Done h = inr h
call_view words told Usage h = inl (refl, h)
call_view words told Memory h = inr h
call_view words told other h = inr h

-- how a call ends that reads all its files and keeps its memory
abbrev pub CommandEnds : Option Held → CommandForm → Status → Type 0
CommandEnds told command Done = (text : List ℕ) × IsAnswer told command Done text
CommandEnds told command (Rejected r) = (text : List ℕ) × IsAnswer told command (Rejected r) text
CommandEnds told command (Stuck step why) = (text : List ℕ) × IsAnswer told command (Stuck step why) text
CommandEnds told command (FileFault role kind) = IsRefused told command role kind
CommandEnds told command (Structures max) = ReachesTooMuch told command max
CommandEnds told command TooManySplits = MeetsBudget told command MeetsSplits
CommandEnds told command TooManyIndividuals = MeetsBudget told command MeetsIndividuals
CommandEnds told command Memory = ⊥
CommandEnds told command other = ⊥

-- ---- each ending has read the report, where the command has one

pub done_reported : (told : Option Held) (command : CommandForm) (task : Task) (text : List ℕ)
    → IsDone told command task text → HasReport told command task
done_reported told (Checks p i report mode maps delta) task text h = (h.0, h.1)
done_reported told (Replays p i start trace report) task text h = (h.0, h.1, h.2, h.3)
done_reported told other task text h = tt

can_reported : (told : Option Held) (command : CommandForm) (task : Task) → CanBeDone told command task → HasReport told command task
can_reported told (Checks p i report mode maps delta) task h = (h.0, h.1)
can_reported told (Replays p i start trace report) task h = (h.0, h.1, h.2, h.3)
can_reported told other task h = tt

pub many_reported : (told : Option Held) (command : CommandForm) (task : Task) (max : ℕ) → max_of command ≡ Some max
    → HasReport told command task
many_reported told (Checks p i report mode maps delta) task max h = absurd cc
many_reported told (Replays p i start trace report) task max h = absurd cc
many_reported told other task max h = tt

pub step_reported : (told : Option Held) (command : CommandForm) (task : Task) (Budget : ProgramForm → ℕ → StructureForm → Type 0)
    → StepMeets told command task Budget → HasReport told command task
step_reported told (Checks p i report mode maps delta) task Budget h = (h.0, h.1)
step_reported told (Replays p i start trace report) task Budget h = absurd h
step_reported told other task Budget h = tt

-- ---- what can be done isn't hindered

few : (t u : Task) (max more : ℕ) → SameTask t u → Some max ≡ Some more → KeepsLimits t max → AreMoreThan more (Reached u) → ⊥
few t u max more same e keeps many =
    let limit : more ≡ max = cc in
    keeps.few (rw (same.program, same.initial, same.mode, ← limit) many)

kept : (t u : Task) (max : ℕ) (Budget : ProgramForm → ℕ → StructureForm → Type 0)
    → ((p : ProgramForm) (edge : ℕ) (s : StructureForm) → KeepsBudgets p edge s → ¬ Budget p edge s)
    → SameTask t u → KeepsLimits t max → Meets (program_of u.program) (Budget (program_of u.program)) (Reached u) → ⊥
kept t u max Budget keeping same keeps meets = none (rw (same.program, same.initial, same.mode) meets)
  where
    none : Meets (program_of t.program) (Budget (program_of t.program)) (Reached t) → ⊥
    none m = keeping (program_of t.program) m.edge m.at.structure (keeps.budgets m.edge m.at m.source) m.budget

few_rounds : (t u : Task) (max more : ℕ) → SameTask t u → Some max ≡ Some more → KeepsRoundLimits t max
    → ((round : ℕ) × AreMoreThan more (InRound u round)) → ⊥
few_rounds t u max more same e keeps many =
    let limit : more ≡ max = cc in
    keeps.few many.0 (rw (same.program, same.initial, same.mode, ← limit) many.1)

kept_rounds : (t u : Task) (max : ℕ) (Budget : ProgramForm → ℕ → StructureForm → Type 0)
    → ((p : ProgramForm) (edge : ℕ) (s : StructureForm) → KeepsBudgets p edge s → ¬ Budget p edge s)
    → SameTask t u → KeepsRoundLimits t max
    → ((round : ℕ) × Meets (program_of u.program) (Budget (program_of u.program)) (InRound u round)) → ⊥
kept_rounds t u max Budget keeping same keeps meets =
    none meets.0 (rw (same.program, same.initial, same.mode) meets.1)
  where
    none : (round : ℕ) → Meets (program_of t.program) (Budget (program_of t.program)) (InRound t round) → ⊥
    none round m = keeping (program_of t.program) m.edge m.at.structure (keeps.budgets round m.edge m.at m.source) m.budget

closed_kept : (c : Case) (Budget : ProgramForm → ℕ → StructureForm → Type 0)
    → ((p : ProgramForm) (edge : ℕ) (s : StructureForm) → KeepsBudgets p edge s → ¬ Budget p edge s)
    → KeepsAllBudgets c → StopsAt c Budget → ⊥
closed_kept c Budget keeping keeps stops =
    keeping c.program stops.edge stops.meets.from
    (keeps stops.edge stops.meets.taken stops.structure stops.meets.from stops.meets.source) stops.meets.budget

-- ---- one report

-- the reports of both tasks make one case
abbrev OneCase : Option Held → CommandForm → (t u : Task) → Type 0
OneCase told command t u = (a b : Analysis) → GivesReport told command t.program (Ok a) → GivesReport told command u.program (Ok b)
    → case_for t a ≡ case_for u b

can_not_rejected : (told : Option Held) (command : CommandForm) (t u : Task) (r : Rejection) → OneCase told command t u
    → CanBeDone told command t → IsRejected told command u r → ⊥
can_not_rejected told (Checks p i report mode maps delta) t u r same can rejected =
    closed_unrejected (case_for t can.0) r can.2
    (subst (λ c. IsRejection c r) (sym (same can.0 rejected.0 can.1 rejected.1)) rejected.2)
can_not_rejected told other t u r same can rejected = absurd rejected

done_not_rejected : (told : Option Held) (command : CommandForm) (t u : Task) (text : List ℕ) (r : Rejection)
    → OneCase told command t u → IsDone told command t text → IsRejected told command u r → ⊥
done_not_rejected told (Checks p i report mode maps delta) t u text r same done rejected =
    closed_unrejected (case_for t done.0) r done.2.closed
    (subst (λ c. IsRejection c r) (sym (same done.0 rejected.0 done.1 rejected.1)) rejected.2)
done_not_rejected told other t u text r same done rejected = absurd rejected

both_rejected : (told : Option Held) (command : CommandForm) (t u : Task) (r s : Rejection) → OneCase told command t u
    → IsRejected told command t r → IsRejected told command u s → r ≡ s
both_rejected told (Checks p i report mode maps delta) t u r s same h k = one_rejection (case_for t h.0) r s h.2
    (subst (λ c. IsRejection c s) (sym (same h.0 k.0 h.1 k.1)) k.2)
both_rejected told other t u r s same h k = absurd h

run_not_rejected : (told : Option Held) (command : CommandForm) (t u : Task) (r : Rejection)
    → CanRun told command t → IsRejected told command u r → ⊥
run_not_rejected told (Checks p i report mode maps delta) t u r run rejected = absurd run.3.gives_start
run_not_rejected told other t u r run rejected = absurd rejected

step_not_rejected : (told : Option Held) (command : CommandForm) (t u : Task) (Budget : ProgramForm → ℕ → StructureForm → Type 0)
    (r : Rejection) → OneCase told command t u → StepMeets told command t Budget → IsRejected told command u r → ⊥
step_not_rejected told (Checks p i report mode maps delta) t u Budget r same step rejected =
    stops_unrejected (case_for t step.0) step.2.edge step.2.structure r step.2.first
    (subst (λ c. IsRejection c r) (sym (same step.0 rejected.0 step.1 rejected.1)) rejected.2)
step_not_rejected told other t u Budget r same step rejected = absurd rejected

many_not_rejected : (told : Option Held) (command : CommandForm) (u : Task) (max : ℕ) (r : Rejection)
    → max_of command ≡ Some max → IsRejected told command u r → ⊥
many_not_rejected told (Checks p i report mode maps delta) u max r e rejected = absurd cc
many_not_rejected told other u max r e rejected = absurd rejected

many_not_done : (told : Option Held) (command : CommandForm) (t u : Task) (more : ℕ) → SameTask t u → CanBeDone told command t
    → max_of command ≡ Some more → HasMoreThan command u more → ⊥
many_not_done told (Analyzes p i max mode delta) t u more same can e many = few t u max more same e can many
many_not_done told (Checks p i report mode maps delta) t u more same can e many = absurd cc
many_not_done told (Demos number) t u more same can e many = few t u demo_max more same e can many
many_not_done told (Joins p i max mode) t u more same can e many = few_rounds t u max more same e can many
many_not_done told (Replays p i start trace report) t u more same can e many = absurd cc
many_not_done told (Sources n i max) t u more same can e many = few t u max more same e can many

step_not_done : (told : Option Held) (command : CommandForm) (t u : Task) (Budget : ProgramForm → ℕ → StructureForm → Type 0)
    → ((p : ProgramForm) (edge : ℕ) (s : StructureForm) → KeepsBudgets p edge s → ¬ Budget p edge s)
    → SameTask t u → OneCase told command t u → CanBeDone told command t → StepMeets told command u Budget → ⊥
step_not_done told (Analyzes p i max mode delta) t u Budget keeping same case can step = kept t u max Budget keeping same can step
step_not_done told (Checks p i report mode maps delta) t u Budget keeping same case can step =
    closed_kept (case_for t can.0) Budget keeping can.3
    (subst (λ c. StopsAt c Budget) (sym (case can.0 step.0 can.1 step.1)) step.2)
step_not_done told (Demos number) t u Budget keeping same case can step = kept t u demo_max Budget keeping same can step
step_not_done told (Joins p i max mode) t u Budget keeping same case can step =
    kept_rounds t u max Budget keeping same can step
step_not_done told (Replays p i start trace report) t u Budget keeping same case can step = absurd step
step_not_done told (Sources n i max) t u Budget keeping same case can step = kept t u max Budget keeping same can step

-- ---- one run

can_run : (told : Option Held) (command : CommandForm) (task : Task) (step : ℕ) (why : Why) → StopsIn told command task step why
    → CanRun told command task
can_run told command task step why h = (h.0, h.1, h.2, h.3)

-- where the run of u can't go on, that of t can't either
abbrev OneRun : Option Held → CommandForm → (t u : Task) → Type 0
OneRun told command t u =
    (start : StructureForm) (trace : Trace) (report : Analysis) → RunMeans told command t.program start trace report
    → (step : ℕ) (why : Why) → StopsIn told command u step why → IsStuck (program_of t.program) start trace.moves step why

many_not_run : (told : Option Held) (command : CommandForm) (t : Task) (max : ℕ) → max_of command ≡ Some max → CanRun told command t → ⊥
many_not_run told (Checks p i report mode maps delta) t max e run = absurd cc
many_not_run told (Replays p i start trace report) t max e run = absurd cc
many_not_run told other t max e run = absurd run.3.gives_start

step_not_run : (told : Option Held) (command : CommandForm) (t u : Task) (Budget : ProgramForm → ℕ → StructureForm → Type 0)
    → StepMeets told command u Budget → CanRun told command t → ⊥
step_not_run told (Replays p i start trace report) t u Budget step run = absurd step
step_not_run told other t u Budget step run = absurd run.3.gives_start

module _ (one_ending : RunsHaveOneEnding) where
  done_not_stopped : (told : Option Held) (command : CommandForm) (t u : Task) (text : List ℕ) (step : ℕ) (why : Why)
      → OneRun told command t u → IsDone told command t text → StopsIn told command u step why → ⊥
  done_not_stopped told (Replays p i start trace report) t u text step why same done stops =
      let ending = one_ending (program_of t.program) done.4.1.valid done.0 done.1.moves in
      let through = ending.made t.initial done.2.listing done.4.0 done.4.1.are in
      ending.unstuck through.0 step why through.1 (same done.0 done.1 done.2 done.3 step why stops)
  done_not_stopped told other t u text step why same done stops = absurd stops.3.gives_start

  can_not_stopped : (told : Option Held) (command : CommandForm) (t u : Task) (step : ℕ) (why : Why) → IsValid (program_of t.program)
      → OneRun told command t u → CanBeDone told command t → StopsIn told command u step why → ⊥
  can_not_stopped told (Replays p i start trace report) t u step why valid same can stops =
      let ending = one_ending (program_of t.program) valid can.0 can.1.moves in
      ending.unstuck can.4.0 step why can.4.1 (same can.0 can.1 can.2 can.3 step why stops)
  can_not_stopped told other t u step why valid same can stops = absurd stops.3.gives_start

  both_stopped : (told : Option Held) (command : CommandForm) (t u : Task) (a b : ℕ) (w v : Why) → IsValid (program_of t.program)
      → OneRun told command t u → StopsIn told command t a w → StopsIn told command u b v → Stuck a w ≡ Stuck b v
  both_stopped told command t u a b w v valid same stops others =
      let one = (one_ending (program_of t.program) valid stops.0 stops.1.moves).stuck a b w v stops.4
      (same stops.0 stops.1 stops.2 stops.3 b v others) in
      λ i. Stuck (one.0 i) (one.1 i)

-- ---- each pair of an ending and one that is called for

module _ (one_ending : RunsHaveOneEnding) (told : Option Held) (command : CommandForm)
    (programs : GiveOne SameProgram (GivesProgram told command) (GivesProgram told command))
    (initials : (p q : Program) → SameProgram p q → GiveOne {A = List StructureForm} ◌≡◌ (GivesInitial told command p) (GivesInitial told command q))
    (reports : (p q : Program) → SameProgram p q → GiveOne {A = Analysis} ◌≡◌ (GivesReport told command p) (GivesReport told command q))
    (starts : (p q : Program) → SameProgram p q → GiveOne {A = StructureForm} ◌≡◌ (GivesStart told command p) (GivesStart told command q))
    (traces : (p q : Program) → SameProgram p q → GiveOne {A = Trace} ◌≡◌ (GivesTrace told command p) (GivesTrace told command q))
  where
    both : (t u : Task) → FilesMean told command t → FilesMean told command u → SameTask t u
    both t u h k = one_task told command programs initials reports starts traces t u h k

    one_case : (t u : Task) → FilesMean told command t → FilesMean told command u → OneCase told command t u
    one_case t u h k a b x y = same_case t u a b (both t u h k)
        (one_reported told command programs initials reports starts traces t u a b (both t u h k) x y)

    unrefused : (t : Task) (role : Role) (kind : FileKind) → FilesMean told command t → HasReport told command t
        → IsRefused told command role kind → ⊥
    unrefused t role kind h has refused = not_refused told command programs initials reports starts traces t role kind h has refused

    one_run : (t u : Task) → FilesMean told command t → FilesMean told command u → OneRun told command t u
    one_run t u h k start trace report means step why stops =
        let same = both t u h k in
        let heap : start ≡ stops.0 = starts t.program u.program same.program (Ok start) (Ok stops.0) means.gives_start stops.3.gives_start in
        let run : trace ≡ stops.1 = traces t.program u.program same.program (Ok trace) (Ok stops.1) means.gives_trace stops.3.gives_trace in
        subst (λ p. IsStuck p start trace.moves step why) (sym same.program)
        (subst (λ s. IsStuck (program_of u.program) s trace.moves step why) (sym heap)
        (subst (λ (r : Trace). IsStuck (program_of u.program) stops.0 r.moves step why) (sym run) stops.4))

    done_duly : (due : Status) (task : Task) (text : List ℕ) → FilesMean told command task → IsDone told command task text
        → DueView told command due → Done ≡ without_place due
    done_duly due task text means done (inl d) = rw d.0 refl
    done_duly due task text means done (inr (inl r)) =
        absurd (done_not_rejected told command task r.2.0 text r.0 (one_case task r.2.0 means r.2.1) done r.2.2)
    done_duly due task text means done (inr (inr (inl f))) =
        absurd (unrefused task f.0 f.1 means (done_reported told command task text done) f.3)
    done_duly due task text means done (inr (inr (inr s))) =
        absurd (done_not_stopped one_ending told command task s.3.0 text s.0 s.1 (one_run task s.3.0 means s.3.1) done s.3.2)

    stopped_duly : (due : Status) (task : Task) (step : ℕ) (why : Why) → IsValid (program_of task.program) → FilesMean told command task
        → StopsIn told command task step why → DueView told command due → Stuck step why ≡ without_place due
    stopped_duly due task step why valid means stops (inl d) =
        let same = both task d.1.0 means d.1.1 in
        absurd (can_not_stopped one_ending told command d.1.0 task step why (subst IsValid same.program valid) (one_run d.1.0 task d.1.1 means)
        d.1.2 stops)
    stopped_duly due task step why valid means stops (inr (inl r)) =
        absurd (run_not_rejected told command task r.2.0 r.0 (can_run told command task step why stops) r.2.2)
    stopped_duly due task step why valid means stops (inr (inr (inl f))) =
        absurd (unrefused task f.0 f.1 means (run_report told command task (can_run told command task step why stops)) f.3)
    stopped_duly due task step why valid means stops (inr (inr (inr s))) =
        rw s.2 (both_stopped one_ending told command task s.3.0 step s.0 why s.1 valid (one_run task s.3.0 means s.3.1) stops s.3.2)

    rejected_duly : (due : Status) (task : Task) (r : Rejection) → FilesMean told command task → IsRejected told command task r
        → DueView told command due → Rejected r ≡ without_place due
    rejected_duly due task r means rejected (inl d) =
        absurd (can_not_rejected told command d.1.0 task r (one_case d.1.0 task d.1.1 means) d.1.2 rejected)
    rejected_duly due task r means rejected (inr (inl s)) =
        rw s.1 (ap Rejected (both_rejected told command task s.2.0 r s.0 (one_case task s.2.0 means s.2.1) rejected s.2.2))
    rejected_duly due task r means rejected (inr (inr (inl f))) =
        absurd (unrefused task f.0 f.1 means (rejected_report told command task r rejected) f.3)
    rejected_duly due task r means rejected (inr (inr (inr s))) =
        absurd (run_not_rejected told command s.3.0 task r (can_run told command s.3.0 s.0 s.1 s.3.2) rejected)

    refused_duly : (due : Status) (role : Role) (kind : FileKind) → IsRefused told command role kind
        → DueView told command due → FileFault role (placeless kind) ≡ without_place due
    refused_duly due role kind refused (inl d) =
        absurd (unrefused d.1.0 role kind d.1.1 (can_reported told command d.1.0 d.1.2) refused)
    refused_duly due role kind refused (inr (inl r)) =
        absurd (unrefused r.2.0 role kind r.2.1 (rejected_report told command r.2.0 r.0 r.2.2) refused)
    refused_duly due role kind refused (inr (inr (inl f))) =
        let same = one_refusal told command programs initials reports starts traces role f.0 kind f.1 refused f.3 in
        rw (f.2, same.0, same.1) refl
    refused_duly due role kind refused (inr (inr (inr s))) =
        absurd (unrefused s.3.0 role kind s.3.1 (run_report told command s.3.0 (can_run told command s.3.0 s.0 s.1 s.3.2)) refused)

    many_duly : (due : Status) (task : Task) (max : ℕ) → FilesMean told command task → max_of command ≡ Some max
        → HasMoreThan command task max → DueView told command due → Structures max ≡ without_place due
    many_duly due task max means limit many (inl d) =
        absurd (many_not_done told command d.1.0 task max (both d.1.0 task d.1.1 means) d.1.2 limit many)
    many_duly due task max means limit many (inr (inl r)) =
        absurd (many_not_rejected told command r.2.0 max r.0 limit r.2.2)
    many_duly due task max means limit many (inr (inr (inl f))) =
        absurd (unrefused task f.0 f.1 means (many_reported told command task max limit) f.3)
    many_duly due task max means limit many (inr (inr (inr s))) =
        absurd (many_not_run told command s.3.0 max limit (can_run told command s.3.0 s.0 s.1 s.3.2))

    step_duly : (status due : Status) (task : Task) (Budget : ProgramForm → ℕ → StructureForm → Type 0)
        → ((p : ProgramForm) (edge : ℕ) (s : StructureForm) → KeepsBudgets p edge s → ¬ Budget p edge s)
        → FilesMean told command task → StepMeets told command task Budget → DueView told command due
        → status ≡ without_place due
    step_duly status due task Budget keeping means step (inl d) =
        absurd (step_not_done told command d.1.0 task Budget keeping (both d.1.0 task d.1.1 means)
        (one_case d.1.0 task d.1.1 means) d.1.2 step)
    step_duly status due task Budget keeping means step (inr (inl r)) =
        absurd (step_not_rejected told command task r.2.0 Budget r.0 (one_case task r.2.0 means r.2.1) step r.2.2)
    step_duly status due task Budget keeping means step (inr (inr (inl f))) =
        absurd (unrefused task f.0 f.1 means (step_reported told command task Budget step) f.3)
    step_duly status due task Budget keeping means step (inr (inr (inr s))) =
        absurd (step_not_run told command s.3.0 task Budget step (can_run told command s.3.0 s.0 s.1 s.3.2))

    pub command_duly : (status due : Status) → CommandEnds told command status → CommandCallsFor told command due
        → without_place status ≡ without_place due
    command_duly Done due h calls = done_duly due h.1.0 h.0 h.1.1 h.1.2 (due_view told command due calls)
    command_duly (Rejected r) due h calls = rejected_duly due h.1.0 r h.1.1 h.1.2 (due_view told command due calls)
    command_duly (Stuck step why) due h calls =
        stopped_duly due h.1.0 step why h.1.4 h.1.1 h.1.2 (due_view told command due calls)
    command_duly (FileFault role kind) due h calls = refused_duly due role kind h (due_view told command due calls)
    command_duly (Structures max) due h calls = many_duly due h.0 max h.1 h.2 h.3 (due_view told command due calls)
    command_duly TooManySplits due h calls =
        step_duly TooManySplits due h.0 MeetsSplits (λ p edge s keeps. keeps.splits) h.1 h.2 (due_view told command due calls)
    command_duly TooManyIndividuals due h calls =
        step_duly TooManyIndividuals due h.0 MeetsIndividuals (λ p edge s keeps. keeps.individuals) h.1 h.2
        (due_view told command due calls)
    command_duly Memory due h calls = absurd h
    command_duly other due h calls = absurd h

    -- a replay that can run is done or stuck
    pub command_runs : (status : Status) (task : Task) → FilesMean told command task → CanRun told command task → CommandEnds told command status
        → IsRunEnding status
    command_runs Done task means run h = tt
    command_runs (Rejected r) task means run h = absurd (run_not_rejected told command task h.1.0 r run h.1.2)
    command_runs (Stuck step why) task means run h = tt
    command_runs (FileFault role kind) task means run h = absurd (unrefused task role kind means (run_report told command task run) h)
    command_runs (Structures max) task means run h = absurd (many_not_run told command task max h.2 run)
    command_runs TooManySplits task means run h = absurd (step_not_run told command task h.0 MeetsSplits h.2 run)
    command_runs TooManyIndividuals task means run h = absurd (step_not_run told command task h.0 MeetsIndividuals h.2 run)
    command_runs Memory task means run h = absurd h
    command_runs other task means run h = absurd h

-- ---- words

module _ (one_ending : RunsHaveOneEnding)
    (one_command : (words : List (List ℕ)) (a b : CommandForm) → Spells words a → Spells words b → a ≡ b)
    (programs : (told : Option Held) (command : CommandForm) → IsTold told command → GiveOne SameProgram (GivesProgram told command) (GivesProgram told command))
    (initials : (told : Option Held) (command : CommandForm) → IsTold told command → (p q : Program) → SameProgram p q
    → GiveOne {A = List StructureForm} ◌≡◌ (GivesInitial told command p) (GivesInitial told command q))
    (reports : (told : Option Held) (command : CommandForm) → IsTold told command → (p q : Program) → SameProgram p q
    → GiveOne {A = Analysis} ◌≡◌ (GivesReport told command p) (GivesReport told command q))
    (starts : (told : Option Held) (command : CommandForm) → IsTold told command → (p q : Program) → SameProgram p q
    → GiveOne {A = StructureForm} ◌≡◌ (GivesStart told command p) (GivesStart told command q))
    (traces : (told : Option Held) (command : CommandForm) → IsTold told command → (p q : Program) → SameProgram p q
    → GiveOne {A = Trace} ◌≡◌ (GivesTrace told command p) (GivesTrace told command q))
  where
    spelled_duly : (words : List (List ℕ)) (told : Option Held) (status due : Status)
        → Commands words (λ command. CommandEnds told command status) → CallView words told due
        → without_place status ≡ without_place due
    spelled_duly words told status due h (inl nothing) = absurd (nothing.1 h.0 h.1)
    spelled_duly words told status due h (inr calls) =
        let same = one_command words h.0 calls.0 h.1 calls.1 in
        let ends : CommandEnds told calls.0 status = subst (λ c. CommandEnds told c status) same h.2 in
        command_duly one_ending told calls.0 (programs told calls.0 calls.2.0) (initials told calls.0 calls.2.0) (reports told calls.0 calls.2.0)
        (starts told calls.0 calls.2.0) (traces told calls.0 calls.2.0)
        status due ends calls.2.1

    usage_duly : (words : List (List ℕ)) (told : Option Held) (due : Status) → SpellsNothing words → CallView words told due
        → Usage ≡ without_place due
    usage_duly words told due none (inl nothing) = rw nothing.0 refl
    usage_duly words told due none (inr calls) = absurd (none calls.0 calls.1)

    spelled_runs : (words : List (List ℕ)) (told : Option Held) (status : Status)
        → Commands words (λ command. CommandEnds told command status) → CallsForRun words told → IsRunEnding status
    spelled_runs words told status h calls =
        let same = one_command words h.0 calls.0 h.1 calls.1 in
        let ends : CommandEnds told calls.0 status = subst (λ c. CommandEnds told c status) same h.2 in
        command_runs one_ending told calls.0 (programs told calls.0 calls.2.0) (initials told calls.0 calls.2.0) (reports told calls.0 calls.2.0)
        (starts told calls.0 calls.2.0) (traces told calls.0 calls.2.0)
        status calls.2.1.0 calls.2.1.1 calls.2.1.2 ends

    spelled_ends : (words : List (List ℕ)) (told : Option Held) (status : Status)
        → Commands words (λ command. CommandEnds told command status) → EndsDuly words told status (IsExcuse status)
    spelled_ends words told status h = record {
      due = λ due calls. inl (spelled_duly words told status due h (call_view words told due calls));
      run = λ calls. inl (spelled_runs words told status h calls);
    }

    excused : (words : List (List ℕ)) (told : Option Held) (status : Status) → IsExcuse status → EndsDuly words told status (IsExcuse status)
    excused words told status excuse = record { due = λ due calls. inr excuse; run = λ calls. inr excuse }

    -- a call that ends for its cause, and gives the output what is due, ends duly
    pub endings : (words : List (List ℕ)) (told : Option Held) (status : Status) (rose steady out_rose err_rose : Type 0)
        (old new : Option (List ℕ)) → EndsFor (IsCause words told rose steady) (out_rose ⊎ err_rose) status
        → OutTook status (IsAnswerTo words told) out_rose err_rose old new → EndsDuly words told status (IsExcuse status)
    endings words told Done rose steady out_rose err_rose old new cause took =
        spelled_ends words told Done (took.1.0, took.1.1, (took.0, took.1.2))
    endings words told (Rejected r) rose steady out_rose err_rose old new cause took =
        spelled_ends words told (Rejected r) (took.1.0, took.1.1, (took.0, took.1.2))
    endings words told (Stuck step why) rose steady out_rose err_rose old new cause took =
        spelled_ends words told (Stuck step why) (took.1.0, took.1.1, (took.0, took.1.2))
    endings words told Usage rose steady out_rose err_rose old new cause took = record {
      due = λ due calls. inl (usage_duly words told due cause (call_view words told due calls));
      run = λ calls. absurd (cause calls.0 calls.1);
    }
    endings words told (FileFault role kind) rose steady out_rose err_rose old new cause took =
        spelled_ends words told (FileFault role kind) cause
    endings words told (Structures max) rose steady out_rose err_rose old new cause took = spelled_ends words told (Structures max) cause
    endings words told TooManySplits rose steady out_rose err_rose old new cause took = spelled_ends words told TooManySplits cause
    endings words told TooManyIndividuals rose steady out_rose err_rose old new cause took =
        spelled_ends words told TooManyIndividuals cause
    endings words told ReadFault rose steady out_rose err_rose old new cause took = excused words told ReadFault tt
    endings words told WriteFault rose steady out_rose err_rose old new cause took = excused words told WriteFault tt
    endings words told Memory rose steady out_rose err_rose old new cause took = excused words told Memory tt

    -- where each file is there, none is missing
    there : (told : Option Held) (command : CommandForm) → HoldsFiles told command → IsMissing told command → ⊥
    there told (Checks p i report mode maps delta) h (inr (inr lacks)) = lacks.2 h.2
    there told (Demos number) h (inl lacks) = lacks
    there told (Demos number) h (inr (inl lacks)) = lacks.2
    there told (Sources n i max) h (inl lacks) = lacks h.0
    there told (Replays p i start trace report) h (inr (inr lacks)) = there_later lacks.2
      where
        there_later : LacksLater told (Replays p i start trace report) lacks.0.program → ⊥
        there_later (inl none) = none h.2
        there_later (inr (inl none)) = none.1 h.3
        there_later (inr (inr none)) = none.1 h.4
    there told other h (inr (inl lacks)) = lacks.2 h.1
    there told other h (inl lacks) = h.0 lacks
    there told other h (inr (inr lacks)) = lacks.2

    pub none_missing : (words : List (List ℕ)) (told : Option Held) → HoldsOperands words told → ¬ Commands words (IsMissing told)
    none_missing words told holds missing =
        let same = one_command words holds.0 missing.0 holds.1 missing.1 in
        there told missing.0 (subst (HoldsFiles told) same holds.2) missing.2
