-- What a command answers, and what it gives no answer for.
use Rattle.std.specs.Prelude.{ℕ, ◌≡◌, List, [], ◌++◌, length, sum_by, Bool, true, false, Option, None, Some}
use Rattle.std.specs.Prelude.{Ok, codes, decimal}
use Rattle.tv_judge.specs.Judged.{Case, IsClosedReport, KeepsAllBudgets, IsRejection, StopsAt, AreMapsOf}
use Rattle.tv_judge.specs.Verdicts.{case_of}
use Rattle.tv_join.specs.Joined.{IsJoined}
use Rattle.tv_join.specs.Rounds.{IsInRound}
use Rattle.tv_lex.specs.Token.{SpecToken}
use Rattle.tv_listing.specs.Listed.{IsListing}
use Rattle.tv_listing.specs.declared.analysis.Analysis.{Analysis}
use Rattle.tv_listing.specs.declared.analysis.MapLine.{MapLine}
use Rattle.tv_listing.specs.declared.analysis.Rejection.{Rejection}
use Rattle.tv_listing.specs.declared.analysis.Rejection.TheVariants as rejection
use Rattle.tv_model.specs.Program.{ProgramForm, program_of}
use Rattle.tv_model.specs.Valid.{IsValid}
use Rattle.tv_model.specs.declared.program.Mode.TheVariants.{Recompute}
use Rattle.tv_model.specs.declared.program.Program.{Program}
use Rattle.tv_outside.specs.Told.{Held}
use Rattle.tv_report.specs.Text.{report_text}
use Rattle.tv_source.specs.Forms.{SourceForm}
use Rattle.tv_plang_laws.specs.Compiled.{compiled}
use Rattle.tv_source_names.specs.Outcome.{MeansSource}
use Rattle.tv_source_laws.specs.Covers.{CoversSource}
use Rattle.tv_status.specs.declared.status.Status.{Status}
use Rattle.tv_status.specs.declared.status.Status.TheVariants.{Done, Rejected, Stuck}
use Rattle.tv_structure_form.specs.StructureForm.{StructureForm, IsStructure}
use Rattle.tv_texts.specs.Files.{HoldsSuch, IsProgramFile}
use Rattle.tv_texts.specs.Meaning.{HasTokens}
use Rattle.tv_top.specs.Meaning.{Task, FilesMean, GivesReport, GivesStart, GivesTrace}
use Rattle.tv_step_laws.specs.Closed.{IsClosed, CoversRuns}
use Rattle.tv_replay_laws.specs.Runs.{ShowsGivenRun, ShowsRecomputedRun}
use Rattle.tv_replay_laws.specs.States.{IsReplay}
use Rattle.tv_replay_laws.specs.Stuck.{GoesThrough, IsStuck, Standing, start_at}
use Rattle.tv_replay_laws.specs.declared.state.State.{State}
use Rattle.tv_replay_laws.specs.declared.state.Why.{Why}
use Rattle.tv_replay.specs.Text.{states_text, stuck_line}
use Rattle.tv_trace.specs.declared.trace.Trace.{Trace}
use Rattle.tv_words.specs.Words.{CommandForm, Analyzes, Checks, Demos, Joins, Replays, Sources}
use Rattle.tv_work.specs.Analyzed.{IsAnalysis, KeepAllBudgets, Meets}
use Rattle.tv_work.specs.Reach.{Point, IsReached, AreMoreThan}

-- ---- soundness

-- each heap, of any size, that a run of the task brings to a node embeds in a structure that is listed there,
-- and a message without a line is false in each heap that a run brings to its edge's source
abbrev pub IsSound : Task → Analysis → Type 0
IsSound task a = CoversRuns (program_of task.program) task.mode task.initial a.listing a.messages

-- With `delta`, the listing covers all runs of the program that was read in which defined predicates are
-- evaluated anew: no update of that program need agree with a definition.
abbrev pub CoversReadRuns : (delta : Bool) → Option Held → (name : List ℕ) → (initial : List StructureForm)
    → Analysis
    → Type 0
CoversReadRuns false told name initial a = Unit {0}
CoversReadRuns true told name initial a = (read : Program) × IsProgramFile told name (Ok read)
    × CoversRuns (program_of read) Recompute initial a.listing a.messages

-- ---- what an analysis finds

abbrev pub Reached : Task → Point → Type 0
Reached task = IsReached (program_of task.program) task.mode task.initial

-- the analysis lists exactly the reached structures, at most so many, with the messages that may be true
-- there; it is closed, and covers all runs
pub record IsFound (task : Task) (max : ℕ) (a : Analysis) : Type 0 where
  pub valid : IsValid (program_of task.program)
  pub listing : IsListing task.program a.listing
  pub exact : IsAnalysis (program_of task.program) task.mode task.initial max a.listing a.messages
  pub no_maps : a.maps ≡ []
  pub closed : IsClosed (program_of task.program) task.mode task.initial a.listing a.messages
  pub sound : IsSound task a

-- ---- what a joined analysis finds

-- the structures that a round of the joined analysis lists
abbrev pub InRound : Task → (round : ℕ) → Point → Type 0
InRound task = IsInRound (program_of task.program) task.mode task.initial

-- the joined analysis lists what its rounds come to, at most so many structures, with the messages that may
-- be true there; it is closed, and covers all runs
pub record IsJoinFound (task : Task) (max : ℕ) (a : Analysis) : Type 0 where
  pub valid : IsValid (program_of task.program)
  pub listing : IsListing task.program a.listing
  pub exact : IsJoined (program_of task.program) task.mode task.initial max a.listing a.messages
  pub no_maps : a.maps ≡ []
  pub closed : IsClosed (program_of task.program) task.mode task.initial a.listing a.messages
  pub sound : IsSound task a

-- ---- what a demo counts

-- how many structures a demo may list
abbrev pub demo_max : ℕ
demo_max = 5000

-- `demo NUMBER pairs COUNT messages COUNT`
abbrev pub demo_line : (number : ℕ) → Analysis → List ℕ
demo_line number a = codes "demo " ++ (decimal number ++ (codes " pairs " ++ (decimal
    (sum_by length a.listing)
    ++ (codes " messages " ++ (decimal (length a.messages) ++ codes "\n")))))

-- ---- what a checker finds

abbrev pub case_for : Task → Analysis → Case
case_for task report = case_of task.program task.mode task.initial report

-- the report is closed, all its steps keep the budgets, and it covers all runs
pub record IsAccepted (task : Task) (report : Analysis) : Type 0 where
  pub valid : IsValid (program_of task.program)
  pub closed : IsClosedReport (case_for task report)
  pub budgets : KeepsAllBudgets (case_for task report)
  pub sound : IsSound task report

-- the report with these maps in place of its own
abbrev pub with_maps : Analysis → List MapLine → Analysis
with_maps report maps = record { listing = report.listing; messages = report.messages; maps = maps }

-- `accepted`, or, where maps are asked for, the report with these
abbrev pub accepted_text : Program → Analysis → (lines : List MapLine) → (maps : Bool) → List ℕ
accepted_text program report lines false = codes "accepted\n"
accepted_text program report lines true = report_text program (with_maps report lines)

-- and these maps are those of the items
abbrev pub IsAcceptedText : Task → Analysis → (maps : Bool) → List ℕ → Type 0
IsAcceptedText task report maps text = (lines : List MapLine) × AreMapsOf (case_for task report) lines
    × (text ≡ accepted_text task.program report lines maps)

abbrev pub rejected_item : Rejection → List ℕ
rejected_item (rejection.Initial number) = codes "initial " ++ decimal number
rejected_item (rejection.Result edge structure result) = codes "edge " ++ (decimal edge
    ++ (codes " structure " ++ (decimal structure ++ (codes " result " ++ decimal result))))
rejected_item (rejection.Message edge number) = codes "message " ++ (decimal edge ++ (codes " "
    ++ decimal number))

-- `rejected: ` and the first demand that isn't met
abbrev pub rejected_line : Rejection → List ℕ
rejected_line r = codes "rejected: " ++ (rejected_item r ++ codes "\n")

-- ---- what a replay finds

-- START, TRACE and REPORT mean this heap, this trace and this report
pub record RunMeans (told : Option Held) (command : CommandForm) (meant : Program) (start : StructureForm)
    (trace : Trace) (report : Analysis) : Type 0 where
  pub gives_start : GivesStart told command meant (Ok start)
  pub gives_trace : GivesTrace told command meant (Ok trace)
  pub gives_report : GivesReport told command meant (Ok report)

-- these are the states of the trace from the heap, judged by the initial structures and by the report; and
-- where nothing is broken, there is a run of the program through their heaps
pub record AreStates (task : Task) (start : StructureForm) (trace : Trace) (report : Analysis)
    (states : List State)
    : Type 0 where
  pub valid : IsValid (program_of task.program)
  pub is : IsStructure start
  pub are : IsReplay (program_of task.program) task.initial start trace.moves report.listing states
  pub given : ShowsGivenRun (program_of task.program) task.initial trace.moves states
  pub recomputed : ShowsRecomputedRun (program_of task.program) task.initial trace.moves states

-- the text is that of the states
abbrev pub IsReplayed : Option Held → CommandForm → Task → List ℕ → Type 0
IsReplayed told command task text = (start : StructureForm) × (trace : Trace) × (report : Analysis)
    × RunMeans told command task.program start trace report
    × ((states : List State) × AreStates task start trace report states
    × (text ≡ states_text task.program states))

-- the trace can't go on at this step, for this reason
abbrev pub StopsIn : Option Held → CommandForm → Task → (step : ℕ) → Why → Type 0
StopsIn told command task step why = (start : StructureForm) × (trace : Trace) × (report : Analysis)
    × RunMeans told command task.program start trace report
    × IsStuck (program_of task.program) start trace.moves step why

-- the trace goes on to its end
abbrev pub GoesOnIn : Option Held → CommandForm → Task → Type 0
GoesOnIn told command task = (start : StructureForm) × (trace : Trace) × (report : Analysis)
    × RunMeans told command task.program start trace report
    × ((later : List Standing) × GoesThrough (program_of task.program) (start_at start) trace.moves later)

-- START, TRACE and REPORT mean something
abbrev pub CanRun : Option Held → CommandForm → Task → Type 0
CanRun told command task = (start : StructureForm) × (trace : Trace) × (report : Analysis)
    × RunMeans told command task.program start trace report

-- ---- what is found of a source program

-- the tokens mean a source program, which the task's program is compiled from; what is listed covers its
-- runs: the heap of each state embeds in a structure listed at the node of its position, and a dereference
-- whose message has no line meets no null
pub record IsSourceSound (task : Task) (a : Analysis) (ts : List SpecToken) : Type 0 where
  pub source : SourceForm
  pub meant : MeansSource ts source
  pub is : program_of task.program ≡ compiled source
  pub covers : CoversSource source task.initial a.listing a.messages

-- the file's text is such a program
abbrev pub CoversSourceFile : Option Held → (source : List ℕ) → Task → Analysis → Type 0
CoversSourceFile told source task a =
    HoldsSuch told source (λ text. HasTokens text (λ tokens ts. IsSourceSound task a ts))

-- ---- the answers of a command

-- the text is what the command gives where its job is done
abbrev pub IsDone : Option Held → CommandForm → Task → List ℕ → Type 0
IsDone told (Analyzes program initial max mode delta) task text =
    (a : Analysis) × IsFound task max a × (text ≡ report_text task.program a)
    × CoversReadRuns delta told program task.initial a
IsDone told (Checks program initial report mode maps delta) task text =
    (a : Analysis) × GivesReport told (Checks program initial report mode maps delta) task.program (Ok a)
    × IsAccepted task a × IsAcceptedText task a maps text × CoversReadRuns delta told program task.initial a
IsDone told (Demos number) task text =
    (a : Analysis) × IsFound task demo_max a × (text ≡ demo_line number a)
IsDone told (Joins program initial max mode) task text =
    (a : Analysis) × IsJoinFound task max a × (text ≡ report_text task.program a)
IsDone told (Replays program initial start trace report) task text =
    IsReplayed told (Replays program initial start trace report) task text
IsDone told (Sources source initial max) task text = (a : Analysis) × IsFound task max a
    × CoversSourceFile told source task a × (text ≡ report_text task.program a)

-- in `check`: the report isn't closed, and this is the first demand that it doesn't meet
abbrev pub IsRejected : Option Held → CommandForm → Task → Rejection → Type 0
IsRejected told (Checks program initial report mode maps delta) task r =
    (a : Analysis) × GivesReport told (Checks program initial report mode maps delta) task.program (Ok a)
    × IsRejection (case_for task a) r
IsRejected told other task r = ⊥

-- the command ends in this status with this text, as what its files mean calls for
abbrev pub IsAnswer : Option Held → CommandForm → Status → List ℕ → Type 0
IsAnswer told command Done text = (task : Task) × FilesMean told command task × IsDone told command task text
IsAnswer told command (Rejected r) text =
    (task : Task) × FilesMean told command task × IsRejected told command task r × (text ≡ rejected_line r)
IsAnswer told command (Stuck step why) text =
    (task : Task) × FilesMean told command task × StopsIn told command task step why
    × (text ≡ stuck_line step why)
    × IsValid (program_of task.program)
IsAnswer told command other text = ⊥

-- ---- limits

-- how many structures the command may list
abbrev pub max_of : CommandForm → Option ℕ
max_of (Analyzes program initial max mode delta) = Some max
max_of (Demos number) = Some demo_max
max_of (Joins program initial max mode) = Some max
max_of (Sources source initial max) = Some max
max_of other = None

-- there are more structures than this: those that are reached; or in `join`, those that some round lists
abbrev pub HasMoreThan : CommandForm → Task → (max : ℕ) → Type 0
HasMoreThan (Checks program initial report mode maps delta) task most = ⊥
HasMoreThan (Joins program initial max mode) task most = (round : ℕ) × AreMoreThan most (InRound task round)
HasMoreThan (Replays program initial start trace report) task most = ⊥
HasMoreThan other task most = AreMoreThan most (Reached task)

-- there are more structures than may be listed
abbrev pub ReachesTooMuch : Option Held → CommandForm → (max : ℕ) → Type 0
ReachesTooMuch told command max = (task : Task) × FilesMean told command task
    × (max_of command ≡ Some max) × HasMoreThan command task max

-- the step of a reached structure meets the budget; or in `check`, that of a listed one, and each demand
-- before is met; or in `join`, that of one which some round lists
abbrev pub StepMeets : Option Held → CommandForm → Task → (ProgramForm → ℕ → StructureForm → Type 0) → Type 0
StepMeets told (Checks program initial report mode maps delta) task Budget =
    (a : Analysis) × GivesReport told (Checks program initial report mode maps delta) task.program (Ok a)
    × StopsAt (case_for task a) Budget
StepMeets told (Joins program initial max mode) task Budget =
    (round : ℕ) × Meets (program_of task.program) (Budget (program_of task.program)) (InRound task round)
StepMeets told (Replays program initial start trace report) task Budget = ⊥
StepMeets told other task Budget =
    Meets (program_of task.program) (Budget (program_of task.program)) (Reached task)

abbrev pub MeetsBudget : Option Held → CommandForm → (ProgramForm → ℕ → StructureForm → Type 0) → Type 0
MeetsBudget told command Budget = (task : Task) × FilesMean told command task
    × StepMeets told command task Budget

-- not more than so many structures are reached, and their steps keep the budgets
pub record KeepsLimits (task : Task) (max : ℕ) : Type 0 where
  pub few : ¬ AreMoreThan max (Reached task)
  pub budgets : KeepAllBudgets (program_of task.program) (Reached task)

-- no round lists more than so many structures, and their steps keep the budgets
pub record KeepsRoundLimits (task : Task) (max : ℕ) : Type 0 where
  pub few : (round : ℕ) → ¬ AreMoreThan max (InRound task round)
  pub budgets : (round : ℕ) → KeepAllBudgets (program_of task.program) (InRound task round)

-- nothing stands in the way of the job: the limits are kept, the report is closed, or the trace goes on to
-- its end
abbrev pub CanBeDone : Option Held → CommandForm → Task → Type 0
CanBeDone told (Analyzes program initial max mode delta) task = KeepsLimits task max
CanBeDone told (Checks program initial report mode maps delta) task =
    (a : Analysis) × GivesReport told (Checks program initial report mode maps delta) task.program (Ok a)
    × IsClosedReport (case_for task a) × KeepsAllBudgets (case_for task a)
CanBeDone told (Demos number) task = KeepsLimits task demo_max
CanBeDone told (Joins program initial max mode) task = KeepsRoundLimits task max
CanBeDone told (Replays program initial start trace report) task =
    GoesOnIn told (Replays program initial start trace report) task
CanBeDone told (Sources source initial max) task = KeepsLimits task max
