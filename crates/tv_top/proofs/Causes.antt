-- The causes of the parts of the work, as those of a command.
use Rattle.std.proofs.Common.{◌≡◌, ℕ, Bool, true, false, List, Option, Some, Result, Ok, Err, inl, inr}
use Rattle.std.proofs.Common.{refl, sym, subst}
use Rattle.std.specs.Prelude.{IfOk, IfErr}
use Rattle.tv_join.specs.Joined.{IsJoinCause}
use Rattle.tv_judge.specs.Judged.{IsJudgeCause, StopsAt, IsRejection}
use Rattle.tv_listing.specs.declared.analysis.Analysis.{Analysis}
use Rattle.tv_model.specs.Program.{ProgramForm, program_of}
use Rattle.tv_model.specs.declared.program.Mode.{Mode}
use Rattle.tv_model.specs.declared.program.Program.{Program}
use Rattle.tv_outside.specs.Told.{Held, HoldsName}
use Rattle.tv_status.specs.declared.status.FileKind.{FileKind}
use Rattle.tv_status.specs.declared.status.Role.{Role}
use Rattle.tv_status.specs.declared.status.Role.TheVariants as role
use Rattle.tv_structure_form.specs.StructureForm.{StructureForm}
use Rattle.tv_struct.specs.declared.analysis.StageError.{StageError}
use Rattle.tv_struct.specs.declared.analysis.StageError.TheVariants as stage
use Rattle.tv_texts.specs.Files.{IsProgramFile, LacksFile, IsInitialFile, IsFileCause, IsTextCause}
use Rattle.tv_texts.specs.Files.{UnlessNotRead, IsSourceFile}
use Rattle.tv_texts.specs.Meaning.{MeansProgram, MeansInitial}
use Rattle.tv_texts.specs.declared.fault.TextFault.{TextFault}
use Rattle.tv_texts.specs.declared.fault.TextFault.TheVariants.{Refused, NotRead, Memory}
use Rattle.tv_top.specs.Answers.{Reached, InRound, case_for, max_of, HasMoreThan, StepMeets, IsAnswer, IsDone}
use Rattle.tv_top.specs.Answers.{IsAccepted, IsAcceptedText, IsRejected, RunMeans, IsReplayed}
use Rattle.tv_top.specs.Call.{IsCause, IsCommandCause}
use Rattle.tv_top.specs.Delivery.{SaidOf}
use Rattle.tv_top.specs.Faults.{fault_of_work, fault_of_stage, fault_of_text}
use Rattle.tv_top.specs.Meaning.{Task, FilesMean, IsTakenProgram, GivesProgram, GivesInitial, GivesReport}
use Rattle.tv_top.specs.Meaning.{LacksInitial, LacksProgram, LacksLater, IsRefused}
use Rattle.tv_top.specs.Work.{Comes, Lacks, Names, role_of, IsSearchCause, IsJoinSearchCause, IsJudged}
use Rattle.tv_top.specs.Work.{IsJudgementCause, UnlessReadFault, IsReplayAnswer}
use Rattle.tv_top.specs.declared.fault.Answer.{Answer}
use Rattle.tv_top.specs.declared.fault.Answer.TheVariants as answer
use Rattle.tv_top.specs.declared.fault.Fault.{Fault}
use Rattle.tv_top.specs.declared.fault.Fault.TheVariants as fault
use Rattle.tv_top.specs.declared.inputs.Origin.{Origin}
use Rattle.tv_top.specs.declared.inputs.Origin.TheVariants as origin
use Rattle.tv_step_laws.specs.Budgets.{MeetsSplits, MeetsIndividuals}
use Rattle.tv_listing.specs.declared.analysis.Rejection.{Rejection}
use Rattle.tv_trace.specs.declared.trace.Trace.{Trace}
use Rattle.tv_words.specs.Words.{CommandForm, Analyzes, Checks, Demos, Joins, Replays, Sources, Spells}
use Rattle.tv_work.specs.Analyzed.{IsWorkCause, Meets}
use Rattle.tv_work.specs.Reach.{AreMoreThan}
use Rattle.tv_work.specs.declared.error.WorkError.{WorkError}
use Rattle.tv_work.specs.declared.error.WorkError.TheVariants as work
use Rattle.tv_demo.specs.Texts.{program_text, lists_text}

-- ---- counts and steadiness

pub holds_unless : {T : Type 0} (result : Result T Fault) (P : Type 0) → P → UnlessReadFault result P
holds_unless (Ok found) P h = h
holds_unless (Err fault.Usage) P h = h
holds_unless (Err (fault.FileFault r k)) P h = h
holds_unless (Err (fault.Structures max)) P h = h
holds_unless (Err fault.TooManySplits) P h = h
holds_unless (Err fault.TooManyIndividuals) P h = h
holds_unless (Err fault.ReadFault) P h = tt
holds_unless (Err fault.Memory) P h = h

-- a file that isn't read, as a fault
pub unless_not_read : (T U : Type 0) (e : TextFault) (P Q : Type 0) → (P → Q) → UnlessNotRead {T = T} (Err e) P
    → UnlessReadFault {T = U} (Err (fault_of_text e)) Q
unless_not_read T U (Refused r k) P Q f h = f h
unless_not_read T U NotRead P Q f h = tt
unless_not_read T U Memory P Q f h = f h

-- ---- the files of a command

-- a refusal is that of the file, with and without differencing
taken_refused : (told : Option Held) (name : List ℕ) (delta : Bool) (k : FileKind) → IsProgramFile told name (Err k)
    → IsTakenProgram delta told name (Err k)
taken_refused told name false k file = file
taken_refused told name true k file = file

-- why the program that was read isn't had, with and without differencing
pub taken_fault : (told : Option Held) (name : List ℕ) (delta : Bool) (rose steady : Type 0) (e : TextFault)
    → IsFileCause role.Program (λ k. IsProgramFile told name (Err k)) (LacksFile told name) rose steady e
    → IsFileCause role.Program (λ k. IsTakenProgram delta told name (Err k)) (LacksFile told name) rose steady e
taken_fault told name delta rose steady (Refused r k) h = (h.0, taken_refused told name delta k h.1)
taken_fault told name delta rose steady NotRead h = h
taken_fault told name delta rose steady Memory h = tt

pub memory_fault : {T : Type 0} (result : Result T TextFault) (its_role : Role) (Refuses : FileKind → Type 0)
    (lacks rose steady : Type 0) → IfErr result (λ e. e ≡ Memory)
    → IfErr result (IsFileCause its_role Refuses lacks rose steady)
memory_fault (Ok found) its_role Refuses lacks rose steady h = h
memory_fault (Err e) its_role Refuses lacks rose steady h = rw h tt

same_program_file : (told : Option Held) (n m : List ℕ) (d e : Bool) (a : Result Program FileKind) → n ≡ m → d ≡ e
    → IsTakenProgram e told m a → IsTakenProgram d told n a
same_program_file told n m d e a names deltas file = rw (names, deltas) file

-- a command whose program comes from there, and whose INITIAL is the named file
module _ (told : Option Held) where
  named_program : (command : CommandForm) (from : Origin) (initial : List ℕ) (a : Result Program FileKind) → Names command from initial
      → Comes from told a → GivesProgram told command a
  named_program (Analyzes p i max mode d) (origin.Program n delta) initial a names file =
      same_program_file told p n.now d delta a names.0 names.2 file
  named_program (Checks p i report mode maps d) (origin.Program n delta) initial a names file =
      same_program_file told p n.now d delta a names.0 names.2 file
  named_program (Joins p i max mode) (origin.Program n delta) initial a names file =
      same_program_file told p n.now false delta a names.0 names.2 file
  named_program (Replays p i start trace report) (origin.Program n delta) initial a names file =
      same_program_file told p n.now false delta a names.0 names.2 file
  named_program (Sources s i max) (origin.Source n) initial a names file = subst (λ m. IsSourceFile told m a) (sym names.0) file
  named_program command from initial a names file = absurd names

  named_initial : (command : CommandForm) (from : Origin) (initial : List ℕ) (p : Program) (a : Result (List StructureForm) FileKind)
      → Names command from initial → IsInitialFile told initial p a → GivesInitial told command p a
  named_initial (Analyzes n i max mode d) (origin.Program _ _) initial p a names file = subst (λ m. IsInitialFile told m p a) (sym names.1) file
  named_initial (Checks n i report mode maps d) (origin.Program _ _) initial p a names file =
      subst (λ m. IsInitialFile told m p a) (sym names.1) file
  named_initial (Joins n i max mode) (origin.Program _ _) initial p a names file = subst (λ m. IsInitialFile told m p a) (sym names.1) file
  named_initial (Replays n i start trace report) (origin.Program _ _) initial p a names file =
      subst (λ m. IsInitialFile told m p a) (sym names.1) file
  named_initial (Sources n i max) (origin.Source _) initial p a names file = subst (λ m. IsInitialFile told m p a) (sym names.1) file
  named_initial command from initial p a names file = absurd names

  program_refused : (command : CommandForm) (from : Origin) (initial : List ℕ) (k : FileKind) → Names command from initial
      → GivesProgram told command (Err k) → IsRefused told command (role_of from) k
  program_refused (Analyzes n i max mode d) (origin.Program _ _) initial k names refused = (refl, refused)
  program_refused (Checks n i report mode maps d) (origin.Program _ _) initial k names refused = (refl, refused)
  program_refused (Joins n i max mode) (origin.Program _ _) initial k names refused = (refl, refused)
  program_refused (Replays n i start trace report) (origin.Program _ _) initial k names refused = (refl, refused)
  program_refused (Sources n i max) (origin.Source _) initial k names refused = (refl, refused)
  program_refused command from initial k names refused = absurd names

  lacks_program : (command : CommandForm) (from : Origin) (initial : List ℕ) → Names command from initial → Lacks from told
      → LacksProgram told command
  lacks_program (Analyzes p i max mode d) (origin.Program _ _) initial names lacks = subst (LacksFile told) (sym names.0) lacks
  lacks_program (Checks p i report mode maps d) (origin.Program _ _) initial names lacks = subst (LacksFile told) (sym names.0) lacks
  lacks_program (Joins p i max mode) (origin.Program _ _) initial names lacks = subst (LacksFile told) (sym names.0) lacks
  lacks_program (Replays p i start trace report) (origin.Program _ _) initial names lacks = subst (LacksFile told) (sym names.0) lacks
  lacks_program (Sources n i max) (origin.Source _) initial names lacks = subst (λ m. ¬ HoldsName told m) (sym names.0) lacks
  lacks_program command from initial names lacks = absurd names

  lacks_initial : (command : CommandForm) (from : Origin) (initial : List ℕ) → Names command from initial → ¬ HoldsName told initial
      → LacksInitial told command
  lacks_initial (Analyzes n i max mode d) (origin.Program _ _) initial names lacks = subst (λ m. ¬ HoldsName told m) (sym names.1) lacks
  lacks_initial (Checks n i report mode maps d) (origin.Program _ _) initial names lacks = subst (λ m. ¬ HoldsName told m) (sym names.1) lacks
  lacks_initial (Joins n i max mode) (origin.Program _ _) initial names lacks = subst (λ m. ¬ HoldsName told m) (sym names.1) lacks
  lacks_initial (Replays n i start trace report) (origin.Program _ _) initial names lacks =
      subst (λ m. ¬ HoldsName told m) (sym names.1) lacks
  lacks_initial (Sources n i max) (origin.Source _) initial names lacks = subst (λ m. ¬ HoldsName told m) (sym names.1) lacks
  lacks_initial command from initial names lacks = absurd names

  module _ (command : CommandForm) (from : Origin) (initial : List ℕ) (names : Names command from initial) where
    pub program_named : (a : Result Program FileKind) → Comes from told a → GivesProgram told command a
    program_named a file = named_program command from initial a names file

    pub initial_named : (p : Program) (a : Result (List StructureForm) FileKind) → IsInitialFile told initial p a → GivesInitial told command p a
    initial_named p a file = named_initial command from initial p a names file

    -- why the program isn't had
    pub program_fault : (rose steady : Type 0) (e : TextFault)
        → IsFileCause (role_of from) (λ k. Comes from told (Err k)) (Lacks from told) rose steady e
        → IsCommandCause told command rose steady (fault_of_text e)
    program_fault rose steady (Refused its k) h =
        subst (λ r. IsRefused told command r k) (sym h.0) (program_refused command from initial k names (program_named (Err k) h.1))
    program_fault rose steady NotRead h = (h.0, λ s. inl (lacks_program command from initial names (h.1 s)))
    program_fault rose steady Memory h = tt

    -- why INITIAL isn't had
    pub initial_fault : (p : Program) (rose steady later still_steady : Type 0) (e : TextFault) → Comes from told (Ok p) → (later → rose)
        → (steady → still_steady)
        → IsFileCause role.Initial (λ k. IsInitialFile told initial p (Err k)) (¬ HoldsName told initial) later still_steady e
        → IsCommandCause told command rose steady (fault_of_text e)
    initial_fault p rose steady later still_steady (Refused its k) file f g h =
        subst (λ r. IsRefused told command r k) (sym h.0) (p, program_named (Ok p) file, initial_named p (Err k) h.1)
    initial_fault p rose steady later still_steady NotRead file f g h =
        (f h.0, λ s. inr (inl (p, program_named (Ok p) file, lacks_initial command from initial names (h.1 (g s)))))
    initial_fault p rose steady later still_steady Memory file f g h = tt

-- why a file behind INITIAL isn't had, which has this role
pub later_fault : (told : Option Held) (command : CommandForm) (task : Task) (its_role : Role) (Refuses : FileKind → Type 0)
    (lacks rose steady later still_steady : Type 0) (e : TextFault)
    → FilesMean told command task → (later → rose) → (steady → still_steady)
    → ((k : FileKind) → Refuses k → IsRefused told command its_role k)
    → (lacks → LacksLater told command task.program)
    → IsFileCause its_role Refuses lacks later still_steady e → IsCommandCause told command rose steady (fault_of_text e)
later_fault told command task its_role Refuses lacks rose steady later still_steady (Refused its k) means f g refuses misses h =
    subst (λ r. IsRefused told command r k) (sym h.0) (refuses k h.1)
later_fault told command task its_role Refuses lacks rose steady later still_steady NotRead means f g refuses misses h =
    (f h.0, λ s. inr (inr (task, means, misses (h.1 (g s)))))
later_fault told command task its_role Refuses lacks rose steady later still_steady Memory means f g refuses misses h = tt

-- ---- a demo

pub demo_program_fault : (told : Option Held) (number : ℕ) (rose steady : Type 0) (e : TextFault)
    → IsTextCause role.Program (λ k. MeansProgram (program_text number) (Err k)) e
    → IsCommandCause told (Demos number) rose steady (fault_of_text e)
demo_program_fault told number rose steady (Refused its k) h = subst (λ r. IsRefused told (Demos number) r k) (sym h.0) (refl, h.1)
demo_program_fault told number rose steady NotRead h = absurd h.0
demo_program_fault told number rose steady Memory h = tt

pub demo_initial_fault : (told : Option Held) (number : ℕ) (p : Program) (rose steady : Type 0) (e : TextFault)
    → MeansProgram (program_text number) (Ok p)
    → IsTextCause role.Initial (λ k. MeansInitial p lists_text (Err k)) e
    → IsCommandCause told (Demos number) rose steady (fault_of_text e)
demo_initial_fault told number p rose steady (Refused its k) means h =
    subst (λ r. IsRefused told (Demos number) r k) (sym h.0) (p, means, h.1)
demo_initial_fault told number p rose steady NotRead means h = absurd h.0
demo_initial_fault told number p rose steady Memory means h = tt

-- ---- analyses and judgements

pub work_fault : (task : Task) (max : ℕ) (e : WorkError) → IsWorkCause (program_of task.program) max (Reached task) e
    → IsSearchCause task max (fault_of_work max e)
work_fault task max work.Structures h = (refl, h)
work_fault task max work.Splits h = h
work_fault task max work.Individuals h = h
work_fault task max work.Memory h = tt

pub join_fault : (task : Task) (max : ℕ) (e : WorkError)
    → IsJoinCause (program_of task.program) task.mode task.initial max e → IsJoinSearchCause task max (fault_of_work max e)
join_fault task max work.Structures h = (refl, h)
join_fault task max work.Splits h = h
join_fault task max work.Individuals h = h
join_fault task max work.Memory h = tt

pub stage_fault : (task : Task) (report : Analysis) (e : StageError) → IsJudgeCause (case_for task report) e
    → IsJudgementCause task report (fault_of_stage e)
stage_fault task report stage.Splits h = h
stage_fault task report stage.Individuals h = h
stage_fault task report stage.Memory h = tt

pub search_fault : (told : Option Held) (command : CommandForm) (task : Task) (max : ℕ) (rose steady : Type 0) (f : Fault)
    → FilesMean told command task → max_of command ≡ Some max
    → ((most : ℕ) → AreMoreThan most (Reached task) → HasMoreThan command task most)
    → ((Budget : ProgramForm → ℕ → StructureForm → Type 0)
    → Meets (program_of task.program) (Budget (program_of task.program)) (Reached task) → StepMeets told command task Budget)
    → IsSearchCause task max f → IsCommandCause told command rose steady f
search_fault told command task max rose steady fault.Usage means limit many meets h = absurd h
search_fault told command task max rose steady (fault.FileFault r k) means limit many meets h = absurd h
search_fault told command task max rose steady (fault.Structures more) means limit many meets h =
    (task, means, rw h.0 limit, many more (subst (λ n. AreMoreThan n (Reached task)) (sym h.0) h.1))
search_fault told command task max rose steady fault.TooManySplits means limit many meets h =
    (task, means, meets MeetsSplits h)
search_fault told command task max rose steady fault.TooManyIndividuals means limit many meets h =
    (task, means, meets MeetsIndividuals h)
search_fault told command task max rose steady fault.ReadFault means limit many meets h = absurd h
search_fault told command task max rose steady fault.Memory means limit many meets h = tt

pub join_search_fault : (told : Option Held) (program initial : List ℕ) (mode : Mode) (task : Task) (max : ℕ)
    (rose steady : Type 0) (f : Fault) → FilesMean told (Joins program initial max mode) task → IsJoinSearchCause task max f
    → IsCommandCause told (Joins program initial max mode) rose steady f
join_search_fault told program initial mode task max rose steady fault.Usage means h = absurd h
join_search_fault told program initial mode task max rose steady (fault.FileFault r k) means h = absurd h
join_search_fault told program initial mode task max rose steady (fault.Structures more) means h =
    (task, means, rw h.0 refl, (h.1.0, subst (λ n. AreMoreThan n (InRound task h.1.0)) (sym h.0) h.1.1))
join_search_fault told program initial mode task max rose steady fault.TooManySplits means h = (task, means, h)
join_search_fault told program initial mode task max rose steady fault.TooManyIndividuals means h = (task, means, h)
join_search_fault told program initial mode task max rose steady fault.ReadFault means h = absurd h
join_search_fault told program initial mode task max rose steady fault.Memory means h = tt

pub judgement_fault : (told : Option Held) (command : CommandForm) (task : Task) (report : Analysis) (rose steady : Type 0) (f : Fault)
    → FilesMean told command task
    → ((Budget : ProgramForm → ℕ → StructureForm → Type 0) → StopsAt (case_for task report) Budget → StepMeets told command task Budget)
    → IsJudgementCause task report f → IsCommandCause told command rose steady f
judgement_fault told command task report rose steady fault.Usage means meets h = absurd h
judgement_fault told command task report rose steady (fault.FileFault r k) means meets h = absurd h
judgement_fault told command task report rose steady (fault.Structures more) means meets h = absurd h
judgement_fault told command task report rose steady fault.TooManySplits means meets h = (task, means, meets MeetsSplits h)
judgement_fault told command task report rose steady fault.TooManyIndividuals means meets h =
    (task, means, meets MeetsIndividuals h)
judgement_fault told command task report rose steady fault.ReadFault means meets h = absurd h
judgement_fault told command task report rose steady fault.Memory means meets h = tt

pub judged_answer : (told : Option Held) (command : CommandForm) (task : Task) (report : Analysis) (maps : Bool) (a : Answer)
    → FilesMean told command task → GivesReport told command task.program (Ok report)
    → ((text : List ℕ) → IsAccepted task report → IsAcceptedText task report maps text → IsDone told command task text)
    → ((r : Rejection) → IsRejection (case_for task report) r → IsRejected told command task r)
    → SaidOf (IsJudged task report maps) a → SaidOf (IsAnswer told command) a
judged_answer told command task report maps (answer.Done text) means gives done rejects h =
    (task, means, done text.items h.0 h.1)
judged_answer told command task report maps (answer.Rejected r text) means gives done rejects h =
    (task, means, rejects r h.0, h.1)
judged_answer told command task report maps (answer.Stuck step why text) means gives done rejects h = absurd h

-- ---- words

pub spelled_cause : (words : List (List ℕ)) (told : Option Held) (command : CommandForm) (rose steady : Type 0) (f : Fault)
    → Spells words command → IsCommandCause told command rose steady f → IsCause words told rose steady f
spelled_cause words told command rose steady fault.Usage spells h = absurd h
spelled_cause words told command rose steady (fault.FileFault r k) spells h = (command, spells, h)
spelled_cause words told command rose steady (fault.Structures max) spells h = (command, spells, h)
spelled_cause words told command rose steady fault.TooManySplits spells h = (command, spells, h)
spelled_cause words told command rose steady fault.TooManyIndividuals spells h = (command, spells, h)
spelled_cause words told command rose steady fault.ReadFault spells h = (command, spells, h)
spelled_cause words told command rose steady fault.Memory spells h = tt

-- a demo reads no files
pub demo_cause : (told : Option Held) (number : ℕ) (rose steady : Type 0) (f : Fault)
    → IsCommandCause told (Demos number) ⊥ ⊥ f → IsCommandCause told (Demos number) rose steady f
demo_cause told number rose steady fault.Usage h = h
demo_cause told number rose steady (fault.FileFault r k) h = h
demo_cause told number rose steady (fault.Structures max) h = h
demo_cause told number rose steady fault.TooManySplits h = h
demo_cause told number rose steady fault.TooManyIndividuals h = h
demo_cause told number rose steady fault.ReadFault h = absurd h.0
demo_cause told number rose steady fault.Memory h = tt

pub demo_causes : (told : Option Held) (number : ℕ) (rose steady : Type 0) (r : Result Answer Fault)
    → IfErr r (IsCommandCause told (Demos number) ⊥ ⊥) → IfErr r (IsCommandCause told (Demos number) rose steady)
demo_causes told number rose steady (Ok a) h = h
demo_causes told number rose steady (Err f) h = demo_cause told number rose steady f h

-- ---- whole results

pub judged_causes : (told : Option Held) (command : CommandForm) (task : Task) (report : Analysis) (rose steady : Type 0)
    (r : Result Answer Fault) → FilesMean told command task
    → ((Budget : ProgramForm → ℕ → StructureForm → Type 0) → StopsAt (case_for task report) Budget → StepMeets told command task Budget)
    → IfErr r (IsJudgementCause task report) → IfErr r (IsCommandCause told command rose steady)
judged_causes told command task report rose steady (Ok a) means meets h = h
judged_causes told command task report rose steady (Err f) means meets h =
    judgement_fault told command task report rose steady f means meets h

pub judged_answers : (told : Option Held) (command : CommandForm) (task : Task) (report : Analysis) (maps : Bool)
    (r : Result Answer Fault) → FilesMean told command task → GivesReport told command task.program (Ok report)
    → ((text : List ℕ) → IsAccepted task report → IsAcceptedText task report maps text → IsDone told command task text)
    → ((r : Rejection) → IsRejection (case_for task report) r → IsRejected told command task r)
    → IfOk r (SaidOf (IsJudged task report maps)) → IfOk r (SaidOf (IsAnswer told command))
judged_answers told command task report maps (Ok a) means gives done rejects h =
    judged_answer told command task report maps a means gives done rejects h
judged_answers told command task report maps (Err f) means gives done rejects h = h

pub run_answer : (told : Option Held) (command : CommandForm) (task : Task) (start : StructureForm) (trace : Trace) (report : Analysis)
    (a : Answer) → FilesMean told command task → RunMeans told command task.program start trace report
    → ((text : List ℕ) → IsReplayed told command task text → IsDone told command task text)
    → SaidOf (IsReplayAnswer task start trace report) a → SaidOf (IsAnswer told command) a
run_answer told command task start trace report (answer.Done text) means run done h =
    (task, means, done text.items (start, trace, report, run, h))
run_answer told command task start trace report (answer.Rejected r text) means run done h = absurd h
run_answer told command task start trace report (answer.Stuck step why text) means run done h =
    (task, means, (start, trace, report, run, h.0), h.1, h.2)

pub run_answers : (told : Option Held) (command : CommandForm) (task : Task) (start : StructureForm) (trace : Trace) (report : Analysis)
    (r : Result Answer Fault) → FilesMean told command task → RunMeans told command task.program start trace report
    → ((text : List ℕ) → IsReplayed told command task text → IsDone told command task text)
    → IfOk r (SaidOf (IsReplayAnswer task start trace report)) → IfOk r (SaidOf (IsAnswer told command))
run_answers told command task start trace report (Ok a) means run done h = run_answer told command task start trace report a means run done h
run_answers told command task start trace report (Err f) means run done h = h

pub run_causes : (told : Option Held) (command : CommandForm) (rose steady : Type 0) (r : Result Answer Fault)
    → IfErr r (λ f. f ≡ fault.Memory) → IfErr r (IsCommandCause told command rose steady)
run_causes told command rose steady (Ok a) h = h
run_causes told command rose steady (Err f) h = rw h tt
