-- The words and what the names hold fix the answer.
use Rattle.std.proofs.Common.{◌≡◌, ◌≢◌, ◌⊎◌, ℕ, Bool, true, false, List, [], Option, Some, Result, Ok, Err}
use Rattle.std.proofs.Common.{inl, inr}
use Rattle.std.proofs.Common.{refl, sym, ap, subst, ◌∙◌}
use Rattle.std.proofs.lemmas.Option.{same_Some}
use Rattle.tv_join.specs.Joined.{IsJoined}
use Rattle.tv_join.specs.Laws.{JoinedAnalysesAreOne}
use Rattle.tv_lex.specs.Gather.{Gathers}
use Rattle.tv_lex.specs.declared.gatherer.GatherError.{GatherError}
use Rattle.tv_lex.specs.declared.gatherer.GatherError.TheVariants as gathering
use Rattle.tv_listing.specs.declared.analysis.Analysis.{Analysis}
use Rattle.tv_listing.specs.declared.analysis.MapLine.{MapLine}
use Rattle.tv_listing.specs.declared.analysis.Rejection.{Rejection}
use Rattle.tv_model.specs.Program.{program_of}
use Rattle.tv_model.specs.declared.program.Program.{Program}
use Rattle.tv_outside.specs.Told.{Held, HoldsName}
use Rattle.tv_judge.specs.Judged.{AreMapsOf}
use Rattle.tv_replay.specs.Text.{states_text}
use Rattle.tv_replay_laws.specs.Laws.{RunsHaveOneEnding}
use Rattle.tv_replay_laws.specs.States.{IsReplay}
use Rattle.tv_replay_laws.specs.declared.state.State.{State}
use Rattle.tv_replay_laws.specs.declared.state.Why.{Why}
use Rattle.tv_report.specs.Text.{report_text}
use Rattle.tv_status.specs.declared.status.FileKind.{FileKind}
use Rattle.tv_status.specs.declared.status.FileKind.TheVariants as kind
use Rattle.tv_status.specs.declared.status.Role.{Role}
use Rattle.tv_status.specs.declared.status.Role.TheVariants as role
use Rattle.tv_status.specs.declared.status.Status.{Status}
use Rattle.tv_status.specs.declared.status.Status.TheVariants.{Done, Rejected, Stuck, Usage, FileFault}
use Rattle.tv_status.specs.declared.status.Status.TheVariants.{Structures, TooManySplits, TooManyIndividuals}
use Rattle.tv_status.specs.declared.status.Status.TheVariants.{ReadFault, WriteFault, Memory}
use Rattle.tv_step_laws.specs.Budgets.{MeetsSplits, MeetsIndividuals}
use Rattle.tv_step_laws.specs.Laws.{StepsAreExact}
use Rattle.tv_structure_form.specs.StructureForm.{StructureForm}
use Rattle.tv_texts.specs.Agreement.{GiveOne, SameProgram}
use Rattle.tv_texts.specs.Files.{HoldsSuch, IsProgramFile, IsUngathered, LacksFile}
use Rattle.tv_top.proofs.Endings.{CommandEnds, command_duly, done_reported, many_reported, step_reported}
use Rattle.tv_top.proofs.Limits.{done_could}
use Rattle.tv_top.proofs.Maps.{one_maps}
use Rattle.tv_top.proofs.SameTexts.{report_alike, states_alike}
use Rattle.tv_top.proofs.Tasks.{SameTask, HasReport, one_task, rejected_report, run_report, same_case}
use Rattle.tv_top.proofs.ToldAlike.{told_alike}
use Rattle.tv_top.specs.Answers.{AreStates, IsAnswer, IsDone, IsFound, IsJoinFound, accepted_text, case_for}
use Rattle.tv_top.specs.Answers.{demo_line, demo_max, with_maps}
use Rattle.tv_top.specs.Call.{CommandCallsFor, without_place}
use Rattle.tv_top.specs.Laws.{AnswersAreOne}
use Rattle.tv_top.specs.Meaning.{Commands, FilesMean, GivesInitial, GivesProgram, GivesReport, GivesStart}
use Rattle.tv_top.specs.Meaning.{GivesTrace, HasStartAndTrace, IsMissing, IsRefused, IsTakenProgram, IsTold}
use Rattle.tv_top.specs.Meaning.{LacksInitial, LacksLater, LacksProgram, Task}
use Rattle.tv_top.specs.One.{AreOne, HasEnded, IsLimit}
use Rattle.tv_trace.specs.declared.trace.Trace.{Trace}
use Rattle.tv_two_valued.specs.TwoValued.{IsTwoValued}
use Rattle.tv_words.specs.Words.{CommandForm, Analyzes, Checks, Demos, Joins, Replays, Sources, Spells}
use Rattle.tv_words.specs.Words.{SpellsNothing}
use Rattle.tv_work.specs.Analyzed.{IsAnalysis}
use Rattle.tv_work.specs.Laws.{AnalysesAreOne}

-- ---- what was found is one

module _ (t u : Task) (max : ℕ) (same : SameTask t u) (a b : Analysis) where
  one_found : AnalysesAreOne → IsFound t max a → IsFound u max b → a ≡ b
  one_found analyses f g =
      let other : IsAnalysis (program_of t.program) t.mode t.initial max b.listing b.messages
      = rw (same.program, same.initial, same.mode) g.exact in
      let one = analyses (program_of t.program) t.mode t.initial max max a.listing b.listing a.messages b.messages f.exact other in
      let maps : a.maps ≡ b.maps = f.no_maps ∙ sym g.no_maps in
      λ i. record { listing = one.0 i; messages = one.1 i; maps = maps i }

  one_joined : JoinedAnalysesAreOne → IsJoinFound t max a → IsJoinFound u max b → a ≡ b
  one_joined joined f g =
      let other : IsJoined (program_of t.program) t.mode t.initial max b.listing b.messages
      = rw (same.program, same.initial, same.mode) g.exact in
      let one = joined (program_of t.program) t.mode t.initial max max a.listing b.listing a.messages b.messages f.exact other in
      let maps : a.maps ≡ b.maps = f.no_maps ∙ sym g.no_maps in
      λ i. record { listing = one.0 i; messages = one.1 i; maps = maps i }

  reports_same : (text other : List ℕ) → a ≡ b → text ≡ report_text t.program a → other ≡ report_text u.program b → text ≡ other
  reports_same text other e h k =
      h ∙ ap (report_text t.program) e ∙ report_alike t.program u.program same.program b ∙ sym k

-- what a checker wrote
accepted_same : (t u : Task) (same : SameTask t u) (a b : Analysis) (asked : Bool) (xs ys : List MapLine) (text other : List ℕ)
    → a ≡ b → xs ≡ ys → text ≡ accepted_text t.program a xs asked → other ≡ accepted_text u.program b ys asked → text ≡ other
accepted_same t u same a b false xs ys text other e lines h k = h ∙ sym k
accepted_same t u same a b true xs ys text other e lines h k =
    h ∙ ap (λ report. report_text t.program (with_maps report xs)) e
    ∙ ap (λ maps. report_text t.program (with_maps b maps)) lines
    ∙ report_alike t.program u.program same.program (with_maps b ys) ∙ sym k

-- the states of a replay
one_run_states : RunsHaveOneEnding → (t u : Task) → SameTask t u → (start heap : StructureForm) (trace path : Trace) (report other : Analysis)
    (xs ys : List State) → IsTwoValued start → start ≡ heap → trace ≡ path → report ≡ other → AreStates t start trace report xs
    → AreStates u heap path other ys → xs ≡ ys
one_run_states one_ending t u same start heap trace path report other xs ys two starts traces reports h k =
    (one_ending (program_of t.program) h.valid start trace.moves).states h.is two t.initial report.listing xs ys h.are
    (subst (λ p. IsReplay p t.initial start trace.moves report.listing ys) (sym same.program)
    (subst (λ i. IsReplay (program_of u.program) i start trace.moves report.listing ys) (sym same.initial)
    (subst (λ s. IsReplay (program_of u.program) u.initial s trace.moves report.listing ys) (sym starts)
    (subst (λ (r : Trace). IsReplay (program_of u.program) u.initial heap r.moves report.listing ys) (sym traces)
    (subst (λ (a : Analysis). IsReplay (program_of u.program) u.initial heap path.moves a.listing ys) (sym reports) k.are)))))

-- both tasks are given one START, TRACE and REPORT
record GivesOne (told : Option Held) (command : CommandForm) (t u : Task) : Type 0 where
  report : (a b : Analysis) → GivesReport told command t.program (Ok a) → GivesReport told command u.program (Ok b) → a ≡ b
  start : (s r : StructureForm) → GivesStart told command t.program (Ok s) → GivesStart told command u.program (Ok r) → s ≡ r
  trace : (m n : Trace) → GivesTrace told command t.program (Ok m) → GivesTrace told command u.program (Ok n) → m ≡ n

module _ (analyses : AnalysesAreOne) (joined : JoinedAnalysesAreOne) (exact : StepsAreExact) (one_ending : RunsHaveOneEnding) where
  done_texts : (held : Held) (command : CommandForm) (t u : Task) (text other : List ℕ) → SameTask t u
      → GivesOne (Some held) command t u → IsDone (Some held) command t text → IsDone (Some held) command u other → text ≡ other
  done_texts held (Analyzes p i max mode delta) t u text other same gives h k =
      reports_same t u max same h.0 k.0 text other (one_found t u max same h.0 k.0 analyses h.1 k.1) h.2 k.2
  done_texts held (Checks p i report mode maps delta) t u text other same gives h k =
      let reports : h.0 ≡ k.0 = gives.report h.0 k.0 h.1 k.1 in
      let cases : case_for t h.0 ≡ case_for u k.0 = same_case t u h.0 k.0 same reports in
      let lines : h.3.0 ≡ k.3.0 = one_maps exact (case_for t h.0) h.2.valid h.3.0 k.3.0 h.3.1
      (subst (λ c. AreMapsOf c k.3.0) (sym cases) k.3.1) in
      accepted_same t u same h.0 k.0 maps h.3.0 k.3.0 text other reports lines h.3.2 k.3.2
  done_texts held (Demos number) t u text other same gives h k =
      h.2 ∙ ap (demo_line number) (one_found t u demo_max same h.0 k.0 analyses h.1 k.1) ∙ sym k.2
  done_texts held (Joins p i max mode) t u text other same gives h k =
      reports_same t u max same h.0 k.0 text other (one_joined t u max same h.0 k.0 joined h.1 k.1) h.2 k.2
  done_texts held (Replays p i start trace report) t u text other same gives h k =
      let states : h.4.0 ≡ k.4.0 = one_run_states one_ending t u same h.0 k.0 h.1 k.1 h.2 k.2 h.4.0 k.4.0 h.3.gives_start.2.1
      (gives.start h.0 k.0 h.3.gives_start k.3.gives_start) (gives.trace h.1 k.1 h.3.gives_trace k.3.gives_trace)
      (gives.report h.2 k.2 h.3.gives_report k.3.gives_report) h.4.1 k.4.1 in
      h.4.2 ∙ ap (states_text t.program) states ∙ states_alike t.program u.program same.program k.4.0 ∙ sym k.4.2
  done_texts held (Sources n i max) t u text other same gives h k =
      reports_same t u max same h.0 k.0 text other (one_found t u max same h.0 k.0 analyses h.1 k.1) h.3 k.3

-- ---- a file that isn't there

-- a name that holds such bytes is there
held_there : {A : Type 0} (held : Held) (name : List ℕ) (IsSuch : List ℕ → Type 0) → HoldsSuch (Some held) name IsSuch
    → ¬ HoldsName (Some held) name → A
held_there held name IsSuch (bytes, content, such) lacks = absurd (lacks (rw content refl))

-- a program that is gathered, or refused for another reason, isn't missing
module _ (held : Held) (name : List ℕ) where
  gathered_there : {A : Type 0} (text : List ℕ) → Gathers (Some held) name (Ok text) → LacksFile (Some held) name → A
  gathered_there text gathers lacks = absurd (let both : Ok text ≡ Err gathering.Failed = sym gathers ∙ lacks in cc)

  refused_there : {A : Type 0} (e : GatherError) → IsUngathered (Some held) name e → LacksFile (Some held) name → A
  refused_there gathering.Failed h lacks = absurd h
  refused_there gathering.Memory h lacks = absurd h
  refused_there other h lacks = absurd (let both : Err other ≡ Err gathering.Failed = sym h ∙ lacks in cc)

  file_there : {A : Type 0} (a : Result Program FileKind) → IsProgramFile (Some held) name a → LacksFile (Some held) name → A
  file_there (Ok p) h lacks = gathered_there h.0 h.1 lacks
  file_there (Err (kind.Gathering e)) h lacks = refused_there e h lacks
  file_there (Err other) h lacks = gathered_there h.0 h.1 lacks

  taken_there : {A : Type 0} (delta : Bool) (a : Result Program FileKind) → IsTakenProgram delta (Some held) name a
      → LacksFile (Some held) name → A
  taken_there false a h lacks = file_there a h lacks
  taken_there true (Ok p) h lacks = file_there (Ok h.0) h.1 lacks
  taken_there true (Err k) h lacks = file_there (Err k) h lacks

module _ (held : Held) where
  program_there : {A : Type 0} (command : CommandForm) (a : Result Program FileKind) → GivesProgram (Some held) command a
      → LacksProgram (Some held) command → A
  program_there (Analyzes p i max mode d) a h lacks = taken_there held p d a h lacks
  program_there (Checks p i report mode maps d) a h lacks = taken_there held p d a h lacks
  program_there (Demos number) a h lacks = absurd lacks
  program_there (Joins p i max mode) a h lacks = file_there held p a h lacks
  program_there (Replays p i start trace report) a h lacks = file_there held p a h lacks
  program_there (Sources n i max) a h lacks = held_there held n _ h lacks

  initial_there : {A : Type 0} (command : CommandForm) (p : Program) (a : Result (List StructureForm) FileKind)
      → GivesInitial (Some held) command p a → LacksInitial (Some held) command → A
  initial_there (Analyzes n i max mode d) p a h lacks = held_there held i _ h lacks
  initial_there (Checks n i report mode maps d) p a h lacks = held_there held i _ h lacks
  initial_there (Demos number) p a h lacks = absurd lacks
  initial_there (Joins n i max mode) p a h lacks = held_there held i _ h lacks
  initial_there (Replays n i start trace report) p a h lacks = held_there held i _ h lacks
  initial_there (Sources n i max) p a h lacks = held_there held i _ h lacks

  later_there : (command : CommandForm) (t : Task) (p : Program) → HasReport (Some held) command t
      → LacksLater (Some held) command p → ⊥
  later_there (Checks n i report mode maps d) t p has lacks = held_there held report _ has.1 lacks
  later_there (Replays n i start trace report) t p has (inl none) = held_there held start _ has.3.gives_start none
  later_there (Replays n i start trace report) t p has (inr (inl none)) = held_there held trace _ has.3.gives_trace none.1
  later_there (Replays n i start trace report) t p has (inr (inr none)) = held_there held report _ has.3.gives_report none.1
  later_there other t p has lacks = lacks

  -- files that mean something are there
  not_missing : (command : CommandForm) (t : Task) → FilesMean (Some held) command t → HasReport (Some held) command t
      → IsMissing (Some held) command → ⊥
  not_missing command t means has (inl lacks) = program_there command (Ok t.program) means.program lacks
  not_missing command t means has (inr (inl lacks)) = initial_there command t.program (Ok t.initial) means.initial lacks.2
  not_missing command t means has (inr (inr lacks)) = later_there command t lacks.0.program has lacks.2

  -- a file that is refused is there, and so are those before it
  start_refused : (command : CommandForm) (p q : Program) (k : FileKind) → SameProgram p q
      → ((p q : Program) → SameProgram p q → GiveOne {A = StructureForm} ◌≡◌ (GivesStart (Some held) command p) (GivesStart (Some held) command q))
      → GivesStart (Some held) command p (Err k) → LacksLater (Some held) command q → ⊥
  start_refused (Replays n i start trace report) p q k same one refused (inl none) = held_there held start _ refused none
  start_refused (Replays n i start trace report) p q k same one refused (inr (inl none)) =
      one p q same (Err k) (Ok none.0.0) refused none.0.1
  start_refused (Replays n i start trace report) p q k same one refused (inr (inr none)) =
      one p q same (Err k) (Ok none.0.0) refused none.0.1
  start_refused other p q k same one refused lacks = refused

  trace_refused : (command : CommandForm) (p q : Program) (s : StructureForm) (k : FileKind) → SameProgram p q
      → ((p q : Program) → SameProgram p q → GiveOne {A = Trace} ◌≡◌ (GivesTrace (Some held) command p) (GivesTrace (Some held) command q))
      → GivesStart (Some held) command p (Ok s) → GivesTrace (Some held) command p (Err k) → LacksLater (Some held) command q → ⊥
  trace_refused (Replays n i start trace report) p q s k same one begins refused (inl none) = held_there held start _ begins none
  trace_refused (Replays n i start trace report) p q s k same one begins refused (inr (inl none)) =
      held_there held trace _ refused none.1
  trace_refused (Replays n i start trace report) p q s k same one begins refused (inr (inr none)) =
      one p q same (Err k) (Ok none.0.2.0) refused none.0.2.1
  trace_refused other p q s k same one begins refused lacks = refused

  report_refused : (command : CommandForm) (p q : Program) (k : FileKind) → HasStartAndTrace (Some held) command p
      → GivesReport (Some held) command p (Err k) → LacksLater (Some held) command q → ⊥
  report_refused (Checks n i report mode maps d) p q k run refused lacks = held_there held report _ refused lacks
  report_refused (Replays n i start trace report) p q k run refused (inl none) = held_there held start _ run.1 none
  report_refused (Replays n i start trace report) p q k run refused (inr (inl none)) = held_there held trace _ run.2.1 none.1
  report_refused (Replays n i start trace report) p q k run refused (inr (inr none)) = held_there held report _ refused none.1
  report_refused other p q k run refused lacks = refused

-- the text that a command gives with this status
abbrev TextOf : Option Held → CommandForm → Status → List ℕ → Type 0
TextOf told command Done text = IsAnswer told command Done text
TextOf told command (Rejected r) text = IsAnswer told command (Rejected r) text
TextOf told command (Stuck step why) text = IsAnswer told command (Stuck step why) text
TextOf told command other text = text ≡ []

-- a call that ends so gives no text
abbrev IsSilent : Status → Type 0
IsSilent Done = ⊥
IsSilent (Rejected r) = ⊥
IsSilent (Stuck step why) = ⊥
IsSilent other = Unit {0}

silent_text : (held : Held) (command : CommandForm) (a : Status) (text : List ℕ) → IsSilent (without_place a)
    → TextOf (Some held) command a text → text ≡ []
silent_text held command Done text silent h = absurd silent
silent_text held command (Rejected r) text silent h = absurd silent
silent_text held command (Stuck step why) text silent h = absurd silent
silent_text held command other text silent h = h

only_done : (a : Status) → Done ≡ without_place a → a ≡ Done
only_done Done e = refl
only_done other e = absurd cc

only_rejected : (r : Rejection) (a : Status) → Rejected r ≡ without_place a → a ≡ Rejected r
only_rejected r (Rejected s) e = sym e
only_rejected r other e = absurd cc

only_stuck : (step : ℕ) (why : Why) (a : Status) → Stuck step why ≡ without_place a → a ≡ Stuck step why
only_stuck step why (Stuck later reason) e = sym e
only_stuck step why other e = absurd cc

module _ (one_ending : RunsHaveOneEnding) (held : Held) (command : CommandForm)
    (programs : GiveOne SameProgram (GivesProgram (Some held) command) (GivesProgram (Some held) command))
    (initials : (p q : Program) → SameProgram p q
    → GiveOne {A = List StructureForm} ◌≡◌ (GivesInitial (Some held) command p) (GivesInitial (Some held) command q))
    (reports : (p q : Program) → SameProgram p q
    → GiveOne {A = Analysis} ◌≡◌ (GivesReport (Some held) command p) (GivesReport (Some held) command q))
    (starts : (p q : Program) → SameProgram p q
    → GiveOne {A = StructureForm} ◌≡◌ (GivesStart (Some held) command p) (GivesStart (Some held) command q))
    (traces : (p q : Program) → SameProgram p q
    → GiveOne {A = Trace} ◌≡◌ (GivesTrace (Some held) command p) (GivesTrace (Some held) command q))
  where
    refused_there_too : (r : Role) (k : FileKind) → IsRefused (Some held) command r k → IsMissing (Some held) command → ⊥
    refused_there_too role.Program k h (inl lacks) = program_there held command (Err k) h.1 lacks
    refused_there_too role.Program k h (inr (inl lacks)) = programs (Err k) (Ok lacks.0) h.1 lacks.1
    refused_there_too role.Program k h (inr (inr lacks)) = programs (Err k) (Ok lacks.0.program) h.1 lacks.1.program
    refused_there_too role.Source k h (inl lacks) = program_there held command (Err k) h.1 lacks
    refused_there_too role.Source k h (inr (inl lacks)) = programs (Err k) (Ok lacks.0) h.1 lacks.1
    refused_there_too role.Source k h (inr (inr lacks)) = programs (Err k) (Ok lacks.0.program) h.1 lacks.1.program
    refused_there_too role.Initial k h (inl lacks) = program_there held command (Ok h.0) h.1 lacks
    refused_there_too role.Initial k h (inr (inl lacks)) = initial_there held command h.0 (Err k) h.2 lacks.2
    refused_there_too role.Initial k h (inr (inr lacks)) =
        let same : SameProgram h.0 lacks.0.program = programs (Ok h.0) (Ok lacks.0.program) h.1 lacks.1.program in
        initials h.0 lacks.0.program same (Err k) (Ok lacks.0.initial) h.2 lacks.1.initial
    refused_there_too other k h (inl lacks) = program_there held command (Ok h.0.program) h.1.program lacks
    refused_there_too other k h (inr (inl lacks)) =
        initial_there held command h.0.program (Ok h.0.initial) h.1.initial lacks.2
    refused_there_too role.Start k h (inr (inr lacks)) =
        let same : SameProgram h.0.program lacks.0.program
        = programs (Ok h.0.program) (Ok lacks.0.program) h.1.program lacks.1.program in
        start_refused held command h.0.program lacks.0.program k same starts h.2 lacks.2
    refused_there_too role.Trace k h (inr (inr lacks)) =
        let same : SameProgram h.0.program lacks.0.program
        = programs (Ok h.0.program) (Ok lacks.0.program) h.1.program lacks.1.program in
        trace_refused held command h.0.program lacks.0.program h.2.0 k same traces h.2.1 h.3 lacks.2
    refused_there_too role.Report k h (inr (inr lacks)) =
        report_refused held command h.0.program lacks.0.program k h.2 h.3 lacks.2

    -- a call that needs no missing file doesn't miss one
    not_missed : (a : Status) → CommandEnds (Some held) command a → IsMissing (Some held) command → ⊥
    not_missed Done h = not_missing held command h.1.0 h.1.1 (done_reported (Some held) command h.1.0 h.0 h.1.2)
    not_missed (Rejected r) h = not_missing held command h.1.0 h.1.1 (rejected_report (Some held) command h.1.0 r h.1.2)
    not_missed (Stuck step why) h = not_missing held command h.1.0 h.1.1
        (run_report (Some held) command h.1.0 (h.1.2.0, h.1.2.1, h.1.2.2, h.1.2.3))
    not_missed (FileFault role kind) h = refused_there_too role kind h
    not_missed (Structures max) h = not_missing held command h.0 h.1 (many_reported (Some held) command h.0 max h.2)
    not_missed TooManySplits h = not_missing held command h.0 h.1 (step_reported (Some held) command h.0 MeetsSplits h.2)
    not_missed TooManyIndividuals h =
        not_missing held command h.0 h.1 (step_reported (Some held) command h.0 MeetsIndividuals h.2)
    not_missed Memory h = absurd h
    not_missed other h = absurd h

    -- each ending but a limit is called for
    called_for : (a : Status) → CommandEnds (Some held) command a → CommandCallsFor (Some held) command a ⊎ IsLimit a
    called_for Done h = inl (h.1.0, h.1.1, done_could one_ending (Some held) command h.1.0 h.0 h.1.2)
    called_for (Rejected r) h = inl (h.1.0, h.1.1, h.1.2)
    called_for (Stuck step why) h = inl (h.1.0, h.1.1, h.1.2)
    called_for (FileFault role kind) h = inl h
    called_for (Structures max) h = inr tt
    called_for TooManySplits h = inr tt
    called_for TooManyIndividuals h = inr tt
    called_for Memory h = absurd h
    called_for other h = absurd h

    duly : (a due : Status) → CommandEnds (Some held) command a → CommandCallsFor (Some held) command due
        → without_place a ≡ without_place due
    duly a due h calls = command_duly one_ending (Some held) command programs initials reports starts traces a due h calls

    one_status : (a b : Status) → CommandEnds (Some held) command a → CommandEnds (Some held) command b
        → (IsLimit a × IsLimit b) ⊎ (without_place a ≡ without_place b)
    one_status a b h k = by (called_for a h) (called_for b k)
      where
        by : CommandCallsFor (Some held) command a ⊎ IsLimit a → CommandCallsFor (Some held) command b ⊎ IsLimit b
            → (IsLimit a × IsLimit b) ⊎ (without_place a ≡ without_place b)
        by (inl calls) other = inr (sym (duly b a k calls))
        by (inr limit) (inl calls) = inr (duly a b h calls)
        by (inr limit) (inr also) = inl (limit, also)

    module _ (analyses : AnalysesAreOne) (joined : JoinedAnalysesAreOne) (exact : StepsAreExact) where
      both : (t u : Task) → FilesMean (Some held) command t → FilesMean (Some held) command u → SameTask t u
      both t u h k = one_task (Some held) command programs initials reports starts traces t u h k

      gives_one : (t u : Task) → SameTask t u → GivesOne (Some held) command t u
      gives_one t u same = record {
        report = λ a b x y. reports t.program u.program same.program (Ok a) (Ok b) x y;
        start = λ s r x y. starts t.program u.program same.program (Ok s) (Ok r) x y;
        trace = λ m n x y. traces t.program u.program same.program (Ok m) (Ok n) x y;
      }

      -- where only the place may differ, an answer is the same answer, and what gives no text gives none
      done_text : (b : Status) (text other : List ℕ) → Done ≡ without_place b → TextOf (Some held) command Done text
          → TextOf (Some held) command b other → text ≡ other
      done_text b text other same h k =
          let u : IsAnswer (Some held) command Done other
          = subst (λ s. TextOf (Some held) command s other) (only_done b same) k in
          let tasks = both h.0 u.0 h.1 u.1 in
          done_texts analyses joined exact one_ending held command h.0 u.0 text other tasks (gives_one h.0 u.0 tasks) h.2 u.2

      rejected_text : (r : Rejection) (b : Status) (text other : List ℕ) → Rejected r ≡ without_place b
          → TextOf (Some held) command (Rejected r) text → TextOf (Some held) command b other → text ≡ other
      rejected_text r b text other same h k =
          let u : IsAnswer (Some held) command (Rejected r) other
          = subst (λ s. TextOf (Some held) command s other) (only_rejected r b same) k in
          h.3 ∙ sym u.3

      stuck_text : (step : ℕ) (why : Why) (b : Status) (text other : List ℕ) → Stuck step why ≡ without_place b
          → TextOf (Some held) command (Stuck step why) text → TextOf (Some held) command b other → text ≡ other
      stuck_text step why b text other same h k =
          let u : IsAnswer (Some held) command (Stuck step why) other
          = subst (λ s. TextOf (Some held) command s other) (only_stuck step why b same) k in
          h.3 ∙ sym u.3

      one_text : (a b : Status) (text other : List ℕ) → without_place a ≡ without_place b → TextOf (Some held) command a text
          → TextOf (Some held) command b other → text ≡ other
      one_text Done b text other same h k = done_text b text other same h k
      one_text (Rejected r) b text other same h k = rejected_text r b text other same h k
      one_text (Stuck step why) b text other same h k = stuck_text step why b text other same h k
      one_text a b text other same h k = h ∙ sym (silent_text held command b other (subst IsSilent same tt) k)

-- ---- words

-- the statuses are one, places aside, and so are the texts that were asked for; or both calls passed a limit
abbrev AreAlike : (a b : Status) → (text other : List ℕ) → Type 0
AreAlike a b text other = (IsLimit a × IsLimit b) ⊎ ((without_place a ≡ without_place b) × (text ≡ other))

are_one : (a b : Status) (text other : List ℕ) → AreAlike a b text other → AreOne a b text other
are_one a b text other (inl limits) = inl limits
are_one a b text other (inr alike) = inr (alike.0, alike.1, told_alike a b alike.0)

-- how a call ended that kept its memory
abbrev EndView : List (List ℕ) → Held → Status → List ℕ → Type 0
EndView words held a text = ((a ≡ Usage) × SpellsNothing words × (text ≡ []))
    ⊎ (((a ≡ ReadFault) × Commands words (IsMissing (Some held)) × (text ≡ []))
    ⊎ Commands words (λ command. CommandEnds (Some held) command a × TextOf (Some held) command a text))

untold : (text : List ℕ) → (let t : Option (List ℕ) = Some text in t) ≡ Some [] → text ≡ []
untold text e = same_Some text [] e

module _ (words : List (List ℕ)) (held : Held) where
  end_view : (a : Status) (text : List ℕ) → HasEnded words held a text → a ≢ Memory → EndView words held a text
  end_view Done text h kept =
      let e : h.took.0 ≡ text = sym (same_Some text h.took.0 h.took.2) in
      inr (inr (h.took.1.0, h.took.1.1, ((h.took.0, h.took.1.2), subst (IsAnswer (Some held) h.took.1.0 Done) e h.took.1.2)))
  end_view (Rejected r) text h kept =
      let e : h.took.0 ≡ text = sym (same_Some text h.took.0 h.took.2) in
      inr (inr (
        h.took.1.0,
        h.took.1.1,
        ((h.took.0, h.took.1.2), subst (IsAnswer (Some held) h.took.1.0 (Rejected r)) e h.took.1.2),
      ))
  end_view (Stuck step why) text h kept =
      let e : h.took.0 ≡ text = sym (same_Some text h.took.0 h.took.2) in
      inr (inr (
        h.took.1.0,
        h.took.1.1,
        ((h.took.0, h.took.1.2), subst (IsAnswer (Some held) h.took.1.0 (Stuck step why)) e h.took.1.2),
      ))
  end_view Usage text h kept = inl (refl, h.cause, untold text h.took)
  end_view ReadFault text h kept =
      inr (inl (refl, (h.cause.0, h.cause.1, h.cause.2.1 tt), untold text h.took))
  end_view WriteFault text h kept = absurd h.cause
  end_view Memory text h kept = absurd (kept refl)
  end_view (FileFault role kind) text h kept = inr (inr (h.cause.0, h.cause.1, (h.cause.2, untold text h.took)))
  end_view (Structures max) text h kept = inr (inr (h.cause.0, h.cause.1, (h.cause.2, untold text h.took)))
  end_view TooManySplits text h kept = inr (inr (h.cause.0, h.cause.1, (h.cause.2, untold text h.took)))
  end_view TooManyIndividuals text h kept = inr (inr (h.cause.0, h.cause.1, (h.cause.2, untold text h.took)))

module _ (one_ending : RunsHaveOneEnding) (analyses : AnalysesAreOne) (joined : JoinedAnalysesAreOne) (exact : StepsAreExact)
    (one_command : (words : List (List ℕ)) (a b : CommandForm) → Spells words a → Spells words b → a ≡ b)
    (programs : (told : Option Held) (command : CommandForm) → IsTold told command → GiveOne SameProgram (GivesProgram told command) (GivesProgram told command))
    (initials : (told : Option Held) (command : CommandForm) → IsTold told command → (p q : Program) → SameProgram p q
    → GiveOne {A = List StructureForm} ◌≡◌ (GivesInitial told command p) (GivesInitial told command q))
    (reports : (told : Option Held) (command : CommandForm) → IsTold told command → (p q : Program) → SameProgram p q
    → GiveOne {A = Analysis} ◌≡◌ (GivesReport told command p) (GivesReport told command q))
    (starts : (told : Option Held) (command : CommandForm) → IsTold told command → (p q : Program) → SameProgram p q
    → GiveOne {A = StructureForm} ◌≡◌ (GivesStart told command p) (GivesStart told command q))
    (traces : (told : Option Held) (command : CommandForm) → IsTold told command → (p q : Program) → SameProgram p q
    → GiveOne {A = Trace} ◌≡◌ (GivesTrace told command p) (GivesTrace told command q))
  where
    is_told : (held : Held) (command : CommandForm) → IsTold (Some held) command
    is_told held (Demos number) = tt
    is_told held (Analyzes p i max mode delta) = refl
    is_told held (Checks p i report mode maps delta) = refl
    is_told held (Joins p i max mode) = refl
    is_told held (Replays p i start trace report) = refl
    is_told held (Sources n i max) = refl

    -- two endings of one command
    module _ (words : List (List ℕ)) (held : Held) (a b : Status) (text other : List ℕ) where
      commands_one : (command : CommandForm) → CommandEnds (Some held) command a → TextOf (Some held) command a text
          → CommandEnds (Some held) command b → TextOf (Some held) command b other → AreAlike a b text other
      commands_one command h t k u = by (one_status one_ending held command (programs (Some held) command tells)
          (initials (Some held) command tells) (reports (Some held) command tells) (starts (Some held) command tells)
          (traces (Some held) command tells) a b h k)
        where
          tells : IsTold (Some held) command
          tells = is_told held command

          by : (IsLimit a × IsLimit b) ⊎ (without_place a ≡ without_place b) → AreAlike a b text other
          by (inl limits) = inl limits
          by (inr same) = inr (
            same,
            one_text one_ending held command (programs (Some held) command tells) (initials (Some held) command tells)
                (reports (Some held) command tells) (starts (Some held) command tells) (traces (Some held) command tells)
                analyses joined exact a b text other same t u,
          )

      missed : (command : CommandForm) → CommandEnds (Some held) command a → ¬ IsMissing (Some held) command
      missed command h = not_missed one_ending held command (programs (Some held) command (is_told held command))
          (initials (Some held) command (is_told held command)) (reports (Some held) command (is_told held command))
          (starts (Some held) command (is_told held command)) (traces (Some held) command (is_told held command)) a h

    answers : (words : List (List ℕ)) (held : Held) (a b : Status) (text other : List ℕ) → EndView words held a text
        → EndView words held b other → AreAlike a b text other
    answers words held a b text other (inl x) (inl y) =
        inr (ap without_place (x.0 ∙ sym y.0), x.2 ∙ sym y.2)
    answers words held a b text other (inl x) (inr (inl y)) = absurd (x.1 y.1.0 y.1.1)
    answers words held a b text other (inl x) (inr (inr y)) = absurd (x.1 y.0 y.1)
    answers words held a b text other (inr (inl x)) (inl y) = absurd (y.1 x.1.0 x.1.1)
    answers words held a b text other (inr (inl x)) (inr (inl y)) =
        inr (ap without_place (x.0 ∙ sym y.0), x.2 ∙ sym y.2)
    answers words held a b text other (inr (inl x)) (inr (inr y)) =
        let same = one_command words x.1.0 y.0 x.1.1 y.1 in
        absurd (missed words held b a other text y.0 y.2.0 (subst (IsMissing (Some held)) same x.1.2))
    answers words held a b text other (inr (inr x)) (inl y) = absurd (y.1 x.0 x.1)
    answers words held a b text other (inr (inr x)) (inr (inl y)) =
        let same = one_command words y.1.0 x.0 y.1.1 x.1 in
        absurd (missed words held a b text other x.0 x.2.0 (subst (IsMissing (Some held)) same y.1.2))
    answers words held a b text other (inr (inr x)) (inr (inr y)) =
        let same = one_command words y.0 x.0 y.1 x.1 in
        commands_one words held a b text other x.0 x.2.0 x.2.1
        (subst (λ c. CommandEnds (Some held) c b) same y.2.0) (subst (λ c. TextOf (Some held) c b other) same y.2.1)

    pub one_answer : AnswersAreOne
    one_answer words held a b text other h k h_kept k_kept = are_one a b text other
        (answers words held a b text other (end_view words held a text h h_kept) (end_view words held b other k k_kept))
