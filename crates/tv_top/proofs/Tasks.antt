-- The files of a command mean one task, and they are refused for one reason, or mean a task.
use Rattle.std.proofs.Common.{◌≡◌, List, Option, Ok, Err, refl, sym, ◌∙◌}
use Rattle.tv_listing.specs.declared.analysis.Analysis.{Analysis}
use Rattle.tv_listing.specs.declared.analysis.Rejection.{Rejection}
use Rattle.tv_model.specs.declared.program.Program.{Program}
use Rattle.tv_outside.specs.Told.{Held}
use Rattle.tv_status.specs.declared.status.FileKind.{FileKind}
use Rattle.tv_status.specs.declared.status.Role.{Role}
use Rattle.tv_status.specs.declared.status.Role.TheVariants as role
use Rattle.tv_structure_form.specs.StructureForm.{StructureForm}
use Rattle.tv_texts.specs.Agreement.{GiveOne, SameProgram, placeless}
use Rattle.tv_top.specs.Answers.{CanRun, IsRejected, case_for}
use Rattle.tv_top.specs.Meaning.{Task, FilesMean, GivesProgram, GivesInitial, GivesStart, GivesTrace}
use Rattle.tv_top.specs.Meaning.{GivesReport, HasStartAndTrace, IsRefused}
use Rattle.tv_trace.specs.declared.trace.Trace.{Trace}
use Rattle.tv_words.specs.Words.{CommandForm, Checks, Replays}

-- both tasks are one, wherever the parts of the program lie in memory
pub record SameTask (t u : Task) : Type 0 where
  pub program : SameProgram t.program u.program
  pub initial : t.initial ≡ u.initial
  pub mode : t.mode ≡ u.mode

-- the files behind INITIAL are read
abbrev pub HasReport : Option Held → CommandForm → Task → Type 0
HasReport told (Checks program initial report mode maps delta) task =
    (a : Analysis) × GivesReport told (Checks program initial report mode maps delta) task.program (Ok a)
HasReport told (Replays program initial start trace report) task =
    CanRun told (Replays program initial start trace report) task
HasReport told other task = Unit {0}

pub same_case : (t u : Task) (a b : Analysis) → SameTask t u → a ≡ b → case_for t a ≡ case_for u b
same_case t u a b same e = rw (same.program, same.initial, same.mode, e) refl

pub rejected_report : (told : Option Held) (command : CommandForm) (task : Task) (r : Rejection)
    → IsRejected told command task r → HasReport told command task
rejected_report told (Checks p i report mode maps delta) task r h = (h.0, h.1)
rejected_report told other task r h = absurd h

pub run_report : (told : Option Held) (command : CommandForm) (task : Task) → CanRun told command task → HasReport told command task
run_report told (Checks p i report mode maps delta) task h = (h.2, h.3.gives_report)
run_report told (Replays p i start trace report) task h = h
run_report told other task h = tt

module _ (told : Option Held) (command : CommandForm)
    (programs : GiveOne SameProgram (GivesProgram told command) (GivesProgram told command))
    (initials : (p q : Program) → SameProgram p q → GiveOne {A = List StructureForm} ◌≡◌ (GivesInitial told command p) (GivesInitial told command q))
    (reports : (p q : Program) → SameProgram p q → GiveOne {A = Analysis} ◌≡◌ (GivesReport told command p) (GivesReport told command q))
    (starts : (p q : Program) → SameProgram p q → GiveOne {A = StructureForm} ◌≡◌ (GivesStart told command p) (GivesStart told command q))
    (traces : (p q : Program) → SameProgram p q → GiveOne {A = Trace} ◌≡◌ (GivesTrace told command p) (GivesTrace told command q))
  where
    pub one_task : (t u : Task) → FilesMean told command t → FilesMean told command u → SameTask t u
    one_task t u h k =
        let same : SameProgram t.program u.program = programs (Ok t.program) (Ok u.program) h.program k.program in
        record {
          program = same;
          initial = initials t.program u.program same (Ok t.initial) (Ok u.initial) h.initial k.initial;
          mode = h.mode ∙ sym k.mode;
        }

    -- the report of both is one
    pub one_reported : (t u : Task) (a b : Analysis) → SameTask t u → GivesReport told command t.program (Ok a)
        → GivesReport told command u.program (Ok b) → a ≡ b
    one_reported t u a b same h k = reports t.program u.program same.program (Ok a) (Ok b) h k

    -- a report that is read isn't refused
    report_read : (c : CommandForm) → (t u : Task) (k : FileKind) → SameProgram t.program u.program
        → ((p q : Program) → SameProgram p q → GiveOne {A = Analysis} ◌≡◌ (GivesReport told c p) (GivesReport told c q))
        → HasReport told c t → GivesReport told c u.program (Err k) → ⊥
    report_read (Checks p i report mode maps delta) t u k same one has refused =
        one t.program u.program same (Ok has.0) (Err k) has.1 refused
    report_read (Replays p i start trace report) t u k same one has refused =
        one t.program u.program same (Ok has.2) (Err k) has.3.gives_report refused
    report_read other t u k same one has refused = refused

    -- nor is a heap that is read, or a trace
    start_read : (c : CommandForm) → (t u : Task) (k : FileKind) → SameProgram t.program u.program
        → ((p q : Program) → SameProgram p q → GiveOne {A = StructureForm} ◌≡◌ (GivesStart told c p) (GivesStart told c q))
        → HasReport told c t → GivesStart told c u.program (Err k) → ⊥
    start_read (Replays p i start trace report) t u k same one has refused =
        one t.program u.program same (Ok has.0) (Err k) has.3.gives_start refused
    start_read other t u k same one has refused = refused

    trace_read : (c : CommandForm) → (t u : Task) (k : FileKind) → SameProgram t.program u.program
        → ((p q : Program) → SameProgram p q → GiveOne {A = Trace} ◌≡◌ (GivesTrace told c p) (GivesTrace told c q))
        → HasReport told c t → GivesTrace told c u.program (Err k) → ⊥
    trace_read (Replays p i start trace report) t u k same one has refused =
        one t.program u.program same (Ok has.1) (Err k) has.3.gives_trace refused
    trace_read other t u k same one has refused = refused

    -- a heap that is read before the trace or the report isn't refused, nor is a trace that is read before the report
    run_start : (c : CommandForm) → (t u : Task) (k : FileKind) → SameProgram t.program u.program
        → ((p q : Program) → SameProgram p q → GiveOne {A = StructureForm} ◌≡◌ (GivesStart told c p) (GivesStart told c q))
        → HasStartAndTrace told c t.program → GivesStart told c u.program (Err k) → ⊥
    run_start (Replays p i start trace report) t u k same one run refused =
        one t.program u.program same (Ok run.0) (Err k) run.1 refused
    run_start other t u k same one run refused = refused

    run_trace : (c : CommandForm) → (t u : Task) (k : FileKind) → SameProgram t.program u.program
        → ((p q : Program) → SameProgram p q → GiveOne {A = Trace} ◌≡◌ (GivesTrace told c p) (GivesTrace told c q))
        → HasStartAndTrace told c t.program → GivesTrace told c u.program (Err k) → ⊥
    run_trace (Replays p i start trace report) t u k same one run refused =
        one t.program u.program same (Ok run.2.0) (Err k) run.2.1 refused
    run_trace other t u k same one run refused = refused

    -- files that mean a task aren't refused
    pub not_refused : (t : Task) (r : Role) (k : FileKind) → FilesMean told command t → HasReport told command t
        → IsRefused told command r k → ⊥
    not_refused t role.Program k h has refused = programs (Ok t.program) (Err k) h.program refused.1
    not_refused t role.Source k h has refused = programs (Ok t.program) (Err k) h.program refused.1
    not_refused t role.Initial k h has refused =
        let same : SameProgram t.program refused.0 = programs (Ok t.program) (Ok refused.0) h.program refused.1 in
        initials t.program refused.0 same (Ok t.initial) (Err k) h.initial refused.2
    not_refused t role.Report k h has refused =
        let same = one_task t refused.0 h refused.1 in
        report_read command t refused.0 k same.program reports has refused.3
    not_refused t role.Start k h has refused =
        let same = one_task t refused.0 h refused.1 in
        start_read command t refused.0 k same.program starts has refused.2
    not_refused t role.Trace k h has refused =
        let same = one_task t refused.0 h refused.1 in
        trace_read command t refused.0 k same.program traces has refused.3

    -- files are refused for one reason
    pub one_refusal : (r s : Role) (k l : FileKind) → IsRefused told command r k → IsRefused told command s l
        → (r ≡ s) × (placeless k ≡ placeless l)
    one_refusal role.Program role.Program k l h j = (refl, programs (Err k) (Err l) h.1 j.1)
    one_refusal role.Program role.Initial k l h j = absurd (programs (Err k) (Ok j.0) h.1 j.1)
    one_refusal role.Source role.Initial k l h j = absurd (programs (Err k) (Ok j.0) h.1 j.1)
    one_refusal role.Source role.Source k l h j = (refl, programs (Err k) (Err l) h.1 j.1)
    one_refusal role.Source role.Program k l h j = absurd (let e = sym h.0 ∙ j.0 in cc)
    one_refusal role.Source other k l h j = absurd (programs (Err k) (Ok j.0.program) h.1 j.1.program)
    one_refusal role.Program role.Source k l h j = absurd (let e = sym h.0 ∙ j.0 in cc)
    one_refusal role.Program other k l h j = absurd (programs (Err k) (Ok j.0.program) h.1 j.1.program)
    one_refusal role.Initial role.Program k l h j = absurd (programs (Ok h.0) (Err l) h.1 j.1)
    one_refusal role.Initial role.Source k l h j = absurd (programs (Ok h.0) (Err l) h.1 j.1)
    one_refusal role.Initial role.Initial k l h j =
        let same : SameProgram h.0 j.0 = programs (Ok h.0) (Ok j.0) h.1 j.1 in
        (refl, initials h.0 j.0 same (Err k) (Err l) h.2 j.2)
    one_refusal role.Initial role.Start k l h j =
        let same : SameProgram h.0 j.0.program = programs (Ok h.0) (Ok j.0.program) h.1 j.1.program in
        absurd (initials h.0 j.0.program same (Err k) (Ok j.0.initial) h.2 j.1.initial)
    one_refusal role.Initial role.Trace k l h j =
        let same : SameProgram h.0 j.0.program = programs (Ok h.0) (Ok j.0.program) h.1 j.1.program in
        absurd (initials h.0 j.0.program same (Err k) (Ok j.0.initial) h.2 j.1.initial)
    one_refusal role.Initial role.Report k l h j =
        let same : SameProgram h.0 j.0.program = programs (Ok h.0) (Ok j.0.program) h.1 j.1.program in
        absurd (initials h.0 j.0.program same (Err k) (Ok j.0.initial) h.2 j.1.initial)
    one_refusal role.Start role.Initial k l h j =
        let same : SameProgram h.0.program j.0 = programs (Ok h.0.program) (Ok j.0) h.1.program j.1 in
        absurd (initials h.0.program j.0 same (Ok h.0.initial) (Err l) h.1.initial j.2)
    one_refusal role.Start role.Start k l h j =
        let same = one_task h.0 j.0 h.1 j.1 in
        (refl, starts h.0.program j.0.program same.program (Err k) (Err l) h.2 j.2)
    one_refusal role.Start role.Trace k l h j =
        let same = one_task h.0 j.0 h.1 j.1 in
        absurd (starts h.0.program j.0.program same.program (Err k) (Ok j.2.0) h.2 j.2.1)
    one_refusal role.Start role.Report k l h j =
        let same = one_task j.0 h.0 j.1 h.1 in
        absurd (run_start command j.0 h.0 k same.program starts j.2 h.2)
    one_refusal role.Trace role.Initial k l h j =
        let same : SameProgram h.0.program j.0 = programs (Ok h.0.program) (Ok j.0) h.1.program j.1 in
        absurd (initials h.0.program j.0 same (Ok h.0.initial) (Err l) h.1.initial j.2)
    one_refusal role.Trace role.Start k l h j =
        let same = one_task h.0 j.0 h.1 j.1 in
        absurd (starts h.0.program j.0.program same.program (Ok h.2.0) (Err l) h.2.1 j.2)
    one_refusal role.Trace role.Trace k l h j =
        let same = one_task h.0 j.0 h.1 j.1 in
        (refl, traces h.0.program j.0.program same.program (Err k) (Err l) h.3 j.3)
    one_refusal role.Trace role.Report k l h j =
        let same = one_task j.0 h.0 j.1 h.1 in
        absurd (run_trace command j.0 h.0 k same.program traces j.2 h.3)
    one_refusal role.Report role.Initial k l h j =
        let same : SameProgram h.0.program j.0 = programs (Ok h.0.program) (Ok j.0) h.1.program j.1 in
        absurd (initials h.0.program j.0 same (Ok h.0.initial) (Err l) h.1.initial j.2)
    one_refusal role.Report role.Start k l h j =
        let same = one_task h.0 j.0 h.1 j.1 in
        absurd (run_start command h.0 j.0 l same.program starts h.2 j.2)
    one_refusal role.Report role.Trace k l h j =
        let same = one_task h.0 j.0 h.1 j.1 in
        absurd (run_trace command h.0 j.0 l same.program traces h.2 j.3)
    one_refusal role.Report role.Report k l h j =
        let same = one_task h.0 j.0 h.1 j.1 in
        (refl, reports h.0.program j.0.program same.program (Err k) (Err l) h.3 j.3)
    one_refusal other role.Program k l h j = absurd (programs (Ok h.0.program) (Err l) h.1.program j.1)
    one_refusal other role.Source k l h j = absurd (programs (Ok h.0.program) (Err l) h.1.program j.1)
