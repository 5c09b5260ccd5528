-- What covers the runs of a differenced program covers those of the program that was read, evaluated anew.
use Rattle.std.proofs.Common.{◌≡◌, ℕ, Bool, true, false, List, Option, Ok, ap}
use Rattle.std.proofs.Common.{◌∙◌}
use Rattle.std.specs.Prelude.{slice_get}
use Rattle.tv_lemmas.proofs.Zips.{zip_partner}
use Rattle.tv_delta.specs.Answers.{HasRuns}
use Rattle.tv_delta_laws.specs.Differences.{IsDifferencedAction, IsDifferenced}
use Rattle.tv_listing.specs.declared.analysis.Analysis.{Analysis}
use Rattle.tv_listing.specs.declared.analysis.MessageLine.{MessageLine}
use Rattle.tv_model.specs.Program.{ProgramForm, MessageForm, program_of}
use Rattle.tv_model.specs.declared.program.Mode.{Mode}
use Rattle.tv_model.specs.declared.program.Mode.TheVariants.{Given, Recompute}
use Rattle.tv_model.specs.declared.program.Program.{Program}
use Rattle.tv_outside.specs.Told.{Held}
use Rattle.tv_structure_form.specs.StructureForm.{StructureForm}
use Rattle.tv_texts.specs.Files.{IsProgramFile}
use Rattle.tv_top.specs.Answers.{CoversReadRuns}
use Rattle.tv_top.specs.Meaning.{IsTakenProgram}
use Rattle.tv_top.specs.Work.{HasReadRuns, IsTakenFrom}
use Rattle.tv_step_laws.specs.Closed.{CoversRuns}
use Rattle.tv_step_laws.specs.Sound.{IsMessageOf}
use Rattle.tv_words.specs.Words.{GoTogether}

-- the messages stay
message_stays : (p new : ProgramForm) (edge number : ℕ) (m : MessageForm) → IsDifferenced p new → IsMessageOf p edge number m
    → IsMessageOf new edge number m
message_stays p new edge number m is said =
    let edges : new.edges ≡ p.edges = ap (λ q. q.edges) is.rest in
    let other = zip_partner (IsDifferencedAction p) p.actions new.actions is.actions said.1.taken.action said.0 said.1.its_action in
    let messages : other.0.messages ≡ said.0.messages = ap (λ a. a.messages) other.2.2 in (
      other.0,
      record {
        taken = said.1.taken;
        its_edge = ap (λ es. slice_get es edge) edges ∙ said.1.its_edge;
        its_action = other.1;
      },
      ap (λ ms. slice_get ms number) messages ∙ said.2,
    )

covers_read : (p new : ProgramForm) (initial : List StructureForm) (listed : List (List StructureForm))
    (lines : List MessageLine) → IsDifferenced p new → HasRuns p new → CoversRuns new Given initial listed lines
    → CoversRuns p Recompute initial listed lines
covers_read p new initial listed lines is runs covers = record {
  heaps = λ start stages run begins node h brings. covers.heaps start stages (runs start stages run) begins node h brings;
  messages = λ start stages run begins edge taken at number m said none h brings.
      covers.messages start stages (runs start stages run) begins edge taken
      (ap (λ q. slice_get q.edges edge) is.rest ∙ at) number m (message_stays p new edge number m is said) none h brings;
}

pub covers_read_runs : (told : Option Held) (name : List ℕ) (delta : Bool) (program : Program) (mode : Mode)
    (initial : List StructureForm) (a : Analysis) → GoTogether mode delta → HasReadRuns delta told name program
    → CoversRuns (program_of program) mode initial a.listing a.messages → CoversReadRuns delta told name initial a
covers_read_runs told name false program mode initial a together has covers = tt
covers_read_runs told name true program Given initial a together has covers = (
  has.0,
  has.1,
  covers_read (program_of has.0) (program_of program) initial a.listing a.messages has.2 has.3 covers,
)
covers_read_runs told name true program Recompute initial a together has covers = absurd together

-- what is taken where that program was read
pub taken_means : (told : Option Held) (name : List ℕ) (delta : Bool) (read taken : Program)
    → IsProgramFile told name (Ok read) → IsTakenFrom delta read taken → IsTakenProgram delta told name (Ok taken)
taken_means told name false read taken file is = rw is file
taken_means told name true read taken file is = (read, file, is.0)

pub taken_runs : (told : Option Held) (name : List ℕ) (delta : Bool) (read taken : Program)
    → IsProgramFile told name (Ok read) → IsTakenFrom delta read taken → HasReadRuns delta told name taken
taken_runs told name false read taken file is = tt
taken_runs told name true read taken file is = (read, file, is.0, is.1)
