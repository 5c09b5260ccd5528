-- A text means one program at most.
use Rattle.std.proofs.Common.{◌≡◌, ◌↔◌, ℕ, List, Ok, Err, refl, subst}
use Rattle.std.specs.Prelude.{IsTrue, IfOk, IfErr}
use Rattle.std.proofs.lemmas.Bool.{false≢true}
use Rattle.tv_front.specs.Meaning.{Means}
use Rattle.tv_model.specs.Program.{program_of}
use Rattle.tv_model.specs.declared.program.Program.{Program}
use Rattle.tv_status.specs.declared.status.FileKind.{FileKind}
use Rattle.tv_texts.specs.Agreement.{GiveOne, SameProgram}
use Rattle.tv_status.specs.declared.status.Role.TheVariants as role
use Rattle.tv_texts.specs.Files.{IsTextCause}
use Rattle.tv_texts.specs.Meaning.{MeansProgram}
use Rattle.tv_texts.specs.declared.fault.TextFault.{TextFault}
use Rattle.tv_texts.specs.declared.fault.TextFault.TheVariants.{Refused, NotRead, Memory as NoMemory}
use Rattle.tv_compiled.specs.Compiled.{answer_of}
use Rattle.tv_compiled.specs.declared.error.CompiledError.TheVariants.{Memory}

module _ (text : List ℕ) (one : GiveOne SameProgram (MeansProgram text) (MeansProgram text)) where
  pub same_means : (read program : Program) → MeansProgram text (Ok read)
      → (program_of read ≡ program_of program) ↔ MeansProgram text (Ok program)
  same_means read program is = (
    (λ same. subst (Means text) same is),
    (λ other. one (Ok read) (Ok program) is other),
  )

  pub refused_means : (kind : FileKind) (program : Program) → MeansProgram text (Err kind)
      → ¬ MeansProgram text (Ok program)
  refused_means kind program is other = one (Err kind) (Ok program) is other

  pub refused_value : (fault : TextFault) (program : Program)
      → IsTextCause role.Program (λ kind. MeansProgram text (Err kind)) fault
      → IfOk (answer_of fault) (λ yes. IsTrue yes ↔ MeansProgram text (Ok program))
  refused_value (Refused its_role kind) program cause = (
    (λ no. absurd (false≢true no)),
    (λ means. absurd (refused_means kind program cause.1 means)),
  )
  refused_value NotRead program cause = absurd cause.0
  refused_value NoMemory program cause = tt

pub refused_fault : (fault : TextFault) → IfErr (answer_of fault) (λ e. e ≡ Memory)
refused_fault (Refused its_role kind) = tt
refused_fault NotRead = tt
refused_fault NoMemory = refl
