-- The faults of the layers below, as those of a call.
use Rattle.std.specs.Prelude.{ℕ}
use Rattle.tv_struct.specs.declared.analysis.StageError.{StageError}
use Rattle.tv_struct.specs.declared.analysis.StageError.TheVariants as stage
use Rattle.tv_texts.specs.declared.fault.TextFault.{TextFault}
use Rattle.tv_texts.specs.declared.fault.TextFault.TheVariants as text
use Rattle.tv_top.specs.declared.fault.Fault.{Fault}
use Rattle.tv_top.specs.declared.fault.Fault.TheVariants.{FileFault, Structures, TooManySplits}
use Rattle.tv_top.specs.declared.fault.Fault.TheVariants.{TooManyIndividuals, ReadFault, Memory}
use Rattle.tv_work.specs.declared.error.WorkError.{WorkError}
use Rattle.tv_work.specs.declared.error.WorkError.TheVariants as work

-- the fault of an analysis, joined or not
abbrev pub fault_of_work : (max : ℕ) → WorkError → Fault
fault_of_work max work.Structures = Structures max
fault_of_work max work.Splits = TooManySplits
fault_of_work max work.Individuals = TooManyIndividuals
fault_of_work max work.Memory = Memory

-- the fault of a judgement
abbrev pub fault_of_stage : StageError → Fault
fault_of_stage stage.Splits = TooManySplits
fault_of_stage stage.Individuals = TooManyIndividuals
fault_of_stage stage.Memory = Memory

-- the fault of a file's text
abbrev pub fault_of_text : TextFault → Fault
fault_of_text (text.Refused role kind) = FileFault role kind
fault_of_text text.NotRead = ReadFault
fault_of_text text.Memory = Memory
