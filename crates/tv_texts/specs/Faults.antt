-- The faults of the readers below, as those of a file that has a role.
use Rattle.std.specs.Prelude.{if◌then◌else◌}
use Rattle.tv_front.specs.Meaning.{is_memory}
use Rattle.tv_front.specs.declared.fault.ProgramFault.{ProgramFault}
use Rattle.tv_lex.specs.declared.gatherer.GatherError.{GatherError}
use Rattle.tv_lex.specs.declared.gatherer.GatherError.TheVariants as gathering
use Rattle.tv_lex.specs.declared.token.LexError.{LexError}
use Rattle.tv_lex.specs.declared.token.LexError.TheVariants as lexing
use Rattle.tv_outside.specs.declared.read.ReadError.{ReadError}
use Rattle.tv_outside.specs.declared.read.ReadError.TheVariants as reading
use Rattle.tv_plang.specs.declared.error.SourceError.{SourceError}
use Rattle.tv_plang.specs.declared.error.SourceError.TheVariants as source
use Rattle.tv_phrases.specs.declared.error.FormError.{FormError}
use Rattle.tv_phrases.specs.declared.error.FormError.TheVariants as form
use Rattle.tv_status.specs.declared.status.FileKind.TheVariants.{TooLong, Gathering, Lexing, Program}
use Rattle.tv_status.specs.declared.status.FileKind.TheVariants.{Structures, ReportForm, TraceForm, Source}
use Rattle.tv_status.specs.declared.status.Role.{Role}
use Rattle.tv_status.specs.declared.status.Role.TheVariants as role
use Rattle.tv_texts.specs.declared.fault.TextFault.{TextFault}
use Rattle.tv_texts.specs.declared.fault.TextFault.TheVariants.{Refused, NotRead, Memory}
use Rattle.tv_tvs.specs.declared.error.TvsError.{TvsError}
use Rattle.tv_tvs.specs.declared.error.TvsError.TheVariants as structures

-- includes that can't be put into PROGRAM
abbrev pub fault_of_gathering : GatherError → TextFault
fault_of_gathering gathering.Failed = NotRead
fault_of_gathering gathering.Memory = Memory
fault_of_gathering e = Refused role.Program (Gathering e)

-- a text that is no program
abbrev pub fault_of_program : ProgramFault → TextFault
fault_of_program fault = if is_memory fault then Memory else Refused role.Program (Program fault)

-- a file that isn't read
abbrev pub fault_of_reading : Role → ReadError → TextFault
fault_of_reading its_role reading.Failed = NotRead
fault_of_reading its_role reading.TooLong = Refused its_role TooLong
fault_of_reading its_role reading.Memory = Memory

-- bytes without tokens
abbrev pub fault_of_lexing : Role → LexError → TextFault
fault_of_lexing its_role lexing.Memory = Memory
fault_of_lexing its_role e = Refused its_role (Lexing e)

-- tokens that are no structures, in a file that has this role
abbrev pub fault_of_structures : Role → TvsError → TextFault
fault_of_structures its_role structures.Memory = Memory
fault_of_structures its_role e = Refused its_role (Structures e)

-- tokens that are no report
abbrev pub fault_of_report : FormError → TextFault
fault_of_report form.Memory = Memory
fault_of_report (form.Form place) = Refused role.Report (ReportForm place)

-- tokens that are no trace
abbrev pub fault_of_trace : FormError → TextFault
fault_of_trace form.Memory = Memory
fault_of_trace (form.Form place) = Refused role.Trace (TraceForm place)

-- tokens that mean no source program, or one too large
abbrev pub fault_of_source : SourceError → TextFault
fault_of_source source.Memory = Memory
fault_of_source e = Refused role.Source (Source e)
