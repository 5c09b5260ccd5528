-- The refusals of the stages.
use Rattle.tv_plang.specs.declared.whole.CompileError.{CompileError}
use Rattle.tv_plang.specs.declared.whole.CompileError.TheVariants as compiling
use Rattle.tv_source_names.specs.declared.error.SourceReadError.{SourceReadError}
use Rattle.tv_source_names.specs.declared.error.SourceReadError.TheVariants as reading
use Rattle.tv_plang.specs.declared.error.SourceError.{SourceError}
use Rattle.tv_plang.specs.declared.error.SourceError.TheVariants.{TooDeep, Syntax, Reserved, NameTwice}
use Rattle.tv_plang.specs.declared.error.SourceError.TheVariants.{NameUnknown, TooMany, Memory}

abbrev pub of_reading : SourceReadError → SourceError
of_reading reading.TooDeep = TooDeep
of_reading (reading.Syntax place) = Syntax place
of_reading reading.Reserved = Reserved
of_reading reading.NameTwice = NameTwice
of_reading reading.NameUnknown = NameUnknown
of_reading reading.Memory = Memory

abbrev pub of_compiling : CompileError → SourceError
of_compiling compiling.TooMany = TooMany
of_compiling compiling.Memory = Memory
