-- How a call ends: its exit code, and the text that tells it.
use Rattle.std.specs.Prelude.{ℕ, List, [], ◌∷◌, ◌++◌, Option, None, Some, codes, decimal}
use Rattle.tv_expand.specs.declared.error.ExpandError.{ExpandError}
use Rattle.tv_expand.specs.declared.error.ExpandError.TheVariants as expanding
use Rattle.tv_front.specs.Meaning.{program_place}
use Rattle.tv_front.specs.declared.fault.ProgramFault.{ProgramFault}
use Rattle.tv_front.specs.declared.fault.ProgramFault.TheVariants as program
use Rattle.tv_lex.specs.declared.gatherer.GatherError.{GatherError}
use Rattle.tv_lex.specs.declared.gatherer.GatherError.TheVariants as gathering
use Rattle.tv_lex.specs.declared.token.LexError.{LexError}
use Rattle.tv_lex.specs.declared.token.LexError.TheVariants as lexing
use Rattle.tv_lex.specs.declared.token.Place.{Place}
use Rattle.tv_names.specs.declared.refusal.ResolveError.{ResolveError}
use Rattle.tv_names.specs.declared.refusal.ResolveError.TheVariants as resolving
use Rattle.tv_phrases.specs.declared.error.SyntaxError.{SyntaxError}
use Rattle.tv_phrases.specs.declared.error.SyntaxError.TheVariants as parsing
use Rattle.tv_plang.specs.Meaning.{source_place}
use Rattle.tv_plang.specs.declared.error.SourceError.{SourceError}
use Rattle.tv_plang.specs.declared.error.SourceError.TheVariants as source
use Rattle.tv_tvs.specs.Meaning.{structures_place}
use Rattle.tv_tvs.specs.declared.error.TvsError.{TvsError}
use Rattle.tv_tvs.specs.declared.error.TvsError.TheVariants as structures
use Rattle.tv_status.specs.declared.status.FileKind.{FileKind}
use Rattle.tv_status.specs.declared.status.FileKind.TheVariants as kind
use Rattle.tv_status.specs.declared.status.Role.{Role}
use Rattle.tv_status.specs.declared.status.Role.TheVariants as role
use Rattle.tv_status.specs.declared.status.Status.{Status}
use Rattle.tv_status.specs.declared.status.Status.TheVariants.{Done, Rejected, Stuck, Usage, FileFault}
use Rattle.tv_status.specs.declared.status.Status.TheVariants.{Structures, TooManySplits, TooManyIndividuals}
use Rattle.tv_status.specs.declared.status.Status.TheVariants.{ReadFault, WriteFault, Memory}
use Rattle.tv_status.specs.declared.status.Teller.{Teller}
use Rattle.tv_status.specs.declared.status.Teller.TheVariants as teller

-- the exit code of the process
abbrev pub code_of : Status → ℕ
code_of Done = 0
code_of (Rejected rejection) = 1
code_of (Stuck step why) = 1
code_of Usage = 2
code_of (FileFault role kind) = 3
code_of (Structures max) = 4
code_of TooManySplits = 4
code_of TooManyIndividuals = 4
code_of ReadFault = 5
code_of WriteFault = 6
code_of Memory = 7

abbrev pub role_name : Role → List ℕ
role_name role.Program = codes "program"
role_name role.Initial = codes "initial"
role_name role.Report = codes "report"
role_name role.Start = codes "start"
role_name role.Trace = codes "trace"
role_name role.Source = codes "source"

-- a kind of fault is told by its name
abbrev pub gathering_name : GatherError → List ℕ
gathering_name gathering.Failed = codes "Failed"
gathering_name gathering.TooLong = codes "TooLong"
gathering_name gathering.Unended = codes "Unended"
gathering_name gathering.IncludeForm = codes "IncludeForm"
gathering_name gathering.IncludeDepth = codes "IncludeDepth"
gathering_name gathering.Memory = codes "Memory"

abbrev pub lexing_name : LexError → List ℕ
lexing_name lexing.BadByte = codes "BadByte"
lexing_name lexing.Unended = codes "Unended"
lexing_name lexing.Memory = codes "Memory"

abbrev pub parsing_name : SyntaxError → List ℕ
parsing_name (parsing.Syntax place) = codes "Syntax"
parsing_name parsing.TooDeep = codes "TooDeep"
parsing_name parsing.Memory = codes "Memory"

abbrev pub expanding_name : ExpandError → List ℕ
expanding_name expanding.NameUnknown = codes "NameUnknown"
expanding_name expanding.NameTwice = codes "NameTwice"
expanding_name expanding.ArgumentCount = codes "ArgumentCount"
expanding_name expanding.TooManyItems = codes "TooManyItems"
expanding_name expanding.Memory = codes "Memory"

abbrev pub resolving_name : ResolveError → List ℕ
resolving_name resolving.NameUnknown = codes "NameUnknown"
resolving_name resolving.NameTwice = codes "NameTwice"
resolving_name resolving.ArityWrong = codes "ArityWrong"
resolving_name resolving.ArityTooLarge = codes "ArityTooLarge"
resolving_name resolving.Reserved = codes "Reserved"
resolving_name resolving.VariableUnbound = codes "VariableUnbound"
resolving_name resolving.TooManyVariables = codes "TooManyVariables"
resolving_name resolving.UpdateTwice = codes "UpdateTwice"
resolving_name resolving.DefinitionCycle = codes "DefinitionCycle"
resolving_name resolving.HeadForm = codes "HeadForm"
resolving_name resolving.HalfLiteral = codes "HalfLiteral"
resolving_name resolving.TooMany = codes "TooMany"
resolving_name resolving.NoEdge = codes "NoEdge"
resolving_name resolving.Memory = codes "Memory"

abbrev pub program_name : ProgramFault → List ℕ
program_name (program.Lexing error) = lexing_name error
program_name (program.Parsing error) = parsing_name error
program_name (program.Expansion error) = expanding_name error
program_name (program.Resolution error) = resolving_name error

abbrev pub structures_name : TvsError → List ℕ
structures_name (structures.Syntax place) = codes "Syntax"
structures_name structures.IndividualUnknown = codes "IndividualUnknown"
structures_name structures.IndividualTwice = codes "IndividualTwice"
structures_name structures.NameUnknown = codes "NameUnknown"
structures_name structures.ArityWrong = codes "ArityWrong"
structures_name structures.BadSm = codes "BadSm"
structures_name structures.TooManyIndividuals = codes "TooManyIndividuals"
structures_name structures.Memory = codes "Memory"

abbrev pub source_name : SourceError → List ℕ
source_name source.TooDeep = codes "TooDeep"
source_name (source.Syntax place) = codes "Syntax"
source_name source.Reserved = codes "Reserved"
source_name source.NameTwice = codes "NameTwice"
source_name source.NameUnknown = codes "NameUnknown"
source_name source.TooMany = codes "TooMany"
source_name source.Memory = codes "Memory"

abbrev pub kind_name : FileKind → List ℕ
kind_name kind.TooLong = codes "TooLong"
kind_name (kind.Gathering error) = gathering_name error
kind_name (kind.Lexing error) = lexing_name error
kind_name (kind.Program fault) = program_name fault
kind_name (kind.Structures error) = structures_name error
kind_name (kind.ReportForm place) = codes "ReportForm"
kind_name kind.NotHeap = codes "NotHeap"
kind_name (kind.TraceForm place) = codes "TraceForm"
kind_name (kind.Source error) = source_name error

-- the place that a fault carries
abbrev pub place_of : FileKind → Option Place
place_of kind.TooLong = None
place_of (kind.Gathering error) = None
place_of (kind.Lexing error) = None
place_of (kind.Program fault) = program_place fault
place_of (kind.Structures error) = structures_place error
place_of (kind.ReportForm place) = Some place
place_of kind.NotHeap = None
place_of (kind.TraceForm place) = Some place
place_of (kind.Source error) = source_place error

-- the text with a line feed behind it
abbrev pub line : List ℕ → List ℕ
line text = text ++ 10 ∷ []

-- the name of the program that tells
abbrev pub teller_name : Teller → List ℕ
teller_name teller.Analyzer = codes "tvla"
teller_name teller.Explainer = codes "tvla-explain"

-- what the program says behind the fault of a file
abbrev pub hint_of : Teller → List ℕ
hint_of teller.Analyzer = []
hint_of teller.Explainer = codes " (./tvla-lint with the same words tells where)"

-- a line of the program's
unfoldable pub teller_line : Teller → (what : List ℕ) → List ℕ
teller_line teller what = line (teller_name teller ++ codes ": " ++ what)

-- a fault of a file: the file, the fault, and its place where it has one
unfoldable pub file_fault_text : Teller → Role → FileKind → Option Place → List ℕ
file_fault_text teller role kind None =
    line
    (teller_name teller ++ codes ": " ++ role_name role ++ codes ": " ++ kind_name kind ++ hint_of teller)
file_fault_text teller role kind (Some place) =
    line (teller_name teller ++ codes ": " ++ role_name role ++ codes ": " ++ kind_name kind
    ++ codes " at " ++ decimal place.line ++ codes ":" ++ decimal place.column ++ hint_of teller)

-- that there are more structures than this
unfoldable pub too_many_text : Teller → ℕ → List ℕ
too_many_text teller max =
    teller_name teller ++ codes ": more than " ++ decimal max ++ line (codes " structures")

-- the lines of all commands
unfoldable pub usage_text : List ℕ
usage_text =
    line (codes "usage: tvla analyze PROGRAM INITIAL [--max-structures N] [--recompute | --delta]")
    ++ line (codes "       tvla check PROGRAM INITIAL REPORT [--recompute | --delta] [--maps]")
    ++ line (codes "       tvla demo NUMBER")
    ++ line (codes "       tvla replay PROGRAM INITIAL START TRACE REPORT")
    ++ line (codes "       tvla source SOURCE INITIAL [--max-structures N]")
    ++ line (codes "       tvla join PROGRAM INITIAL [--max-structures N] [--recompute]")

-- the text by which a program, whose commands have this text, tells the status to whom called; a status whose
-- text the output took needs none
abbrev pub told_by : Teller → (usage : List ℕ) → Status → List ℕ
told_by teller usage Done = []
told_by teller usage (Rejected rejection) = []
told_by teller usage (Stuck step why) = []
told_by teller usage Usage = usage
told_by teller usage (FileFault role kind) = file_fault_text teller role kind (place_of kind)
told_by teller usage (Structures max) = too_many_text teller max
told_by teller usage TooManySplits = teller_line teller (codes "too many splits")
told_by teller usage TooManyIndividuals = teller_line teller (codes "too many individuals")
told_by teller usage ReadFault = teller_line teller (codes "read fault")
told_by teller usage WriteFault = teller_line teller (codes "write fault")
told_by teller usage Memory = teller_line teller (codes "out of memory")

-- the text by which `tvla` tells it
abbrev pub text_of : Status → List ℕ
text_of status = told_by teller.Analyzer usage_text status
