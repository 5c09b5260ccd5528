-- How often files are begun.
use Rattle.std.specs.Prelude.{◌≡◌, ℕ, ◌+◌, List, Option}
use Rattle.tv_lex.specs.Gather.{BeginsBy, BeginsAtMost}
use Rattle.tv_outside.specs.Told.{Held}
use Rattle.tv_status.specs.declared.status.Role.{Role}
use Rattle.tv_status.specs.declared.status.Role.TheVariants as role
use Rattle.tv_status.specs.declared.status.Status.{Status}
use Rattle.tv_status.specs.declared.status.Status.TheVariants.{Usage, FileFault, ReadFault, WriteFault}
use Rattle.tv_status.specs.declared.status.Status.TheVariants.{Memory}
use Rattle.tv_texts.specs.Files.{program_begins}
use Rattle.tv_top.specs.Delivery.{status_of}
use Rattle.tv_top.specs.Meaning.{Commands}
use Rattle.tv_top.specs.declared.fault.Fault.{Fault}
use Rattle.tv_top.specs.declared.fault.Fault.TheVariants as fault
use Rattle.tv_top.specs.declared.inputs.Origin.{Origin}
use Rattle.tv_top.specs.declared.inputs.Origin.TheVariants as origin
use Rattle.tv_words.specs.Words.{CommandForm, Analyzes, Checks, Demos, Joins, Replays, Sources, Spells}

-- how many files behind PROGRAM, or SOURCE, are begun up to the one of this role, where REPORT is the last
abbrev pub files_behind : (last : ℕ) → Role → ℕ
files_behind last role.Program = 0
files_behind last role.Source = 0
files_behind last role.Initial = 1
files_behind last role.Start = 2
files_behind last role.Trace = 3
files_behind last role.Report = last

-- how often files are begun for a command, up to the one of this role: those of its program, and each other
-- that it names once
abbrev pub begins_to : Held → CommandForm → Role → ℕ
begins_to held (Analyzes program initial max mode delta) upto =
    program_begins held program + files_behind 1 upto
begins_to held (Checks program initial report mode maps delta) upto =
    program_begins held program + files_behind 2 upto
begins_to held (Demos number) upto = 0
begins_to held (Joins program initial max mode) upto = program_begins held program + files_behind 1 upto
begins_to held (Replays program initial start trace report) upto =
    program_begins held program + files_behind 4 upto
begins_to held (Sources source initial max) upto = 1 + files_behind 1 upto

-- and for all its files
abbrev pub begins_of : Held → CommandForm → ℕ
begins_of held command = begins_to held command role.Report

-- how often files are begun for a command that ends so: all its files, or those up to the one that is
-- refused
abbrev pub BeginsAt : Option Held → (old new : ℕ) → Status → CommandForm → Type 0
BeginsAt told old new (FileFault upto kind) command =
    BeginsBy told (λ held. begins_to held command upto) old new
BeginsAt told old new other command = BeginsBy told (λ held. begins_of held command) old new

-- exactly how often files are begun in a call that ends so: never where the words spell no command; nothing
-- is said where a call outside failed or memory ran out
abbrev pub BeginsDuly : List (List ℕ) → Option Held → (old new : ℕ) → Status → Type 0
BeginsDuly words told old new Usage = new ≡ old
BeginsDuly words told old new ReadFault = Unit {0}
BeginsDuly words told old new WriteFault = Unit {0}
BeginsDuly words told old new Memory = Unit {0}
BeginsDuly words told old new other = Commands words (BeginsAt told old new other)

-- at most as often as the command asks for
abbrev pub BeginsFew : Option Held → (old new : ℕ) → CommandForm → Type 0
BeginsFew told old new command = BeginsAtMost told (λ held. begins_of held command) old new

-- no ending has begun more files than those of the command that the words spell
abbrev pub BeginsWithin : List (List ℕ) → Option Held → (old new : ℕ) → Type 0
BeginsWithin words told old new =
    (command : CommandForm) → Spells words command → BeginsFew told old new command

-- ---- parts

-- by as much as the command asks for
abbrev pub BeginsFor : Option Held → (old new : ℕ) → CommandForm → Type 0
BeginsFor told old new command = BeginsBy told (λ held. begins_of held command) old new

-- exactly how often files are begun for a command that met this fault
abbrev pub BeginsThere : Option Held → (old new : ℕ) → CommandForm → Fault → Type 0
BeginsThere told old new command fault.Usage = new ≡ old
BeginsThere told old new command fault.ReadFault = Unit {0}
BeginsThere told old new command fault.Memory = Unit {0}
BeginsThere told old new command other = BeginsAt told old new (status_of other) command

abbrev pub BeginsMet : Option Held → (old new : ℕ) → CommandForm → Fault → Type 0
BeginsMet told old new command fault = BeginsFew told old new command × BeginsThere told old new command fault

-- how often files are begun for the program of this origin
abbrev pub origin_begins : Held → Origin → ℕ
origin_begins held (origin.Program name delta) = program_begins held name.now
origin_begins held (origin.Source name) = 1
