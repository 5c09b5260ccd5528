-- Laws of reports, as statements.
use Rattle.std.specs.Prelude.{ℕ, ◌<◌, ◌^◌, map, All}
use Rattle.tv_model.specs.Program.{program_of}
use Rattle.tv_model.specs.Valid.{IsValid}
use Rattle.tv_model.specs.declared.program.Program.{Program}
use Rattle.tv_structure_form.specs.StructureForm.{unmarked}
use Rattle.tv_listing.specs.Listed.{IsListing}
use Rattle.tv_listing.specs.declared.analysis.Analysis.{Analysis}
use Rattle.tv_listing.specs.declared.analysis.Item.{Item}
use Rattle.tv_listing.specs.declared.analysis.Item.TheVariants as item
use Rattle.tv_listing.specs.declared.analysis.MapLine.{MapLine}
use Rattle.tv_report.specs.Lines.{IsMessageLine, message_key, AreMapLines}
use Rattle.tv_report.specs.Meaning.{IsReportText}
use Rattle.tv_report.specs.Once.{AreOnce}
use Rattle.tv_report.specs.Text.{report_text}

-- the analysis without marks
abbrev pub without_marks : Analysis → Analysis
without_marks a = record a { listing = map (map unmarked) a.listing }

-- the number can be written in a report
abbrev pub IsShort : ℕ → Type 0
IsShort n = n < 2 ^ 32

-- the numbers that stand in an item
abbrev pub IsShortItem : Item → Type 0
IsShortItem (item.Initial n) = IsShort n
IsShortItem (item.Result edge structure result) = IsShort result

abbrev pub IsShortLine : MapLine → Type 0
IsShortLine line = IsShortItem line.item × All IsShort line.map

-- What is asked of an analysis so that its report is read again: its listing is one of the program's, a
-- message line names a message that may be true, and no other line names it, and each map line has an item of
-- its own, leads from and to listed structures, and has no number of 2 ^ 32 or more.
pub record IsReadable (program : Program) (a : Analysis) : Type 0 where
  pub listing : IsListing program a.listing
  pub messages : AreOnce (IsMessageLine (program_of program)) message_key a.messages
  pub maps : AreMapLines (program_of program) a.listing a.maps
  pub numbers : All IsShortLine a.maps

-- what is written of an analysis is read as the same analysis, marks aside
abbrev pub ReportsAreReadAgain : Type 0
ReportsAreReadAgain =
    (program : Program) (a : Analysis) → IsValid (program_of program) → IsReadable program a
    → IsReportText program (report_text program a) (without_marks a)
