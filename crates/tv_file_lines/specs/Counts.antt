-- What is known while one place of a gathered text is looked up after another.
use Rattle.std.specs.Prelude.{◌≡◌, ℕ, ◌≤◌, List, Some, IsTrue, length, slice_get, slice_range}
use Rattle.tv_lex.specs.Parts.{line_feeds}
use Rattle.tv_lex.specs.declared.gatherer.Part.{Part}
use Rattle.tv_file_lines.specs.FileLines.{is_in}
use Rattle.tv_file_lines.specs.declared.count.Count.{Count}

-- the part of this number has the place
abbrev pub IsPartAt : List Part → (place number : ℕ) → Type 0
IsPartAt parts place number =
    (part : Part) × (slice_get parts number ≡ Some part) × IsTrue (is_in place part)

-- so many line feeds stand in the text from the start of the count up to its end
pub record IsCountIn (text : List ℕ) (count : Count) : Type 0 where
  pub order : count.start ≤ count.end
  pub within : count.end ≤ length text
  pub feeds : count.feeds ≡ line_feeds (slice_range text count.start count.end)
