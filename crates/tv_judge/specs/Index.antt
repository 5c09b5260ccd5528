-- Lines by what they are for.
use Rattle.std.specs.Prelude.{ℕ, ◌≡◌, ◌==◌, ◌&&◌, ◌↔◌, Bool, IsTrue, if◌then◌else◌, List, Option, None, Some}
use Rattle.std.specs.Borrow.{Bor}
use Rattle.std.specs.Option.{option_map, option_or}
use Rattle.std.specs.Map.{lookup}
use Rattle.std.specs.List.{list_any}
use Rattle.tv_listing.specs.declared.analysis.Item.{Item}
use Rattle.tv_listing.specs.declared.analysis.MapLine.{MapLine}
use Rattle.tv_listing.specs.declared.analysis.MessageLine.{MessageLine}
use Rattle.tv_step_laws.specs.Closed.{HasLine}
use Rattle.tv_judge.specs.Items.{is_same_item, own_line}

-- the line that an index has for the item
abbrev pub line_at : List (Item × Bor MapLine) → Item → Option MapLine
line_at entries item = option_map (λ line. line.now) (lookup (is_same_item item) entries)

-- the index has the first of the lines for each item
abbrev pub IsLineIndex : List (Item × Bor MapLine) → List MapLine → Type 0
IsLineIndex entries lines = (item : Item) → line_at entries item ≡ own_line lines item

-- a line is put where there was none for its item
abbrev pub line_for : Item → MapLine → Option MapLine
line_for item line = if is_same_item item line.item then Some line else None

abbrev pub NotesLine : (old : List (Item × Bor MapLine)) → MapLine → (new : List (Item × Bor MapLine))
    → Type 0
NotesLine old line new = (item : Item) → line_at new item ≡ option_or (line_at old item) (line_for item line)

-- whether the message is among these
abbrev pub is_said : List (ℕ × ℕ) → (edge number : ℕ) → Bool
is_said keys edge number = list_any (λ key. edge == key.0 && number == key.1) keys

-- these are the messages that have a line
abbrev pub IsMessageIndex : List (ℕ × ℕ) → List MessageLine → Type 0
IsMessageIndex keys lines = (edge number : ℕ) → IsTrue (is_said keys edge number) ↔ HasLine lines edge number
