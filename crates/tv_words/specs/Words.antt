-- What the words of a call spell.
use Rattle.std.specs.Prelude.{◌≡◌, ◌≤◌, ℕ, Bool, true, false, List, [], ◌∷◌, ◌++◌, map, codes, decimal}
use Rattle.std.specs.Prelude.{string_bytes, String}
use Rattle.std.specs.declared.alloc.Global.{Global}
use Rattle.tv_model.specs.declared.program.Mode.{Mode}
use Rattle.tv_model.specs.declared.program.Mode.TheVariants.{Given, Recompute}
use Rattle.tv_words.specs.Line.{Part, IsLine, operands_of, uses_of, values_of}
use Rattle.tv_words.specs.declared.words.Command.{Command}
use Rattle.tv_words.specs.declared.words.Command.TheVariants.{Analyze, Check, Demo, Join, Replay, Source}

-- the bytes of the words
abbrev pub words_of : List (String Global) → List (List ℕ)
words_of words = map (λ word. string_bytes word) words

-- the word is this number from 1 up, without sign or leading zero
abbrev pub IsNumberUpTo : (most : ℕ) → (word : List ℕ) → (number : ℕ) → Type 0
IsNumberUpTo most word number = (word ≡ decimal number) × (1 ≤ number) × (number ≤ most)

-- how many structures may be listed, where `--max-structures` has these values
abbrev pub IsMax : (values : List (List ℕ)) → (max : ℕ) → Type 0
IsMax [] max = max ≡ 5000
IsMax (value ∷ []) max = IsNumberUpTo 100000 value max
IsMax (first ∷ second ∷ rest) max = ⊥

-- how often `--recompute` stands for this mode
abbrev pub recomputes : Mode → ℕ
recomputes Given = 0
recomputes Recompute = 1

-- how often an option stands that stands or doesn't
abbrev pub once : Bool → ℕ
once false = 0
once true = 1

-- updates are differenced only where they aren't recomputed
abbrev pub GoTogether : Mode → (delta : Bool) → Type 0
GoTogether mode false = Unit {0}
GoTogether Given true = Unit {0}
GoTogether Recompute true = ⊥

-- how often `--recompute` and `--delta` stand for this mode, with or without differencing: each once at most,
-- and not together
abbrev pub AreUses : (recompute delta : ℕ) → Mode → (differenced : Bool) → Type 0
AreUses recompute delta mode differenced = (recompute ≡ recomputes mode) × (delta ≡ once differenced)
    × GoTogether mode differenced

-- the options of all commands
abbrev pub line_flags : List (List ℕ)
line_flags = codes "recompute" ∷ codes "delta" ∷ codes "maps" ∷ []

abbrev pub line_settings : List (List ℕ)
line_settings = codes "max-structures" ∷ []

-- what stands on a line: its operands in order, how often each option without a value stands, and the values
-- of `--max-structures`
pub record LineForm : Type 0 where
  pub operands : List (List ℕ)
  pub recompute : ℕ
  pub delta : ℕ
  pub maps : ℕ
  pub max : List (List ℕ)

-- what the parts say, and the operands behind `--`
abbrev pub line_of : List Part → (behind : List (List ℕ)) → LineForm
line_of parts behind = record {
  operands = operands_of parts ++ behind;
  recompute = uses_of (codes "recompute") parts;
  delta = uses_of (codes "delta") parts;
  maps = uses_of (codes "maps") parts;
  max = values_of (codes "max-structures") parts;
}

-- this stands on the words
pub record StandsOn (words : List (List ℕ)) (line : LineForm) : Type 0 where
  pub parts : List Part
  pub behind : List (List ℕ)
  pub spelled : IsLine line_flags line_settings parts behind words
  pub is : line ≡ line_of parts behind

-- a command, its files named by bytes
pub data CommandForm : Type 0 where
  Analyzes : (program initial : List ℕ) → (max : ℕ) → (mode : Mode) → (delta : Bool) → CommandForm
  Checks : (program initial report : List ℕ) → (mode : Mode) → (maps delta : Bool) → CommandForm
  Demos : (number : ℕ) → CommandForm
  Joins : (program initial : List ℕ) → (max : ℕ) → (mode : Mode) → CommandForm
  Replays : (program initial start trace report : List ℕ) → CommandForm
  Sources : (source initial : List ℕ) → (max : ℕ) → CommandForm

abbrev pub form_of : Command → CommandForm
form_of (Analyze program initial max mode delta) =
    Analyzes (string_bytes program) (string_bytes initial) max mode delta
form_of (Check program initial report mode maps delta) =
    Checks (string_bytes program) (string_bytes initial) (string_bytes report) mode maps delta
form_of (Demo number) = Demos number
form_of (Join program initial max mode) = Joins (string_bytes program) (string_bytes initial) max mode
form_of (Replay program initial start trace report) = Replays (string_bytes program) (string_bytes initial)
    (string_bytes start) (string_bytes trace) (string_bytes report)
form_of (Source source initial max) = Sources (string_bytes source) (string_bytes initial) max

-- this is said of the command
abbrev pub SaidOf : (CommandForm → Type 0) → Command → Type 0
SaidOf Says command = Says (form_of command)

-- the first word
abbrev pub command_word : CommandForm → List ℕ
command_word (Analyzes program initial max mode delta) = codes "analyze"
command_word (Checks program initial report mode maps delta) = codes "check"
command_word (Demos number) = codes "demo"
command_word (Joins program initial max mode) = codes "join"
command_word (Replays program initial start trace report) = codes "replay"
command_word (Sources source initial max) = codes "source"

-- the options without a value say this mode, and whether updates are differenced and maps asked for
abbrev pub HasFlags : LineForm → Mode → (delta maps : Bool) → Type 0
HasFlags line mode delta maps = AreUses line.recompute line.delta mode delta × (line.maps ≡ once maps)

-- a line says a command: it has the command's operands, each option of the command once at most, and no other
-- option
abbrev pub Says : LineForm → CommandForm → Type 0
Says line (Analyzes program initial max mode delta) = (line.operands ≡ program ∷ initial ∷ [])
    × HasFlags line mode delta false × IsMax line.max max
Says line (Checks program initial report mode maps delta) = (line.operands ≡ program ∷ initial ∷ report ∷ [])
    × HasFlags line mode delta maps × (line.max ≡ [])
Says line (Demos number) = (word : List ℕ) × (line.operands ≡ word ∷ [])
    × HasFlags line Given false false × (line.max ≡ []) × IsNumberUpTo 16 word number
Says line (Joins program initial max mode) = (line.operands ≡ program ∷ initial ∷ [])
    × HasFlags line mode false false × IsMax line.max max
Says line (Replays program initial start trace report) =
    (line.operands ≡ program ∷ initial ∷ start ∷ trace ∷ report ∷ [])
    × HasFlags line Given false false × (line.max ≡ [])
Says line (Sources source initial max) = (line.operands ≡ source ∷ initial ∷ [])
    × HasFlags line Given false false × IsMax line.max max

-- a line that stands on the words says the command
pub record IsRest (words : List (List ℕ)) (command : CommandForm) : Type 0 where
  pub line : LineForm
  pub stands : StandsOn words line
  pub says : Says line command

-- the words spell this command: its name, and the rest behind it
abbrev pub Spells : List (List ℕ) → CommandForm → Type 0
Spells words command = (rest : List (List ℕ)) × (words ≡ command_word command ∷ rest) × IsRest rest command

-- the words spell no command
abbrev pub SpellsNothing : List (List ℕ) → Type 0
SpellsNothing words = (command : CommandForm) → ¬ Spells words command
