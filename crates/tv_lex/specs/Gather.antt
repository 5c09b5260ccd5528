-- A text with its includes put in.
use Rattle.std.specs.Prelude.{◌≡◌, ℕ, zero, suc, ◌+◌, ◌≤◌, List, [], ◌∷◌, ◌++◌, Bool, false, if◌then◌else◌}
use Rattle.std.specs.Prelude.{nat_lt, Option, Some, None, Result, Ok, Err, length}
use Rattle.tv_outside.specs.Told.{Held, content_of}
use Rattle.tv_outside.specs.Count.{count_max, counted, Rose}
use Rattle.tv_outside.specs.declared.read.ReadError.{ReadError}
use Rattle.tv_outside.specs.declared.read.ReadError.TheVariants.{Failed as ReadFailed, TooLong as ReadTooLong}
use Rattle.tv_outside.specs.declared.read.ReadError.TheVariants.{Memory as ReadMemory}
use Rattle.tv_lex.specs.Include.{lines_of, is_open_after, includes, include_name, inner_name}
use Rattle.tv_lex.specs.declared.gatherer.GatherError.{GatherError}
use Rattle.tv_lex.specs.declared.gatherer.GatherError.TheVariants.{Failed, TooLong, Unended, IncludeForm}
use Rattle.tv_lex.specs.declared.gatherer.GatherError.TheVariants.{IncludeDepth, Memory}

-- the greatest number of bytes of a file and of a gathered text
abbrev pub longest_gathered : ℕ
longest_gathered = 4194304

-- how many includes deep a file may be
abbrev pub deepest_include : ℕ
deepest_include = 16

-- In reading order: the begin of a file, bytes of the text, or a place at which it is refused.
pub data Event : Type 0 where
  Begin : Event
  Give : List ℕ → Event
  Refuse : GatherError → Event

-- what a line gives: itself, or what is included
abbrev pub one_line : (List ℕ → List Event) → Bool → List ℕ → List Event
one_line included inside line = if includes inside line then included line else Give line ∷ []

-- whether the next line begins inside a block comment
abbrev pub opens : Bool → List ℕ → Bool
opens inside line = if includes inside line then false else is_open_after inside line

-- what the lines of a file give in their order
abbrev pub line_events : (List ℕ → List Event) → Bool → List (List ℕ) → List Event
line_events included inside [] = if inside then Refuse Unended ∷ [] else []
line_events included inside (line ∷ lines) =
    one_line included inside line ++ line_events included (opens inside line) lines

-- what an include line gives: what the named file gives, and a line feed
abbrev pub named_events : (List ℕ → List Event) → List ℕ → Option (List ℕ) → List Event
named_events file name None = Refuse IncludeForm ∷ []
named_events file name (Some written) = file (inner_name name written) ++ Give (10 ∷ []) ∷ []

abbrev pub included : (List ℕ → List Event) → List ℕ → List ℕ → List Event
included file name line = named_events file name (include_name line)

-- what a file gives that holds this; Failed stands for a name that holds nothing
abbrev pub content_events : (List ℕ → List Event) → Option (List ℕ) → List Event
content_events include None = Refuse Failed ∷ []
content_events include (Some content) =
    if nat_lt longest_gathered (length content) then Refuse TooLong ∷ []
    else line_events include false (lines_of content)

-- what a file gives that may be this many includes above the deepest file
unfoldable pub file_events : Held → ℕ → List ℕ → List Event
file_events held zero name =
    Begin ∷ content_events (included (λ inner. Refuse IncludeDepth ∷ []) name) (content_of held name)
file_events held (suc left) name =
    Begin ∷ content_events (included (file_events held left) name) (content_of held name)

-- The text so far and what comes behind it, up to the first refusal, or up to the bytes with which it passes
-- the limit.
abbrev pub gathered : List ℕ → List Event → Result (List ℕ) GatherError
gathered text [] = Ok text
gathered text (Begin ∷ events) = gathered text events
gathered text (Refuse fault ∷ events) = Err fault
gathered text (Give bytes ∷ events) =
    if nat_lt longest_gathered (length (text ++ bytes)) then Err TooLong else gathered (text ++ bytes) events

-- how many files are begun behind the text so far, up to the first refusal, or up to the bytes with which the
-- text passes the limit
abbrev pub come_to : List ℕ → List Event → ℕ
come_to text [] = 0
come_to text (Begin ∷ events) = 1 + come_to text events
come_to text (Refuse fault ∷ events) = 0
come_to text (Give bytes ∷ events) =
    if nat_lt longest_gathered (length (text ++ bytes)) then 0 else come_to (text ++ bytes) events

-- a count of begins rose by this, where it is told what the files hold
abbrev pub BeginsBy : Option Held → (Held → ℕ) → (old new : ℕ) → Type 0
BeginsBy None times old new = Unit {0}
BeginsBy (Some held) times old new = old ≤ count_max → new ≡ counted old (times held)

-- by this at most
abbrev pub BeginsAtMost : Option Held → (Held → ℕ) → (old new : ℕ) → Type 0
BeginsAtMost None times old new = Unit {0}
BeginsAtMost (Some held) times old new = old ≤ count_max → new ≤ counted old (times held)

-- by this; at most by it where a call outside failed or memory ran out
abbrev pub BeginsUpTo : {T : Type 0} → Result T GatherError → Option Held → (Held → ℕ) → (old new : ℕ)
    → Type 0
BeginsUpTo (Ok value) told times old new = BeginsBy told times old new
BeginsUpTo (Err Failed) told times old new = BeginsAtMost told times old new
BeginsUpTo (Err Memory) told times old new = BeginsAtMost told times old new
BeginsUpTo (Err refusal) told times old new = BeginsBy told times old new

-- the gathered text of a file is this, or it is refused so, where it is told what the files hold
abbrev pub Gathers : Option Held → List ℕ → Result (List ℕ) GatherError → Type 0
Gathers None name answer = Unit {0}
Gathers (Some held) name answer = gathered [] (file_events held deepest_include name) ≡ answer

-- Why a text wasn't gathered. At Failed a fault was counted, and on steady files a name that the text comes
-- to, before any other refusal, holds nothing. Of lack of memory nothing is said.
abbrev pub GatherCause : GatherError → Option Held → List ℕ → Type 0 → ℕ → ℕ → Type 0
GatherCause Failed told name steady old new = Rose old new × (steady → Gathers told name (Err Failed))
GatherCause TooLong told name steady old new = Gathers told name (Err TooLong)
GatherCause Unended told name steady old new = Gathers told name (Err Unended)
GatherCause IncludeForm told name steady old new = Gathers told name (Err IncludeForm)
GatherCause IncludeDepth told name steady old new = Gathers told name (Err IncludeDepth)
GatherCause Memory told name steady old new = Unit {0}

-- this holds at any answer but `Failed`
abbrev pub UnlessFilesFail : {T : Type 0} → Result T GatherError → Type 0 → Type 0
UnlessFilesFail (Ok value) P = P
UnlessFilesFail (Err Failed) P = Unit {0}
UnlessFilesFail (Err TooLong) P = P
UnlessFilesFail (Err Unended) P = P
UnlessFilesFail (Err IncludeForm) P = P
UnlessFilesFail (Err IncludeDepth) P = P
UnlessFilesFail (Err Memory) P = P

-- ---- parts of a text

-- what includes of a file give that may be this many includes above the deepest file
abbrev pub below : Held → ℕ → List ℕ → List Event
below held zero inner = Refuse IncludeDepth ∷ []
below held (suc left) inner = file_events held left inner

abbrev pub continued : Result (List ℕ) GatherError → List Event → Result (List ℕ) GatherError
continued (Ok text) after = gathered text after
continued (Err fault) after = Err fault

-- behind the old text these events give the answer, whatever comes after them
abbrev pub Puts : Option Held → (Held → List Event) → List ℕ → Result (List ℕ) GatherError → Type 0
Puts None events old answer = Unit {0}
Puts (Some held) events old answer =
    (after : List Event) → gathered old (events held ++ after) ≡ continued answer after

abbrev pub PutCause : GatherError → Option Held → (Held → List Event) → List ℕ → Type 0 → ℕ → ℕ → Type 0
PutCause Failed told events text steady old new = Rose old new × (steady → Puts told events text (Err Failed))
PutCause TooLong told events text steady old new = Puts told events text (Err TooLong)
PutCause Unended told events text steady old new = Puts told events text (Err Unended)
PutCause IncludeForm told events text steady old new = Puts told events text (Err IncludeForm)
PutCause IncludeDepth told events text steady old new = Puts told events text (Err IncludeDepth)
PutCause Memory told events text steady old new = Unit {0}

-- what bytes do to a text that is short enough, and to one that isn't
abbrev pub GivesBytes : List ℕ → List ℕ → Result (List ℕ) GatherError → Type 0
GivesBytes old bytes answer =
    (after : List Event) → gathered old (Give bytes ∷ after) ≡ continued answer after

abbrev pub BytesCause : GatherError → List ℕ → List ℕ → Type 0
BytesCause Failed old bytes = ⊥
BytesCause TooLong old bytes = GivesBytes old bytes (Err TooLong)
BytesCause Unended old bytes = ⊥
BytesCause IncludeForm old bytes = ⊥
BytesCause IncludeDepth old bytes = ⊥
BytesCause Memory old bytes = Unit {0}

-- the refusal that a failed reading of a file is
abbrev pub gather_error : ReadError → GatherError
gather_error ReadFailed = Failed
gather_error ReadTooLong = TooLong
gather_error ReadMemory = Memory
