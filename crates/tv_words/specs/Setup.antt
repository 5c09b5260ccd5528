-- How a line of words is told to `clap`, and what `clap` tells of one.
use Rattle.std.specs.Prelude.{◌≡◌, ◌&&◌, ℕ, Bool, true, false, not, IsTrue, List, [], ◌∷◌, ◌++◌, map, min}
use Rattle.std.specs.Prelude.{option_map, unwrap_or, Option, None, Some, codes}
use Rattle.std.specs.Borrow.{Bor}
use Rattle.std.specs.List.{list_all}
use Rattle.clap.specs.Lexer.{has_byte}
use Rattle.clap.specs.Matches.{found_of}
use Rattle.clap.specs.Walk.{Rule, all_of, count_of, rows_of}
use Rattle.clap.specs.declared.parser.matches.ArgMatches.{ArgMatches}
use Rattle.clap.specs.Simple.{App, new_rule, new_shape}
use Rattle.clap.specs.declared.builder.action.ArgAction.TheVariants.{Append, Count}
use Rattle.tv_words.specs.Line.{Part, IsLine, is_among, operands_of, uses_of, values_of}
use Rattle.tv_words.specs.Words.{CommandForm, LineForm, Says, command_word}
use Rattle.tv_words.specs.declared.line.Line.{Line}

-- any number of operands, one behind the other
abbrev pub operand_rule : Rule
operand_rule = record (new_rule (codes "operands")) { action = Some Append }

-- an option without a value, which is counted
abbrev pub flag_rule : List ℕ → Rule
flag_rule name = record (new_rule name) { long = Some name; action = Some Count }

-- an option with a value, each time that it stands
abbrev pub setting_rule : List ℕ → Rule
setting_rule name = record (new_rule name) { long = Some name; action = Some Append }

-- a command that takes nothing, neither help nor version
abbrev pub bare_app : List ℕ → App
bare_app name = record {
  top = record (new_shape name) { no_binary_name = true; disable_help_flag = true };
  subs = [];
}

-- a command whose line has operands, these flags and these settings
abbrev pub line_app : List ℕ → (flags settings : List (List ℕ)) → App
line_app name flags settings = record {
  top = record (bare_app name).top {
    rules = operand_rule ∷ map flag_rule flags ++ map setting_rule settings;
  };
  subs = [];
}

-- a name that can be told from the value behind it
abbrev pub is_name : List ℕ → Bool
is_name [] = false
is_name (x ∷ xs) = not (has_byte 61 (x ∷ xs))

-- the names can be told from one another, and from that of the operands
abbrev pub are_names : (flags settings : List (List ℕ)) → Bool
are_names flags settings = list_all is_name flags
    && (list_all is_name settings && list_all (λ name. not (is_among flags name)) settings)

abbrev pub is_fit : (flags settings : List (List ℕ)) → Bool
is_fit flags settings = are_names flags settings
    && (not (is_among flags (codes "operands")) && not (is_among settings (codes "operands")))

-- no texts where none are told
abbrev pub told_texts : Option (Bor (List (Bor (List ℕ)))) → List (List ℕ)
told_texts found = unwrap_or (option_map (λ texts. map (λ text. text.now) texts.now) found) []

-- the texts that `clap` has for an argument, and how often it counted it
abbrev pub texts_in : ArgMatches → List ℕ → List (List ℕ)
texts_in matches id = unwrap_or (all_of id (rows_of (found_of matches))) []

abbrev pub uses_in : ArgMatches → List ℕ → ℕ
uses_in matches id = count_of id (rows_of (found_of matches))

-- what `clap` found is what stands on the line
pub record Finds (flags settings : List (List ℕ)) (matches : ArgMatches) (parts : List Part)
    (behind : List (List ℕ)) : Type 0 where
  pub operands : texts_in matches (codes "operands") ≡ operands_of parts ++ behind
  -- a count stops at 255
  pub uses : (flag : List ℕ) → IsTrue (is_among flags flag) → min (uses_in matches flag) 255
      ≡ min (uses_of flag parts) 255
  pub values : (setting : List ℕ) → IsTrue (is_among settings setting) → texts_in matches setting
      ≡ values_of setting parts

-- the words are a line, of which `clap` found all
pub record HasLine (flags settings words : List (List ℕ)) (matches : ArgMatches) : Type 0 where
  pub parts : List Part
  pub behind : List (List ℕ)
  pub line : IsLine flags settings parts behind words
  pub finds : Finds flags settings matches parts behind

-- the words are no line with these options
abbrev pub HasNoLine : (flags settings words : List (List ℕ)) → Type 0
HasNoLine flags settings words = (parts : List Part) (behind : List (List ℕ))
    → ¬ IsLine flags settings parts behind words

-- what `clap` makes of the words: all of a line, or that they are none
abbrev pub Reads : (flags settings words : List (List ℕ)) → Option ArgMatches → Type 0
Reads flags settings words None = HasNoLine flags settings words
Reads flags settings words (Some matches) = HasLine flags settings words matches

-- ---- what stands on a line, as `clap` tells it

abbrev pub told_line : ArgMatches → LineForm
told_line matches = record {
  operands = texts_in matches (codes "operands");
  recompute = uses_in matches (codes "recompute");
  delta = uses_in matches (codes "delta");
  maps = uses_in matches (codes "maps");
  max = texts_in matches (codes "max-structures");
}

-- the line's texts by their bytes
abbrev pub line_in : Line → LineForm
line_in line = record {
  operands = told_texts line.operands;
  recompute = line.recompute;
  delta = line.delta;
  maps = line.maps;
  max = told_texts line.max;
}

-- the line says this command, which has the name
abbrev pub IsSaid : (name : List ℕ) → LineForm → CommandForm → Type 0
IsSaid name line command = (command_word command ≡ name) × Says line command

-- it says no command of that name
abbrev pub NoneSaid : (name : List ℕ) → LineForm → Type 0
NoneSaid name line = (command : CommandForm) → ¬ IsSaid name line command
