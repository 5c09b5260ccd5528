-- The text with the missing lines put in, and why it isn't given.
use Rattle.std.specs.Prelude.{ℕ, ◌≡◌, ◌<◌, ◌≤◌, ◌-◌, List, [], ◌∷◌, ◌++◌, length, take, drop, Option, None}
use Rattle.std.specs.Prelude.{Some}
use Rattle.std.specs.Prelude.{Result, Ok, Err, Bool, false, slice_get}
use Rattle.tv_lex.specs.Gather.{longest_gathered}
use Rattle.tv_lex.specs.Pieces.{Reads}
use Rattle.tv_lex.specs.Token.{spec_tokens}
use Rattle.tv_lex.specs.declared.token.LexError.{LexError}
use Rattle.tv_lex.specs.declared.token.LexError.TheVariants as lexing
use Rattle.tv_lex.specs.declared.token.Token.{Token}
use Rattle.tv_model.specs.Program.{ProgramForm, PredForm, program_of}
use Rattle.tv_model.specs.declared.program.Program.{Program}
use Rattle.tv_model.specs.declared.program.Vocab.{Vocab}
use Rattle.tv_structure_form.specs.StructureForm.{StructureForm}
use Rattle.tv_tvs.specs.Meaning.{MeansStructs}
use Rattle.tv_complete.specs.Completion.{Completes}
use Rattle.tv_complete_text.specs.Lines.{lines_place, put_lines}
use Rattle.tv_complete_text.specs.Named.{NamedForm, AreNamed}
use Rattle.tv_complete_text.specs.declared.error.CompletionError.{CompletionError}
use Rattle.tv_complete_text.specs.declared.error.CompletionError.TheVariants.{TooLong, Differs, Memory}

abbrev pub start_of : Option Token → ℕ
start_of None = 0
start_of (Some token) = token.start

-- what stands in front of a structure's closing brace, the last token before those behind the structure
abbrev pub front_of : (bytes : List ℕ) → List Token → (behind : ℕ) → List ℕ
front_of bytes tokens behind = take (start_of (slice_get tokens (length tokens - behind - 1))) bytes

-- how much of the rest of the text stands in front of what is put in
abbrev pub place_in_rest : (bytes rest front : List ℕ) → ℕ
place_in_rest bytes rest front = lines_place front - (length bytes - length rest)

-- the rest of the text as it is, with each structure's missing lines put in at their place
abbrev pub woven : List PredForm → (bytes : List ℕ) → List Token → (rest : List ℕ) → List NamedForm
    → List StructureForm → List ℕ
woven preds bytes tokens rest [] ts = rest
woven preds bytes tokens rest (x ∷ xs) [] = rest
woven preds bytes tokens rest (x ∷ xs) (t ∷ ts) =
    take (place_in_rest bytes rest (front_of bytes tokens x.behind)) rest
    ++ (put_lines preds (front_of bytes tokens x.behind) x t
    ++ woven preds bytes tokens (drop (place_in_rest bytes rest (front_of bytes tokens x.behind)) rest) xs ts)

-- each structure is completed, in order
abbrev pub AreCompleted : ProgramForm → List NamedForm → (given completed : List StructureForm) → Type 0
AreCompleted p [] [] [] = Unit {0}
AreCompleted p (x ∷ xs) (s ∷ ss) (t ∷ ts) = Completes p x.names s t × AreCompleted p xs ss ts
AreCompleted p [] [] (t ∷ ts) = ⊥
AreCompleted p [] (s ∷ ss) ts = ⊥
AreCompleted p (x ∷ xs) [] ts = ⊥
AreCompleted p (x ∷ xs) (s ∷ ss) [] = ⊥

-- The text of the given structures, with what is missing put in: the text as it is, and in it, for each
-- structure, the lines of those defined predicates that it doesn't name, with their values in the completed
-- structure.
pub record IsCompletion (program : Program) (bytes : List ℕ) (tokens : List Token)
    (given completed : List StructureForm) (text : List ℕ) : Type 0 where
  pub named : List NamedForm
  pub are_named : AreNamed (spec_tokens bytes tokens) named
  pub completes : AreCompleted (program_of program) named given completed
  pub is : text ≡ woven (program_of program).preds bytes tokens bytes named completed

-- the text means these structures
abbrev pub ReadsAsStructures : Vocab → (text : List ℕ) → List StructureForm → Type 0
ReadsAsStructures vocab text structures = (tokens : List Token) × Reads text (Ok tokens)
    × MeansStructs vocab (spec_tokens text tokens) (Ok structures)

-- whether a text that is cut into no tokens means structures: it doesn't, unless memory ran out
abbrev pub unlexed_answer : LexError → Result Bool CompletionError
unlexed_answer lexing.Memory = Err Memory
unlexed_answer other = Ok false

-- what is given: a completion that may be read, and that means the completed structures
pub record IsCompletedText (program : Program) (bytes : List ℕ) (tokens : List Token)
    (given : List StructureForm) (text : List ℕ) : Type 0 where
  pub completed : List StructureForm
  pub is : IsCompletion program bytes tokens given completed text
  pub fits : length text ≤ longest_gathered
  pub means : ReadsAsStructures program.vocab text completed

-- the completion is such
abbrev pub HasCompletion : Program → (bytes : List ℕ) → List Token → (given : List StructureForm)
    → (List StructureForm → List ℕ → Type 0) → Type 0
HasCompletion program bytes tokens given IsSuch =
    (completed : List StructureForm) × (text : List ℕ)
    × IsCompletion program bytes tokens given completed text × IsSuch completed text

-- why no text is given
abbrev pub IsCauseOfNone : Program → (bytes : List ℕ) → List Token → (given : List StructureForm)
    → CompletionError → Type 0
IsCauseOfNone program bytes tokens given TooLong =
    HasCompletion program bytes tokens given (λ completed text. longest_gathered < length text)
IsCauseOfNone program bytes tokens given Differs =
    HasCompletion program bytes tokens given
    (λ completed text. ¬ ReadsAsStructures program.vocab text completed)
IsCauseOfNone program bytes tokens given Memory = Unit {0}
