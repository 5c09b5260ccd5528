-- What the texts of a call mean: a program, structures over its vocabulary, a heap, a trace and a report on
-- it; or the first refusal.
use Rattle.std.specs.Prelude.{ℕ, ◌≤◌, ◌<◌, List, [], ◌∷◌, length, Result, Ok, Err}
use Rattle.tv_front.specs.Meaning.{Means, IsRefused, StopsInText}
use Rattle.tv_lex.specs.Bytes.{longest_text}
use Rattle.tv_lex.specs.Gather.{longest_gathered}
use Rattle.tv_lex.specs.Pieces.{Reads}
use Rattle.tv_lex.specs.Places.{IsTokenPlace, StopsAtToken}
use Rattle.tv_lex.specs.Token.{SpecToken, spec_tokens}
use Rattle.tv_lex.specs.declared.token.Token.{Token}
use Rattle.tv_lex.specs.declared.token.LexError.TheVariants as lexing
use Rattle.tv_listing.specs.declared.analysis.Analysis.{Analysis}
use Rattle.tv_model.specs.Program.{program_of}
use Rattle.tv_model.specs.declared.program.Program.{Program}
use Rattle.tv_model.specs.declared.program.Vocab.{Vocab}
use Rattle.tv_plang.specs.Meaning.{IsSourceCause, MeansProgram as MeansSourceProgram, source_place}
use Rattle.tv_plang.specs.declared.error.SourceError.{SourceError}
use Rattle.tv_plang.specs.declared.error.SourceError.TheVariants as source
use Rattle.tv_report.specs.Meaning.{IsReportText, IsNoReport}
use Rattle.tv_status.specs.declared.status.FileKind.{FileKind}
use Rattle.tv_status.specs.declared.status.FileKind.TheVariants as kind
use Rattle.tv_structure_form.specs.StructureForm.{StructureForm}
use Rattle.tv_trace.specs.Meaning.{MeansTrace, IsNoTrace}
use Rattle.tv_trace.specs.declared.trace.Trace.{Trace}
use Rattle.tv_tvs.specs.Meaning.{MeansStructs, IsNoText}
use Rattle.tv_tvs.specs.declared.error.TvsError.{TvsError}
use Rattle.tv_tvs.specs.declared.error.TvsError.TheVariants as refusal
use Rattle.tv_two_valued.specs.TwoValued.{IsTwoValued}

-- the text, in which includes are put in already, means this program, or is refused so
abbrev pub MeansProgram : (text : List ℕ) → Result Program FileKind → Type 0
MeansProgram text (Ok program) = Means text (program_of program)
MeansProgram text (Err (kind.Program fault)) = IsRefused text fault × StopsInText text fault
MeansProgram text (Err other) = ⊥

-- the text has tokens, and this is so of them
abbrev pub HasTokens : (text : List ℕ) → (List Token → List SpecToken → Type 0) → Type 0
HasTokens text AreSuch = (tokens : List Token) × Reads text (Ok tokens)
    × AreSuch tokens (spec_tokens text tokens)

-- the text has no tokens, for this reason
abbrev pub IsUnlexed : (text : List ℕ) → FileKind → Type 0
IsUnlexed text (kind.Lexing lexing.Memory) = ⊥
IsUnlexed text (kind.Lexing e) = Reads text (Err e)
IsUnlexed text other = ⊥

-- the tokens are refused as structures over the vocabulary: they are none, or one of them means none
abbrev pub IsNoInitial : Vocab → (text : List ℕ) → TvsError → List Token → List SpecToken → Type 0
IsNoInitial vocab text (refusal.Syntax place) tokens ts = IsNoText ts × IsTokenPlace text tokens place
IsNoInitial vocab text refusal.Memory tokens ts = ⊥
IsNoInitial vocab text e tokens ts = MeansStructs vocab ts (Err e)

-- the text means these structures over the program's vocabulary, or is refused so
abbrev pub MeansInitial : Program → (text : List ℕ) → Result (List StructureForm) FileKind → Type 0
MeansInitial program text (Ok initial) =
    (length text ≤ longest_gathered) × HasTokens text (λ tokens ts. MeansStructs program.vocab ts
    (Ok initial))
MeansInitial program text (Err kind.TooLong) = longest_gathered < length text
MeansInitial program text (Err (kind.Lexing e)) = (length text ≤ longest_gathered)
    × IsUnlexed text (kind.Lexing e)
MeansInitial program text (Err (kind.Structures e)) =
    (length text ≤ longest_gathered) × HasTokens text (IsNoInitial program.vocab text e)
MeansInitial program text (Err other) = ⊥

-- there is exactly one, and it has no value 1/2 and no summary
abbrev pub AreOneHeap : List StructureForm → Type 0
AreOneHeap [] = ⊥
AreOneHeap (s ∷ []) = IsTwoValued s
AreOneHeap (s ∷ t ∷ more) = ⊥

-- the text means this heap over the program's vocabulary; or it is refused as structures, or means others
abbrev pub MeansStart : Program → (text : List ℕ) → Result StructureForm FileKind → Type 0
MeansStart program text (Ok s) = MeansInitial program text (Ok (s ∷ [])) × IsTwoValued s
MeansStart program text (Err kind.NotHeap) =
    (structures : List StructureForm) × MeansInitial program text (Ok structures) × (¬ AreOneHeap structures)
MeansStart program text (Err other) = MeansInitial program text (Err other)

-- the text is this trace on the program, or is refused so
abbrev pub MeansMoves : Program → (text : List ℕ) → Result Trace FileKind → Type 0
MeansMoves program text (Ok trace) = (length text ≤ longest_gathered)
    × HasTokens text (λ tokens ts. MeansTrace program ts trace)
MeansMoves program text (Err kind.TooLong) = longest_gathered < length text
MeansMoves program text (Err (kind.Lexing e)) =
    (length text ≤ longest_gathered) × IsUnlexed text (kind.Lexing e)
MeansMoves program text (Err (kind.TraceForm place)) = (length text ≤ longest_gathered)
    × HasTokens text (λ tokens ts. IsNoTrace program ts × IsTokenPlace text tokens place)
MeansMoves program text (Err other) = ⊥

-- the text is this report on the program, or is refused so
abbrev pub MeansReport : Program → (text : List ℕ) → Result Analysis FileKind → Type 0
MeansReport program text (Ok report) = (length text ≤ longest_text) × IsReportText program text report
MeansReport program text (Err kind.TooLong) = longest_text < length text
MeansReport program text (Err (kind.Lexing e)) = (length text ≤ longest_text) × IsUnlexed text (kind.Lexing e)
MeansReport program text (Err (kind.ReportForm place)) = (length text ≤ longest_text)
    × HasTokens text (λ tokens ts. IsNoReport program ts × IsTokenPlace text tokens place)
MeansReport program text (Err other) = ⊥

-- the tokens mean no source program, or one too large
abbrev pub IsNoSource : (text : List ℕ) → SourceError → List Token → List SpecToken → Type 0
IsNoSource text source.Memory tokens ts = ⊥
IsNoSource text e tokens ts = IsSourceCause ts e × StopsAtToken source_place text tokens e

-- the text of the pointer language is compiled to this program, or is refused so
abbrev pub MeansSource : (text : List ℕ) → Result Program FileKind → Type 0
MeansSource text (Ok program) = (length text ≤ longest_gathered)
    × HasTokens text (λ tokens ts. MeansSourceProgram ts (program_of program))
MeansSource text (Err kind.TooLong) = longest_gathered < length text
MeansSource text (Err (kind.Lexing e)) = (length text ≤ longest_gathered) × IsUnlexed text (kind.Lexing e)
MeansSource text (Err (kind.Source e)) = (length text ≤ longest_gathered) × HasTokens text (IsNoSource text e)
MeansSource text (Err other) = ⊥
