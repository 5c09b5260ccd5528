-- What the readers of tokens refuse, as refusals of a text.
use Rattle.std.proofs.Common.{ℕ, ◌≤◌, Bool, true, false, List, Ok, Err, refl}
use Rattle.std.specs.Prelude.{if◌then◌else◌, length}
use Rattle.tv_front.specs.Meaning.{IsRefused, is_memory, IsProgramCause, StopsInText}
use Rattle.tv_front.specs.declared.fault.ProgramFault.{ProgramFault}
use Rattle.tv_lex.specs.Bytes.{longest_text}
use Rattle.tv_lex.specs.Gather.{longest_gathered}
use Rattle.tv_lex.specs.Places.{StopsAtToken}
use Rattle.tv_lex.specs.Pieces.{Reads, Cause as LexCause}
use Rattle.tv_lex.specs.Token.{spec_tokens}
use Rattle.tv_lex.specs.declared.token.LexError.{LexError}
use Rattle.tv_lex.specs.declared.token.LexError.TheVariants as lexing
use Rattle.tv_lex.specs.declared.token.Token.{Token}
use Rattle.tv_model.specs.declared.program.Program.{Program}
use Rattle.tv_plang.specs.Meaning.{IsSourceCause, source_place}
use Rattle.tv_plang.specs.declared.error.SourceError.{SourceError}
use Rattle.tv_plang.specs.declared.error.SourceError.TheVariants as source
use Rattle.tv_report.specs.Meaning.{IsNoReport}
use Rattle.tv_phrases.specs.declared.error.FormError.{FormError}
use Rattle.tv_phrases.specs.declared.error.FormError.TheVariants as form
use Rattle.tv_phrases.specs.Refused.{IsUnread, form_place}
use Rattle.tv_status.specs.declared.status.FileKind.{FileKind}
use Rattle.tv_status.specs.declared.status.FileKind.TheVariants as kind
use Rattle.tv_status.specs.declared.status.Role.{Role}
use Rattle.tv_status.specs.declared.status.Role.TheVariants as role
use Rattle.tv_texts.specs.Faults.{fault_of_program, fault_of_lexing, fault_of_structures, fault_of_report}
use Rattle.tv_texts.specs.Faults.{fault_of_trace, fault_of_source}
use Rattle.tv_texts.specs.Files.{IsTextCause}
use Rattle.tv_texts.specs.Meaning.{IsUnlexed, MeansProgram, MeansInitial, MeansMoves, MeansReport}
use Rattle.tv_texts.specs.Meaning.{MeansSource}
use Rattle.tv_texts.specs.declared.fault.TextFault.{TextFault}
use Rattle.tv_texts.specs.declared.fault.TextFault.TheVariants.{Refused, NotRead, Memory}
use Rattle.tv_trace.specs.Meaning.{IsNoTrace}
use Rattle.tv_tree.specs.Steps.{Unless}
use Rattle.tv_tvs.specs.Meaning.{IsStructuresCause, structures_place}
use Rattle.tv_tvs.specs.declared.error.TvsError.{TvsError}
use Rattle.tv_tvs.specs.declared.error.TvsError.TheVariants as structures

pub unlexed : (text : List ℕ) (its_role : Role) (e : LexError) → LexCause text e
    → IsTextCause its_role (IsUnlexed text) (fault_of_lexing its_role e)
unlexed text its_role lexing.BadByte h = (refl, h)
unlexed text its_role lexing.Unended h = (refl, h)
unlexed text its_role lexing.Memory h = tt

-- a text without tokens means nothing of another kind either
unlexed_as : (text : List ℕ) (its_role : Role) (Means : FileKind → Type 0) (fault : TextFault)
    → ((e : LexError) → IsUnlexed text (kind.Lexing e) → Means (kind.Lexing e))
    → IsTextCause its_role (IsUnlexed text) fault → IsTextCause its_role Means fault
unlexed_as text its_role Means (Refused its (kind.Lexing e)) f h = (h.0, f e h.1)
unlexed_as text its_role Means (Refused its other) f h = absurd h.1
unlexed_as text its_role Means NotRead f h = absurd h.0
unlexed_as text its_role Means Memory f h = tt

pub initial_unlexed : (p : Program) (text : List ℕ) (its_role : Role) (fault : TextFault) → length text ≤ longest_gathered
    → IsTextCause its_role (IsUnlexed text) fault
    → IsTextCause its_role (λ k. MeansInitial p text (Err k)) fault
initial_unlexed p text its_role fault size h =
    unlexed_as text its_role (λ k. MeansInitial p text (Err k)) fault (λ e is. (size, is)) h

pub trace_unlexed : (p : Program) (text : List ℕ) (fault : TextFault) → length text ≤ longest_gathered
    → IsTextCause role.Trace (IsUnlexed text) fault
    → IsTextCause role.Trace (λ k. MeansMoves p text (Err k)) fault
trace_unlexed p text fault size h =
    unlexed_as text role.Trace (λ k. MeansMoves p text (Err k)) fault (λ e is. (size, is)) h

pub report_unlexed : (p : Program) (text : List ℕ) (fault : TextFault) → length text ≤ longest_text
    → IsTextCause role.Report (IsUnlexed text) fault
    → IsTextCause role.Report (λ k. MeansReport p text (Err k)) fault
report_unlexed p text fault size h =
    unlexed_as text role.Report (λ k. MeansReport p text (Err k)) fault (λ e is. (size, is)) h

pub source_unlexed : (text : List ℕ) (fault : TextFault) → length text ≤ longest_gathered
    → IsTextCause role.Source (IsUnlexed text) fault → IsTextCause role.Source (λ k. MeansSource text (Err k)) fault
source_unlexed text fault size h =
    unlexed_as text role.Source (λ k. MeansSource text (Err k)) fault (λ e is. (size, is)) h

pub program_refused : (text : List ℕ) (fault : ProgramFault) → IsProgramCause text fault → StopsInText text fault
    → IsTextCause role.Program (λ k. MeansProgram text (Err k)) (fault_of_program fault)
program_refused text fault cause stops = told (is_memory fault) cause
  where
    told : (b : Bool) → Unless b (IsRefused text fault)
        → IsTextCause role.Program (λ k. MeansProgram text (Err k))
        (if b then Memory else Refused role.Program (kind.Program fault))
    told true c = tt
    told false c = (refl, (c, stops))

pub structures_refused : (p : Program) (text : List ℕ) (tokens : List Token) (its_role : Role) (e : TvsError)
    → length text ≤ longest_gathered → Reads text (Ok tokens) → IsStructuresCause p.vocab (spec_tokens text tokens) e
    → StopsAtToken structures_place text tokens e → IsTextCause its_role (λ k. MeansInitial p text (Err k)) (fault_of_structures its_role e)
structures_refused p text tokens its_role (structures.Syntax place) size reads cause stops =
    (refl, (size, (tokens, reads, (cause, stops))))
structures_refused p text tokens its_role structures.Memory size reads cause stops = tt
structures_refused p text tokens its_role other size reads cause stops = (refl, (size, (tokens, reads, cause)))

pub report_refused : (p : Program) (text : List ℕ) (tokens : List Token) (e : FormError)
    → length text ≤ longest_text → Reads text (Ok tokens) → IsUnread (IsNoReport p (spec_tokens text tokens)) e
    → StopsAtToken form_place text tokens e → IsTextCause role.Report (λ k. MeansReport p text (Err k)) (fault_of_report e)
report_refused p text tokens (form.Form place) size reads cause stops =
    (refl, (size, (tokens, reads, (cause, stops))))
report_refused p text tokens form.Memory size reads cause stops = tt

pub trace_refused : (p : Program) (text : List ℕ) (tokens : List Token) (e : FormError)
    → length text ≤ longest_gathered → Reads text (Ok tokens) → IsUnread (IsNoTrace p (spec_tokens text tokens)) e
    → StopsAtToken form_place text tokens e → IsTextCause role.Trace (λ k. MeansMoves p text (Err k)) (fault_of_trace e)
trace_refused p text tokens (form.Form place) size reads cause stops =
    (refl, (size, (tokens, reads, (cause, stops))))
trace_refused p text tokens form.Memory size reads cause stops = tt

pub source_refused : (text : List ℕ) (tokens : List Token) (e : SourceError)
    → length text ≤ longest_gathered → Reads text (Ok tokens) → IsSourceCause (spec_tokens text tokens) e
    → StopsAtToken source_place text tokens e → IsTextCause role.Source (λ k. MeansSource text (Err k)) (fault_of_source e)
source_refused text tokens source.Memory size reads cause stops = tt
source_refused text tokens other size reads cause stops = (refl, (size, (tokens, reads, (cause, stops))))
