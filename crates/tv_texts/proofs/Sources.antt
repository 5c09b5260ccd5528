-- What files of source programs give, from what reading, cutting and compiling them gives.
use Rattle.std.proofs.Common.{◌≡◌, ◌≤◌, ℕ, List, Option, None, Some, Err, refl}
use Rattle.std.specs.Prelude.{length}
use Rattle.tv_lex.specs.Gather.{longest_gathered}
use Rattle.tv_lex.specs.Pieces.{Cause as LexCause}
use Rattle.tv_lex.specs.declared.token.LexError.{LexError}
use Rattle.tv_lex.specs.declared.token.LexError.TheVariants as lexing
use Rattle.tv_outside.specs.Count.{Rose}
use Rattle.tv_outside.specs.Outcome.{ReadCause}
use Rattle.tv_outside.specs.Told.{Held, HoldsName, IsContent, IsLonger}
use Rattle.tv_outside.specs.declared.read.ReadError.{ReadError}
use Rattle.tv_outside.specs.declared.read.ReadError.TheVariants as reading
use Rattle.tv_plang.specs.declared.error.SourceError.TheVariants as source
use Rattle.tv_status.specs.declared.status.FileKind.{FileKind}
use Rattle.tv_status.specs.declared.status.FileKind.TheVariants as kind
use Rattle.tv_status.specs.declared.status.Role.TheVariants as role
use Rattle.tv_texts.specs.Faults.{fault_of_lexing, fault_of_reading}
use Rattle.tv_texts.specs.Files.{IsFileCause, IsSourceFile, IsTextCause}
use Rattle.tv_texts.specs.Meaning.{MeansSource}
use Rattle.tv_texts.specs.declared.fault.TextFault.{TextFault}
use Rattle.tv_texts.specs.declared.fault.TextFault.TheVariants.{Refused, NotRead, Memory}
use Rattle.tv_texts.specs.Sources.{IsCompiled, IsSourceText}
use Rattle.tv_texts.specs.declared.source.SourceText.{SourceText}

-- a file that is longer than is read
longer : (told : Option Held) (name : List ℕ) → IsLonger told name longest_gathered
    → IsSourceFile told name (Err kind.TooLong)
longer None name h = tt
longer (Some held) name h = h

pub not_read : (told : Option Held) (name : List ℕ) (e : ReadError) (steady : Type 0) (old new : ℕ)
    → ReadCause e told name longest_gathered steady old new
    → IsFileCause role.Source (λ k. IsSourceFile told name (Err k)) (¬ HoldsName told name) (Rose old new) steady
    (fault_of_reading role.Source e)
not_read told name reading.Failed steady old new h = h
not_read told name reading.TooLong steady old new h = (refl, longer told name h)
not_read told name reading.Memory steady old new h = tt

pub unlexed : (text : List ℕ) (e : LexError) → length text ≤ longest_gathered → LexCause text e
    → IsTextCause role.Source (λ k. MeansSource text (Err k)) (fault_of_lexing role.Source e)
unlexed text lexing.BadByte size h = (refl, (size, h))
unlexed text lexing.Unended size h = (refl, (size, h))
unlexed text lexing.Memory size h = tt

-- the file that holds the text
pub held : (told : Option Held) (name text : List ℕ) (s : SourceText) → IsContent told name text
    → s.bytes.items ≡ text → IsCompiled s → IsSourceText told name s
held told name text s content same compiled = record {
  content = rw same content;
  compiled = compiled;
}

refused_file : (told : Option Held) (name text : List ℕ) (k : FileKind) → IsContent told name text
    → MeansSource text (Err k) → IsSourceFile told name (Err k)
refused_file None name text k content h = tt
refused_file (Some held) name text k content h = (text, content, h)

-- the file whose text means nothing
pub held_refused : (told : Option Held) (name text : List ℕ) (lacks rose steady : Type 0) (fault : TextFault)
    → IsContent told name text → IsTextCause role.Source (λ k. MeansSource text (Err k)) fault
    → IsFileCause role.Source (λ k. IsSourceFile told name (Err k)) lacks rose steady fault
held_refused told name text lacks rose steady (Refused its k) content h =
    (h.0, refused_file told name text k content h.1)
held_refused told name text lacks rose steady NotRead content h = absurd h.0
held_refused told name text lacks rose steady Memory content h = tt
