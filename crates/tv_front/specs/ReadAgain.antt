-- A printed program is read as the same program.
use Rattle.std.specs.Prelude.{◌≡◌, ℕ, ◌*◌, ◌≤◌, List, ◌∷◌, Ok, true, length, codes}
use Rattle.tv_lex.specs.Token.{SpecToken, spec_tokens}
use Rattle.tv_lex.specs.Pieces.{Reads}
use Rattle.tv_lex.specs.declared.token.Token.{Token}
use Rattle.tv_phrases.specs.Tokens.{is_identifier}
use Rattle.tv_tree.specs.Forms.{ProgramForm}
use Rattle.tv_tree.specs.Printed.{program_text}
use Rattle.tv_formula.specs.Spelled.{spell}
use Rattle.tv_parse.specs.Grammar.{IsProgram}
use Rattle.tv_parse.specs.Height.{IsTooDeep}

-- The same tokens, without the `=` that may stand behind `%s` and an identifier.
pub data Kept : List SpecToken → List SpecToken → Type 0 where
  all_kept : (ts : List SpecToken) → Kept ts ts
  one_kept : (t : SpecToken) (ts us : List SpecToken) → Kept ts us → Kept (t ∷ ts) (t ∷ us)
  mark_left : (w : List ℕ) (ts us : List SpecToken) → is_identifier w ≡ true → Kept ts us
      → Kept (spell (codes "%s") ∷ spell w ∷ spell (codes "=") ∷ ts) (spell (codes "%s") ∷ spell w ∷ us)

-- The printed text of a program that the text `bytes` has: it is at most twice as long; its tokens are what
-- is kept of those of the text; they are those of the same program; and no more constructs are open in it at
-- one place than may be.
pub record IsReadAgain (bytes : List ℕ) (old : List SpecToken) (t : ProgramForm) : Type 0 where
  pub short : length (program_text t) ≤ 2 * length bytes
  pub tokens : List Token
  pub reads : Reads (program_text t) (Ok tokens)
  pub kept : Kept old (spec_tokens (program_text t) tokens)
  pub program : IsProgram (spec_tokens (program_text t) tokens) t
  pub low : ¬ IsTooDeep (spec_tokens (program_text t) tokens)

-- of each program that was read
abbrev pub ProgramsAreReadAgain : Type 0
ProgramsAreReadAgain =
    (bytes : List ℕ) (tokens : List Token) (t : ProgramForm) → Reads bytes (Ok tokens)
    → IsProgram (spec_tokens bytes tokens) t
    → ¬ IsTooDeep (spec_tokens bytes tokens) → IsReadAgain bytes (spec_tokens bytes tokens) t
