-- Texts of source programs, with what comes of them.
use Rattle.std.specs.Prelude.{ℕ, List, Option, Ok}
use Rattle.tv_lex.specs.Pieces.{Reads}
use Rattle.tv_outside.specs.Told.{Held, IsContent}
use Rattle.tv_texts.specs.Meaning.{MeansSource}
use Rattle.tv_texts.specs.declared.source.SourceText.{SourceText}

-- the tokens are those of the text, which is compiled to the program
pub record IsCompiled (source : SourceText) : Type 0 where
  pub tokens : Reads source.bytes.items (Ok source.tokens.list.items)
  pub means : MeansSource source.bytes.items (Ok source.program)

-- the named file holds this text, where that is told
pub record IsSourceText (told : Option Held) (name : List ℕ) (source : SourceText) : Type 0 where
  pub content : IsContent told name source.bytes.items
  pub compiled : IsCompiled source
